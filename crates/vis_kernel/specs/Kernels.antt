-- The sums of one baseline as a list of whole numbers: by channel and product, real and imaginary part.
-- FX correlation; the order of the numbers is this project's own.
use Rattle.std.specs.Prelude.{ℕ, ℤ, ◌||◌, List, [], ◌∷◌, count_by, slice_range, Option, is_none}
use Rattle.std.specs.List.{zip, flat_map}
use Rattle.corr_model.specs.declared.plan.Plan.{Plan}
use Rattle.corr_model.specs.Lists.{numbers}
use Rattle.corr_model.specs.Outputs.{products}
use Rattle.corr_model.specs.Visibilities.{Complex, of_cells, part_of}
pub use Rattle.vis_shape.specs.Sums.{add_sums, add_at, zeros}

-- real and imaginary part
abbrev pub two_parts : Complex → List ℤ
two_parts x = x.real ∷ x.imaginary ∷ []

-- by product, the two parts of what f says of its polarisations
abbrev pub four_products : (ℕ → ℕ → Complex) → List ℤ
four_products f = flat_map (λ pq. two_parts (f pq.0 pq.1)) products

-- the products of two cells, by channel
abbrev pub cell_values : Plan → Option (List ℕ) → Option (List ℕ) → List ℤ
cell_values plan x y = flat_map (λ c. four_products (λ p q. of_cells plan c p q x y)) (numbers 0 plan.channels)

-- the sums of two columns over the timestamps from `from` up to, and not including, `to`, by channel
abbrev pub baseline_values : Plan → List (Option (List ℕ)) → List (Option (List ℕ)) → ℕ → ℕ → List ℤ
baseline_values plan x y from to =
    flat_map (λ c. four_products (λ p q. part_of plan x y c p q from to)) (numbers 0 plan.channels)

-- the number of these timestamps at which one of the two cells is none
abbrev pub missing_in : List (Option (List ℕ)) → List (Option (List ℕ)) → ℕ → ℕ → ℕ
missing_in x y from to = count_by (λ cells. is_none cells.0 || is_none cells.1) (slice_range (zip x y) from to)
