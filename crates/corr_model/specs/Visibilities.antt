-- Visibilities and missing counts.
-- FX correlation (Thompson, Moran and Swenson, Interferometry and Synthesis in Radio Astronomy, FX correlators): a
-- sample of one input times the complex conjugate of the other's, per channel, summed over time. In whole numbers, so
-- that nothing is rounded. The order of the samples in a heap, and the count of missing timestamps, are this project's
-- own.
use Rattle.std.specs.Prelude.{ℕ, ◌+◌, ◌*◌, ℤ, pos, ◌+ℤ◌, ◌-ℤ◌, ◌*ℤ◌, ◌||◌, nat_lt, if◌then◌else◌, List, map, fold, count_by, slice_index, slice_range, Option, Some, None, is_none}
use Rattle.std.specs.List.{zip}
use Rattle.corr_model.specs.declared.plan.Plan.{Plan}
use Rattle.corr_model.specs.Lists.{numbers}
use Rattle.corr_model.specs.Streams.{column}

-- a complex number in whole numbers
pub record Complex : Type 0 where
  pub real : ℤ
  pub imaginary : ℤ

-- zero
abbrev pub none_yet : Complex
none_yet = record { real = pos 0; imaginary = pos 0 }

-- the sum of two
abbrev pub plus : Complex → Complex → Complex
plus x y = record { real = x.real +ℤ y.real; imaginary = x.imaginary +ℤ y.imaginary }

-- x times the complex conjugate of y
abbrev pub times_conjugate : Complex → Complex → Complex
times_conjugate x y = record {
  real = x.real *ℤ y.real +ℤ x.imaginary *ℤ y.imaginary;
  imaginary = x.imaginary *ℤ y.real -ℤ x.real *ℤ y.imaginary;
}

-- a byte as a signed number
abbrev pub signed : ℕ → ℤ
signed b = if nat_lt b 128 then pos b else pos b -ℤ pos 256

-- the sample of a cell at channel c, spectrum s and polarisation p
abbrev pub sample : Plan → List ℕ → ℕ → ℕ → ℕ → Complex
sample plan cell c s p = record {
  real = signed (slice_index cell (2 * (2 * (plan.spectra * c + s) + p)));
  imaginary = signed (slice_index cell (2 * (2 * (plan.spectra * c + s) + p) + 1));
}

-- the sum of a list
abbrev pub total : List Complex → Complex
total xs = fold plus none_yet xs

-- at channel c, the products of polarisation p of the first cell and q of the second, summed over the spectra; zero
-- where a cell is none
abbrev pub of_cells : Plan → ℕ → ℕ → ℕ → Option (List ℕ) → Option (List ℕ) → Complex
of_cells plan c p q None y = none_yet
of_cells plan c p q (Some x) None = none_yet
of_cells plan c p q (Some x) (Some y) =
    total (map (λ s. times_conjugate (sample plan x c s p) (sample plan y c s q)) (numbers 0 plan.spectra))

-- at channel c, the sum of the products of polarisation p of the first column and q of the second, over the timestamps
-- from `from` up to, and not including, `to`
abbrev pub part_of : Plan → List (Option (List ℕ)) → List (Option (List ℕ)) → ℕ → ℕ → ℕ → ℕ → ℕ → Complex
part_of plan x y c p q from to =
    total (map (λ cells. of_cells plan c p q cells.0 cells.1) (slice_range (zip x y) from to))

-- the number of timestamps at which at least one of the two cells is none
abbrev pub missing_of : List (Option (List ℕ)) → List (Option (List ℕ)) → ℕ
missing_of x y = count_by (λ cells. is_none cells.0 || is_none cells.1) (zip x y)

-- the byte strings of each antenna's stream
abbrev pub Lists : Type 0
Lists = ℕ → List (List ℕ)

-- at channel c, the sum, over the timestamps of accumulation n from `from` up to, and not including, `to` at which both
-- cells are there and over all spectra, of antenna i's sample of polarisation p times the conjugate of antenna j's of
-- polarisation q
abbrev pub part : Plan → Lists → ℕ → ℕ → ℕ → ℕ → ℕ → ℕ → ℕ → ℕ → Complex
part plan lists n i j c p q from to = part_of plan (column plan i (lists i) n) (column plan j (lists j) n) c p q from to

-- the visibility of accumulation n: the sum over all its timestamps
abbrev pub vis : Plan → Lists → ℕ → ℕ → ℕ → ℕ → ℕ → ℕ → Complex
vis plan lists n i j c p q = part plan lists n i j c p q 0 plan.heaps

-- the number of timestamps of accumulation n at which at least one of the two cells is none
abbrev pub missing : Plan → Lists → ℕ → ℕ → ℕ → ℕ
missing plan lists n i j = missing_of (column plan i (lists i) n) (column plan j (lists j) n)
