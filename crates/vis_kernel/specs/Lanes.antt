-- Samples and sums in lanes: two spectra at a time. This project's own.
use Rattle.std.specs.Prelude.{◌≡◌, ℕ, ◌+◌, ◌*◌, ◌^◌, ℤ, pos, neg_ℤ, ◌+ℤ◌, ◌*ℤ◌, List, [], ◌∷◌, ◌++◌, map, slice_index_or}
use Rattle.corr_model.specs.declared.plan.Plan.{Plan}
use Rattle.corr_model.specs.Lists.{numbers}
use Rattle.corr_model.specs.Visibilities.{Complex, sample, times_conjugate, total}
use Rattle.vis_kernel.specs.Sizes.{IsUpTo}
use Rattle.vis_kernel.specs.Kernels.{two_parts}
use Rattle.vis_kernel.specs.declared.lanes.Lanes.{Lanes}

-- both polarisations of a spectrum and of the next, of each the two parts
abbrev pub two_spectra : Plan → List ℕ → ℕ → ℕ → List ℤ
two_spectra plan cell c s =
    two_parts (sample plan cell c s 0)
    ++ (two_parts (sample plan cell c s 1)
    ++ (two_parts (sample plan cell c (s + 1) 0) ++ two_parts (sample plan cell c (s + 1) 1)))

-- of each two neighbours the second, and then the first with its sign changed
abbrev pub turned : List ℤ → List ℤ
turned [] = []
turned (a ∷ []) = []
turned (a ∷ b ∷ rest) = b ∷ neg_ℤ a ∷ turned rest

-- of each four neighbours the last two before the first two
abbrev pub crossed : List ℤ → List ℤ
crossed [] = []
crossed (a ∷ []) = []
crossed (a ∷ b ∷ []) = []
crossed (a ∷ b ∷ c ∷ []) = []
crossed (a ∷ b ∷ c ∷ d ∷ rest) = c ∷ d ∷ a ∷ b ∷ crossed rest

-- of each two neighbours the sum of their products
abbrev pub neighbour_products : List ℤ → List ℤ → List ℤ
neighbour_products (a ∷ b ∷ xs) (c ∷ d ∷ ys) = (a *ℤ c +ℤ b *ℤ d) ∷ neighbour_products xs ys
neighbour_products xs ys = []

-- the number in a lane
abbrev pub lane : List ℤ → ℕ → ℤ
lane v k = slice_index_or v k (pos 0)

-- there are eight lanes, and each is at most as far from zero as a part of a sample
pub record HoldsParts (v : List ℤ) : Type 0 where
  pub eight : v ≡ lane v 0 ∷ lane v 1 ∷ lane v 2 ∷ lane v 3 ∷ lane v 4 ∷ lane v 5 ∷ lane v 6 ∷ lane v 7 ∷ []
  pub first : IsUpTo (lane v 0) 128
  pub second : IsUpTo (lane v 1) 128
  pub third : IsUpTo (lane v 2) 128
  pub fourth : IsUpTo (lane v 3) 128
  pub fifth : IsUpTo (lane v 4) 128
  pub sixth : IsUpTo (lane v 5) 128
  pub seventh : IsUpTo (lane v 6) 128
  pub eighth : IsUpTo (lane v 7) 128

-- there are four lanes, and each is at most so far from zero
pub record AreFour (v : List ℤ) (size : ℕ) : Type 0 where
  pub four : v ≡ lane v 0 ∷ lane v 1 ∷ lane v 2 ∷ lane v 3 ∷ []
  pub first : IsUpTo (lane v 0) size
  pub second : IsUpTo (lane v 1) size
  pub third : IsUpTo (lane v 2) size
  pub fourth : IsUpTo (lane v 3) size

-- the first and the third of four lanes sum to one number, and the second and the fourth to another
pub record HoldsSums (v : List ℤ) (even odd : ℤ) (size : ℕ) : Type 0 where
  pub lanes : AreFour v size
  pub even_sum : lane v 0 +ℤ lane v 2 ≡ even
  pub odd_sum : lane v 1 +ℤ lane v 3 ≡ odd

-- the product of two polarisations, summed over the first spectra
abbrev pub first_spectra : Plan → List ℕ → List ℕ → ℕ → ℕ → ℕ → ℕ → Complex
first_spectra plan x y c s p q =
    total (map (λ k. times_conjugate (sample plan x c k p) (sample plan y c k q)) (numbers 0 s))

-- the lanes hold the sums of the four products over so many pairs of spectra
pub record HoldsPairs (plan : Plan) (x y : List ℕ) (c pairs : ℕ) (v : Lanes) : Type 0 where
  pub same_real : let f =
      first_spectra plan x y c (2 * pairs) in HoldsSums v.same_real (f 0 0).real (f 1 1).real (pairs * 2 ^ 15)
  pub same_imaginary : let f =
      first_spectra plan x y c (2 * pairs) in HoldsSums v.same_imaginary (f 0 0).imaginary (f 1 1).imaginary
      (pairs * 2 ^ 15)
  pub cross_real : let f =
      first_spectra plan x y c (2 * pairs) in HoldsSums v.cross_real (f 0 1).real (f 1 0).real (pairs * 2 ^ 15)
  pub cross_imaginary : let f =
      first_spectra plan x y c (2 * pairs) in HoldsSums v.cross_imaginary (f 0 1).imaginary (f 1 0).imaginary
      (pairs * 2 ^ 15)
