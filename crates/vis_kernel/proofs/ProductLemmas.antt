-- The four products of two cells at a channel, over the first spectra.
use Rattle.std.proofs.Common.{◌≡◌, ℕ, ◌*◌, ◌^◌, ◌≤◌, List, Some, map, arith, ap, subst, ◌∙◌}
use Rattle.corr_model.specs.declared.plan.Plan.{Plan}
use Rattle.corr_model.specs.Lists.{numbers}
use Rattle.corr_model.specs.Visibilities.{total, of_cells}
use Rattle.vis_kernel.specs.declared.products.Value.{Value}
use Rattle.vis_kernel.specs.declared.products.Products.{Products}
use Rattle.vis_kernel.specs.Sizes.{IsSmall, ArePartsOf}
use Rattle.vis_kernel.specs.Lanes.{first_spectra}
use Rattle.vis_kernel.proofs.SumLemmas.{SummedSpectra, product_at, wider}

-- each of the four over the first spectra
pub record SummedProducts (plan : Plan) (x y : List ℕ) (c s : ℕ) (sum : Products) : Type 0 where
  pub xx : SummedSpectra plan x y c 0 0 s sum.xx
  pub xy : SummedSpectra plan x y c 0 1 s sum.xy
  pub yx : SummedSpectra plan x y c 1 0 s sum.yx
  pub yy : SummedSpectra plan x y c 1 1 s sum.yy

pub within : (plan : Plan) (x y : List ℕ) (c p q s : ℕ) (v : Value) → SummedSpectra plan x y c p q s v → s ≤ 4096
    → IsSmall v (2 ^ 29)
within plan x y c p q s v h few = wider v (s * 32768) (2 ^ 29) (omega arith) h.small

-- the pairs of spectra
pub first_pairs : (plan : Plan) (x y : List ℕ) (c s : ℕ) (sum : Products)
    → ArePartsOf sum (s * 2 ^ 15) (first_spectra plan x y c s) → SummedProducts plan x y c s sum
first_pairs plan x y c s sum h = record {
  xx = record { value = h.xx; small = h.are_small.xx };
  xy = record { value = h.xy; small = h.are_small.xy };
  yx = record { value = h.yx; small = h.are_small.yx };
  yy = record { value = h.yy; small = h.are_small.yy };
}

-- all spectra
pub all_spectra : (plan : Plan) (x y : List ℕ) (c s : ℕ) (sum : Products) → SummedProducts plan x y c s sum
    → s ≡ plan.spectra → ArePartsOf sum (plan.spectra * 2 ^ 15) (λ p q. of_cells plan c p q (Some x) (Some y))
all_spectra plan x y c s sum h at = record {
  xx = h.xx.value ∙ ap (λ n. total (map (product_at plan x y c 0 0) (numbers 0 n))) at;
  xy = h.xy.value ∙ ap (λ n. total (map (product_at plan x y c 0 1) (numbers 0 n))) at;
  yx = h.yx.value ∙ ap (λ n. total (map (product_at plan x y c 1 0) (numbers 0 n))) at;
  yy = h.yy.value ∙ ap (λ n. total (map (product_at plan x y c 1 1) (numbers 0 n))) at;
  are_small = record {
    xx = subst (λ n. IsSmall sum.xx (n * 32768)) at h.xx.small;
    xy = subst (λ n. IsSmall sum.xy (n * 32768)) at h.xy.small;
    yx = subst (λ n. IsSmall sum.yx (n * 32768)) at h.yx.small;
    yy = subst (λ n. IsSmall sum.yy (n * 32768)) at h.yy.small;
  };
}
