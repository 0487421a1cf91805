use Rattle.std.proofs.Common.{◌*◌, ◌^◌, ◌∙◌, ℕ, arith, ap, sym, subst}
use Rattle.std.specs.Prelude.{option_map}
use Rattle.vis_kernel.specs.Sizes.{AreUpTo}
use Rattle.vis_kernel.specs.Kernels.{add_sums, cell_values}
use Rattle.vis_kernel.proofs.KernelLemmas.{multiplied_none, multiplied_more, still_small, same_length}
use Rattle.vis_kernel.proofs.kernel.multiply.Goals as goal

pub loop-t-init : goal.loop-t-init
loop-t-init c = multiplied_none _ _ _ _ _ _ c.requires.room

pub add_place-requires-clause-room : goal.add_place-requires-clause-room
add_place-requires-clause-room c =
    same_length _ _ _ _ _ _ _ _ _ c.loop-t.invariant c.requires.room ∙ ap (λ p. 8 * p.channels)
    (sym c.plan.ensures.value)

pub add_place-requires-clause-sums : goal.add_place-requires-clause-sums
add_place-requires-clause-sums c =
    let spectra = c.plan.ensures.fits.ranges.shape.spectra.most_met in
    let heaps = c.plan.ensures.fits.ranges.shape.heaps.most_met in
    let s = ap {B = ℕ} (λ p. p.spectra) c.plan.ensures.value in
    let t = ap {B = ℕ} (λ p. p.heaps) c.plan.ensures.value in
    let last = c.requires.last in
    still_small _ _ _ _ _ _ _ _ _ c.loop-t.invariant (omega arith) (omega arith) c.requires.sums

pub add_place-requires-clause-few : goal.add_place-requires-clause-few
add_place-requires-clause-few c =
    let heaps = c.plan.ensures.fits.ranges.shape.heaps.most_met in
    let t = ap {B = ℕ} (λ p. p.heaps) c.plan.ensures.value in
    let last = c.requires.last in
    let few = c.loop-t.invariant.few in
    let count = c.loop-t.invariant.count in
    let before = c.requires.few in
    omega arith

pub loop-t-preserved : goal.loop-t-preserved
loop-t-preserved c =
    let e = c.plan.ensures.value in
    let x = option_map (λ s. s.now) c.heap.result in
    let y = option_map (λ s. s.now) c.heap-in-loop-t.result in
    let last = c.requires.last in
    let long = c.plan.ensures.as_many in
    let also = c.plan-plan.ensures.as_many in
    let same = ap {B = ℕ} (λ p. p.heaps) c.requires.plan in
    multiplied_more c.args.a.now.plan _ _ _ _ _ _ _ _ _ _ x y c.loop-t.invariant (omega arith) (omega arith)
    (omega arith) c.heap.ensures.value c.heap-in-loop-t.ensures.value
    (c.add_place.ensures.value ∙ ap (λ p. add_sums c.loop-t.out (cell_values p x y)) e)
    (subst (λ p. AreUpTo (cell_values p x y) (p.spectra * 2 ^ 15)) e c.add_place.ensures.small)
    c.add_place.ensures.missing
