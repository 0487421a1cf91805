use Rattle.std.proofs.Common.{subst, arith}
use Rattle.vis_kernel.specs.declared.lanes.Lanes.{Lanes}
use Rattle.vis_kernel.specs.Lanes.{HoldsPairs}
use Rattle.vis_kernel.proofs.LaneLemmas.{turned_holds, crossed_holds}
use Rattle.vis_kernel.proofs.PairLemmas.{parts_again, four_again, pairs_stepped}
use Rattle.vis_kernel.proofs.lanes.sum_pairs.Goals as goal

pub loop-pair-init : goal.loop-pair-init
loop-pair-init c = c.no_sums-sums.ensures _ _ _ _

pub turn-across-requires : goal.turn-across-requires
turn-across-requires c = parts_again _ c.parts_at-straight.ensures.parts

pub cross-other-requires : goal.cross-other-requires
cross-other-requires c = parts_again _ c.parts_at-same.ensures.parts

pub add_neighbours-requires-clause-first : goal.add_neighbours-requires-clause-first
add_neighbours-requires-clause-first c = parts_again _ c.parts_at-straight.ensures.parts

pub add_neighbours-requires-clause-second : goal.add_neighbours-requires-clause-second
add_neighbours-requires-clause-second c = parts_again _ c.parts_at-same.ensures.parts

pub add_neighbours-requires-clause-sums : goal.add_neighbours-requires-clause-sums
add_neighbours-requires-clause-sums c =
    let few = c.requires.fits.ranges.shape.spectra.most_met in four_again _ _ _ c.loop-pair.pair
    c.loop-pair.invariant.same_real (omega arith)

pub add_neighbours-requires-in-loop-pair-clause-first : goal.add_neighbours-requires-in-loop-pair-clause-first
add_neighbours-requires-in-loop-pair-clause-first c =
    parts_again _ (turned_holds _ _ (parts_again _ c.parts_at-straight.ensures.parts) c.turn-across.ensures)

pub add_neighbours-requires-in-loop-pair-clause-second : goal.add_neighbours-requires-in-loop-pair-clause-second
add_neighbours-requires-in-loop-pair-clause-second c = parts_again _ c.parts_at-same.ensures.parts

pub add_neighbours-requires-in-loop-pair-clause-sums : goal.add_neighbours-requires-in-loop-pair-clause-sums
add_neighbours-requires-in-loop-pair-clause-sums c =
    let few = c.requires.fits.ranges.shape.spectra.most_met in four_again _ _ _ c.loop-pair.pair
    c.loop-pair.invariant.same_imaginary (omega arith)

pub add_neighbours-requires-in-loop-pair-2-clause-first : goal.add_neighbours-requires-in-loop-pair-2-clause-first
add_neighbours-requires-in-loop-pair-2-clause-first c = parts_again _ c.parts_at-straight.ensures.parts

pub add_neighbours-requires-in-loop-pair-2-clause-second : goal.add_neighbours-requires-in-loop-pair-2-clause-second
add_neighbours-requires-in-loop-pair-2-clause-second c =
    parts_again _ (crossed_holds _ _ (parts_again _ c.parts_at-same.ensures.parts) c.cross-other.ensures)

pub add_neighbours-requires-in-loop-pair-2-clause-sums : goal.add_neighbours-requires-in-loop-pair-2-clause-sums
add_neighbours-requires-in-loop-pair-2-clause-sums c =
    let few = c.requires.fits.ranges.shape.spectra.most_met in four_again _ _ _ c.loop-pair.pair
    c.loop-pair.invariant.cross_real (omega arith)

pub add_neighbours-requires-in-loop-pair-3-clause-first : goal.add_neighbours-requires-in-loop-pair-3-clause-first
add_neighbours-requires-in-loop-pair-3-clause-first c =
    parts_again _ (turned_holds _ _ (parts_again _ c.parts_at-straight.ensures.parts) c.turn-across.ensures)

pub add_neighbours-requires-in-loop-pair-3-clause-second : goal.add_neighbours-requires-in-loop-pair-3-clause-second
add_neighbours-requires-in-loop-pair-3-clause-second c =
    parts_again _ (crossed_holds _ _ (parts_again _ c.parts_at-same.ensures.parts) c.cross-other.ensures)

pub add_neighbours-requires-in-loop-pair-3-clause-sums : goal.add_neighbours-requires-in-loop-pair-3-clause-sums
add_neighbours-requires-in-loop-pair-3-clause-sums c =
    let few = c.requires.fits.ranges.shape.spectra.most_met in four_again _ _ _ c.loop-pair.pair
    c.loop-pair.invariant.cross_imaginary (omega arith)

pub loop-pair-preserved : goal.loop-pair-preserved
loop-pair-preserved c =
    let few = c.requires.fits.ranges.shape.spectra.most_met in
    let new : Lanes = record {
      same_real = c.add_neighbours.result;
      same_imaginary = c.add_neighbours-in-loop-pair.result;
      cross_real = c.add_neighbours-in-loop-pair-2.result;
      cross_imaginary = c.add_neighbours-in-loop-pair-3.result;
    } in
    let x = c.parts_at-straight.ensures in
    let y = c.parts_at-same.ensures in
    pairs_stepped c.args.plan.now c.args.x.now c.args.y.now c.args.channel c.loop-pair.pair c.loop-pair.sums new _ _ _ _
    c.loop-pair.invariant (omega arith)
    x.value x.parts y.value y.parts c.turn-across.ensures c.cross-other.ensures
    c.add_neighbours.ensures c.add_neighbours-in-loop-pair.ensures c.add_neighbours-in-loop-pair-2.ensures
    c.add_neighbours-in-loop-pair-3.ensures

pub returns : goal.returns
returns c =
    subst (λ n. HoldsPairs c.args.plan.now c.args.x.now c.args.y.now c.args.channel n c.loop-pair.sums) (omega arith)
    c.loop-pair.invariant
