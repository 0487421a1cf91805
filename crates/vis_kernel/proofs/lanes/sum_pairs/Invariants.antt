use Rattle.vis_kernel.specs.Lanes.{HoldsPairs}
use Rattle.vis_kernel.proofs.lanes.sum_pairs.Given as goal

abbrev pub invariant-loop-pair : goal.invariant-loop-pair
invariant-loop-pair l = HoldsPairs l.plan l.x l.y l.channel l.pair l.sums
