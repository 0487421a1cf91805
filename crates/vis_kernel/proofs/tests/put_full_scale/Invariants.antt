use Rattle.std.proofs.Common.{◌≡◌}
use Rattle.vis_kernel.proofs.tests.put_full_scale.Given as goal

abbrev pub invariant-loop-t : goal.invariant-loop-t
invariant-loop-t l = l.column.plan ≡ l.fn.column.plan
