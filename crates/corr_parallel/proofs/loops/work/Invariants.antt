use Rattle.std.proofs.Common.{◌≡◌}
use Rattle.corr_parallel.proofs.loops.work.Given as goal

abbrev pub invariant-loop : goal.invariant-loop
invariant-loop g l = l.worker.plan ≡ l.fn.worker.plan
