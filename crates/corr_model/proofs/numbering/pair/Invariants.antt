use Rattle.std.proofs.Common.{◌≡◌, ◌+◌, ◌*◌, ◌≤◌}
use Rattle.corr_model.proofs.numbering.pair.Given as goal

abbrev pub invariant-loop-j : goal.invariant-loop-j
invariant-loop-j l = (2 * l.start ≡ l.j * (l.j + 1)) × (l.start ≤ l.b)
