use Rattle.std.specs.Vec.{vec_len, vec_capacity}
use Rattle.corr_serial.proofs.NewLemmas.{ReportsTo}
use Rattle.corr_serial.proofs.prepared.new_reports.Given as goal

abbrev pub invariant-loop-antenna : goal.invariant-loop-antenna
invariant-loop-antenna g l =
    ReportsTo l.core.parts.plan.antennas l.reports.items (vec_len l.reports) (vec_capacity l.reports) l.antenna
