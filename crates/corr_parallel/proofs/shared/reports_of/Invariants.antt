use Rattle.std.proofs.Common.{length}
use Rattle.std.specs.Vec.{vec_len, vec_capacity}
use Rattle.corr_serial.proofs.NewLemmas.{ReportsTo}
use Rattle.corr_parallel.proofs.shared.reports_of.Given as goal

abbrev pub invariant-loop-antenna : goal.invariant-loop-antenna
invariant-loop-antenna g l = ReportsTo (length l.receivers) l.reports.items (vec_len l.reports)
    (vec_capacity l.reports) l.antenna
