use Rattle.corr_parallel.proofs.SeatLemmas.{ReportedTo}
use Rattle.corr_parallel.proofs.seating.take_reports.Given as goal

abbrev pub invariant-loop-antenna : goal.invariant-loop-antenna
invariant-loop-antenna g l = ReportedTo (λ s. s.receiver) l.seats l.reports l.antenna
