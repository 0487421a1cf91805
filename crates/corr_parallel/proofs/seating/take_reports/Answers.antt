use Rattle.std.proofs.Common.{arith}
use Rattle.corr_parallel.proofs.SeatLemmas.{reported_more}
use Rattle.corr_parallel.proofs.seating.take_reports.Goals as goal

pub loop-antenna-preserved : goal.loop-antenna-preserved
loop-antenna-preserved g c = reported_more _ _ _ c.loop-antenna.antenna _ _ c.loop-antenna.invariant
    c.loop-antenna-test.true c.index-seats-antenna.is c.take_report.ensures

pub returns : goal.returns
returns g c = λ a d v r low is. c.loop-antenna.invariant.each a d v r
    (omega (arith, low, c.loop-antenna-test.false)) low is
