use Rattle.std.proofs.Common.{◌≡◌, ◌<◌, length, refl, sym, ap, arith}
use Rattle.corr_parallel.proofs.SeatLemmas.{next_some, seated_more}
use Rattle.corr_parallel.proofs.seating.take_seats.Goals as goal

pub loop-antenna-preserved : goal.loop-antenna-preserved
loop-antenna-preserved g c =
    let low : c.loop-antenna.antenna < length c.args.receivers.items =
    omega (arith, c.requires, c.loop-antenna-test.true) in
    let k = next_some c.args.receivers.items _ _ _ _ c.loop-antenna.antenna c.next.result c.loop-antenna.invariant.1 low
    c.next.ensures.cases in (
      seated_more _ _ _ _ _ c.loop-antenna.antenna c.index-seats-antenna.result _ c.next.result
          c.loop-antenna.invariant.0 c.loop-antenna-test.true c.index-seats-antenna.is
          (ap (λ s. s.source) (sym c.index-seats-antenna.is)) refl k.0,
      k.1,
    )

pub returns : goal.returns
returns g c = λ a d v low. c.loop-antenna.invariant.0.seated a d v (omega (arith, low, c.loop-antenna-test.false)) low
