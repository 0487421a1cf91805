use Rattle.std.proofs.Common.{arith}
use Rattle.corr_cli.proofs.SimulatedLemmas.{seats_all, seats_more, seats_none}
use Rattle.corr_cli.proofs.simulated.simulated_seats.Goals as goal

pub loop-antenna-init : goal.loop-antenna-init
loop-antenna-init g c =
    let room = c.in_ok-seats.ensures.exact in seats_none _ _ _ _ _ _ c.in_ok-seats.ensures.items
    c.in_ok-seats.ensures.len (omega (arith, room))

pub push_reserved-requires : goal.push_reserved-requires
push_reserved-requires g c =
    let counted = c.loop-antenna.invariant.counted in
    let fits_in = c.loop-antenna.invariant.fits_in in
    omega arith

pub loop-antenna-preserved : goal.loop-antenna-preserved
loop-antenna-preserved g c =
    seats_more _ _ _ _ _ c.new-seat.result c.in_ok-source.source _ _ _ _ _ c.loop-antenna.invariant
    c.new-seat.ensures.source c.in_ok-source.ensures.gives c.in_ok-source.ensures.rest c.push_reserved.ensures.items
    c.push_reserved.ensures.len c.push_reserved.ensures.capacity

pub returns : goal.returns
returns g c = seats_all _ _ _ _ _ _ c.loop-antenna.antenna c.loop-antenna.invariant (omega arith)
