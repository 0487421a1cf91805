use Rattle.std.specs.Vec.{vec_len, vec_capacity}
use Rattle.corr_cli.proofs.SimulatedLemmas.{SeatsTo}
use Rattle.corr_cli.proofs.simulated.simulated_seats.Given as goal

abbrev pub invariant-loop-antenna : goal.invariant-loop-antenna
invariant-loop-antenna g l =
    SeatsTo l.plan l.seed (λ s. s.source) l.seats.items (vec_len l.seats) (vec_capacity l.seats) l.antenna
