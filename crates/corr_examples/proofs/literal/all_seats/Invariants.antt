-- The first two seats will give the lists of the observation, and none is begun.
use Rattle.corr_examples.proofs.SeatLemmas.{AreNew}
use Rattle.corr_examples.proofs.literal.all_seats.Given as goal

abbrev pub invariant-loop : goal.invariant-loop
invariant-loop g l = AreNew (λ s. s.source.source) l.seats.items
