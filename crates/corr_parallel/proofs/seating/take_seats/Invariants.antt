use Rattle.std.specs.Vec.Iter.{into_iter_items, into_iter_len}
use Rattle.corr_parallel.proofs.SharedLemmas.{Left}
use Rattle.corr_parallel.proofs.SeatLemmas.{SeatedTo}
use Rattle.corr_parallel.proofs.seating.take_seats.Given as goal

abbrev pub invariant-loop-antenna : goal.invariant-loop-antenna
invariant-loop-antenna g l =
    SeatedTo (λ s. s.source) (λ s. s.receiver) l.fn.receivers.items l.fn.seats l.seats l.antenna
    × Left l.fn.receivers.items (into_iter_items l.left) (into_iter_len l.left) l.antenna
