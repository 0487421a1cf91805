use Rattle.std.specs.Vec.Iter.{into_iter_items, into_iter_len}
use Rattle.std.specs.Vec.{vec_len, vec_capacity}
use Rattle.corr_core.proofs.NewLemmas.{BuiltTo}
use Rattle.corr_parallel.specs.Seats.{IsNewReceiver}
use Rattle.corr_parallel.proofs.SharedLemmas.{Left}
use Rattle.corr_parallel.proofs.shared.new_receivers.Given as goal

abbrev pub invariant-loop-antenna : goal.invariant-loop-antenna
invariant-loop-antenna g l =
    BuiltTo (IsNewReceiver l.plan) l.plan.antennas l.receivers.items (vec_len l.receivers)
    (vec_capacity l.receivers) l.antenna
    × Left l.fn.feeds.items (into_iter_items l.feeds_left) (into_iter_len l.feeds_left) l.antenna
    × Left l.fn.hands.items (into_iter_items l.hands_left) (into_iter_len l.hands_left) l.antenna
