use Rattle.std.proofs.Common.{◌≡◌}
use Rattle.std.specs.Vec.{vec_len, vec_capacity}
use Rattle.slot_ring.specs.Means.{spare_hand}
use Rattle.corr_core.proofs.NewLemmas.{BuiltTo}
use Rattle.corr_core.proofs.prepared.new_hands.Given as goal

abbrev pub invariant-loop : goal.invariant-loop
invariant-loop g l =
    BuiltTo (λ a h. h ≡ spare_hand l.plan) l.plan.antennas l.hands.items (vec_len l.hands)
    (vec_capacity l.hands) l.counter
