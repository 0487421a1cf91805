-- Each event that is enabled raises the measure by one.
use Rattle.std.proofs.Common.{◌≡◌, ℕ, ◌+◌, ◌%◌, ◌<◌, Bool, true, false, not, cond, ltb, eqb, ◌&&◌, List, [], ◌∷◌, ◌++◌, length, set, Option, Some, None, refl, ap, arith}
use Rattle.std.specs.List.{sum_by}
use Rattle.std.specs.Option.{is_some, is_none, unwrap_or}
use Rattle.std.proofs.lemmas.List.{length_push}
use Rattle.std.proofs.lemmas.List.Sums.{sum_by-set}
use Rattle.std.proofs.lemmas.Bool.{ltb-true, and_parts, false_from_ne_true}
use Rattle.corr_model.specs.declared.plan.Plan.{Plan}
use Rattle.corr_model.specs.Streams.{ending}
use Rattle.corr_machine.specs.Machines.{Kind, Filling, Working, Done, StreamState, SlotState, State, Event, Packet, End, Put, Take, Store, Send, new_stream, no_slot, empty_slot, work_count, stream_at, slot_at, slot_for, work_at, stream_floor, is_filling, is_working, is_done, is_full, is_ready, fills, enabled, effect, with_string, with_column, IsProper}
use Rattle.corr_machine.specs.Runs.{stream_done, kind_done, slot_done, done}
use Rattle.corr_machine.proofs.Proper.{ready_parts, for_within, work_has_slot, some_since}

-- the measure after a change of one stream
with_stream_done : (plan : Plan) (state : State) (a : ℕ) (x : StreamState) → a < length state.streams
    → sum_by (stream_done plan) (set state.streams a x) + stream_done plan (stream_at state a)
    ≡ sum_by (stream_done plan) state.streams + stream_done plan x
with_stream_done plan state a x h = sum_by-set (stream_done plan) state.streams a x new_stream h

-- the measure after a change of one slot
with_slot_done : (state : State) (s : ℕ) (x : SlotState) → s < length state.slots
    → sum_by slot_done (set state.slots s x) + slot_done (slot_at state s) ≡ sum_by slot_done state.slots + slot_done x
with_slot_done state s x h = sum_by-set slot_done state.slots s x no_slot h

never_both : {A : Type 0} (o : Option A) → ◌≡◌ {A = ℕ} (cond (is_some o && is_none o) 1 0) 0
never_both None = refl
never_both (Some x) = refl

-- the count of an end that did not come by itself
end_none : (b : Bool) (c : Bool) → b ≡ false → ◌≡◌ {A = ℕ} (cond (b && c) 1 0) 0
end_none true c h = absurd cc
end_none false c h = refl

pub is_none_since : {A : Type 0} (o : Option A) → is_some o ≡ false → is_none o ≡ true
is_none_since None h = refl
is_none_since (Some x) h = absurd cc

-- a stream that has not ended is open
pub open_strings : (plan : Plan) (state : State) (a : ℕ) → IsProper plan state → a < plan.antennas
    → (stream_at state a).ended ≡ false → is_some (ending plan (stream_at state a).strings) ≡ false
open_strings plan state a h few still =
    false_from_ne_true (is_some (ending plan (stream_at state a).strings))
    (λ e. let over = (h.stream a few).ended e in cc)

packet_done : (plan : Plan) (state : State) (a : ℕ) (b : List ℕ) → IsProper plan state
    → enabled plan state (Packet a b) ≡ true → done plan (effect plan state (Packet a b)) ≡ done plan state + 1
packet_done plan state a b h on =
    let x = stream_at state a in
    let parts = and_parts (ltb a plan.antennas) (is_ready plan a x) on in
    let is_open = ready_parts plan a x parts.1 in
    let changed = with_stream_done plan state a (with_string plan b x)
    (omega (arith, h.stream_count, ltb-true a plan.antennas parts.0)) in
    let before = end_none x.ended (is_none (ending plan x.strings)) is_open.not_ended in
    let now = never_both (ending plan (x.strings ++ b ∷ [])) in
    omega (arith, changed, before, now, length_push x.strings b)

end_done : (plan : Plan) (state : State) (a : ℕ) → IsProper plan state → enabled plan state (End a) ≡ true
    → done plan (effect plan state (End a)) ≡ done plan state + 1
end_done plan state a h on =
    let x = stream_at state a in
    let parts = and_parts (ltb a plan.antennas) (is_ready plan a x) on in
    let few = ltb-true a plan.antennas parts.0 in
    let is_open = ready_parts plan a x parts.1 in
    let changed = with_stream_done plan state a (record x { ended = true }) (omega (arith, h.stream_count, few)) in
    let before = end_none x.ended (is_none (ending plan x.strings)) is_open.not_ended in
    let now = ap {B = ℕ} (λ c. cond c 1 0)
    (is_none_since (ending plan x.strings) (open_strings plan state a h few is_open.not_ended)) in
    omega (arith, changed, before, now)

put_done : (plan : Plan) (state : State) (a : ℕ) → 0 < plan.slots → IsProper plan state
    → enabled plan state (Put a) ≡ true → done plan (effect plan state (Put a)) ≡ done plan state + 1
put_done plan state a some h on =
    let x = stream_at state a in
    let first = and_parts (ltb a plan.antennas)
    (ltb x.put (stream_floor plan a x) && fills x.put (slot_for plan state x.put)) on in
    let changed = with_stream_done plan state a (record x { put = x.put + 1 })
    (omega (arith, h.stream_count, ltb-true a plan.antennas first.0)) in
    let slots = with_slot_done state (x.put % plan.slots) (with_column a (slot_for plan state x.put))
    (for_within plan state x.put some h) in
    omega (arith, changed, slots)

done_filling : (k : Kind) → is_filling k ≡ true → kind_done k ≡ 0
done_filling Filling h = refl
done_filling Working h = absurd cc
done_filling Done h = absurd cc

done_working : (k : Kind) → is_working k ≡ true → kind_done k ≡ 1
done_working Working h = refl
done_working Filling h = absurd cc
done_working Done h = absurd cc

done_done : (k : Kind) → is_done k ≡ true → kind_done k ≡ 2
done_done Done h = refl
done_done Filling h = absurd cc
done_done Working h = absurd cc

take_done : (plan : Plan) (state : State) (w s : ℕ) → IsProper plan state → enabled plan state (Take w s) ≡ true
    → done plan (effect plan state (Take w s)) ≡ done plan state + 1
take_done plan state w s h on =
    let x = slot_at state s in
    let first = and_parts (ltb w (work_count plan))
    (ltb s plan.slots && (not (is_some (work_at state w)) && (is_filling x.kind && is_full x))) on in
    let second = and_parts (ltb s plan.slots)
    (not (is_some (work_at state w)) && (is_filling x.kind && is_full x)) first.1 in
    let third = and_parts (not (is_some (work_at state w))) (is_filling x.kind && is_full x) second.1 in
    let fourth = and_parts (is_filling x.kind) (is_full x) third.1 in
    let slots = with_slot_done state s (record x { kind = Working })
    (omega (arith, h.slot_count, ltb-true s plan.slots second.0)) in
    omega (arith, slots, done_filling x.kind fourth.0)

store_done : (plan : Plan) (state : State) (w : ℕ) → 0 < plan.slots → IsProper plan state
    → enabled plan state (Store w) ≡ true → done plan (effect plan state (Store w)) ≡ done plan state + 1
store_done plan state w some h on =
    let parts = and_parts (ltb w (work_count plan)) (is_some (work_at state w)) on in
    let n = unwrap_or (work_at state w) 0 in
    let x = slot_for plan state n in
    let working = and_parts (eqb x.number n) (is_working x.kind)
    (work_has_slot plan state w n h (ltb-true w (work_count plan) parts.0) (some_since (work_at state w) parts.1))
    in
    let slots = with_slot_done state (n % plan.slots) (record x { kind = Done }) (for_within plan state n some h) in
    omega (arith, slots, done_working x.kind working.1)

send_done : (plan : Plan) (state : State) → 0 < plan.slots → IsProper plan state → enabled plan state Send ≡ true
    → done plan (effect plan state Send) ≡ done plan state + 1
send_done plan state some h on =
    let x = slot_for plan state state.sent in
    let parts = and_parts (eqb x.number state.sent) (is_done x.kind) on in
    let slots = with_slot_done state (state.sent % plan.slots) (empty_slot plan (state.sent + plan.slots))
    (for_within plan state state.sent some h) in
    omega (arith, slots, done_done x.kind parts.1)

-- each event that moves raises the measure by one
pub event_done : (plan : Plan) (state : State) (e : Event) → 0 < plan.slots → IsProper plan state
    → enabled plan state e ≡ true → done plan (effect plan state e) ≡ done plan state + 1
event_done plan state (Packet a b) some h on = packet_done plan state a b h on
event_done plan state (End a) some h on = end_done plan state a h on
event_done plan state (Put a) some h on = put_done plan state a some h on
event_done plan state (Take w s) some h on = take_done plan state w s h on
event_done plan state (Store w) some h on = store_done plan state w some h on
event_done plan state Send some h on = send_done plan state some h on
