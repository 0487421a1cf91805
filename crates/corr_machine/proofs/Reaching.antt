-- The measure is at most that of a whole run, and next events keep what a state fits.
use Rattle.std.proofs.Common.{◌≡◌, ℕ, zero, suc, ◌+◌, ◌-◌, ◌%◌, ◌<◌, ◌≤◌, true, false, cond, ltb, eqb, ◌&&◌, List, [], ◌∷◌, ◌++◌, length, take, drop, Option, Some, None, refl, sym, ap, ◌∙◌, subst, inl, inr, arith}
use Rattle.std.specs.List.{sum_by, count_by, slice_get}
use Rattle.std.specs.Option.{is_some, is_none}
use Rattle.std.proofs.lemmas.List.{length-take, take_more, length_push, take-append-drop}
use Rattle.std.proofs.lemmas.List.Sums.{sum_by-cons}
use Rattle.std.proofs.lemmas.Option.{get_or_from_slice_get, slice_get_within}
use Rattle.std.proofs.lemmas.Bool.{cases_Bool, ltb-true, lt-ltb, le-ltb, eqb-true, and_parts}
use Rattle.corr_model.specs.declared.plan.Plan.{Plan}
use Rattle.corr_model.specs.Lists.{numbers}
use Rattle.corr_model.specs.Streams.{ending, taken}
use Rattle.corr_model.specs.Visibilities.{Lists}
use Rattle.corr_model.proofs.StreamLawsTaken.{ending_of_taken, taken_next, taken_past, taken_of_taken}
use Rattle.corr_machine.specs.Machines.{Kind, Filling, Working, Done, StreamState, SlotState, State, Event, Packet, End, Put, Take, Store, Send, new_stream, no_slot, stream_at, slot_at, is_filling, is_ready, enabled, effect, with_string, IsProper}
use Rattle.corr_machine.specs.Runs.{stream_done, kind_done, slot_done, done, stream_full, full, StreamFits, FitsLists, IsNext}
use Rattle.corr_machine.proofs.Counts.{sum_each, sum_places, count_zero, count_one, count_next}
use Rattle.corr_machine.proofs.Floors.{floor_within}
use Rattle.corr_machine.proofs.Proper.{ready_parts, full_put, each_stream}
use Rattle.corr_machine.proofs.Progress.{open_strings}
use Rattle.corr_machine.proofs.Sending.{sent_within}

-- at most n slots have a number below sent + n
numbers_below : (plan : Plan) (state : State) → IsProper plan state → (n : ℕ)
    → count_by (λ x. ltb x.number (state.sent + n)) state.slots ≤ n
numbers_below plan state h zero =
    let none = count_zero (λ x. ltb x.number (state.sent + 0)) state.slots no_slot
    (λ i low. let at_i =
    h.slot i (omega (arith, h.slot_count)) in le-ltb (slot_at state i).number (state.sent + 0)
    (omega (arith, at_i.not_sent))) in
    omega (arith, none)
numbers_below plan state h (suc n) =
    let next : state.sent + suc n ≡ state.sent + n + 1 = omega arith in
    let sum = ap (λ m. count_by (λ (x : SlotState). ltb x.number m) state.slots) next ∙ count_next
    (λ (x : SlotState). x.number) (state.sent + n) state.slots in
    let one = count_one (λ x. eqb x.number (state.sent + n)) state.slots no_slot ((state.sent + n) % plan.slots)
    (λ i low e. sym (h.slot i (omega (arith, h.slot_count))).place ∙ ap (λ m. m % plan.slots)
    (eqb-true (slot_at state i).number (state.sent + n) e)) in
    omega (arith, sum, one, numbers_below plan state h n)

kind_small : (k : Kind) → kind_done k ≤ 2
kind_small Filling = omega arith
kind_small Working = omega arith
kind_small Done = omega arith

filling_none : (k : Kind) → is_filling k ≡ true → kind_done k ≡ 0
filling_none Filling h = refl
filling_none Working h = absurd cc
filling_none Done h = absurd cc

-- one where the slot's number is below all
abbrev has_number : Plan → SlotState → ℕ
has_number plan x = cond (ltb x.number plan.accumulations) 1 0

-- a slot that is working or done has a number below all
slot_small : (plan : Plan) (state : State) (s : ℕ) → 0 < plan.antennas → IsProper plan state → s < plan.slots
    → slot_done (slot_at state s) ≤ has_number plan (slot_at state s) + has_number plan (slot_at state s)
slot_small plan state s some h low =
    let x = slot_at state s in
    elim (cases_Bool (is_filling x.kind)) [
      | inl waits ↦ omega (arith, filling_none x.kind waits)
      | inr not_waits ↦
          let more = full_put plan state s 0 h low some ((h.slot s low).full not_waits) in
          let closed = (h.stream 0 some).closed in
          let most = floor_within plan 0 (stream_at state 0).strings (stream_at state 0).ended in
          let one = ap {B = ℕ} (λ b. cond b 1 0)
          (lt-ltb x.number plan.accumulations (omega (arith, more, closed, most))) in
          omega (arith, kind_small x.kind, one)
    ]

sum_twice : {X : Type 0} (f : X → ℕ) (xs : List X) → sum_by (λ x. f x + f x) xs ≡ sum_by f xs + sum_by f xs
sum_twice f [] = refl
sum_twice f (x ∷ xs) = omega (arith, sum_twice f xs, sum_by-cons (λ y. f y + f y) x xs, sum_by-cons f x xs)

-- the slots' part of the measure: at most two for each number that is not sent
pub slots_small : (plan : Plan) (state : State) → 0 < plan.antennas → IsProper plan state
    → state.sent + state.sent + sum_by slot_done state.slots ≤ plan.accumulations + plan.accumulations
slots_small plan state some h =
    let most = sent_within plan state some h in
    let each = sum_each slot_done (λ x. has_number plan x + has_number plan x) state.slots no_slot
    (λ i low. slot_small plan state i some h (omega (arith, h.slot_count))) in
    let split : state.sent + (plan.accumulations - state.sent) ≡ plan.accumulations = omega arith in
    let few = subst (λ m. count_by (λ (x : SlotState). ltb x.number m) state.slots ≤ plan.accumulations - state.sent)
    split (numbers_below plan state h (plan.accumulations - state.sent)) in
    omega (arith, most, each, few, sum_twice (has_number plan) state.slots)

ended_part : (plan : Plan) (x : StreamState) (l : List (List ℕ)) → StreamFits plan x l
    → ◌≤◌ (cond (x.ended && is_none (ending plan x.strings)) 1 0) (cond (is_none (ending plan l)) 1 0)
ended_part plan x l h =
    elim (cases_Bool x.ended) [
      | inl over ↦
          let same : ending plan x.strings ≡ ending plan l = ap (ending plan) (h.all over) ∙ ending_of_taken plan l in
          let one = ap {B = ℕ} (λ b. cond (b && is_none (ending plan x.strings)) 1 0) over in
          let two = ap {B = ℕ} (λ o. cond (is_none o) 1 0) same in
          omega (arith, one, two)
      | inr still ↦ let none =
          ap {B = ℕ} (λ b. cond (b && is_none (ending plan x.strings)) 1 0) still in omega (arith, none)
    ]

pub strings_within : (plan : Plan) (x : StreamState) (l : List (List ℕ)) → StreamFits plan x l
    → length x.strings ≤ length (taken plan l)
strings_within plan x l h =
    let short = ap length h.first in omega (arith, short, length-take (length x.strings) (taken plan l))

-- a stream's part of the measure
stream_small : (plan : Plan) (state : State) (lists : Lists) (a : ℕ) → IsProper plan state → FitsLists plan state lists
    → a < plan.antennas → stream_done plan (stream_at state a) ≤ stream_full plan (lists a)
stream_small plan state lists a h fits few =
    let x = stream_at state a in
    omega (
      arith,
      strings_within plan x (lists a) (fits a few),
      ended_part plan x (lists a) (fits a few),
      (h.stream a few).closed,
      floor_within plan a x.strings x.ended,
    )

-- the measure is at most that of a whole run
pub done_within : (plan : Plan) (state : State) (lists : Lists) → 0 < plan.antennas → IsProper plan state
    → FitsLists plan state lists → done plan state ≤ full plan lists
done_within plan state lists some h fits =
    let streams = sum_places (stream_done plan) (λ a. stream_full plan (lists a)) state.streams new_stream 0
    (λ a low. subst (λ k. stream_done plan (stream_at state a) ≤ stream_full plan (lists k))
    (let e : a ≡ 0 + a = omega arith in e)
    (stream_small plan state lists a h fits (omega (arith, h.stream_count)))) in
    let all = subst (λ n.
    sum_by (stream_done plan) state.streams
    ≤ sum_by (λ a. stream_full plan (lists a)) (numbers 0 n)) h.stream_count streams in
    omega (arith, all, slots_small plan state some h, sent_within plan state some h)

-- strings that end by themselves are all that count
ended_all : (plan : Plan) (k l : List (List ℕ)) (n : ℕ) → taken plan k ≡ k → is_some (ending plan k) ≡ true
    → k ≡ take n (taken plan l) → k ≡ taken plan l
ended_all plan k l n counts over front =
    let rest = drop n (taken plan l) in
    let whole : k ++ rest ≡ taken plan l = ap (λ s. s ++ rest) front ∙ take-append-drop n (taken plan l) in
    sym counts ∙ sym (taken_past plan k rest over) ∙ ap (taken plan) whole ∙ taken_of_taken plan l

-- the stream with the next string fits
fits_string : (plan : Plan) (x : StreamState) (l : List (List ℕ)) (b : List ℕ) → StreamFits plan x l
    → ending plan x.strings ≡ None → slice_get (taken plan l) (length x.strings) ≡ Some b
    → StreamFits plan (with_string plan b x) l
fits_string plan x l b h still next =
    let k = length x.strings in
    let low = slice_get_within (taken plan l) k b next in
    let grown : x.strings ++ b ∷ [] ≡ take (k + 1) (taken plan l) =
    ap (λ s. s ++ b ∷ []) h.first ∙ ap (λ c. take k (taken plan l) ++ c ∷ [])
    (sym (get_or_from_slice_get (taken plan l) k b b next)) ∙ sym (take_more (taken plan l) k b low) in
    record {
      first = grown ∙ ap (λ n. take n (taken plan l)) (sym (length_push x.strings b));
      all = λ over. ended_all plan (x.strings ++ b ∷ []) l (k + 1) (taken_next plan x.strings b still) over grown;
    }

none_from : {A : Type 0} (o : Option A) → is_some o ≡ false → o ≡ None
none_from None h = refl
none_from (Some x) h = absurd cc

-- a next event keeps the lists that a state fits
pub event_fits : (plan : Plan) (state : State) (lists : Lists) (e : Event) → IsProper plan state
    → FitsLists plan state lists → IsNext plan lists state e → enabled plan state e ≡ true
    → FitsLists plan (effect plan state e) lists
event_fits plan state lists (Packet a b) h fits next on =
    let x = stream_at state a in
    let parts = and_parts (ltb a plan.antennas) (is_ready plan a x) on in
    let few = ltb-true a plan.antennas parts.0 in
    let still = none_from (ending plan x.strings)
    (open_strings plan state a h few (ready_parts plan a x parts.1).not_ended) in
    each_stream state a (with_string plan b x) (λ c y. c < plan.antennas → StreamFits plan y (lists c))
    (omega (arith, h.stream_count))
    (λ low. fits_string plan x (lists a) b (fits a low) still next) (λ c ne. fits c)
event_fits plan state lists (End a) h fits next on =
    let x = stream_at state a in
    let few = ltb-true a plan.antennas (and_parts (ltb a plan.antennas) (is_ready plan a x) on).0 in
    each_stream state a (record x { ended = true }) (λ c y. c < plan.antennas → StreamFits plan y (lists c))
    (omega (arith, h.stream_count))
    (λ low. record { first = (fits a low).first; all = λ over. next }) (λ c ne. fits c)
event_fits plan state lists (Put a) h fits next on =
    let x = stream_at state a in
    let few = ltb-true a plan.antennas (and_parts (ltb a plan.antennas) _ on).0 in
    each_stream state a (record x { put = x.put + 1 }) (λ c y. c < plan.antennas → StreamFits plan y (lists c))
    (omega (arith, h.stream_count))
    (λ low. record { first = (fits a low).first; all = (fits a low).all }) (λ c ne. fits c)
event_fits plan state lists (Take w s) h fits next on = fits
event_fits plan state lists (Store w) h fits next on = fits
event_fits plan state lists Send h fits next on = fits
