-- No state is stuck: some next event is enabled, or the run is over.
use Rattle.std.proofs.Common.{◌≡◌, ◌⊎◌, ℕ, ◌+◌, ◌%◌, ◌<◌, ◌≤◌, true, false, not, cond, ltb, eqb, ◌&&◌, [], length, get_or, Option, Some, None, refl, sym, ap, ◌∙◌, subst, inl, inr, arith}
use Rattle.std.specs.List.{sum_by}
use Rattle.std.specs.Option.{is_some, is_none}
use Rattle.std.proofs.lemmas.List.{take_all}
use Rattle.std.proofs.lemmas.Option.{slice_get-get_or}
use Rattle.std.proofs.lemmas.Nat.{mod_below}
use Rattle.std.proofs.lemmas.Bool.{cases_Bool, cases_lt, lt-ltb, le-ltb, eq-eqb, and_from, not_from_false}
use Rattle.corr_model.specs.declared.plan.Plan.{Plan}
use Rattle.corr_model.specs.Lists.{numbers}
use Rattle.corr_model.specs.Streams.{ending, taken, floor}
use Rattle.corr_model.specs.Visibilities.{Lists}
use Rattle.corr_model.proofs.StreamLawsTaken.{ending_of_taken}
use Rattle.corr_machine.specs.Machines.{Kind, Filling, Working, Done, StreamState, State, Event, Packet, End, Put, Take, Store, Send, new_stream, work_count, stream_at, slot_for, work_at, stream_floor, stands_in, is_filling, is_working, is_done, is_full, is_ready, fills, holds, enabled, IsProper}
use Rattle.corr_machine.specs.Runs.{stream_done, done, stream_full, full, FitsLists, IsNext, CanMove, IsOver}
use Rattle.corr_machine.proofs.Places.{list_all_get, list_all_from}
use Rattle.corr_machine.proofs.Counts.{places_sum, count_zero, least_place, all_or_one, same_rest}
use Rattle.corr_machine.proofs.Floors.{floor_within}

-- a stream that is ready takes its next string, or its end
ready_moves : (plan : Plan) (lists : Lists) (state : State) (a : ℕ) → FitsLists plan state lists → a < plan.antennas
    → (stream_at state a).ended ≡ false → (stream_at state a).put ≡ stream_floor plan a (stream_at state a)
    → CanMove plan lists state
ready_moves plan lists state a fits few still all_put =
    let x = stream_at state a in
    let l = taken plan (lists a) in
    let k = length x.strings in
    let ready = and_from (not x.ended) (eqb x.put (stream_floor plan a x)) (not_from_false x.ended still)
    (eq-eqb x.put (stream_floor plan a x) all_put) in
    let can = and_from (ltb a plan.antennas) (is_ready plan a x) (lt-ltb a plan.antennas few) ready in
    elim (cases_lt k (length l)) [
      | inl more ↦ record { event = Packet a (get_or l k []); next = slice_get-get_or l k [] more; can = can }
      | inr none ↦ record { event = End a; next = (fits a few).first ∙ take_all k l none; can = can }
    ]

-- the slot for a number that is now in the ring has that number
number_in : (plan : Plan) (state : State) (n : ℕ) → 0 < plan.slots → IsProper plan state → state.sent ≤ n
    → n < state.sent + plan.slots → (slot_for plan state n).number ≡ n
number_in plan state n some h least most =
    let at_n = h.slot (n % plan.slots) (mod_below n plan.slots some) in
    let m = (slot_for plan state n).number in
    elim (cases_lt m n) [
      | inl under ↦ sym (same_rest plan.slots m n (omega arith) (omega (arith, at_n.not_sent)) at_n.place)
      | inr over ↦ same_rest plan.slots n m over (omega (arith, at_n.within)) (sym at_n.place)
    ]

-- the stream that is furthest behind can put its next closed column
put_moves : (plan : Plan) (lists : Lists) (state : State) (a : ℕ) → 0 < plan.slots → IsProper plan state
    → a < plan.antennas
    → (stream_at state a).put < stream_floor plan a (stream_at state a)
    → (stream_at state a).put < state.sent + plan.slots → CanMove plan lists state
put_moves plan lists state a some h few closed room =
    let x = stream_at state a in
    let n = x.put in
    let s = n % plan.slots in
    let low = mod_below n plan.slots some in
    let z = slot_for plan state n in
    let number = number_in plan state n some h (h.stream a few).not_behind room in
    let absent : stands_in z a ≡ false = h.stands s a low few ∙ le-ltb z.number n (omega (arith, number)) in
    let waits : is_filling z.kind ≡ true = elim (cases_Bool (is_filling z.kind)) [
      | inl yes' ↦ yes'
      | inr other ↦ absurd
          (let there = list_all_get z.columns a (omega (arith, (h.slot s low).columns))
          ((h.slot s low).full other) in cc)
    ] in
    let fill = and_from (eqb z.number n) (is_filling z.kind) (eq-eqb z.number n number) waits in
    record {
      event = Put a;
      next = tt;
      can = and_from (ltb a plan.antennas) (ltb n (stream_floor plan a x) && fills n z) (lt-ltb a plan.antennas few)
          (and_from (ltb n (stream_floor plan a x)) (fills n z) (lt-ltb n (stream_floor plan a x) closed) fill);
    }

is_one_kind : (k : Kind) → (is_filling k ≡ true) ⊎ ((is_working k ≡ true) ⊎ (is_done k ≡ true))
is_one_kind Filling = inl refl
is_one_kind Working = inr (inl refl)
is_one_kind Done = inr (inr refl)

not_free : (o : Option ℕ) → not (is_some o) ≡ false → is_some o ≡ true
not_free None h = absurd cc
not_free (Some n) h = refl

holds_none : (n : ℕ) (o : Option ℕ) → not (is_some o) ≡ true → holds n o ≡ false
holds_none n None h = refl
holds_none n (Some m) h = absurd cc

-- where each stream has put the next number to be sent, a work stores or takes, or the result is sent
send_moves : (plan : Plan) (lists : Lists) (state : State) → 0 < plan.slots → IsProper plan state
    → ((a : ℕ) → a < plan.antennas → state.sent < (stream_at state a).put) → CanMove plan lists state
send_moves plan lists state some h all_put =
    let n = state.sent in
    let s = n % plan.slots in
    let low = mod_below n plan.slots some in
    let z = slot_for plan state n in
    let number = number_in plan state n some h (omega arith) (omega arith) in
    let full = list_all_from z.columns (λ a there.
    let few : a < plan.antennas = omega (arith, (h.slot s low).columns) in
    h.stands s a low few ∙ lt-ltb z.number (stream_at state a).put (omega (arith, number, all_put a few))) in
    let one : 0 < work_count plan = omega arith in
    elim (all_or_one (λ w. not (is_some (work_at state w))) (work_count plan)) [
      | inr taken' ↦ record {
        event = Store taken'.0;
        next = tt;
        can = and_from (ltb taken'.0 (work_count plan)) (is_some (work_at state taken'.0))
            (lt-ltb taken'.0 (work_count plan) taken'.1) (not_free (work_at state taken'.0) taken'.2);
      }
      | inl free ↦ elim (is_one_kind z.kind) [
        | inl waits ↦ record {
          event = Take 0 s;
          next = tt;
          can = and_from (ltb 0 (work_count plan)) _ (lt-ltb 0 (work_count plan) one)
              (and_from (ltb s plan.slots) _ (lt-ltb s plan.slots low)
              (and_from (not (is_some (work_at state 0))) _ (free 0 one)
              (and_from (is_filling z.kind) (is_full z) waits full)));
        }
        | inr more ↦ elim more [
          | inl working ↦
              let held = h.held n in
              let none = count_zero (holds n) state.works None
              (λ w there. holds_none n (work_at state w) (free w (omega (arith, h.works)))) in
              let on = ap {B = ℕ} (λ b. cond b 1 0)
              (and_from (eqb z.number n) (is_working z.kind) (eq-eqb z.number n number) working) in
              absurd (omega (arith, held, none, on))
          | inr result ↦ record {
            event = Send;
            next = tt;
            can = and_from (eqb z.number n) (is_done z.kind) (eq-eqb z.number n number) result;
          }
        ]
      ]
    ]

-- where the results were all sent, a stream takes a string or its end, or all have ended
last_moves : (plan : Plan) (lists : Lists) (state : State) → IsProper plan state → FitsLists plan state lists
    → state.sent ≡ plan.accumulations → CanMove plan lists state ⊎ IsOver plan state
last_moves plan lists state h fits sent =
    elim (all_or_one (λ a. (stream_at state a).ended) plan.antennas) [
      | inl all ↦ inr (record { sent = sent; ended = all })
      | inr found ↦
          let a = found.0 in
          let x = stream_at state a in
          let was = h.stream a found.1 in
          let most = floor_within plan a x.strings x.ended in
          inl (ready_moves plan lists state a fits found.1 found.2
          (omega (arith, was.closed, was.not_behind, most, sent)))
    ]

at_end : (plan : Plan) (a : ℕ) (x : StreamState) → x.ended ≡ true → stream_floor plan a x ≡ plan.accumulations
at_end plan a x over = ap (floor plan a x.strings) over

-- some next event is enabled, or the run is over: by the stream that is furthest behind
pub moves_or_over : (plan : Plan) (lists : Lists) (state : State) → 0 < plan.slots → 0 < plan.antennas
    → IsProper plan state → FitsLists plan state lists → CanMove plan lists state ⊎ IsOver plan state
moves_or_over plan lists state some any h fits =
    let behind = least_place (λ a. (stream_at state a).put) plan.antennas any in
    let a = behind.0 in
    let few = behind.1.within in
    let x = stream_at state a in
    let was = h.stream a few in
    elim (cases_lt state.sent x.put) [
      | inl ahead ↦ inl (send_moves plan lists state some h (λ b low. omega (arith, ahead, behind.1.least b low)))
      | inr same ↦ elim (cases_lt x.put (stream_floor plan a x)) [
        | inl closed ↦ inl (put_moves plan lists state a some h few closed (omega arith))
        | inr all_put ↦ elim (cases_Bool x.ended) [
          | inl over ↦
              let top = at_end plan a x over in
              last_moves plan lists state h fits (omega (arith, top, all_put, same, was.closed, was.not_behind))
          | inr still ↦ inl (ready_moves plan lists state a fits few still (omega (arith, was.closed, all_put)))
        ]
      ]
    ]

-- a stream's part where the run is over
stream_whole : (plan : Plan) (state : State) (lists : Lists) (a : ℕ) → IsProper plan state → FitsLists plan state lists
    → IsOver plan state → a < plan.antennas → stream_full plan (lists a) ≤ stream_done plan (stream_at state a)
stream_whole plan state lists a h fits over few =
    let x = stream_at state a in
    let ended = over.ended a few in
    let all = (fits a few).all ended in
    let long = ap length all in
    let same = ap (λ k. ending plan k) all ∙ ending_of_taken plan (lists a) in
    let bit = ap {B = ℕ} (λ b. cond (b && is_none (ending plan x.strings)) 1 0) ended ∙ ap {B = ℕ}
    (λ o. cond (is_none o) 1 0) same in
    omega (arith, long, bit, over.sent, (h.stream a few).not_behind)

-- where the run is over the measure is that of a whole run
pub over_is_full : (plan : Plan) (state : State) (lists : Lists) → IsProper plan state → FitsLists plan state lists
    → IsOver plan state → full plan lists ≤ done plan state
over_is_full plan state lists h fits over =
    let streams = places_sum (stream_done plan) (λ a. stream_full plan (lists a)) state.streams new_stream 0
    (λ a low. subst (λ k. stream_full plan (lists k) ≤ stream_done plan (stream_at state a))
    (let e : a ≡ 0 + a = omega arith in e)
    (stream_whole plan state lists a h fits over (omega (arith, h.stream_count)))) in
    let all = subst (λ n.
    sum_by (λ a. stream_full plan (lists a)) (numbers 0 n)
    ≤ sum_by (stream_done plan) state.streams) h.stream_count streams in
    omega (arith, all, over.sent)

-- short of a whole run some next event is enabled
pub short_moves : (plan : Plan) (lists : Lists) (state : State) → 0 < plan.slots → 0 < plan.antennas
    → IsProper plan state → FitsLists plan state lists → done plan state < full plan lists → CanMove plan lists state
short_moves plan lists state some any h fits short =
    elim (moves_or_over plan lists state some any h fits) [
      | inl can ↦ can
      | inr over ↦ absurd (omega (arith, short, over_is_full plan state lists h fits over))
    ]

-- where no next event is enabled, all results were sent
pub stuck_is_over : (plan : Plan) (lists : Lists) (state : State) → 0 < plan.slots → 0 < plan.antennas
    → IsProper plan state → FitsLists plan state lists
    → ((e : Event) → IsNext plan lists state e → enabled plan state e ≡ false) → IsOver plan state
stuck_is_over plan lists state some any h fits none =
    elim (moves_or_over plan lists state some any h fits) [
      | inl can ↦ absurd (let off = none can.event can.next in let on = can.can in cc)
      | inr over ↦ over
    ]
