-- One accumulation passes: by the kind of the slot for its number.
use Rattle.std.proofs.Common.{◌≡◌, ◌≢◌, ◌⊎◌, ℕ, ◌+◌, ◌%◌, ◌<◌, ◌≤◌, Bool, true, false, not, cond, ltb, eqb, ◌&&◌, List, [], length, get_or, set, Option, Some, None, refl, sym, ap, ◌∙◌, subst, inl, inr, arith}
use Rattle.std.specs.List.{count_by}
use Rattle.std.specs.Option.{is_some, unwrap_or}
use Rattle.std.proofs.lemmas.List.{get_or-set_same, length-set}
use Rattle.std.proofs.lemmas.Nat.{mod_below}
use Rattle.std.proofs.lemmas.Bool.{cases_Bool, cases_lt, lt-ltb, le-ltb, eq-eqb, and_parts, and_from, not_from_false, false_from_ne_true, cond-true, cond-false}
use Rattle.corr_model.specs.declared.plan.Plan.{Plan}
use Rattle.corr_model.specs.Streams.{floor}
use Rattle.corr_machine.specs.Machines.{Kind, Filling, Working, Done, StreamState, SlotState, State, Event, Put, Take, Store, Send, work_count, stream_at, slot_at, slot_for, work_at, stream_floor, stands_in, is_filling, is_working, is_done, is_full, is_ready, fills, holds, with_slot, enabled, effect, step, IsProper}
use Rattle.corr_machine.proofs.Places.{set_each, list_all_get, list_all_from}
use Rattle.corr_machine.proofs.Counts.{count_zero, same_rest}
use Rattle.corr_machine.proofs.Floors.{floor_within, floor_at_end}
use Rattle.corr_machine.proofs.Proper.{each_slot, take_proper, store_proper}
use Rattle.corr_serial.specs.Rounds.{AllFree, AllPut, passed, Passes}

-- the slot for a number that is now in the ring has that number
number_in : (plan : Plan) (state : State) (n : ℕ) → 0 < plan.slots → IsProper plan state → state.sent ≤ n
    → n < state.sent + plan.slots → (slot_for plan state n).number ≡ n
number_in plan state n some h least most =
    let at_n = h.slot (n % plan.slots) (mod_below n plan.slots some) in
    let m = (slot_for plan state n).number in
    elim (cases_lt m n) [
      | inl under ↦ sym (same_rest plan.slots m n (omega arith) (omega (arith, at_n.not_sent)) at_n.place)
      | inr over ↦ same_rest plan.slots n m over (omega (arith, at_n.within)) (sym at_n.place)
    ]

done_kind : (k : Kind) → is_filling k ≡ false → is_working k ≡ false → is_done k ≡ true
done_kind Filling a b = absurd cc
done_kind Working a b = absurd cc
done_kind Done a b = refl

holds_none : (n : ℕ) (o : Option ℕ) → o ≡ None → holds n o ≡ false
holds_none n None h = refl
holds_none n (Some m) h = absurd cc

-- where all works are free and the next number's slot is not filling, its result is sent
free_send : (plan : Plan) (state : State) → 0 < plan.slots → IsProper plan state → AllFree plan state
    → is_filling (slot_for plan state state.sent).kind ≡ false → enabled plan state Send ≡ true
free_send plan state some h free not' =
    let n = state.sent in
    let z = slot_for plan state n in
    let number = number_in plan state n some h (omega arith) (omega (arith, some)) in
    let held = h.held n in
    let none = count_zero (holds n) state.works None
    (λ w there. holds_none n (work_at state w) (free w (omega (arith, there, h.works)))) in
    let off : is_working z.kind ≡ false = false_from_ne_true (is_working z.kind) (λ working.
    let on = ap {B = ℕ} (λ b. cond b 1 0)
    (and_from (eqb z.number n) (is_working z.kind) (eq-eqb z.number n number) working) in
    omega (arith, held, none, on)) in
    and_from (eqb z.number n) (is_done z.kind) (eq-eqb z.number n number) (done_kind z.kind not' off)

-- where it is filling it is full, and a free work takes it
free_take : (plan : Plan) (state : State) → 0 < plan.slots → IsProper plan state → AllFree plan state
    → AllPut plan state → is_filling (slot_for plan state state.sent).kind ≡ true
    → enabled plan state (Take 0 (state.sent % plan.slots)) ≡ true
free_take plan state some h free put waits =
    let n = state.sent in
    let s = n % plan.slots in
    let low = mod_below n plan.slots some in
    let z = slot_for plan state n in
    let number = number_in plan state n some h (omega arith) (omega (arith, some)) in
    let one : 0 < work_count plan = omega arith in
    let full = list_all_from z.columns (λ a there.
    let few : a < plan.antennas = omega (arith, there, (h.slot s low).columns) in
    h.stands s a low few ∙ lt-ltb z.number (stream_at state a).put (omega (arith, number, put a few))) in
    let none : not (is_some (work_at state 0)) ≡ true = ap (λ o. not (is_some o)) (free 0 one) in
    and_from (ltb 0 (work_count plan)) _ (lt-ltb 0 (work_count plan) one)
    (and_from (ltb s plan.slots) _ (lt-ltb s plan.slots low)
    (and_from (not (is_some (work_at state 0))) _ none (and_from (is_filling z.kind) (is_full z) waits full)))

-- a work that is free stores nothing
no_store : (plan : Plan) (state : State) → work_at state 0 ≡ None → enabled plan state (Store 0) ≡ false
no_store plan state none = false_from_ne_true (enabled plan state (Store 0)) (λ on.
    let parts = and_parts (ltb 0 (work_count plan)) _ on in
    let is = sym (ap is_some none) ∙ parts.1 in cc)

-- a slot that is not filling is not taken
no_take : (plan : Plan) (state : State) (s : ℕ) → is_filling (slot_at state s).kind ≡ false
    → enabled plan state (Take 0 s) ≡ false
no_take plan state s not' = false_from_ne_true (enabled plan state (Take 0 s)) (λ on.
    let first = and_parts (ltb 0 (work_count plan)) _ on in
    let second = and_parts (ltb s plan.slots) _ first.1 in
    let third = and_parts (not (is_some (work_at state 0))) _ second.1 in
    let fourth = and_parts (is_filling (slot_at state s).kind) _ third.1 in
    let is = sym not' ∙ fourth.0 in cc)

-- the result of a state is sent
send_passes : (plan : Plan) (state before : State) → passed plan state ≡ step plan before Send
    → enabled plan before Send ≡ true → before.sent ≡ state.sent → before.streams ≡ state.streams → AllFree plan before
    → Passes plan state
send_passes plan state before is on sent streams free =
    let now = is ∙ cond-true (enabled plan before Send) (effect plan before Send) before on in
    record {
      sent = ap (λ (k : State). k.sent) now ∙ ap (λ n. n + 1) sent;
      streams = ap (λ (k : State). k.streams) now ∙ streams;
      free = λ w few. ap (λ k. work_at k w) now ∙ free w few;
    }

pub passes : (plan : Plan) (state : State) → 0 < plan.slots → IsProper plan state → AllFree plan state
    → AllPut plan state → Passes plan state
passes plan state some h free put =
    let n = state.sent in
    let s = n % plan.slots in
    let low = mod_below n plan.slots some in
    let one : 0 < work_count plan = omega arith in
    let take = Take 0 s in
    elim (cases_Bool (is_filling (slot_at state s).kind)) [
      | inr not' ↦
          let first = cond-false (enabled plan state take) (effect plan state take) state (no_take plan state s not') in
          let second = cond-false (enabled plan state (Store 0)) (effect plan state (Store 0)) state
          (no_store plan state (free 0 one)) in
          send_passes plan state state
          (ap (λ k. step plan (step plan k (Store 0)) Send) first ∙ ap (λ k. step plan k Send) second)
          (free_send plan state some h free not') refl refl free
      | inl waits ↦
          let on = free_take plan state some h free put waits in
          let s1 = effect plan state take in
          let first = cond-true (enabled plan state take) s1 state on in
          let proper1 = take_proper plan state 0 s some h on in
          let has : work_at s1 0 ≡ Some (slot_at state s).number =
          get_or-set_same state.works 0 (Some (slot_at state s).number) None (omega (arith, h.works, one)) in
          let kept1 : is_filling (slot_at s1 s).kind ≡ false =
          each_slot state s (record (slot_at state s) { kind = Working }) (λ t x. t ≡ s → is_filling x.kind ≡ false)
          (omega (arith, low, h.slot_count)) (λ e. refl) (λ t ne e. absurd (ne e)) s refl in
          let can = and_from (ltb 0 (work_count plan)) (is_some (work_at s1 0)) (lt-ltb 0 (work_count plan) one)
          (ap is_some has) in
          let s2 = effect plan s1 (Store 0) in
          let second = cond-true (enabled plan s1 (Store 0)) s2 s1 can in
          let proper2 = store_proper plan s1 0 some proper1 can in
          let m = unwrap_or (work_at s1 0) 0 in
          let kept2 : is_filling (slot_at s2 s).kind ≡ false =
          each_slot s1 (m % plan.slots) (record (slot_for plan s1 m) { kind = Done })
          (λ t x. t ≡ s → is_filling x.kind ≡ false)
          (omega (arith, mod_below m plan.slots some, proper1.slot_count)) (λ e. refl)
          (λ t ne e. subst (λ t. is_filling (slot_at s1 t).kind ≡ false) (sym e) kept1) s refl in
          let free2 : AllFree plan s2 =
          λ w few. set_each (λ v o. v < work_count plan → o ≡ None) s1.works 0 None None
          (omega (arith, proper1.works, one)) (λ low'. refl)
          (λ v ne low'. set_each (λ u o. u ≡ v → o ≡ None) state.works 0 (Some (slot_at state s).number) None
          (omega (arith, h.works, one)) (λ e. absurd (ne (sym e))) (λ u ne' e. ap (work_at state) e ∙ free v low') v
          refl) w few in
          send_passes plan state s2
          (ap (λ k. step plan (step plan k (Store 0)) Send) first ∙ ap (λ k. step plan k Send) second)
          (free_send plan s2 some proper2 free2 kept2) refl refl free2
    ]

-- a stream with nothing closed to put is ready unless it has ended
ready : (plan : Plan) (a : ℕ) (x : StreamState) → x.ended ≡ false → x.put ≡ stream_floor plan a x
    → is_ready plan a x ≡ true
ready plan a x still all_put =
    and_from (not x.ended) (eqb x.put (stream_floor plan a x)) (not_from_false x.ended still)
    (eq-eqb x.put (stream_floor plan a x) all_put)

at_end : (plan : Plan) (a : ℕ) (x : StreamState) → x.ended ≡ true → stream_floor plan a x ≡ plan.accumulations
at_end plan a x over = ap (floor plan a x.strings) over ∙ floor_at_end plan a x.strings

pub puts_or_ready : (plan : Plan) (state : State) (a : ℕ) → 0 < plan.slots → IsProper plan state → a < plan.antennas
    → (stream_at state a).put ≡ state.sent → state.sent < plan.accumulations
    → (enabled plan state (Put a) ≡ true) ⊎ (is_ready plan a (stream_at state a) ≡ true)
puts_or_ready plan state a some h few same more =
    let x = stream_at state a in
    let n = x.put in
    let s = n % plan.slots in
    let low = mod_below n plan.slots some in
    let z = slot_for plan state n in
    elim (cases_lt n (stream_floor plan a x)) [
      | inl closed ↦
          let number = number_in plan state n some h (omega (arith, same)) (omega (arith, same, some)) in
          let absent : stands_in z a ≡ false = h.stands s a low few ∙ le-ltb z.number n (omega (arith, number)) in
          let waits : is_filling z.kind ≡ true = elim (cases_Bool (is_filling z.kind)) [
            | inl yes' ↦ yes'
            | inr other ↦ absurd
                (let there = list_all_get z.columns a (omega (arith, few, (h.slot s low).columns))
                ((h.slot s low).full other) in cc)
          ] in
          inl (and_from (ltb a plan.antennas) (ltb n (stream_floor plan a x) && fills n z) (lt-ltb a plan.antennas few)
          (and_from (ltb n (stream_floor plan a x)) (fills n z) (lt-ltb n (stream_floor plan a x) closed)
          (and_from (eqb z.number n) (is_filling z.kind) (eq-eqb z.number n number) waits)))
      | inr all_put ↦
          let still : x.ended ≡ false =
          false_from_ne_true x.ended
          (λ over. let top = at_end plan a x over in omega (arith, top, all_put, same, more)) in
          inr (ready plan a x still (omega (arith, all_put, (h.stream a few).closed)))
    ]

pub ends_or_ready : (plan : Plan) (state : State) (a : ℕ) → IsProper plan state → a < plan.antennas
    → state.sent ≡ plan.accumulations → (stream_at state a).ended ≡ false → is_ready plan a (stream_at state a) ≡ true
ends_or_ready plan state a h few sent still =
    let x = stream_at state a in
    let was = h.stream a few in
    let most = floor_within plan a x.strings x.ended in
    ready plan a x still (omega (arith, was.closed, was.not_behind, most, sent))
