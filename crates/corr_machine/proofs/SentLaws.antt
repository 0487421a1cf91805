-- What was sent, by the strings taken until then, is a front of the output of each lists that the state fits.
use Rattle.std.proofs.Common.{◌≡◌, ℕ, ◌+◌, ◌%◌, ◌<◌, Bool, true, false, cond, ltb, eqb, List, [], ◌∷◌, ◌++◌, length, take, drop, refl, sym, ap, ◌∙◌, subst, inl, inr, arith}
use Rattle.std.proofs.Math.Seq.{take-append_seam}
use Rattle.std.proofs.lemmas.List.{append_assoc, take-append-drop, get_or-set_same, get_or-set_other}
use Rattle.std.proofs.lemmas.Nat.{mod_below}
use Rattle.std.proofs.lemmas.Bool.{cases_eq, ltb-true, and_parts, eqb-true}
use Rattle.corr_model.specs.declared.plan.Plan.{Plan}
use Rattle.corr_model.specs.Streams.{taken}
use Rattle.corr_model.specs.Visibilities.{Lists}
use Rattle.corr_model.specs.Outputs.{heap_packets, output}
use Rattle.corr_machine.specs.Machines.{StreamState, State, Event, Packet, End, Put, Take, Store, Send, new_stream, opening, stream_at, slot_for, is_done, is_ready, with_stream, with_string, enabled, effect, step, IsProper}
use Rattle.corr_machine.specs.Runs.{after, reached, OutputHeaps, heaps_of, sent_with, appends, appended, strings_of, sent_by, output_before, output_of, IsFront, StreamFits, FitsLists, IsNext}
use Rattle.corr_machine.proofs.Proper.{ready_parts, not_filling_done, full_put, step_proper, opening_proper}
use Rattle.corr_machine.proofs.Sending.{before_all, output_is}
use Rattle.corr_machine.proofs.ColumnLaws.{column_fits}
use Rattle.corr_machine.proofs.SameHeaps.{same_heap}
use Rattle.corr_machine.proofs.RunLaws.{reached_proper, run_front, appended_front}
use Rattle.corr_machine.proofs.Moving.{stuck_is_over}

-- where a stream changed, the lists that it fits
stream_before : (plan : Plan) (state : State) (lists : Lists) (a : ℕ) (y : StreamState) → a < length state.streams
    → (StreamFits plan y (lists a) → StreamFits plan (stream_at state a) (lists a))
    → FitsLists plan (with_stream state a y) lists → FitsLists plan state lists
stream_before plan state lists a y within back fits c low =
    elim (cases_eq c a) [
      | inl e ↦
          let here = subst (λ k. k < plan.antennas) e low in
          let now = subst (λ z. StreamFits plan z (lists a)) (get_or-set_same state.streams a y new_stream within)
          (fits a here) in
          subst (λ k. StreamFits plan (stream_at state k) (lists k)) (sym e) (back now)
      | inr ne ↦ subst (λ z. StreamFits plan z (lists c))
          (get_or-set_other state.streams a c y new_stream ne) (fits c low)
    ]

-- a stream that has not ended fits what it fits with a string more
string_before : (plan : Plan) (x : StreamState) (l : List (List ℕ)) (b : List ℕ) → x.ended ≡ false
    → StreamFits plan (with_string plan b x) l → StreamFits plan x l
string_before plan x l b still h =
    let n = length (x.strings ++ b ∷ []) in
    let rest = drop n (taken plan l) in
    let whole : (x.strings ++ b ∷ []) ++ rest ≡ taken plan l =
    ap (λ s. s ++ rest) h.first ∙ take-append-drop n (taken plan l) in
    let front : x.strings ++ (b ∷ [] ++ rest) ≡ taken plan l = sym (append_assoc x.strings (b ∷ []) rest) ∙ whole in
    record {
      first = sym (take-append_seam x.strings (b ∷ [] ++ rest)) ∙ ap (take (length x.strings)) front;
      all = λ over. absurd (let on = over in cc);
    }

-- an event that is enabled leaves the lists that the state fitted
effect_before : (plan : Plan) (state : State) (lists : Lists) (e : Event) → IsProper plan state
    → enabled plan state e ≡ true → FitsLists plan (effect plan state e) lists → FitsLists plan state lists
effect_before plan state lists (Packet a b) h on fits =
    let x = stream_at state a in
    let parts = and_parts (ltb a plan.antennas) (is_ready plan a x) on in
    let few = ltb-true a plan.antennas parts.0 in
    stream_before plan state lists a (with_string plan b x) (omega (arith, few, h.stream_count))
    (string_before plan x (lists a) b (ready_parts plan a x parts.1).not_ended) fits
effect_before plan state lists (End a) h on fits =
    let x = stream_at state a in
    let parts = and_parts (ltb a plan.antennas) (is_ready plan a x) on in
    let few = ltb-true a plan.antennas parts.0 in
    let still = (ready_parts plan a x parts.1).not_ended in
    stream_before plan state lists a (record x { ended = true }) (omega (arith, few, h.stream_count))
    (λ now. record { first = now.first; all = λ over. absurd (let on = over in cc) }) fits
effect_before plan state lists (Put a) h on fits =
    let x = stream_at state a in
    let few = ltb-true a plan.antennas (and_parts (ltb a plan.antennas) _ on).0 in
    stream_before plan state lists a (record x { put = x.put + 1 }) (omega (arith, few, h.stream_count))
    (λ now. record { first = now.first; all = now.all }) fits
effect_before plan state lists (Take w s) h on fits = fits
effect_before plan state lists (Store w) h on fits = fits
effect_before plan state lists Send h on fits = fits

by_choice : (plan : Plan) (state : State) (lists : Lists) (e : Event) (on : Bool)
    → (on ≡ true → FitsLists plan (effect plan state e) lists → FitsLists plan state lists)
    → FitsLists plan (cond on (effect plan state e) state) lists → FitsLists plan state lists
by_choice plan state lists e true back fits = back refl fits
by_choice plan state lists e false back fits = fits

-- a state fits the lists that it fits after an event
pub step_before : (plan : Plan) (state : State) (lists : Lists) (e : Event) → IsProper plan state
    → FitsLists plan (step plan state e) lists → FitsLists plan state lists
step_before plan state lists e h =
    by_choice plan state lists e (enabled plan state e) (effect_before plan state lists e h)

-- and those that it fits after events
after_before : (plan : Plan) (lists : Lists) (events : List Event) (state : State) → 0 < plan.slots
    → IsProper plan state → FitsLists plan (after plan state events) lists → FitsLists plan state lists
after_before plan lists [] state some h fits = fits
after_before plan lists (e ∷ es) state some h fits =
    step_before plan state lists e h
    (after_before plan lists es (step plan state e) some (step_proper plan state e some h) fits)

-- the heap that a Send appends is that of each lists that the state fits
pub heap_fits : (plan : Plan) (state : State) (lists : Lists) → 0 < plan.slots → IsProper plan state
    → FitsLists plan state lists → enabled plan state Send ≡ true
    → heap_packets plan (strings_of state) state.sent ≡ heap_packets plan lists state.sent
heap_fits plan state lists some h fits on =
    let n = state.sent in
    let s = n % plan.slots in
    let low = mod_below n plan.slots some in
    let z = slot_for plan state n in
    let parts = and_parts (eqb z.number n) (is_done z.kind) on in
    let number = eqb-true z.number n parts.0 in
    let full = (h.slot s low).full (not_filling_done z.kind parts.1) in
    same_heap plan (strings_of state) lists n (λ a few.
    let put = full_put plan state s a h low few full in
    column_fits plan a n (stream_at state a) (lists a) (fits a few)
    (omega (arith, put, number, (h.stream a few).closed)))

sends_same : (plan : Plan) (state : State) (lists : Lists) (on : Bool)
    → (on ≡ true → heap_packets plan (strings_of state) state.sent ≡ heap_packets plan lists state.sent)
    → cond on (sent_with plan (heaps_of plan (strings_of state)) state.sent) []
    ≡ cond on (sent_with plan (heaps_of plan lists) state.sent) []
sends_same plan state lists false same = refl
sends_same plan state lists true same =
    ap (λ heap. cond (eqb state.sent 0) (heaps_of plan lists).head []
    ++ (heap ++ cond (eqb (state.sent + 1) plan.accumulations) (heaps_of plan lists).stop [])) (same refl)

nothing_same : {X : Type 0} (on : Bool) → ◌≡◌ {A = List X} (cond on [] []) (cond on [] [])
nothing_same on = refl

-- what an event appends, by the strings taken, is what it appends by each lists that the state fits
pub appends_fit : (plan : Plan) (state : State) (lists : Lists) (e : Event) → 0 < plan.slots → IsProper plan state
    → FitsLists plan state lists
    → appends plan (heaps_of plan (strings_of state)) state e ≡ appends plan (heaps_of plan lists) state e
appends_fit plan state lists (Packet a b) some h fits = refl
appends_fit plan state lists (End a) some h fits = refl
appends_fit plan state lists (Put a) some h fits = refl
appends_fit plan state lists (Take w s) some h fits = refl
appends_fit plan state lists (Store w) some h fits = refl
appends_fit plan state lists Send some h fits =
    sends_same plan state lists (enabled plan state Send) (heap_fits plan state lists some h fits)

-- the same of events
sent_fits : (plan : Plan) (lists : Lists) (events : List Event) (state : State) → 0 < plan.slots → IsProper plan state
    → FitsLists plan (after plan state events) lists
    → sent_by plan state events ≡ appended plan (heaps_of plan lists) state events
sent_fits plan lists [] state some h fits = refl
sent_fits plan lists (e ∷ es) state some h fits =
    let next = step_proper plan state e some h in
    ap (λ l. l ++ sent_by plan (step plan state e) es)
    (appends_fit plan state lists e some h (after_before plan lists (e ∷ es) state some h fits))
    ∙ ap (λ l. appends plan (heaps_of plan lists) state e ++ l)
    (sent_fits plan lists es (step plan state e) some next fits)

-- of a run
pub reached_sent : (plan : Plan) (lists : Lists) (events : List Event) → 0 < plan.slots → 0 < plan.packet_limit
    → FitsLists plan (reached plan events) lists
    → sent_by plan (opening plan) events ≡ appended plan (heaps_of plan lists) (opening plan) events
reached_sent plan lists events some strings fits =
    sent_fits plan lists events (opening plan) some (opening_proper plan some strings) fits

-- so it is a front of their output
pub sent_front : (plan : Plan) (lists : Lists) (events : List Event) → 0 < plan.slots → 0 < plan.packet_limit
    → 0 < plan.antennas → 0 < plan.accumulations
    → FitsLists plan (reached plan events) lists → IsFront (sent_by plan (opening plan) events) (output plan lists)
sent_front plan lists events some strings any all fits =
    let front = subst (λ whole. IsFront (appended plan (heaps_of plan lists) (opening plan) events) whole)
    (output_is plan lists) (appended_front plan (heaps_of plan lists) events some strings any all) in
    subst (λ l. IsFront l (output plan lists)) (sym (reached_sent plan lists events some strings fits)) front

-- where no next event is enabled, all heaps were appended
pub whole_appended : (plan : Plan) (heaps : OutputHeaps) (lists : Lists) (events : List Event) → 0 < plan.slots
    → 0 < plan.packet_limit → 0 < plan.antennas → 0 < plan.accumulations
    → FitsLists plan (reached plan events) lists
    → ((e : Event) → IsNext plan lists (reached plan events) e → enabled plan (reached plan events) e ≡ false)
    → appended plan heaps (opening plan) events ≡ output_of plan heaps
whole_appended plan heaps lists events some strings any all fits none =
    let over = stuck_is_over plan lists (reached plan events) some any
    (reached_proper plan events some strings) fits none in
    run_front plan heaps events ∙ ap (output_before plan heaps) over.sent ∙ before_all plan heaps all

pub whole_sent : (plan : Plan) (lists : Lists) (events : List Event) → 0 < plan.slots → 0 < plan.packet_limit
    → 0 < plan.antennas → 0 < plan.accumulations
    → FitsLists plan (reached plan events) lists
    → ((e : Event) → IsNext plan lists (reached plan events) e → enabled plan (reached plan events) e ≡ false)
    → sent_by plan (opening plan) events ≡ output plan lists
whole_sent plan lists events some strings any all fits none =
    reached_sent plan lists events some strings fits ∙ whole_appended plan (heaps_of plan lists) lists events some
    strings any all fits none ∙ output_is plan lists
