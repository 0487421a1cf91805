-- A step by the state alone is a step of the definitions.
use Rattle.std.proofs.Common.{◌≡◌, ℕ, ◌-◌, ◌+◌, ◌<◌, ◌≤◌, Bool, true, false, not, cond, eqb, ltb, ◌&&◌, List, [], ◌∷◌, ◌++◌, length, map, set, drop, get_or, slice_get, zero, suc, Option, Some, None, refl, sym, ap, ◌∙◌, subst, arith, length-set, length-append, length-drop}
use Rattle.std.specs.List.{position_or_len}
use Rattle.std.specs.Option.{option_map, is_none}
use Rattle.std.proofs.lemmas.List.{map-append, map-set, length-map, set-get_or, get_or-set_same, get_or_push, get_or-drop}
use Rattle.std.proofs.lemmas.List.Quantifiers.{position-Some}
use Rattle.std.proofs.lemmas.Option.{slice_get-map, slice_get-get_or, get_or_from_slice_get, slice_get_within}
use Rattle.std.proofs.lemmas.Bool.{eqb-true, cond-true, cond-false, and_left}
use Rattle.corr_model.specs.declared.heap.DropCause.TheVariants.{PastLimit}
use Rattle.corr_model.specs.Lists.{last_few}
use Rattle.corr_model.specs.Packets.{Parts}
use Rattle.corr_model.specs.Windows.{PlacedPacket, is_within, is_opening, placed}
use Rattle.corr_model.specs.Assembly.{heap_of}
use Rattle.corr_model.specs.LiveHeaps.{LiveHeap, HeapStandsFor, WindowStandsFor, kept_shown}
use Rattle.corr_model.specs.PacketVerdicts.{Makes, Dropped, member_outcome, next_evicted, evicted_of}
use Rattle.corr_model.specs.WindowSteps.{place_of, placed_next, members_now}
use Rattle.corr_model.proofs.WindowLawsHeaps.{opens_where_none, joins, opens, evicts_first}
use Rattle.heap_assembly.specs.LiveStates.{LiveState, live_of}
use Rattle.heap_window.specs.declared.steps.Answer.{Answer}
use Rattle.heap_window.specs.declared.steps.Answer.TheVariants as answers
use Rattle.heap_window.specs.declared.steps.Step.{Step}
use Rattle.heap_window.specs.declared.take.Taken.{Taken}
use Rattle.heap_window.specs.declared.take.Taken.TheVariants as taken
use Rattle.heap_window.specs.WindowStates.{WindowState, lives, StandsFor}
use Rattle.heap_window.specs.Steps.{outcome_by, is_left as is_left_by, IsWholeBy, TakesIn, heap_place, Steps, IsWholeAt, Matches}
use Rattle.heap_window.specs.Takes.{heard_with, outcome_of, is_left, Takes}

-- two states with the same fields are one
same_state : (a b : WindowState) → a.window ≡ b.window → a.limit ≡ b.limit → a.heaps ≡ b.heaps → a ≡ b
same_state a b w l h =
    ap (λ x. record { window = x; limit = a.limit; heaps = a.heaps }) w
    ∙ ap (λ x. record { window = b.window; limit = x; heaps = a.heaps }) l
    ∙ ap (λ x. record { window = b.window; limit = b.limit; heaps = x }) h

place_or_len : (counter : ℕ) (heaps : List LiveState)
    → position_or_len (λ (e : LiveHeap). eqb e.counter counter) (map live_of heaps)
    ≡ position_or_len (λ (e : LiveState). eqb e.counter counter) heaps
place_or_len counter [] = refl
place_or_len counter (e ∷ es) = ap (λ n. cond (not (eqb e.counter counter)) (1 + n) 0) (place_or_len counter es)

-- a place among the heaps is one among the live heaps
place_alike : (counter : ℕ) (heaps : List LiveState) → place_of counter (map live_of heaps) ≡ heap_place counter heaps
place_alike counter heaps =
    ap (λ n. cond (ltb n (length (map live_of heaps))) (Some n) None) (place_or_len counter heaps)
    ∙ ap (λ k. cond (ltb (position_or_len (λ (e : LiveState). eqb e.counter counter) heaps) k)
    (Some (position_or_len (λ (e : LiveState). eqb e.counter counter) heaps)) None) (length-map heaps live_of)

-- the heap at the place that was found has the counter
found_counter : (counter : ℕ) (heaps : List LiveState) (place : ℕ) (e : LiveState)
    → heap_place counter heaps ≡ Some place → slice_get heaps place ≡ Some e → e.counter ≡ counter
found_counter counter heaps place e found there =
    let at = position-Some (λ (f : LiveState). eqb f.counter counter) heaps place e found in
    eqb-true e.counter counter
    (ap (λ (f : LiveState). eqb f.counter counter) (sym (get_or_from_slice_get heaps place e e there)) ∙ at.1)

set_there : (heaps : List LiveState) (place : ℕ) (e : LiveState) → slice_get heaps place ≡ Some e
    → set heaps place e ≡ heaps
set_there heaps place e there =
    ap (set heaps place) (sym (get_or_from_slice_get heaps place e e there)) ∙ set-get_or heaps place e

get_set : (heaps : List LiveState) (place : ℕ) (e new : LiveState) → slice_get heaps place ≡ Some e
    → slice_get (set heaps place new) place ≡ Some new
get_set heaps place e new there =
    let within = slice_get_within heaps place e there in
    let inside : place < length (set heaps place new) = omega (arith, length-set heaps place new) in
    slice_get-get_or (set heaps place new) place e inside ∙ ap Some (get_or-set_same heaps place new e within)

drop_map : (n : ℕ) (heaps : List LiveState) → map live_of (drop n heaps) ≡ drop n (map live_of heaps)
drop_map zero heaps = refl
drop_map (suc n) [] = refl
drop_map (suc n) (e ∷ es) = drop_map n es

last_map : (w : ℕ) (heaps : List LiveState) (e : LiveState)
    → map live_of (last_few w (heaps ++ e ∷ [])) ≡ last_few w (map live_of heaps ++ live_of e ∷ [])
last_map w heaps e =
    let all = heaps ++ e ∷ [] in
    drop_map (length all - w) all
    ∙ ap (λ n. drop (n - w) (map live_of all)) (sym (length-map all live_of))
    ∙ ap (last_few w) (map-append live_of heaps (e ∷ []))

-- the heap that was opened stands last
last_there : (w : ℕ) (heaps : List LiveState) (e : LiveState) → 1 ≤ w
    → slice_get (last_few w (heaps ++ e ∷ [])) (length (last_few w (heaps ++ e ∷ [])) - 1) ≡ Some e
last_there w heaps e low =
    let all = heaps ++ e ∷ [] in
    let n = length all - w in
    let some : length all ≡ length heaps + 1 = length-append heaps (e ∷ []) in
    let kept : length (drop n all) ≡ length all - n = length-drop n all in
    let inside : length (drop n all) - 1 < length (drop n all) = omega arith in
    let at : n + (length (drop n all) - 1) ≡ length heaps = omega arith in
    slice_get-get_or (drop n all) (length (drop n all) - 1) e inside
    ∙ ap Some (get_or-drop n all (length (drop n all) - 1) e ∙ ap (λ k. get_or all k e) at ∙ get_or_push heaps e e
    (length heaps) refl)

-- what is answered is the outcome by the answer of the step
outcome_is : (heaps : List LiveState) (place counter : ℕ) (e : LiveState) (ms : List PlacedPacket) (answer : Answer)
    (what : Taken) → slice_get heaps place ≡ Some e → e.counter ≡ counter
    → HeapStandsFor (live_of e) ms → IsWholeBy e place answer → Matches heaps answer what
    → outcome_of what ≡ outcome_by counter ms answer
outcome_is heaps place counter e ms answers.Part what there same stands whole is = ap outcome_of is
outcome_is heaps place counter e ms (answers.Whole at) what there same stands whole is =
    ap outcome_of is.1 ∙ ap Makes
    (is.2 e ms (ap (slice_get heaps) whole.0 ∙ there) stands ∙ ap (λ c. heap_of c (kept_shown ms)) same)
outcome_is heaps place counter e ms answers.Stale what there same stands whole is = ap outcome_of is
outcome_is heaps place counter e ms (answers.Dropped cause) what there same stands whole is = ap outcome_of is

-- what is left by the one is left by the other
left_alike : (heaps : List LiveState) (answer : Answer) (what : Taken) → Matches heaps answer what
    → is_left_by answer ≡ is_left what
left_alike heaps answers.Part what is = ap is_left (sym is)
left_alike heaps (answers.Whole at) what is = ap is_left (sym is.1)
left_alike heaps answers.Stale what is = ap is_left (sym is)
left_alike heaps (answers.Dropped cause) what is = ap is_left (sym is)

-- the heard packets with one that is within the limit, and with one that is not
with_heard : (limit : ℕ) (h : List Parts) (p : Parts) → is_within limit p ≡ true → heard_with limit h p ≡ h ++ p ∷ []
with_heard limit h p within = cond-true (is_within limit p) (h ++ p ∷ []) h within

-- a packet past the limit
past : (old : WindowState) (p : Parts) (new : WindowState) (step : Step) (what : Taken) → is_within old.limit p ≡ false
    → (place : Option ℕ) → Steps false place old p new step → Matches new.heaps step.answer what
    → Takes old p new (record { opened = step.opened; evicted = step.evicted; what = what })
past old p new step what apart place steps matches =
    let same = same_state new old steps.window steps.limit steps.heaps.0 in
    let dropped : what ≡ taken.Dropped PastLimit =
    subst (λ (s : Step). Matches new.heaps s.answer what) steps.heaps.1 matches in
    let opened : step.opened ≡ false = ap (λ (s : Step). s.opened) steps.heaps.1 in
    record {
      window = steps.window;
      limit = steps.limit;
      stands = λ h stands.
          subst (StandsFor new) (sym (cond-false (is_within old.limit p) (h ++ p ∷ []) h apart))
          (subst (λ (s : WindowState). StandsFor s h) (sym same) stands);
      what = λ h stands. ap outcome_of dropped ∙ sym (cond-false (is_within old.limit p) _ (Dropped PastLimit) apart);
      opened = λ h stands.
          opened ∙ sym (and_left (is_within old.limit p) (is_opening old.window (placed old.window h) p) apart);
      evicted = λ h stands.
          ap (λ (s : Step). s.evicted) steps.heaps.1 ∙ sym (cond-false (is_within old.limit p) _ None apart);
      same = λ closed left. same;
      empty = λ opens_one left. absurd cc;
    }

-- a packet that joins the heap at a place
record IsJoin (old : WindowState) (p : Parts) (place : ℕ) (heap : LiveState) : Type 0 where
  found : heap_place p.counter old.heaps ≡ Some place
  there : slice_get old.heaps place ≡ Some heap

live_there : (old : WindowState) (p : Parts) (place : ℕ) (heap : LiveState) → IsJoin old p place heap
    → slice_get (lives old) place ≡ Some (live_of heap)
live_there old p place heap is = slice_get-map live_of old.heaps place ∙ ap (option_map live_of) is.there

joined_counter : (old : WindowState) (p : Parts) (place : ℕ) (heap : LiveState) → IsJoin old p place heap
    → heap.counter ≡ p.counter
joined_counter old p place heap is = found_counter p.counter old.heaps place heap is.found is.there

-- the heap after the packet stands for the packet's members
joined_members : (old : WindowState) (p : Parts) (place : ℕ) (before after : LiveState) (answer : Answer)
    (h : List Parts) → IsJoin old p place before → TakesIn before place p after answer → StandsFor old h
    → HeapStandsFor (live_of after) (members_now old.window h p)
joined_members old p place before after answer h is takes stands =
    let j = joins old.window (lives old) h p place (live_of before) stands (live_there old p place before is)
    (joined_counter old p place before is) in
    subst (HeapStandsFor (live_of after)) (sym j.members)
    (takes.stands j.before (placed_next old.window h p) refl j.stood)

joined_outcome : (old : WindowState) (p : Parts) (place : ℕ) (before after : LiveState) (answer : Answer)
    (h : List Parts) → IsJoin old p place before → TakesIn before place p after answer → StandsFor old h
    → member_outcome p.counter (members_now old.window h p) ≡ outcome_by p.counter (members_now old.window h p) answer
joined_outcome old p place before after answer h is takes stands =
    let j = joins old.window (lives old) h p place (live_of before) stands (live_there old p place before is)
    (joined_counter old p place before is) in
    subst (λ ms. member_outcome p.counter ms ≡ outcome_by p.counter ms answer) (sym j.members)
    (takes.outcome j.before (placed_next old.window h p) refl j.stood)

joined_window : (old new : WindowState) (p : Parts) (place : ℕ) (before after : LiveState) (answer : Answer)
    (h : List Parts) → IsJoin old p place before → TakesIn before place p after answer
    → new.window ≡ old.window → new.heaps ≡ set old.heaps place after → StandsFor old h → StandsFor new (h ++ p ∷ [])
joined_window old new p place before after answer h is takes same heaps stands =
    let counter = joined_counter old p place before is in
    let j = joins old.window (lives old) h p place (live_of before) stands (live_there old p place before is) counter in
    let members = joined_members old p place before after answer h is takes stands in
    let now = j.stands (live_of after) (takes.counter ∙ counter) members in
    let lives_are : lives new ≡ set (lives old) place (live_of after) =
    ap (map live_of) heaps ∙ map-set live_of old.heaps place after in
    subst (λ w. WindowStandsFor w (lives new) (h ++ p ∷ [])) (sym same)
    (subst (λ hs. WindowStandsFor old.window hs (h ++ p ∷ [])) (sym lives_are) now)

join : (old : WindowState) (p : Parts) (new : WindowState) (step : Step) (what : Taken) → is_within old.limit p ≡ true
    → (place : ℕ) → heap_place p.counter old.heaps ≡ Some place
    → Steps true (Some place) old p new step → Matches new.heaps step.answer what
    → Takes old p new (record { opened = step.opened; evicted = step.evicted; what = what })
join old p new step what within place found steps matches =
    let j = steps.heaps.0 in
    let opened = steps.heaps.1 in
    let is : IsJoin old p place j.before = record { found = found; there = j.there } in
    let closed : (h : List Parts) → StandsFor old h → is_opening old.window (placed old.window h) p ≡ false =
    λ h stands. opens_where_none old.window (placed old.window h) p (lives old) stands ∙ ap is_none
    (place_alike p.counter old.heaps ∙ found) in
    record {
      window = steps.window;
      limit = steps.limit;
      stands = λ h stands.
          subst (StandsFor new) (sym (with_heard old.limit h p within))
          (joined_window old new p place j.before j.after step.answer h is j.takes steps.window j.is stands);
      what = λ h stands.
          outcome_is new.heaps place p.counter j.after (members_now old.window h p) step.answer what
          (ap (λ hs. slice_get hs place) j.is ∙ get_set old.heaps place j.before j.after j.there)
          (j.takes.counter ∙ joined_counter old p place j.before is)
          (joined_members old p place j.before j.after step.answer h is j.takes stands) j.takes.whole matches
          ∙ sym (joined_outcome old p place j.before j.after step.answer h is j.takes stands)
          ∙ sym (cond-true (is_within old.limit p) (member_outcome p.counter (members_now old.window h p))
          (Dropped PastLimit) within);
      opened = λ h stands.
          opened ∙ sym (closed h stands) ∙ sym (ap (λ b. b && is_opening old.window (placed old.window h) p) within);
      evicted = λ h stands.
          steps.heaps.2
          ∙ sym (cond-false (is_opening old.window (placed old.window h) p)
          (evicted_of old.window (placed old.window h)) None (closed h stands))
          ∙ sym (cond-true (is_within old.limit p) (next_evicted old.window (placed old.window h) p) None within);
      same = λ none left.
          let kept = j.takes.same (left_alike new.heaps step.answer what matches ∙ left) in
          same_state new old steps.window steps.limit
          (j.is ∙ ap (set old.heaps place) kept ∙ set_there old.heaps place j.before j.there);
      empty = λ opens_one left. absurd cc;
    }

-- a packet that opens a heap
opened_members : (old : WindowState) (p : Parts) (before after : LiveState) (place : ℕ) (answer : Answer)
    (h : List Parts) → members_now old.window h p ≡ placed_next old.window h p ∷ []
    → HeapStandsFor (live_of before) [] → TakesIn before place p after answer
    → HeapStandsFor (live_of after) (members_now old.window h p)
opened_members old p before after place answer h members empty takes =
    subst (HeapStandsFor (live_of after)) (sym members) (takes.stands [] (placed_next old.window h p) refl empty)

opened_outcome : (old : WindowState) (p : Parts) (before after : LiveState) (place : ℕ) (answer : Answer)
    (h : List Parts) → members_now old.window h p ≡ placed_next old.window h p ∷ []
    → HeapStandsFor (live_of before) [] → TakesIn before place p after answer
    → member_outcome p.counter (members_now old.window h p) ≡ outcome_by p.counter (members_now old.window h p) answer
opened_outcome old p before after place answer h members empty takes =
    subst (λ ms. member_outcome p.counter ms ≡ outcome_by p.counter ms answer) (sym members)
    (takes.outcome [] (placed_next old.window h p) refl empty)

open_one : (old : WindowState) (p : Parts) (new : WindowState) (step : Step) (what : Taken) → 1 ≤ old.window
    → is_within old.limit p ≡ true → heap_place p.counter old.heaps ≡ None
    → Steps true None old p new step → Matches new.heaps step.answer what
    → Takes old p new (record { opened = step.opened; evicted = step.evicted; what = what })
open_one old p new step what low within unknown steps matches =
    let w = old.window in
    let o = steps.heaps in
    let counter : o.after.counter ≡ p.counter = o.takes.counter ∙ o.counter in
    let unplaced = place_alike p.counter old.heaps ∙ unknown in
    let lives_are : lives new ≡ last_few w (lives old ++ live_of o.after ∷ []) =
    ap (map live_of) o.is ∙ last_map w old.heaps o.after in
    let opens_now : (h : List Parts) → StandsFor old h → is_opening w (placed w h) p ≡ true =
    λ h stands. opens_where_none w (placed w h) p (lives old) stands ∙ ap is_none unplaced in
    let last : slice_get new.heaps (length new.heaps - 1) ≡ Some o.after =
    subst (λ hs. slice_get hs (length hs - 1) ≡ Some o.after) (sym o.is) (last_there w old.heaps o.after low) in
    record {
      window = steps.window;
      limit = steps.limit;
      stands = λ h stands.
          let n = opens w (lives old) h p low stands unplaced in
          let now = n.stands (live_of o.after) counter
          (opened_members old p o.before o.after _ step.answer h n.members o.empty o.takes) in
          subst (StandsFor new) (sym (with_heard old.limit h p within))
          (subst (λ v. WindowStandsFor v (lives new) (h ++ p ∷ [])) (sym steps.window)
          (subst (λ hs. WindowStandsFor w hs (h ++ p ∷ [])) (sym lives_are) now));
      what = λ h stands.
          let n = opens w (lives old) h p low stands unplaced in
          outcome_is new.heaps (length new.heaps - 1) p.counter o.after (members_now w h p) step.answer
          what last counter
          (opened_members old p o.before o.after _ step.answer h n.members o.empty o.takes) o.takes.whole matches
          ∙ sym (opened_outcome old p o.before o.after _ step.answer h n.members o.empty o.takes)
          ∙ sym (cond-true (is_within old.limit p) (member_outcome p.counter (members_now w h p))
          (Dropped PastLimit) within);
      opened = λ h stands.
          o.opened ∙ sym (opens_now h stands) ∙ sym (ap (λ b. b && is_opening w (placed w h) p) within);
      evicted = λ h stands.
          o.evicted ∙ sym (evicts_first w (lives old) h low stands)
          ∙ sym (cond-true (is_opening w (placed w h) p) (evicted_of w (placed w h)) None (opens_now h stands))
          ∙ sym (cond-true (is_within old.limit p) (next_evicted w (placed w h) p) None within);
      same = λ none left. absurd cc;
      empty = λ opens_one left.
          let kept = o.takes.same (left_alike new.heaps step.answer what matches ∙ left) in
          record {
            heap = o.before;
            counter_is = o.counter;
            empty = o.empty;
            heaps = o.is ∙ ap (λ e. last_few w (old.heaps ++ e ∷ [])) kept;
          };
    }

by_case : (old : WindowState) (p : Parts) (new : WindowState) (step : Step) (what : Taken) → 1 ≤ old.window
    → (within : Bool) (place : Option ℕ) → is_within old.limit p ≡ within → heap_place p.counter old.heaps ≡ place
    → Steps within place old p new step → Matches new.heaps step.answer what
    → Takes old p new (record { opened = step.opened; evicted = step.evicted; what = what })
by_case old p new step what low false place within found steps matches =
    past old p new step what within place steps matches
by_case old p new step what low true None within found steps matches =
    open_one old p new step what low within found steps matches
by_case old p new step what low true (Some place) within found steps matches =
    join old p new step what within place found steps matches

-- a step, and what is answered on it, is what the definitions say
pub takes : (old : WindowState) (p : Parts) (new : WindowState) (step : Step) (what : Taken) (self : WindowState × ℕ)
    (at : ℕ) → self ≡ (new, at)
    → Steps (is_within old.limit p) (heap_place p.counter old.heaps) old p new step → Matches new.heaps step.answer what
    → Takes old p self.0 (record { opened = step.opened; evicted = step.evicted; what = what })
takes old p new step what self at is steps matches =
    subst (λ now. Takes old p now (record { opened = step.opened; evicted = step.evicted; what = what }))
    (sym (ap (λ (s : WindowState × ℕ). s.0) is))
    (by_case old p new step what steps.low _ _ refl refl steps matches)

pub matches_at : (heaps : List LiveState) (answer other : Answer) (what : Taken) → answer ≡ other
    → Matches heaps other what → Matches heaps answer what
matches_at heaps answer other what is matches = subst (λ a. Matches heaps a what) (sym is) matches

-- where a heap became whole, one stands at its place
whole_by : (heaps : List LiveState) (e : LiveState) (place at : ℕ) (answer : Answer) → slice_get heaps place ≡ Some e
    → IsWholeBy e place answer → answer ≡ answers.Whole at → IsWholeAt heaps at
whole_by heaps e place at answer there whole is =
    let h = subst (IsWholeBy e place) is whole in
    record { heap = e; there = ap (slice_get heaps) h.0 ∙ there; whole = h.1 }

pub whole_at : (within : Bool) (place : Option ℕ) (old : WindowState) (p : Parts) (new : WindowState) (step : Step)
    (at : ℕ) → Steps within place old p new step → step.answer ≡ answers.Whole at → IsWholeAt new.heaps at
whole_at false place old p new step at steps is = let past = ap (λ (s : Step). s.answer) steps.heaps.1 in absurd cc
whole_at true None old p new step at steps is =
    let o = steps.heaps in
    let last : slice_get new.heaps (length new.heaps - 1) ≡ Some o.after =
    subst (λ hs. slice_get hs (length hs - 1) ≡ Some o.after) (sym o.is)
    (last_there old.window old.heaps o.after steps.low) in
    whole_by new.heaps o.after (length new.heaps - 1) at step.answer last o.takes.whole is
whole_at true (Some place) old p new step at steps is =
    let j = steps.heaps.0 in
    whole_by new.heaps j.after place at step.answer
    (ap (λ hs. slice_get hs place) j.is ∙ get_set old.heaps place j.before j.after j.there) j.takes.whole is
