-- What a run appends is a front of the output.
use Rattle.std.proofs.Common.{◌≡◌, ℕ, zero, suc, ◌+◌, ◌-◌, ◌<◌, ◌≤◌, Bool, true, false, cond, eqb, List, [], ◌∷◌, ◌++◌, flat_map, refl, sym, ap, ◌∙◌, arith}
use Rattle.std.proofs.lemmas.List.{append_assoc, append-nil}
use Rattle.std.proofs.lemmas.Grind.{flat_map-append}
use Rattle.std.proofs.lemmas.Bool.{eq-eqb, ne_eqb}
use Rattle.corr_model.specs.declared.plan.Plan.{Plan}
use Rattle.corr_model.specs.Lists.{numbers}
use Rattle.corr_model.specs.Outputs.{output}
use Rattle.corr_model.specs.Visibilities.{Lists}
use Rattle.corr_model.proofs.CountedLists.{numbers_push}
use Rattle.corr_machine.specs.Machines.{State, Event, Packet, End, Put, Take, Store, Send, enabled, effect, step, stream_at, IsProper}
use Rattle.corr_machine.specs.Runs.{after, OutputHeaps, heaps_of, output_of, sent_with, appended_by, appends, appended, output_before, IsFront}
use Rattle.corr_machine.proofs.Floors.{floor_within}

-- one heap more
pub before_next : (plan : Plan) (heaps : OutputHeaps) (n : ℕ)
    → output_before plan heaps (n + 1) ≡ output_before plan heaps n ++ sent_with plan heaps n
before_next plan heaps n =
    let next : n + 1 ≡ suc n = omega arith in
    let start : 0 + n ≡ n = omega arith in
    ap (output_before plan heaps) next
    ∙ ap (flat_map (sent_with plan heaps)) (numbers_push 0 n ∙ ap (λ k. numbers 0 n ++ k ∷ []) start)
    ∙ flat_map-append (sent_with plan heaps) (numbers 0 n) (n ∷ [])
    ∙ ap (λ l. output_before plan heaps n ++ l) (append-nil (sent_with plan heaps n))

-- an event that is enabled appends the heaps that it counts as sent
pub effect_appends : (plan : Plan) (heaps : OutputHeaps) (state : State) (e : Event)
    → output_before plan heaps state.sent ++ appended_by plan heaps state.sent e
    ≡ output_before plan heaps (effect plan state e).sent
effect_appends plan heaps state (Packet a b) = append-nil _
effect_appends plan heaps state (End a) = append-nil _
effect_appends plan heaps state (Put a) = append-nil _
effect_appends plan heaps state (Take w s) = append-nil _
effect_appends plan heaps state (Store w) = append-nil _
effect_appends plan heaps state Send = sym (before_next plan heaps state.sent)

by_choice : (plan : Plan) (heaps : OutputHeaps) (state : State) (e : Event) (on : Bool)
    → output_before plan heaps state.sent ++ cond on (appended_by plan heaps state.sent e) []
    ≡ output_before plan heaps (cond on (effect plan state e) state).sent
by_choice plan heaps state e true = effect_appends plan heaps state e
by_choice plan heaps state e false = append-nil (output_before plan heaps state.sent)

-- what an event appends comes after the heaps sent before
pub step_appends : (plan : Plan) (heaps : OutputHeaps) (state : State) (e : Event)
    → output_before plan heaps state.sent ++ appends plan heaps state e
    ≡ output_before plan heaps (step plan state e).sent
step_appends plan heaps state e = by_choice plan heaps state e (enabled plan state e)

-- what events append comes after the heaps sent before
pub run_appends : (plan : Plan) (heaps : OutputHeaps) (es : List Event) (state : State)
    → output_before plan heaps state.sent ++ appended plan heaps state es
    ≡ output_before plan heaps (after plan state es).sent
run_appends plan heaps [] state = append-nil (output_before plan heaps state.sent)
run_appends plan heaps (e ∷ es) state =
    sym (append_assoc (output_before plan heaps state.sent) (appends plan heaps state e)
    (appended plan heaps (step plan state e) es))
    ∙ ap (λ l. l ++ appended plan heaps (step plan state e) es) (step_appends plan heaps state e)
    ∙ run_appends plan heaps es (step plan state e)

-- the heaps before number n, with the stop heap where all are
abbrev closed_with : Plan → OutputHeaps → ℕ → List (List ℕ)
closed_with plan heaps n =
    heaps.head ++ (flat_map heaps.heap (numbers 0 n) ++ (cond (eqb n plan.accumulations) heaps.stop []))

heaps_next : (heaps : OutputHeaps) (n : ℕ)
    → flat_map heaps.heap (numbers 0 (n + 1)) ≡ flat_map heaps.heap (numbers 0 n) ++ heaps.heap n
heaps_next heaps n =
    let next : n + 1 ≡ suc n = omega arith in
    let start : 0 + n ≡ n = omega arith in
    ap (λ k. flat_map heaps.heap (numbers 0 k)) next
    ∙ ap (flat_map heaps.heap) (numbers_push 0 n ∙ ap (λ k. numbers 0 n ++ k ∷ []) start)
    ∙ flat_map-append heaps.heap (numbers 0 n) (n ∷ []) ∙ ap (λ l. flat_map heaps.heap (numbers 0 n) ++ l)
    (append-nil (heaps.heap n))

regroup : {A : Type 0} (h f g c : List A) → (h ++ (f ++ [])) ++ (g ++ c) ≡ h ++ ((f ++ g) ++ c)
regroup h f g c =
    append_assoc h (f ++ []) (g ++ c) ∙ ap (λ l. h ++ (l ++ (g ++ c))) (append-nil f) ∙ ap (λ l. h ++ l)
    (sym (append_assoc f g c))

-- the first heaps, written as the output is
before_is : (plan : Plan) (heaps : OutputHeaps) (n : ℕ) → suc n ≤ plan.accumulations
    → output_before plan heaps (suc n) ≡ closed_with plan heaps (suc n)
before_is plan heaps zero h =
    append-nil (sent_with plan heaps 0) ∙ ap (λ l. heaps.head ++ (l ++ cond (eqb 1 plan.accumulations) heaps.stop []))
    (sym (append-nil (heaps.heap 0)))
before_is plan heaps (suc n) h =
    let next : suc n + 1 ≡ suc (suc n) = omega arith in
    let short : eqb (suc n) plan.accumulations ≡ false = ne_eqb (suc n) plan.accumulations (λ e. omega arith) in
    let later : eqb (suc n) 0 ≡ false = ne_eqb (suc n) 0 (λ e. omega arith) in
    let f = flat_map heaps.heap (numbers 0 (suc n)) in
    let g = heaps.heap (suc n) in
    let c = cond (eqb (suc n + 1) plan.accumulations) heaps.stop [] in
    let first : output_before plan heaps (suc n) ≡ heaps.head ++ (f ++ []) =
    before_is plan heaps n (omega arith) ∙ ap (λ b. heaps.head ++ (f ++ cond b heaps.stop [])) short in
    let last : sent_with plan heaps (suc n) ≡ g ++ c = ap (λ b. cond b heaps.head [] ++ (g ++ c)) later in
    ap (output_before plan heaps) (sym next) ∙ before_next plan heaps (suc n)
    ∙ ap (λ l. l ++ sent_with plan heaps (suc n)) first
    ∙ ap (λ l. (heaps.head ++ (f ++ [])) ++ l) last
    ∙ regroup heaps.head f g c
    ∙ ap (λ l. heaps.head ++ (l ++ c)) (sym (heaps_next heaps (suc n)))
    ∙ ap (closed_with plan heaps) next

all_of : (plan : Plan) (heaps : OutputHeaps) (n : ℕ) → plan.accumulations ≡ suc n
    → output_before plan heaps plan.accumulations ≡ output_of plan heaps
all_of plan heaps n e =
    ap (output_before plan heaps) e ∙ before_is plan heaps n (omega (arith, e)) ∙ ap (closed_with plan heaps) (sym e)
    ∙ ap (λ c. heaps.head ++ (flat_map heaps.heap (numbers 0 plan.accumulations) ++ cond c heaps.stop []))
    (eq-eqb plan.accumulations plan.accumulations refl)

pred_of : (n : ℕ) → 0 < n → (m : ℕ) × (n ≡ suc m)
pred_of zero h = absurd (omega arith)
pred_of (suc n) h = (n, refl)

-- all heaps are the output
pub before_all : (plan : Plan) (heaps : OutputHeaps) → 0 < plan.accumulations
    → output_before plan heaps plan.accumulations ≡ output_of plan heaps
before_all plan heaps some = let p = pred_of plan.accumulations some in all_of plan heaps p.0 p.1

front_add : (plan : Plan) (heaps : OutputHeaps) (n k : ℕ)
    → IsFront (output_before plan heaps n) (output_before plan heaps (n + k))
front_add plan heaps n zero =
    record {
      rest = [];
      is =
          ap (output_before plan heaps) (let e : n + 0 ≡ n = omega arith in e) ∙ sym
          (append-nil (output_before plan heaps n));
    }
front_add plan heaps n (suc k) =
    let before = front_add plan heaps n k in
    let next : n + suc k ≡ n + k + 1 = omega arith in
    record {
      rest = before.rest ++ sent_with plan heaps (n + k);
      is = ap (output_before plan heaps) next ∙ before_next plan heaps (n + k) ∙ ap
          (λ l. l ++ sent_with plan heaps (n + k)) before.is
          ∙ append_assoc (output_before plan heaps n) before.rest (sent_with plan heaps (n + k));
    }

-- the first heaps are a front of the output
pub before_front : (plan : Plan) (heaps : OutputHeaps) (n : ℕ) → 0 < plan.accumulations → n ≤ plan.accumulations
    → IsFront (output_before plan heaps n) (output_of plan heaps)
before_front plan heaps n some h =
    let sum : n + (plan.accumulations - n) ≡ plan.accumulations = omega arith in
    let front = front_add plan heaps n (plan.accumulations - n) in
    record {
      rest = front.rest;
      is = sym (before_all plan heaps some) ∙ ap (output_before plan heaps) (sym sum) ∙ front.is;
    }

-- a proper state has not sent more than all
pub sent_within : (plan : Plan) (state : State) → 0 < plan.antennas → IsProper plan state
    → state.sent ≤ plan.accumulations
sent_within plan state some h =
    let first = h.stream 0 some in
    omega (
      arith,
      first.not_behind,
      first.closed,
      floor_within plan 0 (stream_at state 0).strings
          (stream_at state 0).ended,
    )

-- the output of these lists is the output of its heaps
pub output_is : (plan : Plan) (lists : Lists) → output_of plan (heaps_of plan lists) ≡ output plan lists
output_is plan lists = refl
