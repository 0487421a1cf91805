-- No heap is used in an accumulation that its stream did not reach.
use Rattle.std.proofs.Common.{◌≡◌, ℕ, ◌+◌, ◌-◌, ◌/◌, ◌%◌, ◌<◌, ◌≤◌, max, Bool, true, false, not, cond, eqb, ltb, leb, ◌&&◌, List, [], ◌∷◌, ◌++◌, Option, Some, None, refl, ap, ◌∙◌, arith}
use Rattle.std.specs.Prelude.{option_map, unwrap_or}
use Rattle.std.specs.List.{list_any}
use Rattle.std.proofs.lemmas.Bool.{cond-true, cond_both, false_from_ne_true}
use Rattle.corr_model.specs.declared.plan.Plan.{Plan}
use Rattle.corr_model.specs.declared.verdict.Verdict.{Verdict}
use Rattle.corr_model.specs.declared.verdict.Verdict.TheVariants.{Foreign, BeforeStart, OffGrid, Wild, Beyond, Late, Twice, Used, Stop}
use Rattle.corr_model.specs.Lists.{through_first}
use Rattle.corr_model.specs.Assembly.{WholeHeap}
use Rattle.corr_model.specs.Tables.{Sight}
use Rattle.corr_model.specs.Streams.{JudgedHeap, above_top, cell, cell_in, floor_of, grid, heaps, heap_verdict, is_used_at, judge_next, raises, reach, stops, verdict_at, whole_in}
use Rattle.corr_model.proofs.Turns.{in_turn_keeps}
use Rattle.corr_model.proofs.Pushes.{above_top_push, cell_in_stays}
use Rattle.corr_model.proofs.StreamLawsCells.{used_is}

-- a test that fails leads on
passed : (b : Bool) (v w : Verdict) (n t : ℕ) → (v ≡ Used n t → ⊥) → cond b v w ≡ Used n t
    → (b ≡ false) × (w ≡ Used n t)
passed true v w n t other h = absurd (other h)
passed false v w n t other h = (refl, h)

used_here : (plan : Plan) (js : List JudgedHeap) (m u n t : ℕ) → verdict_at plan js m u ≡ Used n t → m ≡ n
used_here plan js m u n t h =
    let first = passed (ltb 0 plan.leap && leb (above_top plan js + plan.leap) m) Wild _ n t (λ e. cc) h in
    let second = passed (leb plan.accumulations m) Beyond _ n t (λ e. cc) first.1 in
    let third = passed (ltb m (floor_of plan js)) Late _ n t (λ e. cc) second.1 in
    let fourth = passed (list_any (λ j. is_used_at m u j.verdict) js) Twice (Used m u) n t (λ e. cc) third.1 in
    let e = fourth.1 in
    cc

-- one more than the accumulation of what is said
reach_of : Plan → Option Sight → ℕ
reach_of plan o = unwrap_or (option_map (λ s. grid plan s.timestamp / plan.heaps + 1) o) 0

reached : (plan : Plan) (antenna : ℕ) (js : List JudgedHeap) (o : Option Sight) (n t : ℕ)
    → heap_verdict plan antenna js o ≡ Used n t → reach_of plan o ≡ n + 1
unfolding reach_of
reached plan antenna js None n t h = absurd cc
reached plan antenna js (Some s) n t h =
    let first = passed (not (eqb s.antenna antenna)) (Foreign s.antenna) _ n t (λ e. cc) h in
    let second = passed (ltb s.timestamp plan.start) BeforeStart _ n t (λ e. cc) first.1 in
    let third = passed (not (eqb ((s.timestamp - plan.start) % plan.step) 0)) OffGrid _ n t (λ e. cc) second.1 in
    ap (λ k. k + 1) (used_here plan js (grid plan s.timestamp / plan.heaps)
    (grid plan s.timestamp % plan.heaps) n t third.1)

-- a heap that is used in an accumulation reaches it
reach_used : (plan : Plan) (antenna : ℕ) (js : List JudgedHeap) (heap : WholeHeap) (n t : ℕ)
    → is_used_at n t (judge_next plan antenna js heap).verdict ≡ true
    → reach plan (judge_next plan antenna js heap) ≡ n + 1
unfolding reach_of
reach_used plan antenna js heap n t h =
    let o = (judge_next plan antenna js heap).seen in
    let step = passed (stops heap) Stop (heap_verdict plan antenna js o) n t (λ e. cc)
    (used_is n t (judge_next plan antenna js heap).verdict h) in
    reached plan antenna js o n t step.1

raises_used : (v : Verdict) (n t : ℕ) → is_used_at n t v ≡ true → raises v ≡ true
raises_used (Used m u) n t h = refl
raises_used other n t h = absurd cc

-- none is used past the top
NoneAbove : Plan → List JudgedHeap → Type 0
NoneAbove plan js = (n t : ℕ) → above_top plan js ≤ n → cell_in js n t ≡ None

none_step : (plan : Plan) (antenna : ℕ) (js : List JudgedHeap) (heap : WholeHeap) → NoneAbove plan js
    → NoneAbove plan (js ++ judge_next plan antenna js heap ∷ [])
unfolding NoneAbove
none_step plan antenna js heap before = λ n t above.
    let j = judge_next plan antenna js heap in
    let push = above_top_push plan js j in
    let up : above_top plan js ≤ cond (raises j.verdict) (max (above_top plan js) (reach plan j)) (above_top plan js) =
    cond_both (raises j.verdict) (max (above_top plan js) (reach plan j)) (above_top plan js)
    (λ top. above_top plan js ≤ top) (λ e. omega arith) (λ e. omega arith) in
    let low : above_top plan js ≤ n = omega arith in
    let unused : is_used_at n t j.verdict ≡ false = false_from_ne_true (is_used_at n t j.verdict) (λ used.
    let more = cond-true (raises j.verdict) (max (above_top plan js) (reach plan j)) (above_top plan js)
    (raises_used j.verdict n t used) in
    let reaches = reach_used plan antenna js heap n t used in
    let over : n < max (above_top plan js) (reach plan j) = omega arith in
    omega arith) in
    cell_in_stays js j n t unused ∙ before n t low

none_first : (plan : Plan) → NoneAbove plan []
unfolding NoneAbove
none_first plan = λ n t above. refl

pub unreached_cells : (plan : Plan) (antenna : ℕ) (l : List (List ℕ)) (n t : ℕ)
    → above_top plan (heaps plan antenna l) ≤ n → cell plan antenna l n t ≡ None
unfolding NoneAbove
unreached_cells plan antenna l n t above =
    let all : NoneAbove plan (heaps plan antenna l) =
    in_turn_keeps (NoneAbove plan) (judge_next plan antenna) (none_first plan)
    (λ js heap before. none_step plan antenna js heap before) (through_first stops (whole_in plan l)) in
    all n t above
