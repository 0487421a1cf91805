-- A heap is used at a place once and above the floor, so what is closed stays as it is.
use Rattle.std.proofs.Common.{◌≡◌, ℕ, ◌+◌, ◌-◌, ◌/◌, ◌%◌, ◌<◌, ◌≤◌, max, Bool, true, false, not, cond, eqb, ltb, leb, ◌&&◌, ◌||◌, List, [], ◌∷◌, ◌++◌, length, Option, Some, None, refl, sym, ap, ◌∙◌, subst, arith, inl, inr}
use Rattle.std.specs.List.{list_any, count_by}
use Rattle.std.specs.Option.{option_to_list}
use Rattle.std.proofs.lemmas.List.{append-nil, append_assoc}
use Rattle.std.proofs.lemmas.List.Sums.{fold_push}
use Rattle.std.proofs.lemmas.List.Folds.{list_any-append}
use Rattle.std.proofs.lemmas.Bool.{ltb-false, leb-false, eqb-true, and_parts, or_parts, or_from, cond-true, cond-false, cond_both, cases_Bool, false_from_ne_true}
use Rattle.corr_model.specs.declared.plan.Plan.{Plan}
use Rattle.corr_model.specs.declared.verdict.Verdict.{Verdict}
use Rattle.corr_model.specs.declared.verdict.Verdict.TheVariants.{Foreign, BeforeStart, OffGrid, Wild, Beyond, Late, Twice, Used, Stop}
use Rattle.corr_model.specs.Lists.{in_turn, through_first}
use Rattle.corr_model.specs.Packets.{Parts}
use Rattle.corr_model.specs.Windows.{heard_in, placed_in}
use Rattle.corr_model.specs.Assembly.{WholeHeap, whole_now}
use Rattle.corr_model.specs.Tables.{Sight}
use Rattle.corr_model.specs.Streams.{JudgedHeap, stops, grid, reach, raises, above_top, floor_of, is_used_at, verdict_at, heap_verdict, judged_as, judge_next, whole_in, heaps, has_stopped}
use Rattle.corr_model.proofs.Turns.{in_turn_keeps, by_pushes, by_pushes_from}
use Rattle.corr_model.proofs.Pushes.{above_top_push}
use Rattle.corr_model.proofs.StreamPushes.{whole_in_push, heaps_push, heaps_stay}
use Rattle.corr_model.proofs.StreamLawsTaken.{cases_ended, heaps_ended}

-- used at a place is used there
pub used_is : (n t : ℕ) (v : Verdict) → is_used_at n t v ≡ true → v ≡ Used n t
used_is n t (Used m u) h =
    let parts = and_parts (eqb m n) (eqb u t) h in
    let first = eqb-true m n parts.0 in
    let second = eqb-true u t parts.1 in
    cc
used_is n t other h = absurd cc

-- a test that fails leads on
passed : (b : Bool) (v w : Verdict) (n t : ℕ) → (v ≡ Used n t → ⊥) → cond b v w ≡ Used n t
    → (b ≡ false) × (w ≡ Used n t)
passed true v w n t other h = absurd (other h)
passed false v w n t other h = (refl, h)

-- a place that no earlier heap was used at, in an accumulation that is not closed
pub record IsFresh (plan : Plan) (js : List JudgedHeap) (n t : ℕ) : Type 0 where
  pub above : floor_of plan js ≤ n
  pub inside : n < plan.accumulations
  pub fresh : list_any (λ j. is_used_at n t j.verdict) js ≡ false

fresh_at : (plan : Plan) (js : List JudgedHeap) (m u n t : ℕ) → verdict_at plan js m u ≡ Used n t → IsFresh plan js n t
fresh_at plan js m u n t h =
    let first = passed (ltb 0 plan.leap && leb (above_top plan js + plan.leap) m) Wild _ n t (λ e. cc) h in
    let second = passed (leb plan.accumulations m) Beyond _ n t (λ e. cc) first.1 in
    let third = passed (ltb m (floor_of plan js)) Late _ n t (λ e. cc) second.1 in
    let fourth = passed (list_any (λ j. is_used_at m u j.verdict) js) Twice (Used m u) n t (λ e. cc) third.1 in
    let same : m ≡ n = let e = fourth.1 in cc in
    let place : u ≡ t = let e = fourth.1 in cc in
    let low = ltb-false m (floor_of plan js) third.0 in
    let high = leb-false plan.accumulations m second.0 in
    let here : IsFresh plan js m u = record { above = low; inside = high; fresh = fourth.0 } in
    subst (IsFresh plan js n) place (subst (λ k. IsFresh plan js k u) same here)

fresh_seen : (plan : Plan) (antenna : ℕ) (js : List JudgedHeap) (o : Option Sight) (n t : ℕ)
    → heap_verdict plan antenna js o ≡ Used n t → IsFresh plan js n t
fresh_seen plan antenna js None n t h = absurd cc
fresh_seen plan antenna js (Some s) n t h =
    let first = passed (not (eqb s.antenna antenna)) (Foreign s.antenna) _ n t (λ e. cc) h in
    let second = passed (ltb s.timestamp plan.start) BeforeStart _ n t (λ e. cc) first.1 in
    let third = passed (not (eqb ((s.timestamp - plan.start) % plan.step) 0)) OffGrid _ n t (λ e. cc) second.1 in
    fresh_at plan js (grid plan s.timestamp / plan.heaps) (grid plan s.timestamp % plan.heaps) n t third.1

-- a heap that is used at a place is the first one there, and its accumulation is not closed
pub fresh_used : (plan : Plan) (antenna : ℕ) (js : List JudgedHeap) (heap : WholeHeap) (o : Option Sight) (n t : ℕ)
    → is_used_at n t (judged_as plan antenna js heap o).verdict ≡ true → IsFresh plan js n t
fresh_used plan antenna js heap o n t h =
    let step = passed (stops heap) Stop (heap_verdict plan antenna js o) n t (λ e. cc)
    (used_is n t (judged_as plan antenna js heap o).verdict h) in
    fresh_seen plan antenna js o n t step.1

-- an element more counts where it passes
pub count_push : {A : Type 0} (test : A → Bool) (xs : List A) (x : A)
    → count_by test (xs ++ x ∷ []) ≡ count_by test xs + cond (test x) 1 0
count_push test xs x = fold_push _ 0 xs x

none_counted : {A : Type 0} (test : A → Bool) (xs : List A) → list_any test xs ≡ false → count_by test xs ≡ 0
none_counted test =
    by_pushes (λ xs. list_any test xs ≡ false → count_by test xs ≡ 0) (λ none. refl)
    (λ xs x before none.
    let parts = or_parts (list_any test xs) (list_any test (x ∷ [])) (sym (list_any-append test xs (x ∷ [])) ∙ none) in
    let fails = (or_parts (test x) false parts.1).0 in
    let earlier = before parts.0 in
    count_push test xs x ∙ ap (λ b. count_by test xs + cond b 1 0) fails ∙ (omega arith))

at_most_one : {A : Type 0} (test : A → Bool) (xs : List A) (x : A) → count_by test xs ≤ 1
    → (test x ≡ true → list_any test xs ≡ false) → count_by test (xs ++ x ∷ []) ≤ 1
at_most_one test xs x before first =
    let push = count_push test xs x in
    elim (cases_Bool (test x)) [
      | inl passes_it ↦
          let none = none_counted test xs (first passes_it) in
          let one : cond {A = ℕ} (test x) 1 0 ≡ 1 = cond-true (test x) 1 0 passes_it in
          omega arith
      | inr fails ↦ let zero_more : cond {A = ℕ} (test x) 1 0 ≡ 0 = cond-false (test x) 1 0 fails in omega arith
    ]

-- at most one heap is used at a place
pub one_cell : (plan : Plan) (antenna : ℕ) (l : List (List ℕ)) (n t : ℕ)
    → count_by (λ j. is_used_at n t j.verdict) (heaps plan antenna l) ≤ 1
one_cell plan antenna l n t =
    in_turn_keeps (λ js. count_by (λ (j : JudgedHeap). is_used_at n t j.verdict) js ≤ 1)
    (judge_next plan antenna) (omega arith)
    (λ js heap before.
    at_most_one (λ (j : JudgedHeap). is_used_at n t j.verdict) js (judge_next plan antenna js heap) before
    (λ used. (fresh_used plan antenna js heap _ n t used).fresh))
    (through_first stops (whole_in plan l))

-- what a string more does to the heaps: nothing, or one is judged by those before it
pub data HeapsMove (plan : Plan) (antenna : ℕ) (before after : List JudgedHeap) : Type 0 where
  Stay : after ≡ before → HeapsMove plan antenna before after
  Grow : (heap : WholeHeap) → after ≡ before ++ judge_next plan antenna before heap ∷ []
      → HeapsMove plan antenna before after

move_whole : (plan : Plan) (antenna : ℕ) (l : List (List ℕ)) (b : List ℕ) → has_stopped plan l ≡ false
    → (o : Option WholeHeap)
    → whole_in plan (l ++ b ∷ []) ≡ whole_in plan l ++ option_to_list o
    → HeapsMove plan antenna (heaps plan antenna l) (heaps plan antenna (l ++ b ∷ []))
move_whole plan antenna l b still None is =
    Stay (ap (λ ws. in_turn (judge_next plan antenna) (through_first stops ws)) (is ∙ append-nil (whole_in plan l)))
move_whole plan antenna l b still (Some heap) is = Grow heap (heaps_push plan antenna l b heap still is)

move_heard : (plan : Plan) (antenna : ℕ) (l : List (List ℕ)) (b : List ℕ) → has_stopped plan l ≡ false
    → length l < plan.packet_limit → (o : Option Parts)
    → heard_in plan.heap_limit b ≡ o → HeapsMove plan antenna (heaps plan antenna l) (heaps plan antenna (l ++ b ∷ []))
move_heard plan antenna l b still room None is = Stay (heaps_stay plan antenna l b room is)
move_heard plan antenna l b still room (Some p) is =
    move_whole plan antenna l b still (whole_now plan.window (placed_in plan (l ++ b ∷ [])))
    (whole_in_push plan l b p room is)

pub heaps_move : (plan : Plan) (antenna : ℕ) (l : List (List ℕ)) (b : List ℕ)
    → HeapsMove plan antenna (heaps plan antenna l) (heaps plan antenna (l ++ b ∷ []))
heaps_move plan antenna l b =
    elim (cases_ended plan l) [
      | inl go ↦ move_heard plan antenna l b go.0 go.1 (heard_in plan.heap_limit b) refl
      | inr end ↦ Stay (heaps_ended plan antenna l b end)
    ]

-- the top does not fall
top_rises : (plan : Plan) (js : List JudgedHeap) (j : JudgedHeap) → above_top plan js ≤ above_top plan (js ++ j ∷ [])
top_rises plan js j =
    let push = above_top_push plan js j in
    let more : above_top plan js
    ≤ cond (raises j.verdict) (max (above_top plan js) (reach plan j)) (above_top plan js) =
    cond_both (raises j.verdict) (max (above_top plan js) (reach plan j)) (above_top plan js)
    (λ top. above_top plan js ≤ top) (λ e. omega arith) (λ e. omega arith) in
    omega arith

floor_rises : (plan : Plan) (js : List JudgedHeap) (j : JudgedHeap) → floor_of plan js ≤ floor_of plan (js ++ j ∷ [])
floor_rises plan js j = let up = top_rises plan js j in omega arith

-- these heaps, and more of which none is used below the bound, with a floor that is not below it
pub record GrowsAbove (plan : Plan) (bound : ℕ) (before after : List JudgedHeap) : Type 0 where
  pub more : List JudgedHeap
  pub is : after ≡ before ++ more
  pub none : (n t : ℕ) → n < bound → list_any (λ j. is_used_at n t j.verdict) more ≡ false
  pub floor_above : bound ≤ floor_of plan after

grows_on : (plan : Plan) (antenna bound : ℕ) (before js after : List JudgedHeap) → GrowsAbove plan bound before js
    → HeapsMove plan antenna js after → GrowsAbove plan bound before after
grows_on plan antenna bound before js after h (Stay same) = subst (GrowsAbove plan bound before) (sym same) h
grows_on plan antenna bound before js after h (Grow heap grown) =
    let j = judge_next plan antenna js heap in
    let low = h.floor_above in
    let up = floor_rises plan js j in
    let kept : GrowsAbove plan bound before (js ++ j ∷ []) = record {
      more = h.more ++ j ∷ [];
      is = ap (λ k. k ++ j ∷ []) h.is ∙ append_assoc before h.more (j ∷ []);
      none = λ n t below.
          list_any-append (λ (i : JudgedHeap). is_used_at n t i.verdict) h.more (j ∷ [])
          ∙ or_from (list_any (λ (i : JudgedHeap). is_used_at n t i.verdict) h.more) (is_used_at n t j.verdict || false)
          (h.none n t below)
          (or_from (is_used_at n t j.verdict) false
          (false_from_ne_true (is_used_at n t j.verdict)
          (λ used. let fresh = fresh_used plan antenna js heap _ n t used in let over = fresh.above in omega arith))
          refl);
      floor_above = omega arith;
    } in
    subst (GrowsAbove plan bound before) (sym grown) kept

-- a longer list has the same heaps, and more that are used above the floor
pub heaps_grow : (plan : Plan) (antenna : ℕ) (l rest : List (List ℕ))
    → GrowsAbove plan (floor_of plan (heaps plan antenna l)) (heaps plan antenna l) (heaps plan antenna (l ++ rest))
heaps_grow plan antenna l rest =
    let bound = floor_of plan (heaps plan antenna l) in
    by_pushes_from (λ k. GrowsAbove plan bound (heaps plan antenna l) (heaps plan antenna k))
    (λ k b h. grows_on plan antenna bound (heaps plan antenna l) (heaps plan antenna k)
    (heaps plan antenna (k ++ b ∷ [])) h (heaps_move plan antenna k b))
    l rest (record {
      more = [];
      is = sym (append-nil (heaps plan antenna l));
      none = λ n t below. refl;
      floor_above = omega arith;
    })
