-- As many cells are there as heaps are used.
use Rattle.std.proofs.Common.{◌≡◌, ℕ, zero, suc, ◌+◌, ◌%◌, ◌<◌, ◌≤◌, Bool, true, false, cond, eqb, ltb, List, [], ◌∷◌, ◌++◌, Some, None, refl, sym, ap, ◌∙◌, subst, arith, inl, inr, add-zero}
use Rattle.std.specs.List.{count_by, find, list_any, sum_by}
use Rattle.std.specs.Option.{is_some, option_map, option_or}
use Rattle.std.proofs.lemmas.Bool.{and_from, and_left, and_right, cases_eq, eq-eqb, lt-ltb, ltb-true, ne_eqb, or_parts}
use Rattle.std.proofs.lemmas.List.Sums.{fold_push}
use Rattle.corr_model.specs.declared.plan.Plan.{Plan}
use Rattle.corr_model.specs.declared.verdict.Verdict.{Verdict}
use Rattle.corr_model.specs.declared.verdict.Verdict.TheVariants.{Used}
use Rattle.corr_model.specs.Lists.{numbers, through_first}
use Rattle.corr_model.specs.Assembly.{WholeHeap}
use Rattle.corr_model.specs.Streams.{JudgedHeap, cell_in, column, heaps, is_used_at, judge_next, samples_of, stops, whole_in}
use Rattle.corr_model.specs.PacketVerdicts.{is_used, packet_verdicts}
use Rattle.corr_model.proofs.CountedLists.{numbers_push}
use Rattle.corr_model.proofs.Turns.{in_turn_keeps}
use Rattle.corr_model.proofs.Pushes.{cell_in_push, cell_in_stays}
use Rattle.corr_model.proofs.StreamLawsCells.{count_push, fresh_used}
use Rattle.corr_model.proofs.VerdictCounts.{PassesHeaps, count_by_map, judged_passes, used_heaps}

-- the sum of so many terms from the first on
total : (ℕ → ℕ) → ℕ → ℕ
total f count = sum_by f (numbers 0 count)

total_push : (f : ℕ → ℕ) (count : ℕ) → total f (suc count) ≡ total f count + f count
unfolding total
total_push f count =
    let last : 0 + count ≡ count = omega arith in
    ap (sum_by f) (numbers_push 0 count ∙ ap (λ k. numbers 0 count ++ k ∷ []) last) ∙ fold_push (λ (n k : ℕ). n + f k) 0
    (numbers 0 count) count

total_none : (f : ℕ → ℕ) → total f zero ≡ 0
unfolding total
total_none f = refl

-- sums of the same terms are the same
total_same : (f g : ℕ → ℕ) (count : ℕ) → ((n : ℕ) → n < count → g n ≡ f n) → total g count ≡ total f count
total_same f g zero same = total_none g ∙ sym (total_none f)
total_same f g (suc count) same =
    let before = total_same f g count (λ n h. same n (omega arith)) in
    let last = same count (omega arith) in
    let a = total_push f count in
    let b = total_push g count in
    omega arith

-- a sum with one term greater by one is
total_more : (f g : ℕ → ℕ) (m count : ℕ) → m < count → g m ≡ f m + 1 → ((n : ℕ) → (m ≡ n → ⊥) → g n ≡ f n)
    → total g count ≡ total f count + 1
total_more f g m zero low one same = absurd (omega arith)
total_more f g m (suc count) low one same =
    let a = total_push f count in
    let b = total_push g count in
    elim (cases_eq m count) [
      | inl here ↦
          let before = total_same f g count (λ n h. same n (λ e. omega arith)) in
          let last : g count ≡ f count + 1 = subst (λ n. g n ≡ f n + 1) here one in
          omega arith
      | inr other ↦
          let before = total_more f g m count (omega arith) one same in
          let last = same count other in
          omega arith
    ]

-- a sum of zeros is zero
total_zero : (f : ℕ → ℕ) (count : ℕ) → ((n : ℕ) → f n ≡ 0) → total f count ≡ 0
total_zero f zero zeros = total_none f
total_zero f (suc count) zeros =
    let before = total_zero f count zeros in
    let last = zeros count in
    let a = total_push f count in
    omega arith

-- the cells that are there of one accumulation, and of all
there_at : ℕ → List JudgedHeap → ℕ → ℕ
there_at places js n = total (λ t. cond (is_some (cell_in js n t)) 1 0) places

there_in : Plan → List JudgedHeap → ℕ
there_in plan js = total (there_at plan.heaps js) plan.accumulations

never_there : (n t : ℕ) (v : Verdict) → is_used v ≡ false → is_used_at n t v ≡ false
never_there n t (Used m u) h = absurd cc
never_there n t other h = refl

-- a heap that is not used fills no cell
there_stays : (plan : Plan) (js : List JudgedHeap) (j : JudgedHeap) → is_used j.verdict ≡ false
    → there_in plan (js ++ j ∷ []) ≡ there_in plan js
unfolding there_at there_in
there_stays plan js j unused =
    total_same (there_at plan.heaps js) (there_at plan.heaps (js ++ j ∷ [])) plan.accumulations
    (λ n h. total_same (λ t. cond (is_some (cell_in js n t)) 1 0)
    (λ t. cond (is_some (cell_in (js ++ j ∷ []) n t)) 1 0) plan.heaps
    (λ t i. ap (λ o. cond (is_some o) 1 0) (cell_in_stays js j n t (never_there n t j.verdict unused))))

other_place : (m u n t : ℕ) → (m ≡ n → u ≡ t → ⊥) → is_used_at n t (Used m u) ≡ false
other_place m u n t other =
    elim (cases_eq m n) [
      | inl same ↦ and_right (eqb m n) (eqb u t) (ne_eqb u t (other same))
      | inr apart ↦ and_left (eqb m n) (eqb u t) (ne_eqb m n apart)
    ]

own_place : (m u : ℕ) → is_used_at m u (Used m u) ≡ true
own_place m u = and_from (eqb m m) (eqb u u) (eq-eqb m m refl) (eq-eqb u u refl)

none_found : (m u : ℕ) (js : List JudgedHeap) → list_any (λ j. is_used_at m u j.verdict) js ≡ false
    → cell_in js m u ≡ None
none_found m u [] h = refl
none_found m u (j ∷ js) h =
    let parts = or_parts (is_used_at m u j.verdict) (list_any (λ i. is_used_at m u i.verdict) js) h in
    ap (λ b. option_map samples_of (cond b (Some j) (find (λ i. is_used_at m u i.verdict) js))) parts.0 ∙ none_found
    m u js parts.1

-- a heap that is used fills one
there_more : (plan : Plan) (js : List JudgedHeap) (j : JudgedHeap) (m u : ℕ) → j.verdict ≡ Used m u
    → m < plan.accumulations → u < plan.heaps
    → list_any (λ i. is_used_at m u i.verdict) js ≡ false → there_in plan (js ++ j ∷ []) ≡ there_in plan js + 1
unfolding there_at there_in
there_more plan js j m u is inside below fresh =
    let more = js ++ j ∷ [] in
    let stays = λ (n t : ℕ) (other : m ≡ n → u ≡ t → ⊥). cell_in_stays js j n t
    (ap (is_used_at n t) is ∙ other_place m u n t other) in
    let here : is_used_at m u j.verdict ≡ true = ap (is_used_at m u) is ∙ own_place m u in
    let none = none_found m u js fresh in
    let now : cell_in more m u ≡ Some (samples_of j) =
    cell_in_push js j m u ∙ ap (λ o. option_or o (cond (is_used_at m u j.verdict) (Some (samples_of j)) None)) none ∙ ap
    (λ b. cond b (Some (samples_of j)) None) here in
    let one : cond (is_some (cell_in more m u)) 1 0 ≡ cond (is_some (cell_in js m u)) 1 0 + 1 =
    ap (λ o. cond (is_some o) 1 0) now ∙ sym (ap (λ o. cond (is_some o) 1 0 + 1) none) in
    total_more (there_at plan.heaps js) (there_at plan.heaps more) m plan.accumulations inside
    (total_more (λ t. cond (is_some (cell_in js m t)) 1 0) (λ t. cond (is_some (cell_in more m t)) 1 0) u
    plan.heaps below one
    (λ t other. ap (λ o. cond (is_some o) 1 0) (stays m t (λ e f. other f))))
    (λ n other. total_same (λ t. cond (is_some (cell_in js n t)) 1 0)
    (λ t. cond (is_some (cell_in more n t)) 1 0) plan.heaps
    (λ t i. ap (λ o. cond (is_some o) 1 0) (stays n t (λ e f. other e))))

-- a place below the number of heaps
is_below : ℕ → Verdict → Bool
is_below places (Used n t) = ltb t places
is_below places other = true

below_passes : (plan : Plan) → 1 ≤ plan.heaps → PassesHeaps plan (is_below plan.heaps)
unfolding is_below
below_passes plan some = record {
  stop = refl;
  undescribed = refl;
  foreign = λ antenna. refl;
  before = refl;
  offgrid = refl;
  wild = refl;
  beyond = refl;
  late = refl;
  twice = refl;
  used = λ n k. lt-ltb (k % plan.heaps) plan.heaps (omega arith);
}

place_below : (plan : Plan) (antenna : ℕ) (js : List JudgedHeap) (heap : WholeHeap) (m u : ℕ) → 1 ≤ plan.heaps
    → (judge_next plan antenna js heap).verdict ≡ Used m u → u < plan.heaps
unfolding is_below
place_below plan antenna js heap m u some is =
    ltb-true u plan.heaps
    (sym (ap (is_below plan.heaps) is) ∙ judged_passes plan (is_below plan.heaps) (below_passes plan some)
    antenna js heap)

-- as many heaps are used as cells are there
AreAsMany : Plan → List JudgedHeap → Type 0
AreAsMany plan js = count_by (λ j. is_used j.verdict) js ≡ there_in plan js

many_none : (plan : Plan) → AreAsMany plan []
unfolding AreAsMany there_at there_in
many_none plan = sym
    (total_zero (there_at plan.heaps []) plan.accumulations
    (λ n. total_zero (λ t. cond (is_some (cell_in [] n t)) 1 0) plan.heaps (λ t. refl)))

many_step : (plan : Plan) (antenna : ℕ) (js : List JudgedHeap) (heap : WholeHeap) → 1 ≤ plan.heaps → AreAsMany plan js
    → (v : Verdict) → (judge_next plan antenna js heap).verdict ≡ v
    → AreAsMany plan (js ++ judge_next plan antenna js heap ∷ [])
unfolding AreAsMany
many_step plan antenna js heap some before (Used m u) is =
    let j = judge_next plan antenna js heap in
    let fresh = fresh_used plan antenna js heap j.seen m u (ap (is_used_at m u) is ∙ own_place m u) in
    count_push (λ i. is_used i.verdict) js j
    ∙ ap (λ v. count_by (λ i. is_used i.verdict) js + cond (is_used v) 1 0) is
    ∙ ap (λ n. n + 1) before
    ∙ sym (there_more plan js j m u is fresh.inside (place_below plan antenna js heap m u some is) fresh.fresh)
many_step plan antenna js heap some before other is =
    let j = judge_next plan antenna js heap in
    count_push (λ i. is_used i.verdict) js j
    ∙ ap (λ v. count_by (λ i. is_used i.verdict) js + cond (is_used v) 1 0) is
    ∙ add-zero (count_by (λ i. is_used i.verdict) js)
    ∙ before
    ∙ sym (there_stays plan js j (ap is_used is))

-- as many strings are reported used as cells are there
pub used_cells : (plan : Plan) (antenna : ℕ) (l : List (List ℕ)) → 1 ≤ plan.heaps
    → count_by is_used (packet_verdicts plan antenna l)
    ≡ sum_by (λ n. count_by is_some (column plan antenna l n)) (numbers 0 plan.accumulations)
unfolding AreAsMany there_at there_in total
used_cells plan antenna l some =
    let js = heaps plan antenna l in
    let many : AreAsMany plan js =
    in_turn_keeps (AreAsMany plan) (judge_next plan antenna) (many_none plan)
    (λ ks heap before. many_step plan antenna ks heap some before (judge_next plan antenna ks heap).verdict refl)
    (through_first stops (whole_in plan l)) in
    used_heaps plan antenna l
    ∙ many
    ∙ sym (total_same (there_at plan.heaps js) (λ n. count_by is_some (column plan antenna l n)) plan.accumulations
    (λ n h. count_by_map is_some (cell_in js n) (numbers 0 plan.heaps)))
