-- Each string that counts has one verdict and is counted once, and those on whole heaps are the verdicts of the heaps.
use Rattle.std.proofs.Common.{◌≡◌, ℕ, suc, ◌+◌, ◌-◌, ◌/◌, ◌%◌, ◌<◌, ◌≤◌, Bool, true, false, not, cond, eqb, ltb, leb, ◌&&◌, List, [], ◌∷◌, ◌++◌, length, map, Option, Some, None, refl, sym, ap, ◌∙◌, arith, inl, inr, add-zero}
use Rattle.std.specs.List.{count_by, filter, list_any}
use Rattle.std.specs.Option.{is_none, option_and_then, option_to_list}
use Rattle.std.proofs.lemmas.Bool.{cases_Bool, false_from_ne_true}
use Rattle.std.proofs.lemmas.List.{append-nil, length-map, length_push, map-append}
use Rattle.std.proofs.lemmas.List.Elements.{filter-append}
use Rattle.corr_model.specs.declared.plan.Plan.{Plan}
use Rattle.corr_model.specs.declared.pointer.Refusal.{Refusal}
use Rattle.corr_model.specs.declared.heap.DropCause.{DropCause}
use Rattle.corr_model.specs.declared.heap.DropCause.TheVariants.{PastLimit}
use Rattle.corr_model.specs.declared.verdict.Verdict.{Verdict}
use Rattle.corr_model.specs.declared.verdict.Verdict.TheVariants as verdicts
use Rattle.corr_model.specs.Lists.{fronts, in_turn, last_one, through_first}
use Rattle.corr_model.specs.Packets.{Parts, packet_in, parts_in, refusal_of}
use Rattle.corr_model.specs.Windows.{PlacedPacket, heard, is_within, placed, place_next, placed_in}
use Rattle.corr_model.specs.Assembly.{Fate, Standing, Before, Whole, After, WholeHeap, fates, heap_at, heap_of, kept, members_with, standing, whole_now, whole_with}
use Rattle.corr_model.specs.Tables.{Sight}
use Rattle.corr_model.specs.Streams.{JudgedHeap, above_top, floor_of, grid, has_stopped, heap_verdict, heaps, is_used_at, judge_next, stops, taken, verdict_at, whole_in}
use Rattle.corr_model.specs.PacketVerdicts.{Dropped, kept_or_dropped, by_fate, by_standing, outcome_with, verdict_by, verdict_of_last, packet_verdict, packet_verdicts}
use Rattle.corr_model.specs.PacketVerdicts.{is_refused, is_dropped, is_foreign, is_used, is_stale, is_undescribed, is_before_start, is_off_grid, is_wild, is_beyond, is_late, is_twice, is_part, is_stop, is_of_heap}
use Rattle.corr_model.proofs.Turns.{by_pushes, last_one_push}
use Rattle.corr_model.proofs.Pushes.{placed_push}
use Rattle.corr_model.proofs.StreamPushes.{heaps_push, heaps_stay, placed_in_push, whole_in_push}
use Rattle.corr_model.proofs.StreamLawsTaken.{cases_ended, ending_open, heaps_ended, heaps_same, never_stopped, taken_open, whole_in_none}
use Rattle.corr_model.proofs.StreamLawsCells.{count_push}
use Rattle.corr_model.proofs.VerdictLaws.{heard_by, packet_verdict_packet, packet_verdict_refused, packet_verdicts_ended, packet_verdicts_push}

-- as many fronts as elements
pub length-fronts : {A : Type 0} → (xs : List A) → length (fronts xs) ≡ length xs
length-fronts [] = refl
length-fronts (x ∷ xs) = ap suc (length-map (fronts xs) (λ front. x ∷ front) ∙ length-fronts xs)

-- a verdict for each string that counts
pub length-packet_verdicts : (plan : Plan) (antenna : ℕ) (l : List (List ℕ))
    → length (packet_verdicts plan antenna l) ≡ length (taken plan l)
length-packet_verdicts plan antenna l =
    length-map (fronts (taken plan l)) (packet_verdict plan antenna) ∙ length-fronts (taken plan l)

-- the tests that this verdict passes
passed : Verdict → ℕ
passed v =
    cond (is_refused v) 1 0 + cond (is_dropped v) 1 0 + cond (is_stale v) 1 0 + cond (is_undescribed v) 1 0
    + cond (is_foreign v) 1 0 + cond (is_before_start v) 1 0 + cond (is_off_grid v) 1 0
    + cond (is_wild v) 1 0 + cond (is_beyond v) 1 0 + cond (is_late v) 1 0 + cond (is_twice v) 1 0
    + cond (is_used v) 1 0 + cond (is_part v) 1 0 + cond (is_stop v) 1 0

one_passed : (v : Verdict) → passed v ≡ 1
unfolding passed
one_passed (verdicts.Refused refusal) = refl
one_passed (verdicts.Dropped cause) = refl
one_passed verdicts.Stale = refl
one_passed verdicts.Part = refl
one_passed verdicts.Stop = refl
one_passed verdicts.Undescribed = refl
one_passed (verdicts.Foreign antenna) = refl
one_passed verdicts.BeforeStart = refl
one_passed verdicts.OffGrid = refl
one_passed verdicts.Wild = refl
one_passed verdicts.Beyond = refl
one_passed verdicts.Late = refl
one_passed verdicts.Twice = refl
one_passed (verdicts.Used n t) = refl

-- the verdicts that pass each test
counts : List Verdict → ℕ
counts vs =
    count_by is_refused vs + count_by is_dropped vs + count_by is_stale vs + count_by is_undescribed vs
    + count_by is_foreign vs + count_by is_before_start vs + count_by is_off_grid vs
    + count_by is_wild vs + count_by is_beyond vs + count_by is_late vs + count_by is_twice vs + count_by is_used vs
    + count_by is_part vs + count_by is_stop vs

counts_push : (vs : List Verdict) (v : Verdict) → counts (vs ++ v ∷ []) ≡ counts vs + passed v
unfolding counts passed
counts_push vs v =
    let a = count_push is_refused vs v in
    let b = count_push is_dropped vs v in
    let c = count_push is_stale vs v in
    let d = count_push is_undescribed vs v in
    let e = count_push is_foreign vs v in
    let f = count_push is_before_start vs v in
    let g = count_push is_off_grid vs v in
    let h = count_push is_wild vs v in
    let i = count_push is_beyond vs v in
    let j = count_push is_late vs v in
    let k = count_push is_twice vs v in
    let m = count_push is_used vs v in
    let n = count_push is_part vs v in
    let o = count_push is_stop vs v in
    omega arith

none_counted : counts [] ≡ length {A = Verdict} []
unfolding counts
none_counted = refl

counts_all : (vs : List Verdict) → counts vs ≡ length vs
counts_all =
    by_pushes (λ vs. counts vs ≡ length vs) none_counted
    (λ vs v before. counts_push vs v ∙ ap (λ n. n + passed v) before ∙ ap (λ n. length vs + n) (one_passed v) ∙ sym
    (length_push vs v))

-- each verdict is counted once
pub each_counted : (vs : List Verdict)
    → count_by is_refused vs + count_by is_dropped vs + count_by is_stale vs + count_by is_undescribed vs
    + count_by is_foreign vs + count_by is_before_start vs + count_by is_off_grid vs
    + count_by is_wild vs + count_by is_beyond vs + count_by is_late vs + count_by is_twice vs + count_by is_used vs
    + count_by is_part vs + count_by is_stop vs ≡ length vs
unfolding counts
each_counted vs = counts_all vs

-- of two verdicts that pass either choice passes
either : (test : Verdict → Bool) (b : Bool) (v w : Verdict) → test v ≡ true → test w ≡ true → test (cond b v w) ≡ true
either test true v w h k = h
either test false v w h k = k

-- a test that each verdict on a heap passes
pub record PassesHeaps (plan : Plan) (test : Verdict → Bool) : Type 0 where
  pub stop : test verdicts.Stop ≡ true
  pub undescribed : test verdicts.Undescribed ≡ true
  pub foreign : (antenna : ℕ) → test (verdicts.Foreign antenna) ≡ true
  pub before : test verdicts.BeforeStart ≡ true
  pub offgrid : test verdicts.OffGrid ≡ true
  pub wild : test verdicts.Wild ≡ true
  pub beyond : test verdicts.Beyond ≡ true
  pub late : test verdicts.Late ≡ true
  pub twice : test verdicts.Twice ≡ true
  pub used : (n k : ℕ) → test (verdicts.Used n (k % plan.heaps)) ≡ true

at_place : (plan : Plan) (test : Verdict → Bool) → PassesHeaps plan test → (js : List JudgedHeap) (n k : ℕ)
    → test (verdict_at plan js n (k % plan.heaps)) ≡ true
at_place plan test h js n k =
    let t = k % plan.heaps in
    either test (ltb 0 plan.leap && leb (above_top plan js + plan.leap) n) verdicts.Wild _ h.wild
    (either test (leb plan.accumulations n) verdicts.Beyond _ h.beyond
    (either test (ltb n (floor_of plan js)) verdicts.Late _ h.late
    (either test (list_any (λ j. is_used_at n t j.verdict) js) verdicts.Twice (verdicts.Used n t) h.twice
    (h.used n k))))

heap_verdict_passes : (plan : Plan) (test : Verdict → Bool) → PassesHeaps plan test
    → (antenna : ℕ) (js : List JudgedHeap) (o : Option Sight) → test (heap_verdict plan antenna js o) ≡ true
heap_verdict_passes plan test h antenna js None = h.undescribed
heap_verdict_passes plan test h antenna js (Some s) =
    let k = grid plan s.timestamp in
    either test (not (eqb s.antenna antenna)) (verdicts.Foreign s.antenna) _ (h.foreign s.antenna)
    (either test (ltb s.timestamp plan.start) verdicts.BeforeStart _ h.before
    (either test (not (eqb ((s.timestamp - plan.start) % plan.step) 0)) verdicts.OffGrid _ h.offgrid
    (at_place plan test h js (k / plan.heaps) k)))

-- so the verdict on a judged heap passes
pub judged_passes : (plan : Plan) (test : Verdict → Bool) → PassesHeaps plan test
    → (antenna : ℕ) (js : List JudgedHeap) (heap : WholeHeap) → test (judge_next plan antenna js heap).verdict ≡ true
judged_passes plan test h antenna js heap =
    let seen = (judge_next plan antenna js heap).seen in
    either test (stops heap) verdicts.Stop (heap_verdict plan antenna js seen) h.stop
    (heap_verdict_passes plan test h antenna js seen)

of_heaps_pass : (plan : Plan) → PassesHeaps plan is_of_heap
of_heaps_pass plan = record {
  stop = refl;
  undescribed = refl;
  foreign = λ antenna. refl;
  before = refl;
  offgrid = refl;
  wild = refl;
  beyond = refl;
  late = refl;
  twice = refl;
  used = λ n k. refl;
}

by_cause : (js : List JudgedHeap) (o : Option DropCause) → is_of_heap (verdict_by js (kept_or_dropped o)) ≡ false
by_cause js None = refl
by_cause js (Some cause) = refl

-- a packet that does not make its heap whole has the verdict of none
unfinished : (js : List JudgedHeap) (o : Option Fate) → is_of_heap (verdict_by js (by_fate o)) ≡ false
unfinished js None = refl
unfinished js (Some f) = by_cause js f.cause

-- what a string after an open list brings: judged heaps, and the verdicts on them
record Brings (plan : Plan) (antenna : ℕ) (l : List (List ℕ)) (b : List ℕ) : Type 0 where
  more : List JudgedHeap
  judged : heaps plan antenna (l ++ b ∷ []) ≡ heaps plan antenna l ++ more
  said : filter is_of_heap (packet_verdict plan antenna (l ++ b ∷ []) ∷ []) ≡ map (λ j. j.verdict) more

brings_none : (plan : Plan) (antenna : ℕ) (l : List (List ℕ)) (b : List ℕ)
    → heaps plan antenna (l ++ b ∷ []) ≡ heaps plan antenna l
    → is_of_heap (packet_verdict plan antenna (l ++ b ∷ [])) ≡ false → Brings plan antenna l b
brings_none plan antenna l b same none = record {
  more = [];
  judged = same ∙ sym (append-nil (heaps plan antenna l));
  said = ap (λ t. cond t (packet_verdict plan antenna (l ++ b ∷ []) ∷ []) []) none;
}

brings_one : (plan : Plan) (antenna : ℕ) (l : List (List ℕ)) (b : List ℕ) (heap : WholeHeap)
    → has_stopped plan l ≡ false
    → whole_in plan (l ++ b ∷ []) ≡ whole_in plan l ++ heap ∷ []
    → packet_verdict plan antenna (l ++ b ∷ []) ≡ verdict_of_last (last_one (heaps plan antenna (l ++ b ∷ [])))
    → Brings plan antenna l b
brings_one plan antenna l b heap open_yet whole is =
    let js = heaps plan antenna l in
    let judge = judge_next plan antenna js heap in
    let grown = heaps_push plan antenna l b heap open_yet whole in
    let last = is ∙ ap (λ ks. verdict_of_last (last_one ks)) grown ∙ ap verdict_of_last (last_one_push js judge) in
    record {
      more = judge ∷ [];
      judged = grown;
      said = ap (λ v. filter is_of_heap (v ∷ [])) last ∙ ap (λ t. cond t (judge.verdict ∷ []) [])
          (judged_passes plan is_of_heap (of_heaps_pass plan) antenna js heap);
    }

-- what a heard packet brings, by what its heap is at it
by_whole : (plan : Plan) (antenna : ℕ) (l : List (List ℕ)) (b : List ℕ) (ms : List PlacedPacket) (counter : ℕ)
    → has_stopped plan l ≡ false → (s : Standing)
    → whole_in plan (l ++ b ∷ []) ≡ whole_in plan l ++ option_to_list (heap_at counter s)
    → packet_verdict plan antenna (l ++ b ∷ [])
    ≡ verdict_by (heaps plan antenna (l ++ b ∷ [])) (by_standing counter ms s) → Brings plan antenna l b
by_whole plan antenna l b ms counter open_yet Before whole is =
    brings_none plan antenna l b (heaps_same plan antenna l (l ++ b ∷ []) (whole ∙ append-nil (whole_in plan l)))
    (ap is_of_heap is ∙ unfinished (heaps plan antenna (l ++ b ∷ [])) (last_one (fates ms)))
by_whole plan antenna l b ms counter open_yet After whole is =
    brings_none plan antenna l b (heaps_same plan antenna l (l ++ b ∷ []) (whole ∙ append-nil (whole_in plan l)))
    (ap is_of_heap is)
by_whole plan antenna l b ms counter open_yet (Whole front) whole is =
    brings_one plan antenna l b (heap_of counter (kept front)) open_yet whole is

by_limit : (plan : Plan) (antenna : ℕ) (l : List (List ℕ)) (b : List ℕ) → has_stopped plan l ≡ false
    → length l < plan.packet_limit → (p : Parts) → packet_in b ≡ Some p
    → (within : Bool) → is_within plan.heap_limit p ≡ within → Brings plan antenna l b
by_limit plan antenna l b open_yet room p read true within =
    let window = plan.window in
    let next = place_next window (placed_in plan l) p in
    let ps = placed window (heard plan l ++ p ∷ []) in
    let ms = members_with window ps next in
    let js = heaps plan antenna (l ++ b ∷ []) in
    let is = heard_by plan.heap_limit b p read within in
    let same : placed_in plan (l ++ b ∷ []) ≡ ps =
    placed_in_push plan l b p room is ∙ sym (placed_push window (heard plan l) p) in
    let now : whole_now window (placed_in plan (l ++ b ∷ [])) ≡ whole_with window ps next =
    ap (whole_now window) same ∙ ap (option_and_then (whole_with window ps))
    (ap last_one (placed_push window (heard plan l) p) ∙ last_one_push (placed_in plan l) next) in
    by_whole plan antenna l b ms p.counter open_yet (standing ms)
    (whole_in_push plan l b p room is ∙ ap (λ o. whole_in plan l ++ option_to_list o) now)
    (packet_verdict_packet plan antenna l b p room read ∙ ap
    (λ t. verdict_by js (cond t (outcome_with window ps next) (Dropped PastLimit))) within)
by_limit plan antenna l b open_yet room p read false within =
    let js = heaps plan antenna (l ++ b ∷ []) in
    let outcome = outcome_with plan.window (placed plan.window (heard plan l ++ p ∷ []))
    (place_next plan.window (placed_in plan l) p) in
    brings_none plan antenna l b (heaps_stay plan antenna l b room (rw read (ap (λ t. cond t (Some p) None) within)))
    (ap is_of_heap (packet_verdict_packet plan antenna l b p room read ∙ ap
    (λ t. verdict_by js (cond t outcome (Dropped PastLimit))) within))

by_refusal : (plan : Plan) (antenna : ℕ) (l : List (List ℕ)) (b : List ℕ) → has_stopped plan l ≡ false
    → length l < plan.packet_limit → (o : Option Refusal) → refusal_of b ≡ o → Brings plan antenna l b
by_refusal plan antenna l b open_yet room None none =
    by_limit plan antenna l b open_yet room (parts_in b) (ap (λ o. cond (is_none o) (Some (parts_in b)) None) none)
    (is_within plan.heap_limit (parts_in b)) refl
by_refusal plan antenna l b open_yet room (Some refusal) is =
    let unread : packet_in b ≡ None = ap (λ o. cond (is_none o) (Some (parts_in b)) None) is in
    brings_none plan antenna l b (heaps_stay plan antenna l b room (rw unread refl))
    (ap is_of_heap (packet_verdict_refused plan antenna l b refusal is))

-- the verdicts on whole heaps among those on packets
pub of_heaps : (plan : Plan) (antenna : ℕ) (l : List (List ℕ))
    → filter is_of_heap (packet_verdicts plan antenna l) ≡ map (λ j. j.verdict) (heaps plan antenna l)
of_heaps plan antenna =
    let least : length {A = List ℕ} [] ≤ plan.packet_limit = omega arith in
    by_pushes (λ l. filter is_of_heap (packet_verdicts plan antenna l) ≡ map (λ j. j.verdict) (heaps plan antenna l))
    (ap (λ k. filter is_of_heap (map (packet_verdict plan antenna) (fronts k)))
    (taken_open plan [] (never_stopped plan) least)
    ∙ sym (ap (λ ws. map (λ j. j.verdict) (in_turn (judge_next plan antenna) (through_first stops ws)))
    (whole_in_none plan)))
    (λ l b before. elim (cases_ended plan l) [
      | inl go ↦
          let brought = by_refusal plan antenna l b go.0 go.1 (refusal_of b) refl in
          let last = packet_verdict plan antenna (l ++ b ∷ []) in
          ap (filter is_of_heap) (packet_verdicts_push plan antenna l b (ending_open plan l go.0 go.1))
          ∙ filter-append is_of_heap (packet_verdicts plan antenna l) (last ∷ [])
          ∙ ap (λ vs. vs ++ filter is_of_heap (last ∷ [])) before
          ∙ ap (λ vs. map (λ j. j.verdict) (heaps plan antenna l) ++ vs) brought.said
          ∙ sym (map-append (λ j. j.verdict) (heaps plan antenna l) brought.more)
          ∙ ap (map (λ j. j.verdict)) (sym brought.judged)
      | inr end ↦
          ap (filter is_of_heap) (packet_verdicts_ended plan antenna l b end) ∙ before ∙ ap (map (λ j. j.verdict))
          (sym (heaps_ended plan antenna l b end))
    ])

-- a test that only elements of the filter pass counts as many in what the filter keeps
count_by_filter : {A : Type 0} (test keep : A → Bool) → ((x : A) → test x ≡ true → keep x ≡ true) → (xs : List A)
    → count_by test (filter keep xs) ≡ count_by test xs
count_by_filter test keep within =
    by_pushes (λ xs. count_by test (filter keep xs) ≡ count_by test xs) refl
    (λ xs x before. ap (count_by test) (filter-append keep xs (x ∷ [])) ∙ elim (cases_Bool (keep x)) [
      | inl keeps ↦
          ap (λ t. count_by test (filter keep xs ++ cond t (x ∷ []) [])) keeps ∙ count_push test (filter keep xs) x ∙ ap
          (λ n. n + cond (test x) 1 0) before ∙ sym (count_push test xs x)
      | inr drops ↦
          let fails : test x ≡ false = false_from_ne_true (test x) (λ h. let kept_too = within x h in cc) in
          ap (λ t. count_by test (filter keep xs ++ cond t (x ∷ []) [])) drops
          ∙ ap (count_by test) (append-nil (filter keep xs))
          ∙ before
          ∙ sym (count_push test xs x ∙ ap (λ t. count_by test xs + cond t 1 0) fails ∙ add-zero (count_by test xs))
    ])

-- a count of what is made of each
pub count_by_map : {A B : Type 0} (test : B → Bool) (f : A → B) (xs : List A)
    → count_by test (map f xs) ≡ count_by (λ x. test (f x)) xs
count_by_map test f =
    by_pushes (λ xs. count_by test (map f xs) ≡ count_by (λ x. test (f x)) xs) refl
    (λ xs x before. ap (count_by test) (map-append f xs (x ∷ [])) ∙ count_push test (map f xs) (f x) ∙ ap
    (λ n. n + cond (test (f x)) 1 0) before ∙ sym (count_push (λ y. test (f y)) xs x))

used_of_heap : (v : Verdict) → is_used v ≡ true → is_of_heap v ≡ true
used_of_heap (verdicts.Used n t) h = refl
used_of_heap other h = absurd cc

-- as many strings are reported used as heaps are
pub used_heaps : (plan : Plan) (antenna : ℕ) (l : List (List ℕ))
    → count_by is_used (packet_verdicts plan antenna l) ≡ count_by (λ j. is_used j.verdict) (heaps plan antenna l)
used_heaps plan antenna l =
    sym (count_by_filter is_used is_of_heap used_of_heap (packet_verdicts plan antenna l))
    ∙ ap (count_by is_used) (of_heaps plan antenna l)
    ∙ count_by_map is_used (λ j. j.verdict) (heaps plan antenna l)
