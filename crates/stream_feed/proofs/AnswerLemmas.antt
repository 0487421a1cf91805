-- From the answer on a whole heap to its verdict, and to the marks and columns with it.
use Rattle.std.proofs.Common.{◌≡◌, ℕ, ◌+◌, ◌/◌, ◌%◌, ◌<◌, ◌≤◌, max, Bool, true, false, cond, List, [], length, slice_set, Option, Some, None, is_some, refl, sym, ap, ◌∙◌, subst, inl, inr}
use Rattle.std.specs.Prelude.{option_map, unwrap_or}
use Rattle.std.proofs.lemmas.Bool.{cases_lt, false≢true}
use Rattle.std.proofs.lemmas.List.{set-get_or}
use Rattle.corr_model.specs.declared.plan.Plan.{Plan}
use Rattle.corr_model.specs.declared.verdict.Verdict.{Verdict}
use Rattle.corr_model.specs.declared.verdict.Verdict.TheVariants as verdicts
use Rattle.corr_model.specs.Assembly.{WholeHeap}
use Rattle.corr_model.specs.Tables.{Sight}
use Rattle.corr_model.specs.Streams.{JudgedHeap, above_top, cell_in, grid, heap_verdict, is_used_at, judged_as, raises, reach, stops}
use Rattle.slot_column.specs.declared.column.Placed.{Placed}
use Rattle.slot_column.specs.declared.column.Placed.TheVariants.{New, Twice}
use Rattle.slot_column.specs.Columns.{cell_at, empty_column}
use Rattle.stream_rules.specs.Marking.{MarksState, open_floor}
use Rattle.stream_rules.specs.declared.judged.Judged.{Judged as Answer}
use Rattle.stream_rules.specs.declared.judged.Judged.TheVariants as answers
use Rattle.stream_rules.specs.Judging.{told, verdict_of, IsOpenAt, IsOfSight}
use Rattle.stream_feed.specs.Opening.{OpenState, PlacesWithin, PlacesAhead}
use Rattle.stream_feed.specs.Judging.{Agrees, Judges, KeepsBy, KeepsColumns, KeepsFrame, PlacesHeap, verdict_on}
use Rattle.corr_model.specs.Descriptors.{DescribedItem}
use Rattle.corr_model.specs.PacketVerdicts.{is_of_heap}
use Rattle.stream_feed.specs.Feeding.{KeepsHeard}
use Rattle.stream_feed.proofs.ColumnLemmas.{cell_of_column, column_none}
use Rattle.stream_feed.proofs.JudgeLemmas.{reach_said, agrees_quiet, agrees_raised, agrees_late, judges_placed}

-- the answer is exact for all heaps that reached as far
abbrev pub OnAnswer : Plan → ℕ → ℕ → Bool → Option (ℕ × ℕ) → Answer → Type 0
OnAnswer plan antenna above stop sight answer =
    (ks : List JudgedHeap) (s : Option Sight) → above_top plan ks ≡ above → option_map told s ≡ sight
    → cond stop verdicts.Stop (heap_verdict plan antenna ks s) ≡ verdict_of ks answer

module _ (m : MarksState) (c : OpenState) (js : List JudgedHeap) (heap : WholeHeap) (stop : Bool) (seen : Option Sight)
    (plan : Plan) (antenna : ℕ) (sight : Option (ℕ × ℕ))
    (plan_is : plan ≡ c.plan) (antenna_is : antenna ≡ c.antenna) (sight_is : sight ≡ option_map told seen)
    (stop_is : stop ≡ stops heap) (a : Agrees m c js) where
  verdict_now : (answer : Answer) → OnAnswer plan antenna m.above stop sight answer
      → (judged_as c.plan c.antenna js heap seen).verdict ≡ verdict_of js answer
  verdict_now answer on =
      ap (λ b. cond b verdicts.Stop (heap_verdict c.plan c.antenna js seen)) (sym stop_is)
      ∙ ap (λ p. cond stop verdicts.Stop (heap_verdict p c.antenna js seen)) (sym plan_is)
      ∙ ap (λ n. cond stop verdicts.Stop (heap_verdict plan n js seen)) (sym antenna_is)
      ∙ on js seen (ap (λ p. above_top p js) plan_is ∙ sym a.above) (sym sight_is)

  pub judges_quiet : (answer : Answer) → OnAnswer plan antenna m.above stop sight answer
      → raises (verdict_of js answer) ≡ false
      → Judges m c js (judged_as c.plan c.antenna js heap seen) (verdict_of js answer)
  judges_quiet answer on quiet =
      let is = verdict_now answer on in
      record {
        verdict_is = sym is;
        agrees = agrees_quiet m c js (judged_as c.plan c.antenna js heap seen) a (ap raises is ∙ quiet);
      }

  reach_now : (timestamp number : ℕ) → sight ≡ Some (timestamp, number)
      → reach c.plan (judged_as c.plan c.antenna js heap seen) ≡ grid plan timestamp / plan.heaps + 1
  reach_now timestamp number said =
      reach_said c.plan seen timestamp number (sym sight_is ∙ said) ∙ ap
      (λ (p : Plan). grid p timestamp / p.heaps + 1) (sym plan_is)

  pub judges_beyond : (n : ℕ) (mn : MarksState) → OnAnswer plan antenna m.above stop sight (answers.Beyond n)
      → IsOfSight plan m.above sight (answers.Beyond n)
      → mn ≡ record m { above = max m.above (n + 1) }
      → Judges mn c js (judged_as c.plan c.antenna js heap seen) verdicts.Beyond
  judges_beyond n mn on of marks =
      let is = verdict_now (answers.Beyond n) on in
      record {
        verdict_is = sym is;
        agrees = agrees_raised m c js (judged_as c.plan c.antenna js heap seen) a mn n (ap raises is)
            (reach_now of.timestamp of.antenna of.said ∙ ap (λ k. k + 1) (sym of.at))
            (λ k t. ap (is_used_at k t) is) (ap (λ (k : MarksState). k.above) marks);
      }

  pub judges_late : OnAnswer plan antenna m.above stop sight answers.Late → IsOfSight plan m.above sight answers.Late
      → Judges m c js (judged_as c.plan c.antenna js heap seen) verdicts.Late
  judges_late on of =
      let is = verdict_now answers.Late on in
      record {
        verdict_is = sym is;
        agrees = agrees_late m c js (judged_as c.plan c.antenna js heap seen) a (grid plan of.timestamp / plan.heaps) is
            (reach_now of.timestamp of.antenna of.said)
            (subst (λ p. grid plan of.timestamp / plan.heaps < open_floor p m.above) plan_is of.at);
      }

  pub judges_at : (n t : ℕ) (samples : List ℕ) (mn : MarksState) (cn : OpenState) (v : Verdict)
      → OnAnswer plan antenna m.above stop sight (answers.At n t) → IsOfSight plan m.above sight (answers.At n t)
      → unwrap_or (option_map (λ s. s.samples) seen) [] ≡ samples → t < c.plan.heaps → length c.columns ≡ c.plan.lag
      → 1 ≤ c.plan.lag → open_floor c.plan m.above ≡ c.given
      → ((k u : ℕ) → above_top c.plan js ≤ k → cell_in js k u ≡ None) → PlacesHeap m c n t samples mn cn v
      → Judges mn cn js (judged_as c.plan c.antenna js heap seen) v
  judges_at n t samples mn cn v on of own low long some none_due unreached places =
      let is = verdict_now (answers.At n t) on in
      let at : IsOpenAt plan m.above (grid plan of.timestamp / plan.heaps) (grid plan of.timestamp % plan.heaps) n t =
      of.at in
      judges_placed m c js (judged_as c.plan c.antenna js heap seen) a n t samples mn cn v is own
      (reach_now of.timestamp of.antenna of.said ∙ ap (λ k. k + 1) (sym at.accumulation))
      low long some none_due (subst (λ (p : Plan). open_floor p m.above ≤ n) plan_is at.low)
      (subst (λ (p : Plan). n < p.accumulations) plan_is at.high) unreached places

-- what the verdict on placed samples keeps
module _ (m : MarksState) (c : OpenState) (n t : ℕ) (samples : List ℕ) (mn : MarksState) (cn : OpenState)
    (low : t < c.plan.heaps) (marks : mn ≡ record m { above = max m.above (n + 1) }) where
  same_end : mn.finished ≡ m.finished
  same_end = ap (λ (k : MarksState). k.finished) marks

  keeps_answer : (answer : Placed) → (n < c.given + c.plan.lag → PlacesWithin c n t samples answer cn)
      → (c.given + c.plan.lag ≤ n → PlacesAhead c n t samples answer cn) → KeepsBy (verdict_on n t answer) m c mn cn
  keeps_answer New within ahead = elim (cases_lt n (c.given + c.plan.lag)) [
    | inl near ↦
        let p = within near in
        let keeps : KeepsFrame m c mn cn = record {
          same_plan = ap (λ (o : OpenState). o.plan) p.rest;
          same_antenna = ap (λ (o : OpenState). o.antenna) p.rest;
          same_given = ap (λ (o : OpenState). o.given) p.rest;
          same_end = same_end;
        } in
        keeps
    | inr far ↦
        let p = ahead far in
        let keeps : KeepsFrame m c mn cn = record {
          same_plan = ap (λ (o : OpenState). o.plan) p.rest;
          same_antenna = ap (λ (o : OpenState). o.antenna) p.rest;
          same_given = ap (λ (o : OpenState). o.given) p.rest;
          same_end = same_end;
        } in
        keeps
  ]
  keeps_answer Twice within ahead = elim (cases_lt n (c.given + c.plan.lag)) [
    | inl near ↦
        let p = within near in
        let keeps : KeepsColumns m c mn cn = record {
          same_columns = p.rest ∙ ap (λ cs. record c { columns = cs })
              (ap (slice_set c.columns (n % c.plan.lag)) (p.changed.1 ∙ sym (p.is_before p.before)) ∙ set-get_or
              c.columns (n % c.plan.lag) p.before);
          same_end = same_end;
        } in
        keeps
    | inr far ↦
        let p = ahead far in
        let empty : cell_at (empty_column c.plan c.antenna n) t ≡ None =
        ap (λ k. cell_at k t) (column_none c.plan c.antenna [] n (λ u. refl)) ∙ cell_of_column c.plan
        c.antenna [] n t low in
        let nothing : false ≡ true = ap is_some (sym empty) ∙ p.changed.0 in
        absurd (false≢true nothing)
  ]

pub keeps_placed : (m : MarksState) (c : OpenState) (n t : ℕ) (samples : List ℕ) (mn : MarksState) (cn : OpenState)
    (v : Verdict) → t < c.plan.heaps → PlacesHeap m c n t samples mn cn v → KeepsBy v m c mn cn
keeps_placed m c n t samples mn cn v low p =
    subst (λ w. KeepsBy w m c mn cn) (sym p.verdict_is)
    (keeps_answer m c n t samples mn cn low p.marks p.answer p.within p.ahead)

columns_frame : (m : MarksState) (c : OpenState) (mn : MarksState) (cn : OpenState) → cn ≡ c → mn.finished ≡ m.finished
    → KeepsFrame m c mn cn
columns_frame m c mn cn same ends = record {
  same_plan = ap (λ (o : OpenState). o.plan) same;
  same_antenna = ap (λ (o : OpenState). o.antenna) same;
  same_given = ap (λ (o : OpenState). o.given) same;
  same_end = ends;
}

-- whatever the verdict, plan, antenna and the number of given columns stay
pub frame_of : (v : Verdict) (m : MarksState) (c : OpenState) (mn : MarksState) (cn : OpenState) → KeepsBy v m c mn cn
    → KeepsFrame m c mn cn
frame_of (verdicts.Used n t) m c mn cn k = k
frame_of verdicts.Beyond m c mn cn k = columns_frame m c mn cn k.same_columns k.same_end
frame_of verdicts.Twice m c mn cn k = columns_frame m c mn cn k.same_columns k.same_end
frame_of other m c mn cn k = columns_frame m c mn cn k.same_columns (ap (λ (s : MarksState). s.finished) k.same_marks)

-- what a verdict on a whole heap keeps
pub keeps_heard : (v : Verdict) (t : List DescribedItem) (m : MarksState) (c : OpenState) (tn : List DescribedItem)
    (mn : MarksState) (cn : OpenState) → is_of_heap v ≡ true → KeepsBy v m c mn cn
    → KeepsHeard v t m c tn mn cn
keeps_heard (verdicts.Refused refusal) t m c tn mn cn of k = absurd cc
keeps_heard (verdicts.Dropped cause) t m c tn mn cn of k = absurd cc
keeps_heard verdicts.Stale t m c tn mn cn of k = absurd cc
keeps_heard verdicts.Part t m c tn mn cn of k = absurd cc
keeps_heard other t m c tn mn cn of k = k
