-- What one judged heap more does to the marks and the open columns.
use Rattle.std.proofs.Common.{◌≡◌, ℕ, ◌+◌, ◌/◌, ◌%◌, ◌<◌, ◌≤◌, max, true, false, cond, List, [], ◌∷◌, ◌++◌, length, slice_set, Option, Some, None, is_some, refl, sym, ap, ◌∙◌, subst, inl, inr, arith}
use Rattle.std.specs.Prelude.{option_map, unwrap_or}
use Rattle.std.proofs.lemmas.Bool.{cases_lt, false≢true}
use Rattle.std.proofs.lemmas.List.{set-get_or}
use Rattle.corr_model.specs.declared.plan.Plan.{Plan}
use Rattle.corr_model.specs.declared.verdict.Verdict.{Verdict}
use Rattle.corr_model.specs.declared.verdict.Verdict.TheVariants as verdicts
use Rattle.corr_model.specs.Tables.{Sight}
use Rattle.corr_model.specs.Streams.{JudgedHeap, above_top, cell_in, grid, is_used_at, raises, reach, samples_of}
use Rattle.corr_model.proofs.Pushes.{above_top_push}
use Rattle.slot_column.specs.declared.column.Placed.{Placed}
use Rattle.slot_column.specs.declared.column.Placed.TheVariants.{New, Twice}
use Rattle.slot_column.specs.Columns.{Cells, cell_at, empty_column}
use Rattle.stream_rules.specs.Marking.{MarksState, open_floor}
use Rattle.stream_rules.specs.declared.judged.Judged.TheVariants as answers
use Rattle.stream_rules.specs.Judging.{told, verdict_of}
use Rattle.stream_feed.specs.Opening.{OpenState, AreOpen, PlacesWithin, PlacesAhead, column_by}
use Rattle.stream_feed.specs.Judging.{Agrees, Judges, PlacesHeap, verdict_on}
use Rattle.stream_feed.proofs.ColumnLemmas.{cell_of_column, column_none, used_if_there}
use Rattle.stream_feed.proofs.OpenLemmas.{open_stay, open_put, open_ahead}

unused : (v : Verdict) → raises v ≡ false → (n t : ℕ) → is_used_at n t v ≡ false
unused (verdicts.Used m u) h n t = absurd cc
unused v h n t = refl

-- the accumulation after that of what is said
pub reach_said : (plan : Plan) (seen : Option Sight) (timestamp antenna : ℕ)
    → option_map told seen ≡ Some (timestamp, antenna)
    → unwrap_or (option_map (λ s. grid plan s.timestamp / plan.heaps + 1) seen) 0 ≡ grid plan timestamp / plan.heaps + 1
reach_said plan None timestamp antenna h = absurd cc
reach_said plan (Some s) timestamp antenna h =
    let same : s.timestamp ≡ timestamp =
    ap (λ o. (unwrap_or o (told s)).0) h in ap (λ k. grid plan k / plan.heaps + 1) same

module _ (m : MarksState) (c : OpenState) (js : List JudgedHeap) (j : JudgedHeap) (a : Agrees m c js) where
  -- a heap that is not on the grid
  pub agrees_quiet : raises j.verdict ≡ false → Agrees m c (js ++ j ∷ [])
  agrees_quiet quiet = record {
    above = a.above ∙ sym
        (above_top_push c.plan js j ∙ ap
        (λ b. cond b (max (above_top c.plan js) (reach c.plan j)) (above_top c.plan js)) quiet);
    are_open = open_stay c js j a.are_open (unused j.verdict quiet);
  }

  -- the top after a heap on the grid
  pub top_raised : (n : ℕ) → raises j.verdict ≡ true → reach c.plan j ≡ n + 1
      → max m.above (n + 1) ≡ above_top c.plan (js ++ j ∷ [])
  top_raised n up reached =
      ap (λ k. max k (n + 1)) a.above
      ∙ ap (max (above_top c.plan js)) (sym reached)
      ∙ sym (above_top_push c.plan js j ∙ ap
      (λ b. cond b (max (above_top c.plan js) (reach c.plan j)) (above_top c.plan js)) up)

  -- a heap on the grid that is not used
  pub agrees_raised : (mn : MarksState) (n : ℕ) → raises j.verdict ≡ true → reach c.plan j ≡ n + 1
      → ((k t : ℕ) → is_used_at k t j.verdict ≡ false)
      → mn.above ≡ max m.above (n + 1) → Agrees mn c (js ++ j ∷ [])
  agrees_raised mn n up reached none is = record {
    above = is ∙ top_raised n up reached;
    are_open = open_stay c js j a.are_open none;
  }

  -- a late heap reached no further
  pub agrees_late : (n : ℕ) → j.verdict ≡ verdicts.Late → reach c.plan j ≡ n + 1 → n < open_floor c.plan m.above
      → Agrees m c (js ++ j ∷ [])
  agrees_late n is reached low = agrees_raised m n (ap raises is) reached (λ k t. ap (is_used_at k t) is) (omega arith)

  -- a heap at an open place
  module _ (n t : ℕ) (samples : List ℕ) (mn : MarksState) (cn : OpenState) (v : Verdict)
      (is : j.verdict ≡ verdict_of js (answers.At n t)) (own : samples_of j ≡ samples)
      (reached : reach c.plan j ≡ n + 1)
      (low : t < c.plan.heaps) (long : length c.columns ≡ c.plan.lag) (some : 1 ≤ c.plan.lag)
      (none_due : open_floor c.plan m.above ≡ c.given) (from : open_floor c.plan m.above ≤ n)
      (to : n < c.plan.accumulations)
      (unreached : (k u : ℕ) → above_top c.plan js ≤ k → cell_in js k u ≡ None) where
    used_now : cell_in js n t ≡ None → j.verdict ≡ verdicts.Used n t
    used_now none = is ∙ ap (λ b. cond b verdicts.Twice (verdicts.Used n t)) (used_if_there js n t ∙ ap is_some none)

    twice_now : is_some (cell_in js n t) ≡ true → j.verdict ≡ verdicts.Twice
    twice_now there = is ∙ ap (λ b. cond b verdicts.Twice (verdicts.Used n t)) (used_if_there js n t ∙ there)

    top_now : mn ≡ record m { above = max m.above (n + 1) } → raises j.verdict ≡ true
        → mn.above ≡ above_top c.plan (js ++ j ∷ [])
    top_now marks up = ap (λ (k : MarksState). k.above) marks ∙ top_raised n up reached

    agrees_by : (d : OpenState) → cn ≡ d → d.plan ≡ c.plan → mn.above ≡ above_top c.plan (js ++ j ∷ [])
        → AreOpen d (js ++ j ∷ []) → Agrees mn cn (js ++ j ∷ [])
    agrees_by d same plan top ok =
        subst (λ e. Agrees mn e (js ++ j ∷ [])) (sym same)
        (record { above = top ∙ ap (λ p. above_top p (js ++ j ∷ [])) (sym plan); are_open = ok })

    placed_within : (answer : Placed) → v ≡ verdict_on n t answer → mn ≡ record m { above = max m.above (n + 1) }
        → n < c.given + c.plan.lag → PlacesWithin c n t samples answer cn → Judges mn cn js j v
    placed_within New verdict marks within p =
        let before : p.before ≡ column_by c.plan c.antenna js n =
        sym (p.is_before p.before) ∙ a.are_open.each n p.before (omega arith) within in
        let none : cell_in js n t ≡ None =
        sym (cell_of_column c.plan c.antenna js n t low) ∙ ap (λ k. cell_at k t) (sym before) ∙ p.changed.0 in
        let used = used_now none in
        record {
          verdict_is = verdict ∙ sym used;
          agrees = agrees_by (record c { columns = slice_set c.columns (n % c.plan.lag) p.after }) p.rest refl
              (top_now marks (ap raises used))
              (open_put c js j n t samples a.are_open used own none low long some (omega arith) within p.after
              (p.changed.1 ∙ ap (λ (k : Cells). record k { cells = slice_set k.cells t (Some samples) }) before));
        }
    placed_within Twice verdict marks within p =
        let before : p.before ≡ column_by c.plan c.antenna js n =
        sym (p.is_before p.before) ∙ a.are_open.each n p.before (omega arith) within in
        let there : is_some (cell_in js n t) ≡ true =
        ap is_some (sym (cell_of_column c.plan c.antenna js n t low) ∙ ap (λ k. cell_at k t) (sym before)) ∙
        p.changed.0 in
        let twice = twice_now there in
        let same : cn ≡ c =
        p.rest ∙ ap (λ cs. record c { columns = cs })
        (ap (slice_set c.columns (n % c.plan.lag)) (p.changed.1 ∙ sym (p.is_before p.before)) ∙ set-get_or c.columns
        (n % c.plan.lag) p.before) in
        record {
          verdict_is = verdict ∙ sym twice;
          agrees = agrees_by c same refl (top_now marks (ap raises twice))
              (open_stay c js j a.are_open (λ k u. ap (is_used_at k u) twice));
        }

    all_empty : (k u : ℕ) → c.given + c.plan.lag ≤ k → c.given + c.plan.lag ≤ n → cell_in js k u ≡ None
    all_empty k u far ahead = unreached k u (let top = a.above in omega arith)

    placed_ahead : (answer : Placed) → v ≡ verdict_on n t answer → mn ≡ record m { above = max m.above (n + 1) }
        → c.given + c.plan.lag ≤ n → PlacesAhead c n t samples answer cn → Judges mn cn js j v
    placed_ahead New verdict marks ahead p =
        let none = all_empty n t ahead ahead in
        let used = used_now none in
        record {
          verdict_is = verdict ∙ sym used;
          agrees = agrees_by (record c { ahead = p.after }) p.rest refl (top_now marks (ap raises used))
              (open_ahead c js j n t samples a.are_open used own none low ahead (λ k u far. all_empty k u far ahead)
              p.after p.changed.1);
        }
    placed_ahead Twice verdict marks ahead p = absurd (
        let empty : cell_at (empty_column c.plan c.antenna n) t ≡ None =
        ap (λ k. cell_at k t) (column_none c.plan c.antenna js n (λ u. all_empty n u ahead ahead)) ∙ cell_of_column
        c.plan c.antenna js n t low ∙ all_empty n t ahead ahead in
        let there : is_some (cell_at (empty_column c.plan c.antenna n) t) ≡ true = p.changed.0 in
        let nothing : false ≡ true = ap is_some (sym empty) ∙ there in
        false≢true nothing)

    pub judges_placed : PlacesHeap m c n t samples mn cn v → Judges mn cn js j v
    judges_placed p = elim (cases_lt n (c.given + c.plan.lag)) [
      | inl within ↦ placed_within p.answer p.verdict_is p.marks within (p.within within)
      | inr ahead ↦ placed_ahead p.answer p.verdict_is p.marks ahead (p.ahead ahead)
    ]
