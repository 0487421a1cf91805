-- What a feed is known to hold, where the list of its antenna is named.
use Rattle.std.proofs.Common.{◌≡◌, ◌<◌, ◌≤◌, ◌+◌, ℕ, Bool, true, false, cond, ◌||◌, ltb, List, [], ◌∷◌, ◌++◌, length, take, drop, Option, Some, None, is_some, refl, sym, ◌∙◌, ap, subst, arith, inl, inr, eqb}
use Rattle.std.proofs.lemmas.Bool.{cases_Bool, ltb-true, false≢true}
use Rattle.std.proofs.lemmas.List.{take-append-drop, take_more, append-nil, drop_all}
use Rattle.corr_model.specs.declared.plan.Plan.{Plan}
use Rattle.corr_model.specs.declared.verdict.Ending.{Ending}
use Rattle.corr_model.specs.Windows.{heard}
use Rattle.corr_model.specs.Streams.{above_top, column, ending, floor, floor_of, heaps, taken, IsTableOf}
use Rattle.corr_model.proofs.StreamLawsFloor.{closed_columns_stay, column_of_taken}
use Rattle.slot_column.specs.Columns.{Cells, IsColumnOf}
use Rattle.stream_rules.specs.Marking.{floor_by}
use Rattle.stream_feed.specs.Opening.{OpenState, after_given}
use Rattle.stream_feed.specs.Judging.{Agrees}
use Rattle.stream_feed.specs.Feeding.{FeedState, EndsAs, Holds, IsWindowOf, StandsBy, StandsFor, due_of, is_said, next_given, IsNext, IsOfList, column_of}
use Rattle.stream_feed.proofs.OpenLemmas.{open_given, given_is}
use Rattle.stream_feed.proofs.StandLemmas.{floor_is}

-- a column that is due is below the floor
due_below : (given floor : ℕ) → is_some (cond {A = Option ℕ} (ltb given floor) (Some given) None) ≡ true → given < floor
due_below given floor h = below (ltb given floor) refl h
  where
    below : (b : Bool) → ltb given floor ≡ b → is_some (cond {A = Option ℕ} b (Some given) None) ≡ true → given < floor
    below true is h = ltb-true given floor is
    below false is h = absurd (false≢true h)

pub below_floor : (f : FeedState) (l : List (List ℕ)) → StandsFor f l → is_some (due_of f) ≡ true
    → f.columns.given < floor f.columns.plan f.columns.antenna l (is_some f.report.ended)
below_floor f l s due =
    let low = due_below f.columns.given (floor_by f.columns.plan f.marks) due in let same =
    floor_is f l s in omega (arith, low, same)

-- the column that is due is the list's
pub due_column : (f : FeedState) (l : List (List ℕ)) (d : Cells) → StandsFor f l
    → length f.columns.columns ≡ f.columns.plan.lag → 1 ≤ f.columns.plan.lag
    → next_given f.columns d ≡ column_of f.columns.plan f.columns.antenna l f.columns.given
due_column f l d s long some =
    let plan = f.columns.plan in
    let antenna = f.columns.antenna in
    given_is f.columns (heaps plan antenna (taken plan l)) s.holds.agrees.are_open long some d
    ∙ ap (λ cs. record { plan = plan; antenna = antenna; number = f.columns.given; cells = cs })
    (column_of_taken plan antenna l f.columns.given)

frame_plan : (o : OpenState) (b : Bool) (x y : OpenState) → x.plan ≡ o.plan → y.plan ≡ o.plan
    → (cond b x y).plan ≡ o.plan
frame_plan o true x y h k = h
frame_plan o false x y h k = k

frame_antenna : (o : OpenState) (b : Bool) (x y : OpenState) → x.antenna ≡ o.antenna → y.antenna ≡ o.antenna
    → (cond b x y).antenna ≡ o.antenna
frame_antenna o true x y h k = h
frame_antenna o false x y h k = k

pub given_plan : (o : OpenState) → (after_given o).plan ≡ o.plan
given_plan o = frame_plan o (eqb o.ahead.number (o.given + o.plan.lag)) _ _ refl refl

pub given_antenna : (o : OpenState) → (after_given o).antenna ≡ o.antenna
given_antenna o = frame_antenna o (eqb o.ahead.number (o.given + o.plan.lag)) _ _ refl refl

-- the feed after a column was given
pub stands_given : (f : FeedState) (l : List (List ℕ)) → StandsFor f l → is_some (due_of f) ≡ true
    → length f.columns.columns ≡ f.columns.plan.lag → 1 ≤ f.columns.plan.lag
    → StandsFor (record f { columns = after_given f.columns }) l
stands_given f l s due long some =
    let plan = f.columns.plan in
    let antenna = f.columns.antenna in
    let o = after_given f.columns in
    let k = taken plan l in
    let same_plan = given_plan f.columns in
    let same_antenna = given_antenna f.columns in
    let low = below_floor f l s due in
    let next : f.columns.given + 1 ≤ floor plan antenna l (is_some f.report.ended) = omega arith in
    let agrees : Agrees f.marks o (heaps plan antenna k) = record {
      above = subst (λ p. f.marks.above ≡ above_top p (heaps plan antenna k)) (sym same_plan) s.holds.agrees.above;
      are_open = open_given f.columns (heaps plan antenna k) s.holds.agrees.are_open long some;
    } in
    let holds : Holds f.window f.table f.marks o k = record {
      window_of = subst (λ q. IsWindowOf q f.window (heard q k)) (sym same_plan) s.holds.window_of;
      described = subst (λ q. IsTableOf q o.antenna f.table k) (sym same_plan)
          (subst (λ a. IsTableOf plan a f.table k) (sym same_antenna) s.holds.described);
      agrees = subst (λ q. Agrees f.marks o (heaps q o.antenna k)) (sym same_plan)
          (subst (λ a. Agrees f.marks o (heaps plan a k)) (sym same_antenna) agrees);
    } in
    let stands : StandsBy plan antenna (record f { columns = o }) l =
    record { holds = holds; report_is = s.report_is; ends = s.ends; finished = s.finished; given = next } in
    subst (λ q. StandsBy q o.antenna (record f { columns = o }) l) (sym same_plan)
    (subst (λ a. StandsBy plan a (record f { columns = o }) l) (sym same_antenna) stands)

-- ---- where the list is named

module _ (list : ℕ → List (List ℕ)) where
  pub promise_new : (f : FeedState) → StandsFor f [] → f.report.taken ≡ 0 → f.report.ended ≡ None → IsOfList list f
  promise_new f s none ended = record {
    stands = subst (λ n. StandsFor f (take n (list f.columns.antenna))) (sym none) s;
    whole = λ said. absurd (false≢true (sym (ap is_said ended) ∙ said));
  }

  pub promise_packet : (f g : FeedState) (b : List ℕ) → IsOfList list f
      → IsNext (list f.columns.antenna) f.report.taken b
      → ((l : List (List ℕ)) → StandsFor f l → StandsFor g (l ++ b ∷ []))
      → g.columns.antenna ≡ f.columns.antenna → g.report.taken ≡ f.report.taken + 1 → is_said g.report.ended ≡ false
      → IsOfList list g
  promise_packet f g b p next on same counted own =
      let all = list f.columns.antenna in
      let more : take (f.report.taken + 1) all ≡ take f.report.taken all ++ b ∷ [] =
      take_more all f.report.taken b next.within ∙ ap (λ x. take f.report.taken all ++ x ∷ []) (next.is b) in
      record {
        stands = subst (λ a. StandsFor g (take g.report.taken (list a))) (sym same)
            (subst (λ n. StandsFor g (take n all)) (sym counted)
            (subst (StandsFor g) (sym more) (on (take f.report.taken all) p.stands)));
        whole = λ said. absurd (false≢true (sym own ∙ said));
      }

  pub promise_end : (f g : FeedState) → IsOfList list f → length (list f.columns.antenna) ≤ f.report.taken
      → ((l : List (List ℕ)) → StandsFor f l → StandsFor g l)
      → g.columns.antenna ≡ f.columns.antenna → g.report.taken ≡ f.report.taken → IsOfList list g
  promise_end f g p last on same counted = record {
    stands = subst (λ a. StandsFor g (take g.report.taken (list a))) (sym same)
        (subst (λ n. StandsFor g (take n (list f.columns.antenna))) (sym counted)
        (on (take f.report.taken (list f.columns.antenna)) p.stands));
    whole = λ said. subst (λ a. length (list a) ≤ g.report.taken) (sym same) (omega (arith, last, counted));
  }

  pub promise_give : (f g : FeedState) → IsOfList list f → ((l : List (List ℕ)) → StandsFor f l → StandsFor g l)
      → g.columns.antenna ≡ f.columns.antenna → g.report ≡ f.report → IsOfList list g
  promise_give f g p on same reported = record {
    stands = subst (λ a. StandsFor g (take g.report.taken (list a))) (sym same)
        (subst (λ r. StandsFor g (take r.taken (list f.columns.antenna))) (sym reported)
        (on (take f.report.taken (list f.columns.antenna)) p.stands));
    whole = λ said. subst (λ a. length (list a) ≤ g.report.taken) (sym same)
        (subst (λ r. length (list f.columns.antenna) ≤ r.taken) (sym reported)
        (p.whole (ap (λ r. is_said r.ended) (sym reported) ∙ said)));
  }

  -- a column below the floor of the strings so far is the whole list's
  final : (plan : Plan) (antenna : ℕ) (l rest : List (List ℕ)) (n : ℕ) (ended : Option Ending)
      → EndsAs ended (ending plan l) → (is_said ended ≡ true → rest ≡ []) → n < floor plan antenna l (is_some ended)
      → column plan antenna (l ++ rest) n ≡ column plan antenna l n
  final plan antenna l rest n ended ends whole low = elim (cases_Bool (is_some (ending plan l))) [
    | inl own ↦ closed_columns_stay plan antenna l rest n (full own)
    | inr goes_on ↦ by_end ended (ending plan l) goes_on ends whole low
  ]
    where
      all_closed : (b c : Bool) (m k : ℕ) → b ≡ true → n < cond (c || b) m k → n < cond (false || b) m k
      all_closed true true m k e h = h
      all_closed true false m k e h = h
      all_closed false c m k e h = absurd (false≢true e)

      full : is_some (ending plan l) ≡ true → n < floor plan antenna l false
      full own = all_closed (is_some (ending plan l)) (is_some ended) plan.accumulations
          (floor_of plan (heaps plan antenna l)) own low

      nothing_left : rest ≡ [] → column plan antenna (l ++ rest) n ≡ column plan antenna l n
      nothing_left none = ap (λ r. column plan antenna (l ++ r) n) none ∙ ap (λ k. column plan antenna k n)
          (append-nil l)

      by_end : (e own : Option Ending) → is_some own ≡ false → EndsAs e own → (is_said e ≡ true → rest ≡ [])
          → n < floor plan antenna l (is_some e) → column plan antenna (l ++ rest) n ≡ column plan antenna l n
      by_end None own none h w below = closed_columns_stay plan antenna l rest n below
      by_end (Some x) (Some own) none h w below = absurd (false≢true (sym none))
      by_end (Some x) None none (inl h) w below = absurd cc
      by_end (Some x) None none (inr (inl h)) w below = nothing_left (w (ap is_said h))
      by_end (Some x) None none (inr (inr h)) w below = nothing_left (w (ap is_said h))

  -- the column that is due is the whole list's
  pub told_column : (f : FeedState) (plan : Plan) (d : Cells) → IsOfList list f → is_some (due_of f) ≡ true
      → f.columns.plan ≡ plan → length f.columns.columns ≡ f.columns.plan.lag → 1 ≤ f.columns.plan.lag
      → IsColumnOf plan list (next_given f.columns d)
  told_column f plan d p due same_plan long some =
      let own = f.columns.plan in
      let antenna = f.columns.antenna in
      let all = list antenna in
      let l = take f.report.taken all in
      let rest = drop f.report.taken all in
      let low = below_floor f l p.stands due in
      let last : column own antenna l f.columns.given ≡ column own antenna all f.columns.given =
      sym (final own antenna l rest f.columns.given f.report.ended p.stands.ends
      (λ said. drop_all f.report.taken all (p.whole said)) low)
      ∙ ap (λ k. column own antenna k f.columns.given) (take-append-drop f.report.taken all) in
      let here : IsColumnOf own list (column_of own antenna l f.columns.given) =
      record { same_plan = refl; same_cells = last } in
      subst (λ q. IsColumnOf q list (next_given f.columns d)) same_plan
      (subst (IsColumnOf own list) (sym (due_column f l d p.stands long some)) here)
