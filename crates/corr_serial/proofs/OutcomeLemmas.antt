-- What a run comes to, by what its streams heard and by what was sent.
use Rattle.std.proofs.Common.{◌≡◌, ◌⊎◌, ◌<◌, ◌≤◌, ℕ, Bool, true, false, List, [], ◌∷◌, ◌++◌, length, get_or, take, drop, Option, Some, None, Result, Ok, Err, is_some, refl, sym, ap, ◌∙◌, subst, arith, inl, inr, append-nil}
use Rattle.std.specs.Result.{is_ok}
use Rattle.std.proofs.lemmas.Bool.{cases_lt, cases_Bool}
use Rattle.std.proofs.lemmas.List.{take_all, take-append-drop, length-take-le, get_or_default}
use Rattle.corr_model.specs.declared.plan.Plan.{Plan}
use Rattle.corr_model.specs.declared.verdict.Ending.{Ending}
use Rattle.corr_model.specs.declared.verdict.Ending.TheVariants as endings
use Rattle.corr_model.specs.PacketVerdicts.{report}
use Rattle.corr_model.specs.Streams.{ending, taken}
use Rattle.corr_model.specs.Visibilities.{Lists}
use Rattle.corr_model.proofs.StreamLawsTaken.{ending_of_taken, taken_past}
use Rattle.corr_model.proofs.VerdictLaws.{report_of_taken}
use Rattle.corr_site.specs.Outside.{HasCause, Rises, Rose}
use Rattle.stream_feed.specs.declared.report.StreamReport.{StreamReport}
use Rattle.stream_feed.specs.Counting.{counts_of}
use Rattle.stream_feed.specs.Feeding.{FeedState, EndsAs, is_said}
use Rattle.vis_send.specs.declared.tally.Sent.{Sent}
use Rattle.vis_send.specs.Marks.{nothing}
use Rattle.vis_send.specs.Sending.{SendsWhole, SendsFront}
use Rattle.corr_serial.specs.declared.outcome.Ran.{Ran}
use Rattle.corr_serial.specs.declared.outcome.Ran.TheVariants as rans
use Rattle.corr_serial.specs.Sources.{AreSameFrom, KeepsEach, NoneFell, IsLeastRise, RisesIf}
use Rattle.corr_serial.specs.Hearing.{is_over, is_fault, HasHeard, IsFront, Hears, GoesOn}
use Rattle.corr_serial.specs.Outputs.{Meaning, output_by}
use Rattle.corr_serial.specs.Streams.{AreHeard, AllGoOn, AreOver}
use Rattle.corr_serial.specs.Runs.{RunsWhole, RunsFront, Runs, AreGiven, GaveTaken, NoneRose, IsWhole, SendsBy, SendsSome, RanHasCause, IsReportOf, AreReports, AreWholeReports, AreReportsOf, Concludes, GoOnFrom, IsFirst, IsFirstFault, list_of, ran_as}

abbrev pub Told : Type 0 → Type 0
Told S = S → Option (List (List ℕ))

-- an element of a list that has one
pub some_of : {S : Type 0} (xs : List S) → 0 < length xs → S
some_of [] h = absurd (omega arith)
some_of (x ∷ xs) h = x

-- a stream that has ended ended by itself, or as was said
over_cases : (o own : Option Ending) → EndsAs o own → is_some o ≡ true → (is_some own ≡ true) ⊎ (is_said o ≡ true)
over_cases o (Some own) h over = inl refl
over_cases o None (inl e) over = absurd (let off = sym (ap is_some e) ∙ over in cc)
over_cases o None (inr (inl e)) over = inr (ap is_said e)
over_cases o None (inr (inr e)) over = inr (ap is_said e)

-- what its source gives counts as far as it heard
counts_all : (plan : Plan) (antenna given : ℕ) (f : FeedState) (l all : List (List ℕ)) → HasHeard plan antenna f l
    → IsFront all given f.report.ended l → is_over f ≡ true → taken plan all ≡ l
counts_all plan antenna given f l all h front over =
    let rest = drop given all in
    let whole : all ≡ l ++ rest = sym (ap (λ k. k ++ rest) front.front ∙ take-append-drop given all) in
    let ends : EndsAs f.report.ended (ending plan l) =
    subst (λ p. EndsAs f.report.ended (ending p l)) h.same_plan h.stands.ends in
    elim (over_cases f.report.ended (ending plan l) ends over) [
      | inl own ↦ ap (taken plan) whole ∙ taken_past plan l rest own ∙ h.counts
      | inr said ↦
          let same : l ≡ all = front.front ∙ take_all given all (let e = front.whole said in omega (arith, e)) in
          sym (ap (taken plan) same) ∙ h.counts
    ]

goes_on_told : (plan : Plan) (antenna given : ℕ) (f : FeedState) (l all : List (List ℕ)) → HasHeard plan antenna f l
    → IsFront all given f.report.ended l → GoesOn plan l (is_over f) all
goes_on_told plan antenna given f l all h front = record {
  rest = drop given all;
  is = sym (ap (λ k. k ++ drop given all) front.front ∙ take-append-drop given all);
  whole = λ over. counts_all plan antenna given f l all h front over;
}

goes_on_itself : (plan : Plan) (antenna : ℕ) (f : FeedState) (l : List (List ℕ)) → HasHeard plan antenna f l
    → GoesOn plan l (is_over f) l
goes_on_itself plan antenna f l h = record { rest = []; is = sym (append-nil l); whole = λ over. h.counts }

module _ {S : Type 0} (plan : Plan) (gives : Told S) (given faults : S → ℕ) (start now : List S)
    (feeds : List FeedState) (heard : Lists) (some : 0 < length start)
    (h : AreHeard plan gives given faults start now feeds heard) where
  -- lists that the sources tell go on from what the streams heard
  pub told_go_on : (lists : List (List (List ℕ))) → AreGiven plan gives given start lists
      → AllGoOn plan feeds heard (list_of lists)
  told_go_on lists k = record {
    each = λ a f lt.
        let s = some_of start some in
        let here = h.each a s f lt in
        goes_on_told plan a (given (get_or now a s)) (get_or feeds a f) (heard a) (list_of lists a) here.heard
        (here.told (list_of lists a) (k.told a s lt) (k.none_given a s lt));
  }

  -- so do lists that go on from what the sources gave
  pub go_on_from : (reports : List StreamReport) → length feeds ≡ plan.antennas → AreReportsOf feeds reports
      → (told : List (List (List ℕ))) (lists : Lists) → AreGiven plan gives given start told
      → GoOnFrom plan given now reports told lists → AllGoOn plan feeds heard lists
  go_on_from reports many of told lists k g = record {
    each = λ a f lt.
        let s = some_of start some in
        let here = h.each a s f lt in
        let front = here.told (list_of told a) (k.told a s lt) (k.none_given a s lt) in
        let q = get_or feeds a f in
        subst (λ l. GoesOn plan l (is_over q) (lists a)) (sym front.front)
        (subst (λ (x : StreamReport). GoesOn plan (take (given (get_or now a s)) (list_of told a)) (is_some x.ended)
        (lists a)) (of.each a f q.report (omega (arith, many, lt))) (g.each a s q.report lt));
  }

  -- so does what they heard
  pub heard_go_on : AllGoOn plan feeds heard heard
  heard_go_on = record {
    each = λ a f lt. let s =
        some_of start some in goes_on_itself plan a (get_or feeds a f) (heard a) (h.each a s f lt).heard;
  }

  -- each source gave exactly the strings that count
  pub gave_taken : (d : FeedState) → AreOver plan feeds → GaveTaken plan gives given start now
  gave_taken f over = record {
    each = λ a s strings lt told none.
        let here = h.each a s f lt in
        let front = here.told strings told none in
        let all = counts_all plan a (given (get_or now a s)) (get_or feeds a f) (heard a) strings here.heard front
        (over.each a f lt) in
        sym (ap length (all ∙ front.front) ∙ length-take-le (given (get_or now a s)) strings front.within);
  }

  -- a report is that of what its source gave
  report_told : (a : ℕ) (s : S) (f : FeedState) (r : StreamReport) (strings : List (List ℕ)) → a < plan.antennas
      → r ≡ (get_or feeds a f).report
      → gives (get_or start a s) ≡ Some strings → given (get_or start a s) ≡ 0
      → IsReportOf plan a (take (given (get_or now a s)) strings) r
  report_told a s f r strings lt is told none =
      let here = h.each a s f lt in
      let front = here.told strings told none in
      let q = get_or feeds a f in
      subst (λ x. IsReportOf plan a (take (given (get_or now a s)) strings) x) (sym is)
      (subst (λ l. IsReportOf plan a l q.report) front.front
      (subst (λ p. IsReportOf p a (heard a) q.report) here.heard.same_plan
      (subst (λ b. IsReportOf q.columns.plan b (heard a) q.report) here.heard.same_antenna
      (record { counts = here.heard.stands.report_is; ends = here.heard.stands.ends }))))

  pub are_reports : (d : FeedState) (reports : List StreamReport) → length feeds ≡ plan.antennas
      → AreReportsOf feeds reports → AreReports plan gives given faults start now reports
  are_reports f reports many of = record {
    as_many = of.as_many ∙ many;
    each = λ a s r strings lt told none.
        report_told a s f (get_or reports a r) strings lt (of.each a f r (omega (arith, many, lt))) told none;
    cause = λ a s r lt. subst
        (λ (x : StreamReport). RisesIf (is_fault x.ended) (faults (get_or start a s)) (faults (get_or now a s)))
        (sym (of.each a f r (omega (arith, many, lt)))) (h.each a s f lt).cause;
  }

  -- of a stream that has ended it is that of all that its source gives
  pub are_whole_reports : (d : FeedState) (reports : List StreamReport) → length feeds ≡ plan.antennas
      → AreReportsOf feeds reports → AreOver plan feeds → AreWholeReports plan gives given start reports
  are_whole_reports f reports many of over = record {
    each = λ a s r strings lt told none.
        let here = h.each a s f lt in
        let front = here.told strings told none in
        let q = get_or feeds a f in
        let all : taken plan strings ≡ take (given (get_or now a s)) strings =
        counts_all plan a (given (get_or now a s)) q (heard a) strings here.heard front (over.each a f lt) ∙
        front.front in
        let part = report_told a s f (get_or reports a r) strings lt
        (of.each a f r (omega (arith, many, lt))) told none in
        record {
          counts = part.counts ∙ ap (report plan a) (sym all) ∙ report_of_taken plan a strings;
          ends = subst (EndsAs (get_or reports a r).ended)
              (ap (ending plan) (sym all) ∙ ending_of_taken plan strings) part.ends;
        };
    over = λ a r lt. ap (λ (x : StreamReport). is_some x.ended) (of.each a f r (omega (arith, many, lt))) ∙
        over.each a f lt;
  }

-- a count that rose or not did not fall
not_less : (before now : ℕ) (failed : Bool) → RisesIf failed before now → before ≤ now
not_less before now true h = h.later
not_less before now false h = omega arith

rose_if : (before now : ℕ) (failed : Bool) → failed ≡ true → RisesIf failed before now → Rises before now
rose_if before now failed e h = subst (λ b. RisesIf b before now) e h

kept_if : (before now : ℕ) (failed : Bool) → failed ≡ false → RisesIf failed before now → now ≡ before
kept_if before now failed e h = subst (λ b. RisesIf b before now) e h

module _ {S : Type 0} (plan : Plan) (gives : Told S) (given faults : S → ℕ) (start now : List S)
    (reports : List StreamReport) (r : StreamReport)
    (later : AreSameFrom plan.antennas start now) (are : AreReports plan gives given faults start now reports) where
  none_fell : NoneFell faults start now
  none_fell = record {
    each = λ a s. elim (cases_lt a plan.antennas) [
      | inl lt ↦ not_less (faults (get_or start a s)) (faults (get_or now a s)) (is_fault (get_or reports a r).ended)
          (are.cause a s r lt)
      | inr past ↦ let same = ap faults (later.each a s past) in omega (arith, same)
    ];
  }

  none_failed : IsFirstFault reports None → KeepsEach faults start now
  none_failed none = record {
    each = λ a s. elim (cases_lt a plan.antennas) [
      | inl lt ↦ kept_if (faults (get_or start a s)) (faults (get_or now a s)) (is_fault (get_or reports a r).ended)
          (none a r (let many = are.as_many in omega (arith, many, lt))) (are.cause a s r lt)
      | inr past ↦ ap faults (later.each a s past)
    ];
  }

  least_failed : (least : ℕ) → IsFirst reports least → IsLeastRise faults plan.antennas least start now
  least_failed least first =
      let within : least < plan.antennas = let many = are.as_many in let low =
      first.within in omega (arith, many, low) in
      record {
        within = within;
        rose = λ s. rose_if (faults (get_or start least s)) (faults (get_or now least s))
            (is_fault (get_or reports least r).ended) (first.fault r) (are.cause least s r within);
        before = λ a s lt. kept_if (faults (get_or start a s)) (faults (get_or now a s))
            (is_fault (get_or reports a r).ended) (first.before a r lt) (are.cause a s r (omega (arith, lt, within)));
        later = none_fell;
      }

  -- why the run ended so
  pub ran_cause : {T E : Type 0} (x : Result T E) (fault : Option ℕ) (sink_before sink : ℕ) → IsFirstFault reports fault
      → HasCause sink_before sink x
      → RanHasCause faults plan.antennas start now sink_before sink (ran_as (is_ok x) fault)
  ran_cause (Ok t) None sink_before sink f c = (none_failed f, c.kept)
  ran_cause (Ok t) (Some least) sink_before sink f c = (least_failed least f, c.kept)
  ran_cause (Err e) fault sink_before sink f c = (none_fell, record { later = c.later; rose = c.failed })

-- where no count rose, nothing failed
pub ran_done : {S : Type 0} (plan : Plan) (faults : S → ℕ) (start now : List S) (sink_before sink : ℕ) (ran : Ran)
    → 0 < length start → RanHasCause faults plan.antennas start now sink_before sink ran
    → NoneRose plan faults start now → (Rose sink_before sink → ⊥) → ran ≡ rans.Done
ran_done plan faults start now sink_before sink rans.Done some h quiet calm = refl
ran_done plan faults start now sink_before sink (rans.SourceFault least) some h quiet calm =
    let s = some_of start some in absurd (quiet.each least s h.0.within (h.0.rose s).rose)
ran_done plan faults start now sink_before sink rans.SinkFault some h quiet calm = absurd (calm h.1.rose)

-- what was sent, by how the run ended, of lists that go on from what the streams heard
pub ran_sends : {S T E : Type 0} (m : Meaning) (plan : Plan) (gives : Told S) (given faults : S → ℕ)
    (start now : List S) (feeds : List FeedState) (before after : Option (List (List ℕ))) (sent : Sent) (x : Result T E)
    (fault : Option ℕ)
    → Runs m plan gives given faults start now feeds before after nothing sent x → (lists : Lists)
    → ((heard : Lists) → AreHeard plan gives given faults start now feeds heard → AllGoOn plan feeds heard lists)
    → SendsBy (ran_as (is_ok x) fault) before after sent (output_by m plan lists)
ran_sends m plan gives given faults start now feeds before after sent (Ok t) None h lists k =
    h.sends lists (k h.heard h.are_heard)
ran_sends m plan gives given faults start now feeds before after sent (Ok t) (Some a) h lists k =
    h.sends lists (k h.heard h.are_heard)
ran_sends m plan gives given faults start now feeds before after sent (Err e) fault h lists k =
    h.sends lists (k h.heard h.are_heard)

-- a run that went through did all
pub ran_whole : {S T E : Type 0} (m : Meaning) (plan : Plan) (gives : Told S) (given faults : S → ℕ)
    (start now : List S) (feeds : List FeedState) (before after : Option (List (List ℕ))) (first sent : Sent)
    (x : Result T E) (fault : Option ℕ)
    → IsWhole (ran_as (is_ok x) fault) → Runs m plan gives given faults start now feeds before after first sent x
    → RunsWhole m plan gives given faults start now feeds before after first sent
ran_whole m plan gives given faults start now feeds before after first sent (Ok t) fault w h = h
ran_whole m plan gives given faults start now feeds before after first sent (Err e) fault w h = absurd w

-- what the streams heard, however the run ended
pub ran_heard : {S T E : Type 0} (m : Meaning) (plan : Plan) (gives : Told S) (given faults : S → ℕ)
    (start now : List S) (feeds : List FeedState) (before after : Option (List (List ℕ))) (first sent : Sent)
    (x : Result T E)
    → Runs m plan gives given faults start now feeds before after first sent x
    → (heard : Lists) × AreHeard plan gives given faults start now feeds heard
ran_heard m plan gives given faults start now feeds before after first sent (Ok t) h = (h.heard, h.are_heard)
ran_heard m plan gives given faults start now feeds before after first sent (Err e) h = (h.heard, h.are_heard)

concludes_as : {S T E : Type 0} (m : Meaning) (plan : Plan) (gives : Told S) (given faults : S → ℕ) (start now : List S)
    (feeds : List FeedState) (reports : List StreamReport) (before after : Option (List (List ℕ))) (sent : Sent)
    (sink_before sink : ℕ) (x : Result T E) (fault : Option ℕ)
    → 0 < length start → 0 < length feeds → length feeds ≡ plan.antennas → AreSameFrom plan.antennas start now
    → AreReportsOf feeds reports → IsFirstFault reports fault → HasCause sink_before sink x
    → Runs m plan gives given faults start now feeds before after nothing sent x
    → Concludes m plan gives given faults start now reports before after sent sink_before sink (ran_as (is_ok x) fault)
concludes_as m plan gives given faults start now feeds reports before after sent sink_before sink x fault some one many
    later of first cause h =
    let f = some_of feeds one in
    let heard = ran_heard m plan gives given faults start now feeds before after nothing sent x h in
    let are = are_reports plan gives given faults start now feeds heard.0 some heard.1 f reports many of in
    let why = ran_cause plan gives given faults start now reports f.report later are x fault sink_before sink
    first cause in
    record {
      sends = λ lists k. ran_sends m plan gives given faults start now feeds before after sent x fault h (list_of lists)
          (λ l e. told_go_on plan gives given faults start now feeds l some e lists k);
      front = λ told lists k go. ran_sends m plan gives given faults start now feeds before after sent x fault h lists
          (λ l e. go_on_from plan gives given faults start now feeds l some e reports many of told lists k go);
      counted = λ w.
          let k = ran_whole m plan gives given faults start now feeds before after nothing sent x fault w h in
          record {
            lists = k.heard;
            sends = k.sends k.heard (heard_go_on plan gives given faults start now feeds k.heard some k.are_heard);
          };
      taken = λ w.
          let k = ran_whole m plan gives given faults start now feeds before after nothing sent x fault w h in
          gave_taken plan gives given faults start now feeds k.heard some k.are_heard f k.are_over;
      reported = are;
      whole_reports = λ w.
          let k = ran_whole m plan gives given faults start now feeds before after nothing sent x fault w h in
          are_whole_reports plan gives given faults start now feeds k.heard some k.are_heard f reports many
          of k.are_over;
      cause = why;
      done = ran_done plan faults start now sink_before sink (ran_as (is_ok x) fault) some why;
    }

pub concludes : {S T E : Type 0} (m : Meaning) (plan : Plan) (gives : Told S) (given faults : S → ℕ)
    (start now : List S) (feeds : List FeedState) (reports : List StreamReport) (before after : Option (List (List ℕ)))
    (first sent : Sent) (sink_before sink : ℕ) (x : Result T E) (fault : Option ℕ) (ran : Ran)
    → 0 < length start → 0 < length feeds → length feeds ≡ plan.antennas → AreSameFrom plan.antennas start now
    → AreReportsOf feeds reports → IsFirstFault reports fault → HasCause sink_before sink x
    → Runs m plan gives given faults start now feeds before after first sent x → first ≡ nothing
    → ran ≡ ran_as (is_ok x) fault
    → Concludes m plan gives given faults start now reports before after sent sink_before sink ran
concludes m plan gives given faults start now feeds reports before after first sent sink_before sink x fault ran some
    one many later of failed cause h none is =
    let from_nothing = subst (λ t. Runs m plan gives given faults start now feeds before after t sent x) none h in
    subst (Concludes m plan gives given faults start now reports before after sent sink_before sink) (sym is)
    (concludes_as m plan gives given faults start now feeds reports before after sent sink_before sink x fault some one
    many later of failed cause from_nothing)

-- of other reports and another count that are these
pub conclude_of : {S : Type 0} (m : Meaning) (plan : Plan) (gives : Told S) (given faults : S → ℕ) (start now : List S)
    (reports same : List StreamReport) (before after : Option (List (List ℕ))) (sent tally : Sent)
    (sink_before sink : ℕ) (ran : Ran)
    → same ≡ reports → tally ≡ sent
    → Concludes m plan gives given faults start now reports before after sent sink_before sink ran
    → Concludes m plan gives given faults start now same before after tally sink_before sink ran
conclude_of m plan gives given faults start now reports same before after sent tally sink_before sink ran e f h =
    subst (λ l. Concludes m plan gives given faults start now l before after tally sink_before sink ran) (sym e)
    (subst (λ t. Concludes m plan gives given faults start now reports before after t sink_before sink ran) (sym f) h)
