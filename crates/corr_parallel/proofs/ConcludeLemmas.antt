-- What is said of all streams of a run, by what is said of each.
use Rattle.std.proofs.Common.{◌≡◌, ◌⊎◌, ◌<◌, ◌≤◌, ℕ, Bool, true, false, not, List, [], length, get_or, take, Option}
use Rattle.std.proofs.Common.{Some, None, Result, Ok, Err, refl, sym, ◌∙◌, ap, subst, arith, inl, inr}
use Rattle.std.specs.Option.{is_some}
use Rattle.std.proofs.lemmas.Bool.{cases_lt, false≢true}
use Rattle.corr_model.specs.declared.plan.Plan.{Plan}
use Rattle.corr_model.specs.PacketVerdicts.{report}
use Rattle.corr_model.specs.Streams.{ending, taken}
use Rattle.corr_model.specs.Visibilities.{Lists}
use Rattle.corr_model.proofs.StreamLawsTaken.{ending_of_taken}
use Rattle.corr_model.proofs.VerdictLaws.{report_of_taken}
use Rattle.corr_site.specs.Outside.{HasCause, Rises, Rose}
use Rattle.stream_feed.specs.declared.report.StreamReport.{StreamReport}
use Rattle.stream_feed.specs.Counting.{counts_of}
use Rattle.stream_feed.specs.Feeding.{EndsAs}
use Rattle.vis_send.specs.declared.tally.Sent.{Sent}
use Rattle.vis_send.specs.Marks.{nothing}
use Rattle.vis_send.specs.Sending.{SendsWhole, SendsFront}
use Rattle.corr_serial.specs.declared.outcome.Ran.{Ran}
use Rattle.corr_serial.specs.Sources.{AreBegun, AreSameFrom, KeepsEach, KeepsBelonging, KeepsSource}
use Rattle.corr_serial.specs.Runs.{AreGiven, GaveTaken, IsReportOf, AreReports, AreWholeReports, RanHasCause}
use Rattle.corr_serial.specs.Runs.{IsFirstFault, NoneRose, SendsBy, known, list_of, ran_as}
use Rattle.corr_serial.proofs.OutcomeLemmas.{ran_cause, ran_done}
use Rattle.corr_machine.specs.Runs.{IsFront}
use Rattle.corr_parallel.specs.Runs.{AreObserved}
use Rattle.corr_parallel.specs.Seats.{ReadsAll, ReadsOut}
use Rattle.corr_parallel.specs.Senders.{SinkView, HasSentAll}
use Rattle.corr_parallel.proofs.TakenLemmas.{take_counts}

-- what a source is known to tell, it tells
pub tells : {S A : Type 0} (names : Bool) (gives : S → Option A) (s : S) (x : A) → known names gives s ≡ Some x
    → (names ≡ true) × (gives s ≡ Some x)
tells true gives s x e = (refl, e)
tells false gives s x e = absurd (cc)

-- the report of what was given is that of the list
report_given : (plan : Plan) (a : ℕ) (l : List (List ℕ)) (given : ℕ) (r : StreamReport) → ReadsAll plan a l given r
    → IsReportOf plan a (take given l) r
report_given plan a l given r read =
    let same : take given l ≡ taken plan l = take_counts plan l given read.exactly in
    record {
      counts = read.counts ∙ sym (ap (report plan a) same ∙ report_of_taken plan a l);
      ends = subst (EndsAs r.ended) (sym (ap (ending plan) same ∙ ending_of_taken plan l)) read.ends;
    }

module _ {S A : Type 0} (names : Bool) (list : Lists) (plan : Plan) (begun : S → Bool) (at : S → A)
    (gives : S → Option (List (List ℕ))) (belongs : S → ℕ → Type 0) (given faults : S → ℕ) (old now : List S)
    (reports : List StreamReport)
    (each : (a : ℕ) (d : S) (r : StreamReport) → a < plan.antennas
    → ReadsOut names list plan a begun at gives belongs given faults (get_or old a d) (get_or now a d)
    (get_or reports a r))
    (later : AreSameFrom plan.antennas old now)
    (some : StreamReport) where
  keeps_one : {B : Type 0} (said : S → B)
      → ((a : ℕ) (d : S) → a < plan.antennas → said (get_or now a d) ≡ said (get_or old a d)) → KeepsEach said old now
  keeps_one said same = record {
    each = λ a d. elim (cases_lt a plan.antennas) [ inl low ↦ same a d low | inr past ↦ ap said (later.each a d past) ];
  }

  pub keep_gives : KeepsEach gives old now
  keep_gives = keeps_one gives (λ a d low. (each a d some low).source.same_gives)

  pub keep_at : KeepsEach at old now
  keep_at = keeps_one at (λ a d low. (each a d some low).source.same_at)

  pub are_begun : AreBegun begun plan.antennas now
  are_begun = record { each = λ a d low. (each a d some low).source.is_begun }

  pub keep_belonging : KeepsBelonging belongs old now
  keep_belonging = record {
    each = λ a d antenna h. elim (cases_lt a plan.antennas) [
      | inl low ↦ (each a d some low).source.still_belongs antenna h
      | inr past ↦ subst (λ s. belongs s antenna) (sym (later.each a d past)) h
    ];
  }

  -- a list that a source is known to tell is that of the observation
  own_list : (names ≡ true → AreObserved plan belongs given old)
      → ((s : S) (a : ℕ) → belongs s a → gives s ≡ Some (list a))
      → (a : ℕ) (d : S) (strings : List (List ℕ)) → a < plan.antennas
      → known names gives (get_or old a d) ≡ Some strings → (names ≡ true) × (list a ≡ strings)
  own_list observed law a d strings low told =
      let k = tells names gives (get_or old a d) strings told in
      (k.0, let e = sym (law (get_or old a d) a ((observed k.0).belong a d low)) ∙ k.1 in cc)

  pub gave_taken : (names ≡ true → AreObserved plan belongs given old)
      → ((s : S) (a : ℕ) → belongs s a → gives s ≡ Some (list a)) → GaveTaken plan (known names gives) given old now
  gave_taken observed law = record {
    each = λ a d strings low told none.
        let k = own_list observed law a d strings low told in
        ((each a d some low).read k.0).exactly ∙ ap (λ l. length (taken plan l)) k.1;
  }

  read_of : (names ≡ true → AreObserved plan belongs given old)
      → ((s : S) (a : ℕ) → belongs s a → gives s ≡ Some (list a))
      → (a : ℕ) (d : S) (r : StreamReport) (strings : List (List ℕ)) → a < plan.antennas
      → known names gives (get_or old a d) ≡ Some strings
      → ReadsAll plan a strings (given (get_or now a d)) (get_or reports a r)
  read_of observed law a d r strings low told =
      let k = own_list observed law a d strings low told in
      subst (λ l. ReadsAll plan a l (given (get_or now a d)) (get_or reports a r)) k.1 ((each a d r low).read k.0)

  pub are_reports : length reports ≡ plan.antennas → (names ≡ true → AreObserved plan belongs given old)
      → ((s : S) (a : ℕ) → belongs s a → gives s ≡ Some (list a))
      → AreReports plan (known names gives) given faults old now reports
  are_reports many observed law = record {
    as_many = many;
    each = λ a d r strings low told none. report_given plan a strings (given (get_or now a d)) (get_or reports a r)
        (read_of observed law a d r strings low told);
    cause = λ a d r low. (each a d r low).cause;
  }

  pub are_whole_reports : (s : S) → (names ≡ true → AreObserved plan belongs given old)
      → ((s : S) (a : ℕ) → belongs s a → gives s ≡ Some (list a))
      → AreWholeReports plan (known names gives) given old reports
  are_whole_reports s observed law = record {
    each = λ a d r strings low told none. let read = read_of observed law a d r strings low told in
        record { counts = read.counts; ends = read.ends };
    over = λ a r low. (each a s r low).over;
  }

-- the sink's count of faults, by whether it failed
pub sink_cause : {S : Type 0} (plan : Plan) (gives : S → Option (List (List ℕ))) (given faults : S → ℕ)
    (start now : List S) (reports : List StreamReport) (r : StreamReport) (later : AreSameFrom plan.antennas start now)
    → AreReports plan gives given faults start now reports → (broken : Bool) (fault : Option ℕ) (sink_before sink : ℕ)
    → IsFirstFault reports fault → (broken ≡ false → sink ≡ sink_before) → (broken ≡ true → Rises sink_before sink)
    → RanHasCause faults plan.antennas start now sink_before sink (ran_as (not broken) fault)
sink_cause plan gives given faults start now reports r later are true fault sink_before sink first kept rises =
    let rise = rises refl in
    let failed : Result (Unit {0}) (Unit {0}) = Err tt in
    ran_cause plan gives given faults start now reports r later are failed fault sink_before sink first
    (record { later = rise.later; failed = rise.rose; kept = tt })
sink_cause plan gives given faults start now reports r later are false fault sink_before sink first kept rises =
    let same = kept refl in
    let went : Result (Unit {0}) (Unit {0}) = Ok tt in
    ran_cause plan gives given faults start now reports r later are went fault sink_before sink first
    (record { later = omega (arith, same); failed = tt; kept = same })

-- what was sent, by whether the sink failed
pub sends_by : (broken : Bool) (fault : Option ℕ) (before after : Option (List (List ℕ))) (first sent : Sent)
    (went strings : List (List ℕ)) → first ≡ nothing → SendsWhole before after first sent went
    → (broken ≡ false → went ≡ strings) → IsFront went strings
    → SendsBy (ran_as (not broken) fault) before after sent strings
sends_by true fault before after first sent went strings none goes whole front =
    let own = subst (λ f. SendsWhole before after f sent went) none goes in
    record { front = went; rest = front.rest; whole = front.is; appended = own.appended; counted = own.counted }
sends_by false None before after first sent went strings none goes whole front =
    subst (SendsWhole before after nothing sent) (whole refl)
    (subst (λ f. SendsWhole before after f sent went) none goes)
sends_by false (Some a) before after first sent went strings none goes whole front =
    subst (SendsWhole before after nothing sent) (whole refl)
    (subst (λ f. SendsWhole before after f sent went) none goes)
