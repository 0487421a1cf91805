-- What a run over begun sources comes to, seen from before they were begun.
use Rattle.std.proofs.Common.{◌≡◌, ◌≤◌, ℕ, false, List, [], get_or, Option, Some, None, refl, ◌∙◌, subst}
use Rattle.corr_model.specs.declared.plan.Plan.{Plan}
use Rattle.corr_model.specs.Outputs.{output}
use Rattle.corr_site.specs.Outside.{Appended, Rises}
use Rattle.corr_site.proofs.Laws.{appended_nothing}
use Rattle.stream_feed.specs.declared.report.StreamReport.{StreamReport}
use Rattle.vis_send.specs.declared.tally.Sent.{Sent as Tally}
use Rattle.corr_serial.specs.Sources.{KeepsEach, AreBegun, HasLeastRise, RisesIf}
use Rattle.corr_serial.specs.Hearing.{is_fault}
use Rattle.corr_serial.specs.Runs.{AreGiven, AreReports, AreWholeReports, GaveTaken, list_of}
use Rattle.corr_cli.specs.declared.said.Telling.{Telling}
use Rattle.corr_cli.specs.declared.answer.Answer.{Answer}
use Rattle.corr_cli.specs.declared.answer.Answer.TheVariants.{Usage, SettingsFault, Settings, NotBegun, Sent, Summed, Simulated, SinkFault, NoMemory}
use Rattle.corr_cli.specs.Runs.{AppendsPackets, Seen, SentAll, SentFront, AllBegun, IsOverBegun, IsSummed, RunsPlan}

-- what was seen before the sources and the sink were begun, which changed no list, no count and nothing that was sent
pub record BeginsQuietly {S : Type 0} (mid : Seen S) (old : List S) (sent_before : Option (List (List ℕ)))
    (sink_before : ℕ) : Type 0 where
  pub gives : KeepsEach mid.gives old mid.old
  pub given : KeepsEach mid.given old mid.old
  pub faults : KeepsEach mid.faults old mid.old
  pub sent : mid.sent_before ≡ sent_before
  pub sink : mid.sink_faults_before ≡ sink_before

module _ {S : Type 0} (plan : Plan) (mid : Seen S) (old : List S) (sent_before : Option (List (List ℕ)))
    (sink_before : ℕ) (quiet : BeginsQuietly mid old sent_before sink_before) where
  given_later : (lists : List (List (List ℕ))) → AreGiven plan mid.gives mid.given old lists
      → AreGiven plan mid.gives mid.given mid.old lists
  given_later lists is = record {
    as_many = is.as_many;
    told = λ a d within. quiet.gives.each a d ∙ is.told a d within;
    none_given = λ a d within. quiet.given.each a d ∙ is.none_given a d within;
  }

  taken_before : GaveTaken plan mid.gives mid.given mid.old mid.now → GaveTaken plan mid.gives mid.given old mid.now
  taken_before h = record {
    each =
        λ a d strings within told none.
        h.each a d strings within (quiet.gives.each a d ∙ told) (quiet.given.each a d ∙ none);
  }

  least_before : (fault : Option ℕ) → HasLeastRise mid.faults plan.antennas mid.old mid.now fault
      → HasLeastRise mid.faults plan.antennas old mid.now fault
  least_before None h = record { each = λ a d. h.each a d ∙ quiet.faults.each a d }
  least_before (Some least) h = record {
    within = h.within;
    rose = λ d. subst (λ n. Rises n (mid.faults (get_or mid.now least d))) (quiet.faults.each least d) (h.rose d);
    before = λ a d less. h.before a d less ∙ quiet.faults.each a d;
    later = record {
      each =
          λ a d. subst (λ n. n ≤ mid.faults (get_or mid.now a d)) (quiet.faults.each a d) (h.later.each a d);
    };
  }

  seen_before : Seen S
  seen_before = record {
    knows = mid.knows;
    gives = mid.gives;
    given = mid.given;
    begun = mid.begun;
    faults = mid.faults;
    old = old;
    now = mid.now;
    sent_before = sent_before;
    sent = mid.sent;
    sink_faults_before = sink_before;
    sink_faults = mid.sink_faults;
    sink_begun = mid.sink_begun;
  }

  begun_before : AllBegun plan mid → AllBegun plan seen_before
  unfolding seen_before
  begun_before h = record { sources = h.sources; sink = h.sink }

  all_before : (packets : ℕ) (fault : Option ℕ) → SentAll plan mid packets fault
      → SentAll plan seen_before packets fault
  unfolding seen_before
  all_before packets fault h = record {
    all_begun = begun_before h.all_begun;
    output = λ lists is.
        subst (λ before. Appended before (output plan (list_of lists)) mid.sent) quiet.sent
        (h.output lists (given_later lists is));
    taken = taken_before h.taken;
    count = h.count;
    least = least_before fault h.least;
    sink_kept = h.sink_kept ∙ quiet.sink;
  }

  reports_before : (reports : List StreamReport)
      → AreReports plan mid.gives mid.given mid.faults mid.old mid.now reports
      → AreReports plan mid.gives mid.given mid.faults old mid.now reports
  reports_before reports h = record {
    as_many = h.as_many;
    each = λ a d r strings within told none.
        h.each a d r strings within (quiet.gives.each a d ∙ told) (quiet.given.each a d ∙ none);
    cause = λ a d r within.
        subst (λ n. RisesIf (is_fault (get_or reports a r).ended) n (mid.faults (get_or mid.now a d)))
        (quiet.faults.each a d) (h.cause a d r within);
  }

  whole_before : (reports : List StreamReport) → AreWholeReports plan mid.gives mid.given mid.old reports
      → AreWholeReports plan mid.gives mid.given old reports
  whole_before reports h = record {
    each = λ a d r strings within told none.
        h.each a d r strings within (quiet.gives.each a d ∙ told) (quiet.given.each a d ∙ none);
    over = h.over;
  }

  summed_before : (sent : Tally) (reports : List StreamReport) → IsSummed plan mid sent reports
      → IsSummed plan seen_before sent reports
  unfolding seen_before
  summed_before sent reports h = record {
    counted = λ lists is. h.counted lists (given_later lists is);
    reports_are = reports_before reports h.reports_are;
    whole = whole_before reports h.whole;
  }

  front_before : SentFront plan mid → SentFront plan seen_before
  unfolding seen_before
  front_before h = record {
    sources = h.sources;
    output = λ lists is.
        subst (λ before. AppendsPackets before mid.sent (output plan (list_of lists))) quiet.sent
        (h.output lists (given_later lists is));
    sink_rose = subst (λ n. Rises n mid.sink_faults) quiet.sink h.sink_rose;
  }

  pub runs_before : (telling : Telling) (r : Answer) → IsOverBegun r → RunsPlan telling plan mid r
      → RunsPlan telling plan (record {
        knows = mid.knows;
        gives = mid.gives;
        given = mid.given;
        begun = mid.begun;
        faults = mid.faults;
        old = old;
        now = mid.now;
        sent_before = sent_before;
        sent = mid.sent;
        sink_faults_before = sink_before;
        sink_faults = mid.sink_faults;
        sink_begun = mid.sink_begun;
      }) r
  unfolding seen_before
  runs_before telling (Sent packets fault) over h = (h.0, all_before packets fault h.1)
  runs_before telling (Summed sent reports fault) over h =
      (h.0, all_before sent.packets fault h.1, summed_before sent reports h.2)
  runs_before telling SinkFault over h = front_before h
  runs_before telling (NotBegun antenna) over h = absurd over
  runs_before telling Usage over h = absurd over
  runs_before telling SettingsFault over h = absurd over
  runs_before telling (Settings refusal) over h = absurd over
  runs_before telling NoMemory over h = absurd over
  runs_before telling (Simulated packets) over h = absurd over

-- the sink could not be begun: nothing was sent, a front of any output
pub sink_not_begun : {S : Type 0} (plan : Plan) (seen : Seen S) → AreBegun seen.begun plan.antennas seen.now
    → seen.sent ≡ seen.sent_before → seen.sink_begun ≡ false
    → Rises seen.sink_faults_before seen.sink_faults → SentFront plan seen
sink_not_begun plan seen begun same unbegun rose = record {
  sources = begun;
  output = λ lists is.
      record {
        front = [];
        rest = output plan (list_of lists);
        whole = refl;
        appends = same ∙ appended_nothing seen.sent_before;
      };
  sink_rose = rose;
}
