-- What a run over begun sources comes to, by what was said of it.
use Rattle.std.proofs.Common.{◌≡◌, ◌<◌, ◌≤◌, ◌+◌, ◌-◌, ◌^◌, ℕ, List, [], ◌∷◌, length, Option, Some, None, refl, ap, arith}
use Rattle.std.specs.Prelude.{true}
use Rattle.corr_model.specs.declared.plan.Plan.{Plan}
use Rattle.corr_model.specs.Plans.{Fits}
use Rattle.corr_model.specs.Visibilities.{Lists}
use Rattle.corr_model.specs.Outputs.{output}
use Rattle.corr_serial.specs.declared.outcome.Ran.{Ran}
use Rattle.corr_serial.specs.declared.outcome.Ran.TheVariants.{Done, SinkFault, SourceFault}
use Rattle.vis_send.specs.declared.tally.Sent.{Sent}
use Rattle.vis_send.specs.Marks.{counted, nothing, one_more, more}
use Rattle.vis_send.specs.Sending.{SendsWhole}
use Rattle.stream_feed.specs.declared.report.StreamReport.{StreamReport}
use Rattle.corr_serial.specs.Sources.{AreBegun, HasLeastRise}
use Rattle.corr_serial.specs.Runs.{AreGiven, AreReports, AreWholeReports, GaveTaken, IsWhole, SendsBy, SendsOutput, RanHasCause, list_of}
use Rattle.corr_cli.specs.declared.said.Telling.{Telling}
use Rattle.corr_cli.specs.declared.said.Telling.TheVariants.{Packets, Summary}
use Rattle.corr_cli.specs.Texts.{IsPrintable}
use Rattle.corr_cli.specs.Runs.{IsOverBegun, IsSummed, RunsPlan, Seen, SentAll, answer_of}
use Rattle.corr_cli.proofs.CountLemmas.{few_packets, same_count}

-- a source of the list
pub some_of : {S : Type 0} (xs : List S) → 0 < length xs → S
some_of [] h = absurd (omega arith)
some_of (x ∷ xs) h = x

-- so many packets were counted, where they fit the count
packets_of : (sent : Sent) (strings : List (List ℕ)) → sent.packets + length strings ≤ 2 ^ 64 - 1
    → (more sent strings).packets ≡ sent.packets + length strings
packets_of sent [] h = omega arith
packets_of sent (s ∷ strings) h =
    let one : counted sent.packets 1 ≡ sent.packets + 1 = omega arith in
    let rest = packets_of (one_more sent s) strings (omega (arith, one)) in
    omega (arith, rest, one)

-- the number of packets that were counted of an output is that of any output of the plan
counted_output : (plan : Plan) (sent : Sent) (given lists : Lists) → Fits plan → sent ≡ more nothing (output plan given)
    → sent.packets ≡ length (output plan lists)
counted_output plan sent given lists fits is =
    let few = few_packets plan given fits in
    let count : (more nothing (output plan given)).packets ≡ 0 + length (output plan given) =
    packets_of nothing (output plan given) (omega (arith, few)) in
    let packets : sent.packets ≡ (more nothing (output plan given)).packets = ap (λ (s : Sent). s.packets) is in
    let same = same_count plan given lists in
    omega (arith, packets, count, same)

module _ {S : Type 0} (plan : Plan) (seen : Seen S) (sent : Sent) (fits : Fits plan)
    (sources : AreBegun seen.begun plan.antennas seen.now) (sink : seen.sink_begun ≡ true) where
  -- all was sent
  all_sent : (ran : Ran) (fault : Option ℕ) → IsWhole ran
      → ((lists : List (List (List ℕ))) → AreGiven plan seen.gives seen.given seen.old lists
      → SendsWhole seen.sent_before seen.sent nothing sent (output plan (list_of lists)))
      → (seen.knows ≡ true → SendsOutput plan seen.sent_before seen.sent sent)
      → GaveTaken plan seen.gives seen.given seen.old seen.now
      → HasLeastRise seen.faults plan.antennas seen.old seen.now fault → seen.sink_faults ≡ seen.sink_faults_before
      → SentAll plan seen sent.packets fault
  all_sent ran fault whole sends some taken least kept = record {
    all_begun = record { sources = sources; sink = sink };
    count = λ known lists. counted_output plan sent (some known).lists lists fits (some known).sends.counted;
    output = λ lists is. (sends lists is).appended;
    taken = taken;
    least = least;
    sink_kept = kept;
  }

  summed : (reports : List StreamReport)
      → ((lists : List (List (List ℕ))) → AreGiven plan seen.gives seen.given seen.old lists
      → SendsWhole seen.sent_before seen.sent nothing sent (output plan (list_of lists)))
      → AreReports plan seen.gives seen.given seen.faults seen.old seen.now reports
      → AreWholeReports plan seen.gives seen.given seen.old reports → IsSummed plan seen sent reports
  summed reports sends are whole =
      record { counted = λ lists is. (sends lists is).counted; reports_are = are; whole = whole }

  pub comes_by : (telling : Telling) (ran : Ran) (reports : List StreamReport)
      → ((lists : List (List (List ℕ))) → AreGiven plan seen.gives seen.given seen.old lists
      → SendsBy ran seen.sent_before seen.sent sent (output plan (list_of lists)))
      → (seen.knows ≡ true → IsWhole ran → SendsOutput plan seen.sent_before seen.sent sent)
      → (IsWhole ran → GaveTaken plan seen.gives seen.given seen.old seen.now)
      → AreReports plan seen.gives seen.given seen.faults seen.old seen.now reports
      → (IsWhole ran → AreWholeReports plan seen.gives seen.given seen.old reports)
      → RanHasCause seen.faults plan.antennas seen.old seen.now seen.sink_faults_before seen.sink_faults ran
      → RunsPlan telling plan seen (answer_of telling ran sent reports)
  comes_by Packets Done reports sends some taken are whole cause =
      (refl, all_sent Done None tt sends (λ known. some known tt) (taken tt) cause.0 cause.1)
  comes_by Summary Done reports sends some taken are whole cause = (
    refl,
    all_sent Done None tt sends (λ known. some known tt) (taken tt) cause.0 cause.1,
    summed reports sends
        are (whole tt),
  )
  comes_by Packets (SourceFault a) reports sends some taken are whole cause =
      (refl, all_sent (SourceFault a) (Some a) tt sends (λ known. some known tt) (taken tt) cause.0 cause.1)
  comes_by Summary (SourceFault a) reports sends some taken are whole cause = (
    refl,
    all_sent (SourceFault a) (Some a) tt sends (λ known. some known tt) (taken tt) cause.0 cause.1,
    summed
        reports sends are (whole tt),
  )
  comes_by telling SinkFault reports sends some taken are whole cause = record {
    sources = sources;
    output = λ lists is. let front =
        sends lists is in record {
          front = front.front;
          rest = front.rest;
          whole = front.whole;
          appends = front.appended;
        };
    sink_rose = cause.1;
  }

-- the answer of a run can be printed
pub printable_by : {S : Type 0} (plan : Plan) (gives : S → Option (List (List ℕ))) (given faults : S → ℕ)
    (old now : List S) (telling : Telling) (ran : Ran) (sent : Sent) (reports : List StreamReport) → Fits plan
    → AreReports plan gives given faults old now reports → (IsWhole ran → AreWholeReports plan gives given old reports)
    → IsPrintable (answer_of telling ran sent reports)
printable_by plan gives given faults old now Packets Done sent reports fits are whole = tt
printable_by plan gives given faults old now Packets (SourceFault a) sent reports fits are whole = tt
printable_by plan gives given faults old now telling SinkFault sent reports fits are whole = tt
printable_by plan gives given faults old now Summary Done sent reports fits are whole =
    let most = fits.ranges.shape.antennas.most_met in
    record {
      few = omega (arith, are.as_many, most);
      each = λ a r within. (whole tt).over a r (omega (arith, within, are.as_many));
    }
printable_by plan gives given faults old now Summary (SourceFault a) sent reports fits are whole =
    let most = fits.ranges.shape.antennas.most_met in
    record {
      few = omega (arith, are.as_many, most);
      each = λ a r within. (whole tt).over a r (omega (arith, within, are.as_many));
    }

pub over_by : (telling : Telling) (ran : Ran) (sent : Sent) (reports : List StreamReport)
    → IsOverBegun (answer_of telling ran sent reports)
over_by Packets Done sent reports = tt
over_by Summary Done sent reports = tt
over_by Packets (SourceFault a) sent reports = tt
over_by Summary (SourceFault a) sent reports = tt
over_by telling SinkFault sent reports = tt
