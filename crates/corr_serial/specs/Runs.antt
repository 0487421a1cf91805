-- What a run comes to. This project's own.
use Rattle.std.specs.Prelude.{◌≡◌, ℕ, ◌<◌, Bool, true, false, List, [], length, take, slice_index_or, Option, Some, None, Result, Ok, Err, is_some}
use Rattle.corr_model.specs.declared.plan.Plan.{Plan}
use Rattle.corr_model.specs.PacketVerdicts.{report}
use Rattle.corr_model.specs.Streams.{ending, taken}
use Rattle.corr_model.specs.Outputs.{output}
use Rattle.corr_model.specs.Visibilities.{Lists}
use Rattle.corr_site.specs.Outside.{Rises, Rose}
use Rattle.stream_feed.specs.declared.report.StreamReport.{StreamReport}
use Rattle.stream_feed.specs.Counting.{counts_of}
use Rattle.stream_feed.specs.Feeding.{FeedState, EndsAs}
use Rattle.vis_send.specs.declared.tally.Sent.{Sent}
use Rattle.vis_send.specs.Marks.{nothing, sent_of}
use Rattle.vis_send.specs.Sending.{SendsWhole, SendsFront}
use Rattle.corr_serial.specs.declared.outcome.Ran.{Ran}
use Rattle.corr_serial.specs.declared.outcome.Ran.TheVariants.{Done, SinkFault, SourceFault}
use Rattle.corr_serial.specs.Sources.{KeepsEach, NoneFell, IsLeastRise, HasLeastRise, RisesIf}
use Rattle.corr_serial.specs.Hearing.{is_fault, GoesOn}
use Rattle.corr_serial.specs.Outputs.{Meaning, output_by}
use Rattle.corr_serial.specs.Streams.{AreHeard, AllGoOn, AreOver}

-- all was sent, of whatever lists go on from what the streams heard, and each stream has ended
pub record RunsWhole {S : Type 0} (m : Meaning) (plan : Plan) (gives : S → Option (List (List ℕ)))
    (given faults : S → ℕ) (start now : List S) (feeds : List FeedState) (before after : Option (List (List ℕ)))
    (sent_before sent : Sent) : Type 0 where
  pub heard : Lists
  pub are_heard : AreHeard plan gives given faults start now feeds heard
  pub are_over : AreOver plan feeds
  pub sends : (all : Lists) → AllGoOn plan feeds heard all
      → SendsWhole before after sent_before sent (output_by m plan all)

-- a front was sent
pub record RunsFront {S : Type 0} (m : Meaning) (plan : Plan) (gives : S → Option (List (List ℕ)))
    (given faults : S → ℕ) (start now : List S) (feeds : List FeedState) (before after : Option (List (List ℕ)))
    (sent_before sent : Sent) : Type 0 where
  pub heard : Lists
  pub are_heard : AreHeard plan gives given faults start now feeds heard
  pub sends : (all : Lists) → AllGoOn plan feeds heard all
      → SendsFront before after sent_before sent (output_by m plan all)

-- all where the answer is Ok, and else a front
abbrev pub Runs : {S T E : Type 0} → Meaning → Plan → (S → Option (List (List ℕ))) → (S → ℕ) → (S → ℕ) → List S → List S
    → List FeedState → Option (List (List ℕ)) → Option (List (List ℕ)) → Sent → Sent → Result T E → Type 0
Runs m plan gives given faults start now feeds before after sent_before sent (Ok x) =
    RunsWhole m plan gives given faults start now feeds before after sent_before sent
Runs m plan gives given faults start now feeds before after sent_before sent (Err e) =
    RunsFront m plan gives given faults start now feeds before after sent_before sent

-- the byte strings of each antenna, by number: none past the last
abbrev pub list_of : List (List (List ℕ)) → Lists
list_of lists a = slice_index_or lists a []

-- the plan's sources tell that they give these lists, and gave nothing before
pub record AreGiven {S : Type 0} (plan : Plan) (gives : S → Option (List (List ℕ))) (given : S → ℕ) (old : List S)
    (lists : List (List (List ℕ))) : Type 0 where
  pub as_many : length lists ≡ plan.antennas
  pub told : (a : ℕ) (d : S) → a < plan.antennas → gives (slice_index_or old a d) ≡ Some (slice_index_or lists a [])
  pub none_given : (a : ℕ) (d : S) → a < plan.antennas → given (slice_index_or old a d) ≡ 0

-- what a source tells that it gives, where a run speaks of it
abbrev pub known : {S A : Type 0} → Bool → (S → Option A) → S → Option A
known true told = told
known false told = λ s. None

-- each of the plan's sources that tells what it gives, and gave nothing before, gave exactly the strings that count
pub record GaveTaken {S : Type 0} (plan : Plan) (gives : S → Option (List (List ℕ))) (given : S → ℕ)
    (old now : List S) : Type 0 where
  pub each : (a : ℕ) (d : S) (strings : List (List ℕ)) → a < plan.antennas
      → gives (slice_index_or old a d) ≡ Some strings → given (slice_index_or old a d) ≡ 0
      → given (slice_index_or now a d) ≡ length (taken plan strings)

-- no count of faults of the plan's sources rose
pub record NoneRose {S : Type 0} (plan : Plan) (faults : S → ℕ) (old now : List S) : Type 0 where
  pub each : (a : ℕ) (d : S) → a < plan.antennas
      → Rose (faults (slice_index_or old a d)) (faults (slice_index_or now a d)) → ⊥

-- the run went through: the sink did not fail
abbrev pub IsWhole : Ran → Type 0
IsWhole Done = Unit {0}
IsWhole (SourceFault a) = Unit {0}
IsWhole SinkFault = ⊥

-- all strings were sent and counted where the run went through, and else a front of them
abbrev pub SendsBy : Ran → Option (List (List ℕ)) → Option (List (List ℕ)) → Sent → List (List ℕ) → Type 0
SendsBy Done before now sent strings = SendsWhole before now nothing sent strings
SendsBy (SourceFault a) before now sent strings = SendsWhole before now nothing sent strings
SendsBy SinkFault before now sent strings = SendsFront before now nothing sent strings

-- what was sent and counted is the output of some lists, also where the sources do not tell what they give
pub record SendsSome (m : Meaning) (plan : Plan) (before now : Option (List (List ℕ))) (sent : Sent) : Type 0 where
  pub lists : Lists
  pub sends : SendsWhole before now nothing sent (output_by m plan lists)

-- why a run ended so: the sink's count of faults rose, or that of some source, the least of which is named, or none
abbrev pub RanHasCause : {S : Type 0} → (S → ℕ) → ℕ → List S → List S → ℕ → ℕ → Ran → Type 0
RanHasCause faults count old now sink_before sink Done = KeepsEach faults old now × (sink ≡ sink_before)
RanHasCause faults count old now sink_before sink (SourceFault least) =
    IsLeastRise faults count least old now × (sink ≡ sink_before)
RanHasCause faults count old now sink_before sink SinkFault = NoneFell faults old now × Rises sink_before sink

-- the report is that of an antenna's strings, and it ended as they do, or as was said
pub record IsReportOf (plan : Plan) (antenna : ℕ) (strings : List (List ℕ)) (r : StreamReport) : Type 0 where
  pub counts : counts_of r ≡ report plan antenna strings
  pub ends : EndsAs r.ended (ending plan strings)

-- the reports are one for each antenna in order: each is that of the strings that its source gave, where that is told
-- and nothing was given before; and the source's count of faults rose where it ended by a fault
pub record AreReports {S : Type 0} (plan : Plan) (gives : S → Option (List (List ℕ))) (given faults : S → ℕ)
    (old now : List S) (reports : List StreamReport) : Type 0 where
  pub as_many : length reports ≡ plan.antennas
  pub each : (a : ℕ) (d : S) (r : StreamReport) (strings : List (List ℕ)) → a < plan.antennas
      → gives (slice_index_or old a d) ≡ Some strings → given (slice_index_or old a d) ≡ 0
      → IsReportOf plan a (take (given (slice_index_or now a d)) strings) (slice_index_or reports a r)
  pub cause : (a : ℕ) (d : S) (r : StreamReport) → a < plan.antennas
      → RisesIf (is_fault (slice_index_or reports a r).ended) (faults (slice_index_or old a d))
      (faults (slice_index_or now a d))

-- each report is that of all strings that its source gives, and each stream has ended
pub record AreWholeReports {S : Type 0} (plan : Plan) (gives : S → Option (List (List ℕ))) (given : S → ℕ)
    (old : List S) (reports : List StreamReport) : Type 0 where
  pub each : (a : ℕ) (d : S) (r : StreamReport) (strings : List (List ℕ)) → a < plan.antennas
      → gives (slice_index_or old a d) ≡ Some strings → given (slice_index_or old a d) ≡ 0
      → IsReportOf plan a strings (slice_index_or reports a r)
  pub over : (a : ℕ) (r : StreamReport) → a < plan.antennas → is_some (slice_index_or reports a r).ended ≡ true

-- what was sent and counted is the output of some lists
pub record SendsOutput (plan : Plan) (before now : Option (List (List ℕ))) (sent : Sent) : Type 0 where
  pub lists : Lists
  pub sends : SendsWhole before now nothing sent (output plan lists)

-- each report is that of its feed
pub record AreReportsOf (feeds : List FeedState) (reports : List StreamReport) : Type 0 where
  pub as_many : length reports ≡ length feeds
  pub each : (a : ℕ) (f : FeedState) (r : StreamReport) → a < length feeds
      → slice_index_or reports a r ≡ (slice_index_or feeds a f).report

-- the stream of this report is the first that ended by a fault
pub record IsFirst (reports : List StreamReport) (first : ℕ) : Type 0 where
  pub within : first < length reports
  pub fault : (r : StreamReport) → is_fault (slice_index_or reports first r).ended ≡ true
  pub before : (a : ℕ) (r : StreamReport) → a < first → is_fault (slice_index_or reports a r).ended ≡ false

-- no stream ended by a fault, or this is the first that did
abbrev pub IsFirstFault : List StreamReport → Option ℕ → Type 0
IsFirstFault reports None =
    (a : ℕ) (r : StreamReport) → a < length reports → is_fault (slice_index_or reports a r).ended ≡ false
IsFirstFault reports (Some first) = IsFirst reports first

-- how a run ended: whether the sink failed, and the first stream that ended by a fault
abbrev pub ran_as : Bool → Option ℕ → Ran
ran_as false fault = SinkFault
ran_as true None = Done
ran_as true (Some antenna) = SourceFault antenna

-- these lists go on from what the sources gave of the lists that they tell: where a stream has ended, by no string that
-- counts
pub record GoOnFrom {S : Type 0} (plan : Plan) (given : S → ℕ) (now : List S) (reports : List StreamReport)
    (told : List (List (List ℕ))) (lists : Lists) : Type 0 where
  pub each : (a : ℕ) (s : S) (r : StreamReport) → a < plan.antennas
      → GoesOn plan (take (given (slice_index_or now a s)) (list_of told a))
      (is_some (slice_index_or reports a r).ended) (lists a)

-- all that is said of a run
pub record Concludes {S : Type 0} (m : Meaning) (plan : Plan) (gives : (S → Option (List (List ℕ))))
    (given faults : S → ℕ) (start now : List S) (reports : List StreamReport) (before after : Option (List (List ℕ)))
    (sent : Sent) (sink_before sink : ℕ) (ran : Ran) : Type 0 where
  pub sends : (lists : List (List (List ℕ))) → AreGiven plan gives given start lists
      → SendsBy ran before after sent (output_by m plan (list_of lists))
  pub front : (told : List (List (List ℕ))) (lists : Lists) → AreGiven plan gives given start told
      → GoOnFrom plan given now reports told lists → SendsBy ran before after sent (output_by m plan lists)
  pub counted : IsWhole ran → SendsSome m plan before after sent
  pub taken : IsWhole ran → GaveTaken plan gives given start now
  pub reported : AreReports plan gives given faults start now reports
  pub whole_reports : IsWhole ran → AreWholeReports plan gives given start reports
  pub cause : RanHasCause faults plan.antennas start now sink_before sink ran
  pub done : NoneRose plan faults start now → (Rose sink_before sink → ⊥) → ran ≡ Done
