-- What a run of the program comes to, by its words, the text of its settings, and what its sources give.
-- This project's own. What is sent is the output of the definitions.
use Rattle.std.specs.Prelude.{◌≡◌, ◌⊎◌, ℕ, ◌+◌, Bool, true, false, List, ◌++◌, length, Option, Some, None, Ok, Err}
use Rattle.corr_model.specs.declared.plan.Plan.{Plan}
use Rattle.corr_model.specs.Visibilities.{Lists}
use Rattle.corr_model.specs.Outputs.{output}
use Rattle.corr_site.specs.Outside.{Appended, Rises}
use Rattle.corr_settings.specs.declared.settings.Settings.{Settings as Run}
use Rattle.corr_settings.specs.declared.refusal.SetRefusal.{SetRefusal}
use Rattle.stream_feed.specs.declared.report.StreamReport.{StreamReport}
use Rattle.vis_send.specs.declared.tally.Sent.{Sent as Tally}
use Rattle.vis_send.specs.Marks.{sent_of}
use Rattle.corr_serial.specs.declared.outcome.Ran.{Ran}
use Rattle.corr_serial.specs.declared.outcome.Ran.TheVariants as rans
use Rattle.corr_serial.specs.Sources.{HasLeastRise, IsLeastRise, AreBegun, AreSameFrom}
use Rattle.corr_serial.specs.Runs.{AreGiven, GaveTaken, AreReports, AreWholeReports, list_of}
use Rattle.corr_cli.specs.declared.said.Telling.{Telling}
use Rattle.corr_cli.specs.declared.said.Telling.TheVariants.{Packets, Summary}
use Rattle.corr_cli.specs.declared.answer.Answer.{Answer}
use Rattle.corr_cli.specs.declared.answer.Answer.TheVariants.{Usage, SettingsFault, Settings, NotBegun, Sent, Summed, Simulated, SinkFault, NoMemory}
use Rattle.corr_cli.specs.Said.{form_of, needs_text}
use Rattle.corr_cli.specs.Says.{HasSaid, MayGoOn, telling_of}
use Rattle.corr_cli.specs.Texts.{Tells}
use Rattle.corr_cli.specs.Beginning.{AloneRose, AreBegunBefore}

-- a front of the packets was appended
pub record AppendsPackets (before now : Option (List (List ℕ))) (packets : List (List ℕ)) : Type 0 where
  pub front : List (List ℕ)
  pub rest : List (List ℕ)
  pub whole : packets ≡ front ++ rest
  pub appends : Appended before front now

-- what a contract sees of the sources and of the sink, before and after a run; and whether it is known what is sent
pub record Seen (S : Type 0) : Type 0 where
  pub knows : Bool
  pub gives : S → Option (List (List ℕ))
  pub given : S → ℕ
  pub begun : S → Bool
  pub faults : S → ℕ
  pub old : List S
  pub now : List S
  pub sent_before : Option (List (List ℕ))
  pub sent : Option (List (List ℕ))
  pub sink_faults_before : ℕ
  pub sink_faults : ℕ
  pub sink_begun : Bool

-- nothing was sent, and the sink counted no fault
pub record SentNothing {S : Type 0} (seen : Seen S) : Type 0 where
  pub nothing : seen.sent ≡ seen.sent_before
  pub sink_kept : seen.sink_faults ≡ seen.sink_faults_before

-- all of the plan's sources and the sink are begun
pub record AllBegun {S : Type 0} (plan : Plan) (seen : Seen S) : Type 0 where
  pub sources : AreBegun seen.begun plan.antennas seen.now
  pub sink : seen.sink_begun ≡ true

-- the whole output was sent, of whatever lists the sources give; the fault, if any, is that of the least source whose
-- count of faults rose, and the sink counted none; the packets, where they are known, are as many as the output has, of
-- whatever lists
pub record SentAll {S : Type 0} (plan : Plan) (seen : Seen S) (packets : ℕ) (fault : Option ℕ) : Type 0 where
  pub all_begun : AllBegun plan seen
  pub count : seen.knows ≡ true → (lists : Lists) → packets ≡ length (output plan lists)
  pub output : (lists : List (List (List ℕ))) → AreGiven plan seen.gives seen.given seen.old lists
      → Appended seen.sent_before (output plan (list_of lists)) seen.sent
  pub taken : GaveTaken plan seen.gives seen.given seen.old seen.now
  pub least : HasLeastRise seen.faults plan.antennas seen.old seen.now fault
  pub sink_kept : seen.sink_faults ≡ seen.sink_faults_before

-- what was counted of the output is its number, its bytes and its mark, and each report is that of its stream
pub record IsSummed {S : Type 0} (plan : Plan) (seen : Seen S) (sent : Tally)
    (reports : List StreamReport) : Type 0 where
  pub counted : (lists : List (List (List ℕ))) → AreGiven plan seen.gives seen.given seen.old lists
      → sent ≡ sent_of (output plan (list_of lists))
  pub reports_are : AreReports plan seen.gives seen.given seen.faults seen.old seen.now reports
  pub whole : AreWholeReports plan seen.gives seen.given seen.old reports

-- a front of the output was sent, of whatever lists the sources give, and the sink counted a fault
pub record SentFront {S : Type 0} (plan : Plan) (seen : Seen S) : Type 0 where
  pub sources : AreBegun seen.begun plan.antennas seen.now
  pub output : (lists : List (List (List ℕ))) → AreGiven plan seen.gives seen.given seen.old lists
      → AppendsPackets seen.sent_before seen.sent (output plan (list_of lists))
  pub sink_rose : Rises seen.sink_faults_before seen.sink_faults

-- a source could not be begun: its count of faults alone rose, those before it are begun, those after it are as they
-- were, the sink is not begun, and nothing was sent
pub record FailedToBegin {S : Type 0} (plan : Plan) (seen : Seen S) (antenna : ℕ) : Type 0 where
  pub rose : AloneRose seen.faults plan.antennas antenna seen.old seen.now
  pub begun : AreBegunBefore seen.begun antenna seen.now
  pub later : AreSameFrom (antenna + 1) seen.old seen.now
  pub sink_unbegun : seen.sink_begun ≡ false
  pub quiet : SentNothing seen

-- the answer of a run that ended so
abbrev pub sent_answer : Telling → Tally → List StreamReport → Option ℕ → Answer
sent_answer Packets sent reports fault = Sent sent.packets fault
sent_answer Summary sent reports fault = Summed sent reports fault

abbrev pub answer_of : Telling → Ran → Tally → List StreamReport → Answer
answer_of telling rans.Done sent reports = sent_answer telling sent reports None
answer_of telling (rans.SourceFault antenna) sent reports = sent_answer telling sent reports (Some antenna)
answer_of telling rans.SinkFault sent reports = SinkFault

-- nothing was begun and nothing was sent, and no count of faults of the sources and of the sink changed
pub record Untouched {S : Type 0} (seen : Seen S) : Type 0 where
  pub same : seen.now ≡ seen.old
  pub quiet : SentNothing seen
  pub sink_unbegun : seen.sink_begun ≡ false

-- what a run of the plan, printed so, comes to; all memory is taken before anything is begun
abbrev pub RunsPlan : {S : Type 0} → Telling → Plan → Seen S → Answer → Type 0
RunsPlan telling plan seen (Sent packets fault) = (telling ≡ Packets) × SentAll plan seen packets fault
RunsPlan telling plan seen (Summed sent reports fault) =
    (telling ≡ Summary) × SentAll plan seen sent.packets fault × IsSummed plan seen sent reports
RunsPlan telling plan seen SinkFault = SentFront plan seen
RunsPlan telling plan seen (NotBegun antenna) = FailedToBegin plan seen antenna
RunsPlan telling plan seen NoMemory = Untouched seen
RunsPlan telling plan seen other = ⊥

-- an answer of a run whose sources are begun
abbrev pub IsOverBegun : Answer → Type 0
IsOverBegun (Sent packets fault) = Unit {0}
IsOverBegun (Summed sent reports fault) = Unit {0}
IsOverBegun SinkFault = Unit {0}
IsOverBegun other = ⊥

-- the words, and a text that may be told, say a run, and it came to this
pub record RunsSaid {S : Type 0} (words : List (List ℕ)) (text : Option (List ℕ)) (seen : Seen S)
    (answer : Answer) : Type 0 where
  pub run : Run
  pub said : HasSaid words text (Ok run)
  pub runs : RunsPlan (telling_of said.command) run.plan seen answer

-- what is seen of the source of the settings: its text, where that is told, and its count of faults
pub record TextSeen : Type 0 where
  pub text : Option (List ℕ)
  pub faults_before : ℕ
  pub faults : ℕ

-- nothing came of the words but the answer: nothing was begun or sent
pub record Nothing {S : Type 0} (seen : Seen S) (text : TextSeen) (P : Type 0) : Type 0 where
  pub why : P
  pub untouched : Untouched seen
  pub calm : text.faults ≡ text.faults_before

-- the settings could not be read, since their source failed
pub record TextFailed {S : Type 0} (words : List (List ℕ)) (seen : Seen S) (text : TextSeen) : Type 0 where
  pub needs : needs_text words ≡ true
  pub untouched : Untouched seen
  pub rose : Rises text.faults_before text.faults

-- a run of the words, with its settings read
pub record OfRun {S : Type 0} (words : List (List ℕ)) (seen : Seen S) (text : TextSeen) (answer : Answer) : Type 0 where
  pub of : RunsSaid words text.text seen answer
  pub calm : text.faults ≡ text.faults_before

-- what a run of the words comes to
abbrev pub Comes : {S : Type 0} → List (List ℕ) → Seen S → TextSeen → Answer → Type 0
Comes words seen text Usage = Nothing seen text (form_of words ≡ None)
Comes words seen text SettingsFault = TextFailed words seen text
Comes words seen text (Settings refusal) = Nothing seen text (HasSaid words text.text (Err refusal))
Comes words seen text NoMemory = Nothing seen text (MayGoOn words)
Comes words seen text (NotBegun antenna) = OfRun words seen text (NotBegun antenna)
Comes words seen text (Sent packets fault) = OfRun words seen text (Sent packets fault)
Comes words seen text (Summed sent reports fault) = OfRun words seen text (Summed sent reports fault)
Comes words seen text SinkFault = OfRun words seen text SinkFault
Comes words seen text (Simulated packets) = ⊥

-- there is an answer to the words that the run came to, and it was told
pub record RanAs {S : Type 0} (words : List (List ℕ)) (seen : Seen S) (text : TextSeen) (before now : Option (List ℕ))
    (faults_before faults code : ℕ) : Type 0 where
  pub answer : Answer
  pub comes : Comes words seen text answer
  pub told : Tells before now faults_before faults answer code

-- the status is 0 or 6, or 3 with all of the plan's sources begun
abbrev pub IsWhole : {S : Type 0} → ℕ → (S → Bool) → Plan → List S → Type 0
IsWhole code begun plan now = ((code ≡ 0) ⊎ (code ≡ 6)) ⊎ ((code ≡ 3) × AreBegun begun plan.antennas now)

-- the source of some antenna of the plan is the least whose count of faults rose; where not all are begun, nothing was
-- sent, and the sources after it are as they were
pub record FaultOfSource {S : Type 0} (plan : Plan) (begun : S → Bool) (faults : S → ℕ) (old now : List S)
    (sent_before sent : Option (List (List ℕ))) : Type 0 where
  pub antenna : ℕ
  pub least : IsLeastRise faults plan.antennas antenna old now
  pub unsent : (AreBegun begun plan.antennas now → ⊥) → sent ≡ sent_before
  pub later : (AreBegun begun plan.antennas now → ⊥) → AreSameFrom (antenna + 1) old now

-- the sources are as they were, the sink is not begun, and nothing was sent
pub record IsUntouched {S : Type 0} (old now : List S) (sink_begun : Bool)
    (sent_before sent : Option (List (List ℕ))) : Type 0 where
  pub same : now ≡ old
  pub sink_unbegun : sink_begun ≡ false
  pub nothing : sent ≡ sent_before

-- the settings are refused, by the words or by a text that may be told
pub record IsRefusedAs (words : List (List ℕ)) (text : Option (List ℕ)) : Type 0 where
  pub refusal : SetRefusal
  pub said : HasSaid words text (Err refusal)

-- the code where settings are refused: 2, but for want of memory or
-- a fault of their source where they are read from a text
abbrev pub RefusedCode : List (List ℕ) → ℕ → Type 0
RefusedCode words code = (code ≡ 2) ⊎ ((needs_text words ≡ true) × ((code ≡ 5) ⊎ (code ≡ 8)))
