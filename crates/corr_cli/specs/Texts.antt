-- What the program prints and the code with which it ends. This project's own.
use Rattle.std.specs.Prelude.{◌≡◌, ◌⊎◌, ℕ, ◌==◌, ◌+◌, ◌^◌, ◌<◌, true, List, [], ◌∷◌, ◌++◌, length, slice_index_or, Option, Some, None, is_some, if◌then◌else◌}
use Rattle.corr_site.specs.Outside.{Rises, Appended, AppendsFront}
use Rattle.corr_settings.specs.Named.{HasShortName}
use Rattle.stream_feed.specs.declared.report.StreamReport.{StreamReport}
use Rattle.corr_report.specs.Texts.{settings_text, status_text, usage_text}
use Rattle.corr_report.specs.Summaries.{stream_text, summary_text}
use Rattle.corr_report.specs.declared.status.StatusLine.TheVariants as status
use Rattle.corr_cli.specs.declared.answer.Answer.{Answer}
use Rattle.corr_cli.specs.declared.answer.Answer.TheVariants.{Usage, SettingsFault, Settings, NotBegun, Sent, Summed, Simulated, SinkFault, NoMemory}

-- the code of a run that sent all
abbrev pub code_after : Option ℕ → ℕ
code_after None = 0
code_after (Some antenna) = 3

-- the code of what a run comes to
abbrev pub code_of : Answer → ℕ
code_of Usage = 1
code_of (Settings refusal) = 2
code_of (NotBegun antenna) = 3
code_of (Sent packets fault) = code_after fault
code_of (Summed sent reports fault) = code_after fault
code_of (Simulated packets) = 0
code_of SinkFault = 4
code_of NoMemory = 5
code_of SettingsFault = 8

-- the answer is none of a run that sent all without a fault
abbrev pub IsNotDone : Answer → Type 0
IsNotDone answer = code_of answer ≡ 0 → ⊥

-- the line on a source that failed after the run began, if one did
abbrev pub later_text : Option ℕ → List ℕ
later_text None = []
later_text (Some antenna) = status_text (status.SourceFault antenna)

-- a line on each stream, in order from this antenna on
abbrev pub streams_text : ℕ → List StreamReport → List ℕ
streams_text antenna [] = []
streams_text antenna (r ∷ rs) = stream_text antenna r ++ streams_text (antenna + 1) rs

-- the whole printed text
abbrev pub text_of : Answer → List ℕ
text_of Usage = usage_text
text_of SettingsFault = status_text status.SettingsFault
text_of (Settings refusal) = settings_text refusal
text_of (NotBegun antenna) = status_text (status.SourceFault antenna)
text_of (Sent packets fault) = status_text (status.Sent packets) ++ later_text fault
text_of (Summed sent reports fault) = summary_text sent ++ (streams_text 0 reports ++ later_text fault)
text_of (Simulated packets) = status_text (status.Simulated packets)
text_of SinkFault = status_text status.SinkFault
text_of NoMemory = status_text status.NoMemory

-- each stream has ended
pub record HaveEnded (reports : List StreamReport) : Type 0 where
  pub few : length reports < 2 ^ 32
  pub each : (a : ℕ) (r : StreamReport) → a < length reports → is_some (slice_index_or reports a r).ended ≡ true

-- the text of the answer can be put together: a key's name is short, and each stream has ended
abbrev pub IsPrintable : Answer → Type 0
IsPrintable (Settings refusal) = HasShortName refusal
IsPrintable (Summed sent reports fault) = HaveEnded reports
IsPrintable other = Unit {0}

-- the code after the text was not printed whole: 6 in place of 0
abbrev pub unprinted : ℕ → ℕ
unprinted code = if code == 0 then 6 else code

abbrev pub unprinted_code : Answer → ℕ
unprinted_code answer = unprinted (code_of answer)

-- the whole text was printed, no fault was counted, and the code is the answer's
pub record TellsWhole (before now : Option (List ℕ)) (faults_before faults : ℕ) (answer : Answer)
    (code : ℕ) : Type 0 where
  pub written : Appended before (text_of answer) now
  pub faults_kept : faults ≡ faults_before
  pub code_is : code ≡ code_of answer

-- a front of the text was printed, the count of faults rose, and the code is the answer's or 6
pub record TellsFront (before now : Option (List ℕ)) (faults_before faults : ℕ) (answer : Answer)
    (code : ℕ) : Type 0 where
  pub written : AppendsFront before now (text_of answer)
  pub rises : Rises faults_before faults
  pub code_is : code ≡ unprinted_code answer

-- the text of the answer was printed and its code given, or a fault of printing came in between
abbrev pub Tells : Option (List ℕ) → Option (List ℕ) → ℕ → ℕ → Answer → ℕ → Type 0
Tells before now faults_before faults answer code =
    TellsWhole before now faults_before faults answer code ⊎ TellsFront before now faults_before faults answer code
