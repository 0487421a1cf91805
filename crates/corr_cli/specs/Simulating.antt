-- What a run over simulated inputs comes to: `trial` correlates those of all antennas, and `simulate` sends that of
-- one. This project's own. What is sent is the output of the definitions, or the list of the antenna.
use Rattle.std.specs.Prelude.{◌≡◌, ◌||◌, ℕ, ◌<◌, Bool, true, false, List, [], length, map, slice_index_or, Option, Some, None, Result, Ok, Err, option_map, bytes_eq, codes}
use Rattle.corr_model.specs.declared.plan.Plan.{Plan}
use Rattle.corr_model.specs.Lists.{numbers}
use Rattle.corr_model.specs.Outputs.{output}
use Rattle.corr_site.specs.declared.place.Place.{Place}
use Rattle.corr_site.specs.Outside.{Appended, Rises}
use Rattle.ant_sim.specs.Simulated.{simulated}
use Rattle.ant_sim.specs.Blocks.{Spot, rest_of}
use Rattle.corr_words.specs.declared.command.Command.{Command}
use Rattle.corr_words.specs.declared.command.Command.TheVariants.{Correlate, Trial, Simulate}
use Rattle.corr_words.specs.Words.{word_at}
use Rattle.corr_words.specs.Forms.{form}
use Rattle.corr_settings.specs.declared.settings.Settings.{Settings as Run}
use Rattle.corr_settings.specs.declared.refusal.SetRefusal.{SetRefusal}
use Rattle.corr_settings.specs.Plain.{antenna_refusal}
use Rattle.corr_settings.specs.Read.{settings, unless_refused}
use Rattle.stream_feed.specs.declared.report.StreamReport.{StreamReport}
use Rattle.vis_send.specs.Marks.{sent_of}
use Rattle.corr_serial.specs.Runs.{IsReportOf}
use Rattle.corr_tools.specs.declared.relaying.Relayed.{Relayed}
use Rattle.corr_tools.specs.declared.relaying.Relayed.TheVariants as relayed
use Rattle.corr_cli.specs.declared.answer.Answer.{Answer}
use Rattle.corr_cli.specs.declared.answer.Answer.TheVariants as answers
use Rattle.corr_cli.specs.Placing.{IsAtOwn}
use Rattle.corr_cli.specs.Runs.{AppendsPackets}
use Rattle.corr_cli.specs.Texts.{Tells}
use Rattle.corr_cli.specs.Tools.{IsUnused, PrintSeen, SinkSeen}

-- the second word is the name of a command over simulated inputs
abbrev pub names_simulated : List (List ℕ) → Bool
names_simulated words = bytes_eq (word_at words 1) (codes "trial") || bytes_eq (word_at words 1) (codes "simulate")

-- the command is `trial`
abbrev pub IsTrial : Command → Type 0
IsTrial (Trial config seed serial) = Unit {0}
IsTrial other = ⊥

-- the command is one over simulated inputs
abbrev pub IsOfSimulated : Command → Type 0
IsOfSimulated (Trial config seed serial) = Unit {0}
IsOfSimulated (Simulate config seed antenna out) = Unit {0}
IsOfSimulated other = ⊥

-- the byte strings of each antenna of a plan, from a seed
abbrev pub simulated_inputs : Plan → ℕ → List (List (List ℕ))
simulated_inputs plan seed = map (simulated plan seed) (numbers 0 plan.antennas)

-- the settings, where the command can have them: `simulate` wants its antenna to be one of the plan
abbrev pub accepted_for : Command → Run → Result Run SetRefusal
accepted_for (Simulate config seed antenna out) run = unless_refused (antenna_refusal run.plan antenna) run
accepted_for other run = Ok run

-- the settings of a text where the command can have them, or why they are refused
abbrev pub read_for : Command → Result Run SetRefusal → Result Run SetRefusal
read_for command (Ok run) = accepted_for command run
read_for command (Err refusal) = Err refusal

abbrev pub settings_for : Command → List ℕ → Result Run SetRefusal
settings_for command bytes = read_for command (settings bytes)

-- the text of the settings of a command over simulated inputs
abbrev pub config_of : Command → List ℕ
config_of (Trial config seed serial) = config
config_of (Simulate config seed antenna out) = config
config_of other = []

-- where a command over simulated inputs sends to
abbrev pub target_of : Command → Run → Place
target_of (Simulate config seed antenna out) run = out
target_of other run = run.output

-- what a command over simulated inputs sends: the output of those of all antennas, or the list of one
abbrev pub strings_of : Command → Run → List (List ℕ)
strings_of (Trial config seed serial) run = output run.plan (simulated run.plan seed)
strings_of (Simulate config seed antenna out) run = simulated run.plan seed antenna
strings_of other run = []

-- the words are those of this command over simulated inputs, and the text gives these settings
pub record Simulates (words : List (List ℕ)) (text : Option (List ℕ)) (command : Command) (run : Run) : Type 0 where
  pub is_form : form words ≡ Some command
  pub is_simulated : IsOfSimulated command
  pub says : option_map (settings_for command) text ≡ Some (Ok run)

-- the words are those of a command over simulated inputs, and its settings are refused by the text
pub record AreRefusedFor (words : List (List ℕ)) (text : Option (List ℕ)) : Type 0 where
  pub command : Command
  pub refusal : SetRefusal
  pub is_form : form words ≡ Some command
  pub is_simulated : IsOfSimulated command
  pub refused : option_map (settings_for command) text ≡ Some (Err refusal)

-- a text that may be told says so of the command
abbrev pub SaysFor : Command → Option (List ℕ) → Result Run SetRefusal → Type 0
SaysFor command None r = Unit {0}
SaysFor command (Some bytes) r = settings_for command bytes ≡ r

-- the settings of a command over simulated inputs are refused, by a text that may be told
pub record IsRefusedFor (words : List (List ℕ)) (text : Option (List ℕ)) : Type 0 where
  pub command : Command
  pub refusal : SetRefusal
  pub is_form : form words ≡ Some command
  pub is_simulated : IsOfSimulated command
  pub says : SaysFor command text (Err refusal)

-- the command reads its settings from a text, over simulated inputs too
abbrev pub reads_config : Command → Bool
reads_config (Correlate config serial) = true
reads_config (Trial config seed serial) = true
reads_config (Simulate config seed antenna out) = true
reads_config other = false

-- the words have a form, and their settings are read from a text
abbrev pub reads_settings : List (List ℕ) → Bool
reads_settings words = has_one (form words)
  where
    has_one : Option Command → Bool
    has_one None = false
    has_one (Some command) = reads_config command

-- what is seen of the source of the settings, before and after
pub record ConfigSeen : Type 0 where
  pub text : Option (List ℕ)
  pub begun : Bool
  pub at : Option (Option (List ℕ))
  pub faults_before : ℕ
  pub faults : ℕ

-- each report is that of the simulated input of its antenna
pub record AreReported (plan : Plan) (seed : ℕ) (reports : List StreamReport) : Type 0 where
  pub as_many : length reports ≡ plan.antennas
  pub each : (a : ℕ) (r : StreamReport) → a < plan.antennas
      → IsReportOf plan a (simulated plan seed a) (slice_index_or reports a r)

-- the answer counts all that the command sends, and reports on each input, where that is known; no source fails
abbrev pub Counts : Bool → Command → Run → Answer → Type 0
Counts knows (Trial config seed serial) run (answers.Summed sent reports fault) =
    (fault ≡ None) × (knows ≡ true
    → (sent ≡ sent_of (strings_of (Trial config seed serial) run)) × AreReported run.plan seed reports)
Counts knows (Simulate config seed antenna out) run (answers.Simulated packets) =
    packets ≡ length (simulated run.plan seed antenna)
Counts knows command run other = ⊥

-- the sink is not begun, nothing was sent, and it counted no fault
pub record IsIdle (sink : SinkSeen) : Type 0 where
  pub unused : IsUnused sink
  pub calm : sink.faults ≡ sink.faults_before

-- all was sent to its place, and counted; what that is holds where it is known
pub record SendsStrings (knows : Bool) (command : Command) (run : Run) (sink : SinkSeen)
    (answer : Answer) : Type 0 where
  pub accepted : accepted_for command run ≡ Ok run
  pub begun : sink.begun ≡ true
  pub at : IsAtOwn sink.begun sink.at (target_of command run)
  pub calm : sink.faults ≡ sink.faults_before
  pub sent : knows ≡ true → Appended sink.sent_before (strings_of command run) sink.sent
  pub counts : Counts knows command run answer

-- a front was sent, where it is known of what, and the sink counted a fault
pub record SendsSome (knows : Bool) (command : Command) (run : Run) (sink : SinkSeen) : Type 0 where
  pub accepted : accepted_for command run ≡ Ok run
  pub at : IsAtOwn sink.begun sink.at (target_of command run)
  pub rose : Rises sink.faults_before sink.faults
  pub front : knows ≡ true → AppendsPackets sink.sent_before sink.sent (strings_of command run)

-- what a command over simulated inputs comes to with these settings
abbrev pub RunsFor : Bool → Command → Run → SinkSeen → Answer → Type 0
RunsFor knows command run sink (answers.Settings refusal) = (accepted_for command run ≡ Err refusal) × IsIdle sink
RunsFor knows command run sink answers.NoMemory = IsIdle sink
RunsFor knows command run sink answers.SinkFault = SendsSome knows command run sink
RunsFor knows command run sink (answers.Summed sent reports fault) =
    SendsStrings knows command run sink (answers.Summed sent reports fault)
RunsFor knows command run sink (answers.Simulated packets) =
    SendsStrings knows command run sink (answers.Simulated packets)
RunsFor knows command run sink other = ⊥

-- the sink is idle, and the source of the settings counted no fault
pub record IsLeft (config : ConfigSeen) (sink : SinkSeen) : Type 0 where
  pub idle : IsIdle sink
  pub calm : config.faults ≡ config.faults_before

-- a list was sent
pub record SentList (strings : List (List ℕ)) (sink : SinkSeen) (packets : ℕ) : Type 0 where
  pub begun : sink.begun ≡ true
  pub calm : sink.faults ≡ sink.faults_before
  pub sent : Appended sink.sent_before strings sink.sent
  pub counted : packets ≡ length strings

-- a front of a list was sent, and the sink counted a fault
pub record SentFront (strings : List (List ℕ)) (sink : SinkSeen) : Type 0 where
  pub rose : Rises sink.faults_before sink.faults
  pub front : AppendsPackets sink.sent_before sink.sent strings

-- what it comes to that a list is sent
abbrev pub SendsList : List (List ℕ) → SinkSeen → Answer → Type 0
SendsList strings sink (answers.Simulated packets) = SentList strings sink packets
SendsList strings sink answers.SinkFault = SentFront strings sink
SendsList strings sink answers.NoMemory = IsIdle sink
SendsList strings sink other = ⊥

-- the source did not fail
abbrev pub NeverFails : Relayed → Type 0
NeverFails (relayed.SourceFault count) = ⊥
NeverFails other = Unit {0}

abbrev pub answer_to : Relayed → Answer
answer_to (relayed.Done packets) = answers.Simulated packets
answer_to (relayed.SourceFault packets) = answers.Simulated packets
answer_to relayed.SinkFault = answers.SinkFault

-- the sources in the seats give the simulated inputs, one for each antenna in order, and have given nothing
pub record AreSimulated {S : Type 0} (plan : Plan) (seed : ℕ) (source : S → Spot) (seats : List S) : Type 0 where
  pub lists : map (λ s. simulated (source s).plan (source s).seed (source s).antenna) seats ≡ simulated_inputs plan seed
  pub left : map (λ s. rest_of (source s)) seats ≡ simulated_inputs plan seed

-- the settings were read, and the command came to this with them
pub record OfSettings (command : Command) (config : ConfigSeen) (P : Run → Type 0) : Type 0 where
  pub run : Run
  pub says : SaysFor command config.text (Ok run)
  pub begun : config.begun ≡ true
  pub calm : config.faults ≡ config.faults_before
  pub runs : P run

-- what a command over simulated inputs comes to; no source of packets is used
abbrev pub ComesTo : Bool → Command → ConfigSeen → SinkSeen → Answer → Type 0
ComesTo knows command config sink answers.SettingsFault = Rises config.faults_before config.faults × IsIdle sink
ComesTo knows command config sink (answers.Settings refusal) =
    SaysFor command config.text (Err refusal) × IsLeft config sink
ComesTo knows command config sink answers.NoMemory = IsLeft config sink
ComesTo knows command config sink answers.SinkFault =
    OfSettings command config (λ run. SendsSome knows command run sink)
ComesTo knows command config sink (answers.Summed sent reports fault) =
    OfSettings command config (λ run. SendsStrings knows command run sink (answers.Summed sent reports fault))
ComesTo knows command config sink (answers.Simulated packets) =
    OfSettings command config (λ run. SendsStrings knows command run sink (answers.Simulated packets))
ComesTo knows command config sink other = ⊥

-- what the words of a command over simulated inputs come to, by their form
abbrev pub WordsCome : Bool → Option Command → ConfigSeen → SinkSeen → Answer → Type 0
WordsCome knows None config sink answer = (answer ≡ answers.Usage) × IsLeft config sink
WordsCome knows (Some command) config sink answer =
    ComesTo knows command config sink answer × IsAtOwn config.begun config.at (config_of command)

-- there is an answer to the words that the run came to, and it was told
pub record SimulatedRan (knows : Bool) (o : Option Command) (config : ConfigSeen) (sink : SinkSeen) (print : PrintSeen)
    (code : ℕ) : Type 0 where
  pub answer : Answer
  pub comes : WordsCome knows o config sink answer
  pub told : Tells print.before print.now print.faults_before print.faults answer code
