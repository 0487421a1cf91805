-- What a run of a tool comes to: `relay`, `inspect` and `decode`, over the first source. This project's own.
use Rattle.std.specs.Prelude.{◌≡◌, ◌⊎◌, ◌||◌, ℕ, Bool, true, false, List, ◌++◌, Option, Some, None, Result, Ok, Err, bytes_eq, codes}
use Rattle.corr_site.specs.declared.place.Place.{Place}
use Rattle.corr_site.specs.Outside.{Appended, AppendsFront, HasCause, Rises}
use Rattle.corr_words.specs.declared.command.Command.{Command}
use Rattle.corr_words.specs.declared.command.Command.TheVariants.{Relay, Inspect, Decode}
use Rattle.corr_words.specs.Words.{word_at}
use Rattle.corr_report.specs.Texts.{status_text, usage_text}
use Rattle.corr_report.specs.declared.status.StatusLine.TheVariants as status
use Rattle.corr_tools.specs.declared.relaying.Relayed.{Relayed}
use Rattle.corr_tools.specs.declared.relaying.Relayed.TheVariants as relayed
use Rattle.corr_tools.specs.declared.inspecting.Inspected.{Inspected}
use Rattle.corr_tools.specs.declared.decoding.Ended.{Ended}
use Rattle.corr_tools.specs.declared.decoding.Ended.TheVariants as ended
use Rattle.corr_tools.specs.declared.decoding.Decoded.{Decoded}
use Rattle.corr_tools.specs.Relaying.{Relays, RelayHasCause}
use Rattle.corr_tools.specs.Inspecting.{Inspects}
use Rattle.corr_tools.specs.Decoding.{DecodeCause, Decodes}
use Rattle.corr_cli.specs.declared.tools.RelayEnd.{RelayEnd}
use Rattle.corr_cli.specs.declared.tools.RelayEnd.TheVariants.{SourceUnbegun, SinkUnbegun, Over}
use Rattle.corr_cli.specs.Placing.{IsAtOwn}
use Rattle.corr_cli.specs.Texts.{unprinted}

-- the second word is the name of a tool
abbrev pub names_tool : List (List ℕ) → Bool
names_tool words =
    bytes_eq (word_at words 1) (codes "relay")
    || (bytes_eq (word_at words 1) (codes "inspect") || bytes_eq (word_at words 1) (codes "decode"))

-- the command is one of a tool
abbrev pub IsOfTool : Command → Type 0
IsOfTool (Relay from to limit) = Unit {0}
IsOfTool (Inspect from) = Unit {0}
IsOfTool (Decode from limit) = Unit {0}
IsOfTool other = ⊥

-- the text was written and the code is its own; or a front of it, the count of faults rose, and 6 stands in place of 0
pub record IsTold (before now : Option (List ℕ)) (faults_before faults : ℕ) (text : List ℕ)
    (own code : ℕ) : Type 0 where
  pub written : Appended before text now
  pub calm : faults ≡ faults_before
  pub same : code ≡ own

pub record IsCut (before now : Option (List ℕ)) (faults_before faults : ℕ) (text : List ℕ) (own code : ℕ) : Type 0 where
  pub front : AppendsFront before now text
  pub rises : Rises faults_before faults
  pub changed : code ≡ unprinted own

abbrev pub TellsText : Option (List ℕ) → Option (List ℕ) → ℕ → ℕ → List ℕ → ℕ → ℕ → Type 0
TellsText before now faults_before faults text own code =
    IsTold before now faults_before faults text own code ⊎ IsCut before now faults_before faults text own code

-- what is seen of the first source, before and after
pub record SourceSeen : Type 0 where
  pub gives : Option (List (List ℕ))
  pub given_before : ℕ
  pub given : ℕ
  pub begun : Bool
  pub at : Option (Option (ℕ × Place))
  pub faults_before : ℕ
  pub faults : ℕ

-- what is seen of the sink, before and after
pub record SinkSeen : Type 0 where
  pub sent_before : Option (List (List ℕ))
  pub sent : Option (List (List ℕ))
  pub begun : Bool
  pub at : Option (Option Place)
  pub faults_before : ℕ
  pub faults : ℕ

-- what is seen of the print, before and after
pub record PrintSeen : Type 0 where
  pub before : Option (List ℕ)
  pub now : Option (List ℕ)
  pub faults_before : ℕ
  pub faults : ℕ

-- the sink is not begun, and nothing was sent
pub record IsUnused (sink : SinkSeen) : Type 0 where
  pub unbegun : sink.begun ≡ false
  pub quiet : sink.sent ≡ sink.sent_before

-- the text and the code of a relay that ended so

abbrev pub relay_text : RelayEnd → List ℕ
relay_text SourceUnbegun = status_text (status.SourceFault 0)
relay_text SinkUnbegun = status_text status.SinkFault
relay_text (Over (relayed.Done packets)) = status_text (status.Relayed packets)
relay_text (Over (relayed.SourceFault packets)) =
    status_text (status.Relayed packets) ++ status_text (status.SourceFault 0)
relay_text (Over relayed.SinkFault) = status_text status.SinkFault

abbrev pub relay_code : RelayEnd → ℕ
relay_code SourceUnbegun = 3
relay_code SinkUnbegun = 4
relay_code (Over (relayed.Done packets)) = 0
relay_code (Over (relayed.SourceFault packets)) = 3
relay_code (Over relayed.SinkFault) = 4

-- the source could not be begun: it counted a fault, and the sink is not used
pub record RelaySourceFailed (source : SourceSeen) (sink : SinkSeen) : Type 0 where
  pub rose : Rises source.faults_before source.faults
  pub source_unbegun : source.begun ≡ false
  pub unused : IsUnused sink
  pub sink_calm : sink.faults ≡ sink.faults_before

-- the sink could not be begun: it counted a fault, and nothing was sent
pub record RelaySinkFailed (source : SourceSeen) (sink : SinkSeen) : Type 0 where
  pub source_begun : source.begun ≡ true
  pub source_calm : source.faults ≡ source.faults_before
  pub given : source.given ≡ source.given_before
  pub unused : IsUnused sink
  pub rose : Rises sink.faults_before sink.faults

-- both were begun, and the first strings that the source gives, at most so many, were sent on
pub record RelayWent (limit : ℕ) (source : SourceSeen) (sink : SinkSeen) (how : Relayed) : Type 0 where
  pub source_begun : source.begun ≡ true
  pub sink_begun : sink.begun ≡ true
  pub relays : Relays source.gives source.given_before source.given limit sink.sent_before sink.sent how
  pub cause : RelayHasCause source.faults_before source.faults sink.faults_before sink.faults how

-- what a relay came to
abbrev pub RelayComes : ℕ → SourceSeen → SinkSeen → RelayEnd → Type 0
RelayComes limit source sink SourceUnbegun = RelaySourceFailed source sink
RelayComes limit source sink SinkUnbegun = RelaySinkFailed source sink
RelayComes limit source sink (Over how) = RelayWent limit source sink how

-- a relay came to an end, and its text was told
pub record RelayRan (from to : Place) (limit : ℕ) (source : SourceSeen) (sink : SinkSeen) (print : PrintSeen)
    (code : ℕ) : Type 0 where
  pub end : RelayEnd
  pub comes : RelayComes limit source sink end
  pub told : TellsText print.before print.now print.faults_before print.faults (relay_text end) (relay_code end) code
  pub source_at : IsAtOwn source.begun source.at (0, from)
  pub sink_at : IsAtOwn sink.begun sink.at to

-- the source could not be begun, and that was told
pub record ReadFailed (source : SourceSeen) (print : PrintSeen) (code : ℕ) : Type 0 where
  pub rose : Rises source.faults_before source.faults
  pub unbegun : source.begun ≡ false
  pub told : TellsText print.before print.now print.faults_before print.faults
      (status_text (status.SourceFault 0)) 3 code

-- the code of what was read, by its own code and by whether its text was written
abbrev pub read_code : {T E : Type 0} → ℕ → Result T E → ℕ
read_code own (Ok x) = own
read_code own (Err e) = unprinted own

-- the code of `inspect`, where its text is written
abbrev pub inspect_code : {T E : Type 0} → Result T E → ℕ
inspect_code (Ok x) = 0
inspect_code (Err e) = 3

-- the datagrams that the source gives were printed as packets
pub record InspectWent (source : SourceSeen) (print : PrintSeen) (code : ℕ) : Type 0 where
  pub how : Inspected
  pub begun : source.begun ≡ true
  pub prints : Inspects source.gives source.given_before source.given print.before print.now how
  pub source_cause : HasCause source.faults_before source.faults how.source
  pub print_cause : HasCause print.faults_before print.faults how.print
  pub code_is : code ≡ read_code (inspect_code how.source) how.print

-- what an inspection comes to
abbrev pub InspectComes : SourceSeen → PrintSeen → ℕ → Type 0
InspectComes source print code = ReadFailed source print code ⊎ InspectWent source print code

-- the code of `decode`, where its text is written
abbrev pub decode_code : Ended → ℕ
decode_code ended.Whole = 0
decode_code (ended.NoStop count) = 9
decode_code (ended.Refused place cause) = 9
decode_code ended.SourceFault = 3

-- the datagrams that the source gives were read as an output, of heaps with at most so many bytes, and printed
pub record DecodeWent (limit : ℕ) (source : SourceSeen) (print : PrintSeen) (code : ℕ) : Type 0 where
  pub how : Decoded
  pub begun : source.begun ≡ true
  pub prints : Decodes limit source.gives source.given_before source.given print.before print.now how
  pub source_cause : DecodeCause source.faults_before source.faults how.ended
  pub print_cause : HasCause print.faults_before print.faults how.print
  pub code_is : code ≡ read_code (decode_code how.ended) how.print

-- there was no memory, nothing was begun, and that was told
pub record IsOut {S : Type 0} (old now : S) (print : PrintSeen) (code : ℕ) : Type 0 where
  pub same : now ≡ old
  pub told : TellsText print.before print.now print.faults_before print.faults (status_text status.NoMemory) 5 code

-- what a decoding comes to
abbrev pub DecodeComes : {S : Type 0} → ℕ → S → S → SourceSeen → PrintSeen → ℕ → Type 0
DecodeComes limit old now source print code =
    IsOut old now print code ⊎ (ReadFailed source print code ⊎ DecodeWent limit source print code)

-- a tool that uses no sink
pub record LeavesSink (P : Type 0) (from : Place) (source : SourceSeen) (sink : SinkSeen) : Type 0 where
  pub comes : P
  pub at : IsAtOwn source.begun source.at (0, from)
  pub unused : IsUnused sink
  pub sink_calm : sink.faults ≡ sink.faults_before

-- the words have no form: nothing was begun, and the usage text was told
pub record IsMisused {S : Type 0} (old now : S) (sink : SinkSeen) (print : PrintSeen) (code : ℕ) : Type 0 where
  pub same : now ≡ old
  pub unused : IsUnused sink
  pub sink_calm : sink.faults ≡ sink.faults_before
  pub told : TellsText print.before print.now print.faults_before print.faults usage_text 1 code

-- what the command of a tool comes to, where there was memory to read its words
abbrev pub CommandRan : {S : Type 0} → Command → S → S → SourceSeen → SinkSeen → PrintSeen → ℕ → Type 0
CommandRan (Relay from to limit) old now source sink print code = RelayRan from to limit source sink print code
CommandRan (Inspect from) old now source sink print code = LeavesSink (InspectComes source print code) from source sink
CommandRan (Decode from limit) old now source sink print code =
    LeavesSink (DecodeComes limit old now source print code) from source sink
CommandRan other old now source sink print code = ⊥

-- there was no memory to read the words, and nothing was begun
pub record WordsAreOut {S : Type 0} (old now : S) (sink : SinkSeen) (print : PrintSeen) (code : ℕ) : Type 0 where
  pub out : IsOut old now print code
  pub unused : IsUnused sink
  pub sink_calm : sink.faults ≡ sink.faults_before

-- what the words of a tool come to, by their form
abbrev pub ToolRan : {S : Type 0} → Option Command → S → S → SourceSeen → SinkSeen → PrintSeen → ℕ → Type 0
ToolRan None old now source sink print code = IsMisused old now sink print code
ToolRan (Some command) old now source sink print code =
    WordsAreOut old now sink print code ⊎ CommandRan command old now source sink print code
