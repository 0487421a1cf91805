-- What a contract sees of an object, by what its trait tells of it, before and after a call. This project's own.
use Rattle.std.specs.Prelude.{ℕ, Bool, List, Option}
use Rattle.corr_site.specs.declared.place.Place.{Place}
use Rattle.corr_serial.specs.Runs.{known}
use Rattle.corr_cli.specs.Runs.{Seen, TextSeen}
use Rattle.corr_cli.specs.Simulating.{ConfigSeen}
use Rattle.corr_cli.specs.Tools.{PrintSeen, SinkSeen, SourceSeen}

-- the sources of a run, and whether it is known what they give
pub record SourcesSeen (S : Type 0) : Type 0 where
  pub knows : Bool
  pub gives : S → Option (List (List ℕ))
  pub given : S → ℕ
  pub begun : S → Bool
  pub faults : S → ℕ
  pub old : List S
  pub now : List S

abbrev pub sources_seen : {S : Type 0} → Bool → (S → Option (List (List ℕ))) → (S → ℕ) → (S → Bool) → (S → ℕ) → List S
    → List S → SourcesSeen S
sources_seen knows gives given begun faults old now =
    record {
      knows = knows;
      gives = known knows gives;
      given = given;
      begun = begun;
      faults = faults;
      old = old;
      now = now;
    }

-- the first source
abbrev pub source_seen : {S : Type 0} → (S → Option (List (List ℕ))) → (S → ℕ) → (S → Bool)
    → (S → Option (Option (ℕ × Place))) → (S → ℕ) → S → S → SourceSeen
source_seen gives given begun at faults old now =
    record {
      gives = gives old;
      given_before = given old;
      given = given now;
      begun = begun now;
      at = at now;
      faults_before = faults old;
      faults = faults now;
    }

abbrev pub sink_seen : {K : Type 0} → (K → Option (List (List ℕ))) → (K → Bool) → (K → Option (Option Place)) → (K → ℕ)
    → K → K → SinkSeen
sink_seen sent begun at faults old now =
    record {
      sent_before = sent old;
      sent = sent now;
      begun = begun now;
      at = at now;
      faults_before = faults old;
      faults = faults now;
    }

abbrev pub print_seen : {P : Type 0} → (P → Option (List ℕ)) → (P → ℕ) → P → P → PrintSeen
print_seen written faults old now =
    record { before = written old; now = written now; faults_before = faults old; faults = faults now }

-- the source of the settings
abbrev pub config_seen : {D : Type 0} → (D → Option (List ℕ)) → (D → Bool) → (D → Option (Option (List ℕ))) → (D → ℕ)
    → D → D → ConfigSeen
config_seen left begun at faults old now =
    record { text = left old; begun = begun now; at = at now; faults_before = faults old; faults = faults now }

abbrev pub text_seen : {D : Type 0} → (D → Option (List ℕ)) → (D → ℕ) → D → D → TextSeen
text_seen left faults old now = record { text = left old; faults_before = faults old; faults = faults now }

-- a run: its sources and its sink
abbrev pub run_seen : {S : Type 0} → SourcesSeen S → SinkSeen → Seen S
run_seen sources sink = record {
  knows = sources.knows;
  gives = sources.gives;
  given = sources.given;
  begun = sources.begun;
  faults = sources.faults;
  old = sources.old;
  now = sources.now;
  sent_before = sink.sent_before;
  sent = sink.sent;
  sink_faults_before = sink.faults_before;
  sink_faults = sink.faults;
  sink_begun = sink.begun;
}
