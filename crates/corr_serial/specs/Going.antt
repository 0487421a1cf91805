-- The core of a serial run between two of its steps: where it stands, what its streams heard, what was sent. This
-- project's own.
use Rattle.std.specs.Prelude.{◌≡◌, ◌≢◌, ◌<◌, ◌≤◌, ◌+◌, ℕ, ℤ, Bool, true, false, List, [], length, slice_index_or, Option, Some, Result, Ok, Err}
use Rattle.corr_model.specs.declared.plan.Plan.{Plan}
use Rattle.corr_model.specs.declared.verdict.Ending.{Ending}
use Rattle.corr_model.specs.Streams.{taken}
use Rattle.corr_model.specs.Visibilities.{Lists}
use Rattle.vis_send.specs.declared.tally.Sent.{Sent}
use Rattle.vis_send.specs.Emitters.{Strings}
use Rattle.vis_send.specs.Sending.{SendsWhole, SendsFront}
use Rattle.corr_machine.specs.Machines.{StreamState, State, stream_at, is_ready}
use Rattle.corr_machine.specs.Runs.{strings_of, sent_with, FitsLists}
use Rattle.corr_core.specs.Parts.{PartsView}
use Rattle.corr_core.specs.Standing.{Value, StandFor}
use Rattle.corr_core.specs.Sends.{value_with, heaps_by}
use Rattle.corr_core.specs.Cores.{CoreView, end_of}
use Rattle.corr_serial.specs.Sources.{KeepsEach, RisesIf}
use Rattle.corr_serial.specs.Hearing.{is_fault, IsFront}
use Rattle.corr_serial.specs.Rounds.{AllFree, stream_left}

-- the values of a kind of back end
abbrev pub ValuesOf : Type 0 → Type 0
ValuesOf B = B → Plan → List (List (Option (List ℕ))) → ℕ → ℕ → List ℤ

-- a core of this plan and this back end, whose sink has not failed
pub record IsOwn {B E : Type 0} (plan : Plan) (backend : B) (core : CoreView B E) : Type 0 where
  pub same_plan : core.parts.plan ≡ plan
  pub same_backend : core.backend ≡ backend
  pub calm : core.failed ≡ false

-- it stands for a state in which so many accumulations were sent, the streams before a turn have put one column more
-- and the others have not, all works are free, and all strings taken count
pub record IsAt {B E : Type 0} (value : ValuesOf B) (plan : Plan) (backend : B) (core : CoreView B E) (number turn : ℕ)
    (state : State) : Type 0 where
  pub own : IsOwn plan backend core
  pub stands_for : StandFor (value_with (value backend) plan) core.parts state
  pub number_is : state.sent ≡ number
  pub put_before : (a : ℕ) → a < turn → a < plan.antennas → (stream_at state a).put ≡ number + 1
  pub put_rest : (a : ℕ) → turn ≤ a → a < plan.antennas → (stream_at state a).put ≡ number
  pub free : AllFree plan state
  pub counts : (a : ℕ) → a < plan.antennas → taken plan (strings_of state a) ≡ strings_of state a

-- it stands so for some number that is not the last and some state
pub record CanTurn {B E : Type 0} (value : ValuesOf B) (core : CoreView B E) (turn : ℕ) : Type 0 where
  pub number : ℕ
  pub more : number < core.parts.plan.accumulations
  pub state : State
  pub at : IsAt value core.parts.plan core.backend core number turn state

-- all accumulations were sent
pub record HasSentAll {B E : Type 0} (value : ValuesOf B) (core : CoreView B E) : Type 0 where
  pub state : State
  pub at : IsAt value core.parts.plan core.backend core core.parts.plan.accumulations 0 state

-- what a stream heard of its source: the first strings that it gives, where that is told and nothing was given before;
-- and the source's count of faults rose where the stream ended so
pub record Listens (gives : Option (List (List ℕ))) (given_before given faults_before faults : ℕ)
    (ended : Option Ending) (strings : List (List ℕ)) : Type 0 where
  pub told : (all : List (List ℕ)) → gives ≡ Some all → given_before ≡ 0 → IsFront all given ended strings
  pub cause : RisesIf (is_fault ended) faults_before faults

-- each stream heard so the strings that it took
pub record AreListened {S : Type 0} (gives : S → Option (List (List ℕ))) (given faults : S → ℕ) (plan : Plan)
    (start now : List S) (p : PartsView) (state : State) : Type 0 where
  pub as_many : length start ≡ length now
  pub same_gives : KeepsEach gives start now
  pub each : (a : ℕ) (s : S) → a < plan.antennas
      → Listens (gives (slice_index_or start a s)) (given (slice_index_or start a s)) (given (slice_index_or now a s))
      (faults (slice_index_or start a s)) (faults (slice_index_or now a s)) (end_of p a) (strings_of state a)

-- the core went on from one state to another, and its streams by their sources; this part was sent and counted, for all
-- lists that the later state fits
pub record Goes {B E S : Type 0} (value : ValuesOf B) (gives : S → Option (List (List ℕ))) (given faults : S → ℕ)
    (plan : Plan) (backend : B) (sources later : List S) (old now : CoreView B E) (number turn : ℕ) (state : State)
    (before after : Option (List (List ℕ))) (sent_before sent : Sent) (part : Lists → List (List ℕ)) : Type 0 where
  pub next : State
  pub at : IsAt value plan backend now number turn next
  pub fits : (all : Lists) → FitsLists plan next all → FitsLists plan state all
  pub over : (a : ℕ) → a < plan.antennas → (stream_at state a).ended ≡ true → (stream_at next a).ended ≡ true
  pub listened : (start : List S) → AreListened gives given faults plan start sources old.parts state
      → AreListened gives given faults plan start later now.parts next
  pub sends : (all : Lists) → FitsLists plan next all → SendsWhole before after sent_before sent (part all)

-- a stream as it was, but for its columns put
pub record IsSame (x y : StreamState) : Type 0 where
  pub strings : y.strings ≡ x.strings
  pub ended : y.ended ≡ x.ended

-- the streams are as they were, and have ended as they had
pub record KeepsStreams (plan : Plan) (old now : PartsView) (state next : State) : Type 0 where
  pub same : (a : ℕ) → a < plan.antennas → IsSame (stream_at state a) (stream_at next a)
  pub ends : (a : ℕ) → a < plan.antennas → end_of now a ≡ end_of old a

-- the core went on, and took nothing of any source
pub record Stays {B E : Type 0} (value : ValuesOf B) (plan : Plan) (backend : B) (old now : CoreView B E)
    (number turn : ℕ) (state : State) (before after : Option (List (List ℕ))) (sent_before sent : Sent)
    (part : Lists → List (List ℕ)) : Type 0 where
  pub next : State
  pub at : IsAt value plan backend now number turn next
  pub keeps : KeepsStreams plan old.parts now.parts state next
  pub sends : (all : Lists) → FitsLists plan next all → SendsWhole before after sent_before sent (part all)

-- nothing was put, and the stream whose turn it is takes a string or its end
pub record Waits {B E : Type 0} (value : ValuesOf B) (plan : Plan) (backend : B) (old now : CoreView B E)
    (number turn : ℕ) (state : State) (before after : Option (List (List ℕ))) (sent_before sent : Sent) : Type 0 where
  pub stays : Stays value plan backend old now number turn state before after sent_before sent (λ all. [])
  pub ready : is_ready plan turn (stream_at stays.next turn) ≡ true

-- the stream whose turn it is put its column, or waits
abbrev pub Puts : {B E : Type 0} → ValuesOf B → Plan → B → CoreView B E → CoreView B E → ℕ → ℕ → State
    → Option (List (List ℕ)) → Option (List (List ℕ)) → Sent → Sent → Bool → Type 0
Puts value plan backend old now number turn state before after sent_before sent true =
    Stays value plan backend old now number (turn + 1) state before after sent_before sent (λ all. [])
Puts value plan backend old now number turn state before after sent_before sent false =
    Waits value plan backend old now number turn state before after sent_before sent

-- the stream of antenna a took a string of its source, or the end
pub record ListensOn {B E : Type 0} (value : ValuesOf B) (plan : Plan) (backend : B) (old now : CoreView B E)
    (number turn : ℕ) (state : State) (a : ℕ) (gives : Option (List (List ℕ))) (given given_now faults faults_now : ℕ)
    (before after : Option (List (List ℕ))) (sent_before sent : Sent) : Type 0 where
  pub next : State
  pub at : IsAt value plan backend now number turn next
  pub fits : (all : Lists) → FitsLists plan next all → FitsLists plan state all
  pub over : (b : ℕ) → b < plan.antennas → (stream_at state b).ended ≡ true → (stream_at next b).ended ≡ true
  pub sends : (all : Lists) → FitsLists plan next all → SendsWhole before after sent_before sent []
  pub less : stream_left plan (stream_at next a) < stream_left plan (stream_at state a)
  pub heard : (first fault : ℕ) → Listens gives first given fault faults (end_of old.parts a) (strings_of state a)
      → Listens gives first given_now fault faults_now (end_of now.parts a) (strings_of next a)
  pub other_ends : (b : ℕ) → b < plan.antennas → b ≢ a → end_of now.parts b ≡ end_of old.parts b
  pub other_strings : (b : ℕ) → b ≢ a → strings_of next b ≡ strings_of state b

-- the same, among the sources of a run
pub record HearsNext {B E S : Type 0} (value : ValuesOf B) (gives : S → Option (List (List ℕ))) (given faults : S → ℕ)
    (plan : Plan) (backend : B) (sources later : List S) (old now : CoreView B E) (number turn : ℕ) (state : State)
    (a : ℕ) (before after : Option (List (List ℕ))) (sent_before sent : Sent) : Type 0 where
  pub goes : Goes value gives given faults plan backend sources later old now number turn state before after sent_before
      sent (λ all. [])
  pub less : stream_left plan (stream_at goes.next a) < stream_left plan (stream_at state a)

-- what is sent with a number, for some lists
abbrev pub part_of : {B : Type 0} → ValuesOf B → B → Strings → Plan → ℕ → Lists → List (List ℕ)
part_of value backend strings plan number all =
    sent_with plan (heaps_by (value_with (value backend) plan) strings plan all) number

-- the sink failed at the heap of a number: a front of it was sent, and the streams are as they were
pub record Breaks {B E : Type 0} (value : ValuesOf B) (plan : Plan) (backend : B) (strings : Strings)
    (old now : CoreView B E) (number : ℕ) (state : State) (before after : Option (List (List ℕ)))
    (sent_before sent : Sent) : Type 0 where
  pub next : State
  pub same_plan : now.parts.plan ≡ plan
  pub stands_for : StandFor (value_with (value backend) plan) now.parts next
  pub keeps : KeepsStreams plan old.parts now.parts state next
  pub front : (all : Lists) → FitsLists plan next all
      → SendsFront before after sent_before sent (part_of value backend strings plan number all)

-- the heap of a number was sent, or a front of it
abbrev pub PassesOn : {B E T F : Type 0} → ValuesOf B → Plan → B → Strings → CoreView B E → CoreView B E → ℕ → State
    → Option (List (List ℕ)) → Option (List (List ℕ)) → Sent → Sent → Result T F → Type 0
PassesOn value plan backend strings old now number state before after sent_before sent (Ok x) =
    Stays value plan backend old now (number + 1) 0 state before after sent_before sent
    (part_of value backend strings plan number)
PassesOn value plan backend strings old now number state before after sent_before sent (Err e) =
    Breaks value plan backend strings old now number state before after sent_before sent
