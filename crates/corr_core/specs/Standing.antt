-- What the parts of a core stand for: a state of the machine of events. This project's own.
use Rattle.std.specs.Prelude.{◌≡◌, ◌<◌, ◌≤◌, ◌+◌, ℕ, ℤ, Bool, true, false, if◌then◌else◌, List, length, map, slice_index_or, Option, Some, None, is_some}
use Rattle.corr_model.specs.declared.plan.Plan.{Plan}
use Rattle.corr_model.specs.Streams.{column}
use Rattle.corr_model.specs.Visibilities.{Lists}
use Rattle.slot_column.specs.Columns.{Hand}
use Rattle.vis_back.specs.Sets.{columns_of}
use Rattle.stream_feed.specs.Feeding.{FeedState, StandsFor}
use Rattle.slot_ring.specs.declared.held.Kind.{Kind as SlotKind}
use Rattle.slot_ring.specs.declared.held.Kind.TheVariants as kinds
use Rattle.slot_ring.specs.declared.work.Stage.TheVariants.{Free, Computed}
use Rattle.slot_ring.specs.Slots.{View, WorkView}
use Rattle.corr_machine.specs.Machines.{Kind, Filling, Working, Done, StreamState, SlotState, State, Event, work_count, stream_floor, stream_at, slot_at, work_at, is_filling, enabled, effect, IsProper}
use Rattle.corr_machine.specs.Runs.{strings_of}
use Rattle.corr_core.specs.Parts.{PartsView, feed_in, hand_in, work_in, slot_in}

-- the value of the columns of all antennas
abbrev pub Value : Type 0
Value = List (List (Option (List ℕ))) → List ℤ

-- the cells of each antenna's column of each number, and the value of each number
pub record Values : Type 0 where
  pub column : ℕ → ℕ → List (Option (List ℕ))
  pub result : ℕ → List ℤ

-- those of these lists
abbrev pub values_of : Value → Plan → Lists → Values
values_of value plan lists = record {
  column = λ a n. column plan a (lists a) n;
  result = λ n. value (columns_of plan lists n);
}

-- the kind of a slot, as a kind of the machine
abbrev pub kind_of : SlotKind → Kind
kind_of kinds.Filling = Filling
kind_of kinds.Working = Working
kind_of kinds.Done = Done

-- for each antenna whether its column stands
abbrev pub marks_of : List Hand → List Bool
marks_of hands = map (λ h. h.is_closed) hands

-- the columns that are closed have the cells of a number
abbrev pub AreColumnsOf : Values → ℕ → List Hand → Type 0
AreColumnsOf values n hands = (a : ℕ) (d : Hand) → a < length hands
    → (slice_index_or hands a d).is_closed ≡ true → (slice_index_or hands a d).column.cells ≡ values.column a n

-- one stream: its feed stands for the strings taken, gave the columns that were put and the one in the hand, which if
-- closed is the next column to be put
pub record StreamStandsFor (plan : Plan) (values : Values) (a : ℕ) (f : FeedState) (hand : Hand)
    (x : StreamState) : Type 0 where
  pub antenna : f.columns.antenna ≡ a
  pub ended : is_some f.report.ended ≡ x.ended
  pub given : f.columns.given ≡ x.put + (if hand.is_closed then 1 else 0)
  pub within : f.columns.given ≤ stream_floor plan a x
  pub hand_plan : hand.column.plan ≡ plan
  pub hand_is : hand.is_closed ≡ true
      → (hand.column.antenna ≡ a) × (hand.column.number ≡ x.put) × (hand.column.cells ≡ values.column a x.put)

-- one slot: number and kind are the state's; while it fills its closed columns are those that stand there, of its
-- number; where it is done its value is that of its number
pub record SlotStandsFor (plan : Plan) (values : Values) (s : View) (x : SlotState) : Type 0 where
  pub plan_is : s.plan ≡ plan
  pub count : length s.columns ≡ plan.antennas
  pub number : s.number ≡ x.number
  pub kind : kind_of s.kind ≡ x.kind
  pub marks : is_filling (kind_of s.kind) ≡ true → x.columns ≡ marks_of s.columns
  pub cells : is_filling (kind_of s.kind) ≡ true → AreColumnsOf values s.number s.columns
  pub result : s.kind ≡ kinds.Done → s.out.sums ≡ values.result s.number

-- one work: free, or with a number, whose columns it has and whose value it has computed
abbrev pub HasNumber : Values → WorkView → Option ℕ → Type 0
HasNumber values w None = w.stage ≡ Free
HasNumber values w (Some n) =
    (w.stage ≡ Computed) × (w.number ≡ n) × AreColumnsOf values n w.columns × (w.out.sums ≡ values.result n)

pub record WorkStandsFor (plan : Plan) (values : Values) (w : WorkView) (o : Option ℕ) : Type 0 where
  pub plan_is : w.plan ≡ plan
  pub count : length w.columns ≡ plan.antennas
  pub number : HasNumber values w o

-- the parts stand for a proper state, with these columns and values: its streams, its slots, its works, and the number
-- of the next value to be sent
pub record PartsStandWith (values : Values) (p : PartsView) (state : State) : Type 0 where
  pub proper : IsProper p.plan state
  pub feed_count : length p.feeds ≡ p.plan.antennas
  pub hand_count : length p.hands ≡ p.plan.antennas
  pub works_count : length p.works ≡ work_count p.plan
  pub slots_count : length p.ring.slots ≡ p.plan.slots
  pub ring_plan : p.ring.plan ≡ p.plan
  pub stream : (a : ℕ) → a < p.plan.antennas
      → StreamStandsFor p.plan values a (feed_in p a) (hand_in p a) (stream_at state a)
  pub slot : (s : ℕ) → s < p.plan.slots → SlotStandsFor p.plan values (slot_in p.ring s) (slot_at state s)
  pub work : (w : ℕ) → w < work_count p.plan → WorkStandsFor p.plan values (work_in p w) (work_at state w)
  pub sent_is : p.sent ≡ state.sent

-- with the columns and values of the strings that the state's streams took
abbrev pub PartsStandFor : Value → PartsView → State → Type 0
PartsStandFor value p state = PartsStandWith (values_of value p.plan (strings_of state)) p state

-- so, and each feed stands for the strings that its stream took
pub record StandFor (value : Value) (p : PartsView) (state : State) : Type 0 where
  pub some : 0 < p.plan.slots
  pub stands_for : PartsStandFor value p state
  pub plans : (a : ℕ) → a < p.plan.antennas → (feed_in p a).columns.plan ≡ p.plan
  pub feeds : (a : ℕ) → a < p.plan.antennas → StandsFor (feed_in p a) (stream_at state a).strings

-- what a call of an event does by its answer: the event happens exactly where it is enabled, and else the parts stand
-- for the same state
abbrev pub Happens : Value → Plan → PartsView → State → Event → Bool → Type 0
Happens value plan now state e true = (enabled plan state e ≡ true) × StandFor value now (effect plan state e)
Happens value plan now state e false = (enabled plan state e ≡ false) × StandFor value now state
