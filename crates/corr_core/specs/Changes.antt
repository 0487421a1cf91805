-- What the calls of a core's parts change. This project's own.
use Rattle.std.specs.Prelude.{◌≡◌, ◌+◌, ◌%◌, ℕ, Bool, true, false, List, [], ◌∷◌, ◌++◌, length, slice_set, is_some, Some}
use Rattle.corr_model.specs.declared.verdict.Ending.{Ending}
use Rattle.slot_column.specs.Columns.{Hand}
use Rattle.vis_back.specs.Sets.{cells_of}
use Rattle.stream_feed.specs.Feeding.{FeedState, StandsFor, IsSameStream, is_said, column_of}
use Rattle.slot_ring.specs.declared.held.Kind.TheVariants.{Filling, Working, Done}
use Rattle.slot_ring.specs.declared.work.Stage.TheVariants.{Free, Computed}
use Rattle.slot_ring.specs.Means.{AreSpare}
use Rattle.slot_ring.specs.Slots.{WorkView, held_of}
use Rattle.slot_ring.specs.Rings.{RingView}
use Rattle.slot_ring.specs.Answers.{AcceptsPut, AcceptsTake, AcceptsStore, AcceptsSend}
use Rattle.corr_machine.specs.Machines.{State, Send, stream_at, stream_floor, enabled, effect}
use Rattle.corr_machine.specs.Runs.{strings_of}
use Rattle.corr_core.specs.Parts.{PartsView, feed_in, hand_in, work_in, slot_in, ring_with}
use Rattle.corr_core.specs.Standing.{Value, values_of, StandFor, Happens}

-- the place of the slot for a number
abbrev pub place_for : RingView → ℕ → ℕ
place_for r n = n % r.plan.slots

-- a closed hand put into the ring: it stands in the slot of its number, and a spare one is left; where the slot does
-- not wait for it, nothing changed
abbrev pub PutsHand : RingView → Hand → RingView → Hand → Bool → Type 0
PutsHand old hand now left true =
    AcceptsPut (held_of (slot_in old (place_for old hand.column.number))) hand.column
    × (now ≡ ring_with old (place_for old hand.column.number)
    (record (slot_in old (place_for old hand.column.number))
    { columns = slice_set (slot_in old (place_for old hand.column.number)).columns hand.column.antenna hand }))
    × (left.is_closed ≡ false) × (left.column.plan ≡ hand.column.plan)
PutsHand old hand now left false =
    (AcceptsPut (held_of (slot_in old (place_for old hand.column.number))) hand.column → ⊥) × (now ≡ old)
    × (left ≡ hand)

-- a slot of the ring taken by a free work, which computed the value of its columns; where the slot is not to be taken,
-- nothing changed
abbrev pub Computes : Value → RingView → ℕ → WorkView → RingView → WorkView → Bool → Type 0
Computes value old slot work now left true =
    AcceptsTake (held_of (slot_in old (place_for old slot))) work.plan
    × (now ≡ ring_with old (place_for old slot)
    (record (slot_in old (place_for old slot)) { kind = Working; columns = work.columns }))
    × (left ≡ record work {
      stage = Computed;
      number = (slot_in old (place_for old slot)).number;
      columns = (slot_in old (place_for old slot)).columns;
      out = left.out;
    })
    × (left.out.sums ≡ value (cells_of (slot_in old (place_for old slot)).columns))
Computes value old slot work now left false =
    (AcceptsTake (held_of (slot_in old (place_for old slot))) work.plan → ⊥) × (now ≡ old) × (left ≡ work)

-- a feed took a string
pub record TookString (old now : FeedState) (b : List ℕ) : Type 0 where
  pub stood : (l : List (List ℕ)) → StandsFor old l → StandsFor now (l ++ b ∷ [])
  pub own : is_said now.report.ended ≡ false
  pub same : IsSameStream old now

-- its stream ended as was said
pub record TookEnd (old now : FeedState) (how : Ending) : Type 0 where
  pub stood : (l : List (List ℕ)) → StandsFor old l → StandsFor now l
  pub ended : is_some now.report.ended ≡ true
  pub said : now.report.ended ≡ Some how
  pub same : IsSameStream old now

-- the column that was due is in the hand
pub record GaveColumn (old now : FeedState) (left : Hand) : Type 0 where
  pub stood : (l : List (List ℕ)) → StandsFor old l → StandsFor now l
  pub plan : now.columns.plan ≡ old.columns.plan
  pub antenna : now.columns.antenna ≡ old.columns.antenna
  pub ended : now.report ≡ old.report
  pub given : now.columns.given ≡ old.columns.given + 1
  pub closed : left.is_closed ≡ true
  pub hand_plan : left.column.plan ≡ old.columns.plan
  pub column : (l : List (List ℕ)) → StandsFor old l
      → left.column ≡ column_of old.columns.plan old.columns.antenna l old.columns.given

-- the feed of a stream changed, and nothing else
pub record FeedChanged (old now : PartsView) (a : ℕ) (Does : FeedState → FeedState → Type 0) : Type 0 where
  pub feed : FeedState
  pub does : Does (feed_in old a) feed
  pub parts : now ≡ record old { feeds = slice_set old.feeds a feed }

-- the column that was due in a stream is in its hand
pub record HandGot (old now : PartsView) (a : ℕ) : Type 0 where
  pub feed : FeedState
  pub hand : Hand
  pub gave : GaveColumn (feed_in old a) feed hand
  pub parts : now ≡ record old { feeds = slice_set old.feeds a feed; hands = slice_set old.hands a hand }

-- the hand of a stream has the next column where that is closed, for the same state
pub record HandFilled (value : Value) (old now : PartsView) (a : ℕ) (state : State) : Type 0 where
  pub stands_for : StandFor value now state
  pub filled : (hand_in now a).is_closed ≡ false → (stream_at state a).put ≡ stream_floor old.plan a (stream_at state a)

-- the hand of a stream was put into the ring, by the answer
pub record HandPut (old now : PartsView) (a : ℕ) (answer : Bool) : Type 0 where
  pub hand : Hand
  pub ring : RingView
  pub puts : PutsHand old.ring (hand_in old a) ring hand answer
  pub parts : now ≡ record old { hands = slice_set old.hands a hand; ring = ring }

-- a slot of the ring was taken by a work, which computed, by the answer
pub record SlotTaken (value : Value) (old now : PartsView) (w s : ℕ) (answer : Bool) : Type 0 where
  pub work : WorkView
  pub ring : RingView
  pub computes : Computes value old.ring s (work_in old w) ring work answer
  pub parts : now ≡ record old { ring = ring; works = slice_set old.works w work }

-- a work is free, and its value is the ring's where a slot waited for it
pub record StoresValue (old : RingView) (work : WorkView) (now : RingView) (left : WorkView) : Type 0 where
  pub plan : left.plan ≡ work.plan
  pub count : length left.columns ≡ length work.columns
  pub free : left.stage ≡ Free
  pub ring_plan : now.plan ≡ old.plan
  pub stored : AcceptsStore (held_of (slot_in old (place_for old work.number))) work.plan work.number
      → now ≡ ring_with old (place_for old work.number)
      (record (slot_in old (place_for old work.number)) { kind = Done; out = work.out })

pub record ResultStored (old now : PartsView) (w : ℕ) : Type 0 where
  pub work : WorkView
  pub ring : RingView
  pub stores : StoresValue old.ring (work_in old w) ring work
  pub parts : now ≡ record old { ring = ring; works = slice_set old.works w work }

-- the next value was moved out of the ring, by the answer
pub record Released (old now : PartsView) : Type 0 where
  pub accepts : AcceptsSend (held_of (slot_in old.ring (place_for old.ring old.sent))) old.outgoing.plan old.sent
  pub empty : AreSpare (slot_in old.ring (place_for old.ring old.sent)).columns
  pub parts : now ≡ record old {
    ring = ring_with old.ring (place_for old.ring old.sent)
        (record (slot_in old.ring (place_for old.ring old.sent)) {
          kind = Filling;
          number = old.sent + (slot_in old.ring (place_for old.ring old.sent)).plan.slots;
          out = old.outgoing.out;
        });
    outgoing = record old.outgoing
        { number = old.sent; is_computed = true; out = (slot_in old.ring (place_for old.ring old.sent)).out };
    sent = old.sent + 1;
  }

abbrev pub Releases : PartsView → PartsView → Bool → Type 0
Releases old now true = Released old now
Releases old now false =
    (AcceptsSend (held_of (slot_in old.ring (place_for old.ring old.sent))) old.outgoing.plan old.sent → ⊥)
    × (now ≡ old)

-- the next value was moved out, for a state that the parts stand for
pub record Sending (value : Value) (old now : PartsView) (state : State) : Type 0 where
  pub can : enabled old.plan state Send ≡ true
  pub stands_for : StandFor value now (effect old.plan state Send)
  pub out : now.outgoing.out.sums ≡ (values_of value old.plan (strings_of state)).result state.sent

abbrev pub SendsNext : Value → PartsView → PartsView → State → Bool → Type 0
SendsNext value old now state true = Sending value old now state
SendsNext value old now state false = Happens value old.plan now state Send false
