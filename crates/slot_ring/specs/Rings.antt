-- The slots of a ring, and its changes through the slot of a number. This project's own.
use Rattle.std.specs.Prelude.{◌≡◌, ℕ, ◌+◌, ◌%◌, ◌<◌, ◌≤◌, List, length, map, get_or, slice_set}
use Rattle.corr_model.specs.declared.plan.Plan.{Plan}
use Rattle.corr_model.specs.Plans.{Fits}
use Rattle.corr_model.specs.Lists.{numbers}
use Rattle.slot_column.specs.Columns.{Hand}
use Rattle.slot_ring.specs.declared.held.Put.{Put}
use Rattle.slot_ring.specs.declared.held.Took.{Took}
use Rattle.slot_ring.specs.declared.held.Stored.{Stored}
use Rattle.slot_ring.specs.declared.held.Gave.{Gave}
use Rattle.slot_ring.specs.Slots.{View, WorkView, OutgoingView, empty_slot}
use Rattle.slot_ring.specs.Answers.{PutGives, TakeGives, StoreGives, SendGives}

-- what a ring holds
pub record RingView : Type 0 where
  pub plan : Plan
  pub slots : List View

-- as many slots as its plan says, each of its plan
pub record IsRing (r : RingView) : Type 0 where
  pub fits : Fits r.plan
  pub as_many : length r.slots ≡ r.plan.slots
  pub each_plan : (s : ℕ) (d : View) → s < length r.slots → (get_or r.slots s d).plan ≡ r.plan

-- one slot is as a change of its own says, and the others are as they were
pub record AtSlot (old new : RingView) (place : ℕ) (change : View → View → Type 0) : Type 0 where
  pub before : View
  pub after : View
  pub inside : place < length old.slots
  pub is_before : (d : View) → get_or old.slots place d ≡ before
  pub changed : change before after
  pub rest : new ≡ record old { slots = slice_set old.slots place after }

-- a put, in the slot of the column's number
abbrev pub RingPuts : RingView → Hand → Put → RingView → Hand → Type 0
RingPuts old hand answer new spare =
    AtSlot old new (hand.column.number % old.plan.slots) (λ before after. PutGives before hand answer after spare)

-- a take, in this slot
abbrev pub RingTakes : RingView → ℕ → WorkView → Took → RingView → WorkView → Type 0
RingTakes old slot work answer new now =
    AtSlot old new (slot % old.plan.slots) (λ before after. TakeGives before work answer after now)

-- a store, in the slot of the work's number
abbrev pub RingStores : RingView → WorkView → Stored → RingView → WorkView → Type 0
RingStores old work answer new now =
    AtSlot old new (work.number % old.plan.slots) (λ before after. StoreGives before work answer after now)

-- a send, in the slot of the number
abbrev pub RingSends : RingView → ℕ → OutgoingView → Gave → RingView → OutgoingView → Type 0
RingSends old number outgoing answer new now =
    AtSlot old new (number % old.plan.slots) (λ before after. SendGives before number outgoing answer after now)

-- a ring as it is made: slot s is filled for number s
abbrev pub empty_ring : Plan → ℕ → RingView
empty_ring plan size = record { plan = plan; slots = map (empty_slot plan size) (numbers 0 plan.slots) }
