-- The four changes of a slot, by what they answer. This project's own.
use Rattle.std.specs.Prelude.{◌≡◌, ◌≢◌, ◌⊎◌, ℕ, ◌+◌, ◌<◌, ℤ, Option, Bool, true, false, List, length, get_or, slice_set}
use Rattle.corr_model.specs.declared.plan.Plan.{Plan}
use Rattle.slot_column.specs.Columns.{Cells, Hand}
use Rattle.slot_ring.specs.declared.held.Kind.{Kind}
use Rattle.slot_ring.specs.declared.held.Kind.TheVariants.{Filling, Working, Done}
use Rattle.slot_ring.specs.declared.held.Held.{Held}
use Rattle.slot_ring.specs.declared.held.Put.{Put}
use Rattle.slot_ring.specs.declared.held.Put.TheVariants.{Placed, Waits}
use Rattle.slot_ring.specs.declared.held.Took.{Took}
use Rattle.slot_ring.specs.declared.held.Took.TheVariants as took
use Rattle.slot_ring.specs.declared.held.Stored.{Stored}
use Rattle.slot_ring.specs.declared.held.Stored.TheVariants as stored
use Rattle.slot_ring.specs.declared.held.Gave.{Gave}
use Rattle.slot_ring.specs.declared.held.Gave.TheVariants as gave
use Rattle.slot_ring.specs.declared.work.Stage.{Stage}
use Rattle.slot_ring.specs.declared.work.Stage.TheVariants.{Free, Taken, Computed}
use Rattle.vis_back.specs.Sets.{cells_of}
use Rattle.slot_ring.specs.Means.{AreSpare}
use Rattle.slot_ring.specs.Slots.{View, WorkView, OutgoingView, held_of}

-- a slot that shows this has a place for the column
pub record AcceptsPut (held : Held) (c : Cells) : Type 0 where
  pub same_plan : held.plan ≡ c.plan
  pub same_number : held.number ≡ c.number
  pub filling : held.kind ≡ Filling

-- a slot that shows this has no place for the column
abbrev pub RefusesPut : Held → Cells → Type 0
RefusesPut held c = (held.plan ≢ c.plan) ⊎ (held.number ≢ c.number) ⊎ (held.kind ≢ Filling)

-- the hand's column stands in its antenna's place, and the hand has the one that lay there, as a spare one
pub record Puts (old : View) (hand : Hand) (new : View) (spare : Hand) : Type 0 where
  pub accepts : AcceptsPut (held_of old) hand.column
  pub slot : new ≡ record old { columns = slice_set old.columns hand.column.antenna hand }
  pub there : (d : Hand)
      → spare ≡ record { column = (get_or old.columns hand.column.antenna d).column; is_closed = false }
  pub is_spare : spare.is_closed ≡ false
  pub same_plan : spare.column.plan ≡ hand.column.plan

-- by the answer of a put
abbrev pub PutGives : View → Hand → Put → View → Hand → Type 0
PutGives old hand Placed new spare = Puts old hand new spare
PutGives old hand (Waits held) new spare =
    (held ≡ held_of old) × RefusesPut held hand.column × (new ≡ old) × (spare ≡ hand)

-- a slot that shows this can be taken
pub record AcceptsTake (held : Held) (plan : Plan) : Type 0 where
  pub same_plan : held.plan ≡ plan
  pub filling : held.kind ≡ Filling
  pub full : held.columns ≡ held.plan.antennas

-- a slot that shows this can't be taken
abbrev pub RefusesTake : Held → Plan → Type 0
RefusesTake held plan = (held.plan ≢ plan) ⊎ (held.kind ≢ Filling) ⊎ (held.columns < held.plan.antennas)

-- the columns move to the work, and its spare ones into the slot
pub record Takes (old : View) (work : WorkView) (new : View) (now : WorkView) : Type 0 where
  pub accepts : AcceptsTake (held_of old) work.plan
  pub slot : new ≡ record old { kind = Working; columns = work.columns }
  pub works : now ≡ record work { number = old.number; stage = Taken; columns = old.columns }

-- by the answer of a take
abbrev pub TakeGives : View → WorkView → Took → View → WorkView → Type 0
TakeGives old work took.Taken new now = Takes old work new now
TakeGives old work (took.Not held) new now =
    (held ≡ held_of old) × RefusesTake held work.plan × (new ≡ old) × (now ≡ work)

-- a slot that shows this awaits the value of the plan and number
pub record AcceptsStore (held : Held) (plan : Plan) (number : ℕ) : Type 0 where
  pub same_plan : held.plan ≡ plan
  pub same_number : held.number ≡ number
  pub working : held.kind ≡ Working

-- a slot that shows this does not
abbrev pub RefusesStore : Held → Plan → ℕ → Type 0
RefusesStore held plan number = (held.plan ≢ plan) ⊎ (held.number ≢ number) ⊎ (held.kind ≢ Working)

-- each hand is spare, with its column
pub record FreesAll (old new : List Hand) : Type 0 where
  pub as_many : length new ≡ length old
  pub each : (a : ℕ) (d : Hand) → a < length old → get_or new a d ≡ record (get_or old a d) { is_closed = false }

-- the work is free, and all else of it is as it was
pub record Frees (old new : WorkView) : Type 0 where
  pub frees : FreesAll old.columns new.columns
  pub rest : new ≡ record old { stage = Free; columns = new.columns }

-- the value moves into the slot, and the slot's into the work, which is free
pub record Stores (old : View) (work : WorkView) (new : View) (now : WorkView) : Type 0 where
  pub accepts : AcceptsStore (held_of old) work.plan work.number
  pub slot : new ≡ record old { kind = Done; out = work.out }
  pub works : Frees (record work { out = old.out }) now

-- by the answer of a store
abbrev pub StoreGives : View → WorkView → Stored → View → WorkView → Type 0
StoreGives old work stored.Stored new now = Stores old work new now
StoreGives old work (stored.Old held) new now =
    (held ≡ held_of old) × RefusesStore held work.plan work.number × (new ≡ old) × Frees work now

-- a slot that shows this has the value of the plan and number
pub record AcceptsSend (held : Held) (plan : Plan) (number : ℕ) : Type 0 where
  pub same_plan : held.plan ≡ plan
  pub same_number : held.number ≡ number
  pub done : held.kind ≡ Done

-- a slot that shows this has not
abbrev pub RefusesSend : Held → Plan → ℕ → Type 0
RefusesSend held plan number = (held.plan ≢ plan) ⊎ (held.number ≢ number) ⊎ (held.kind ≢ Done)

-- the value moves to the sender, and the slot, in which no column stands, is filled for the number `slots` further
pub record Gives (old : View) (number : ℕ) (outgoing : OutgoingView) (new : View) (now : OutgoingView) : Type 0 where
  pub accepts : AcceptsSend (held_of old) outgoing.plan number
  pub slot : new ≡ record old { number = number + old.plan.slots; kind = Filling; out = outgoing.out }
  pub given : now ≡ record outgoing { number = number; is_computed = true; out = old.out }
  pub empty : AreSpare old.columns

-- by the answer of a send
abbrev pub SendGives : View → ℕ → OutgoingView → Gave → View → OutgoingView → Type 0
SendGives old number outgoing gave.Given new now = Gives old number outgoing new now
SendGives old number outgoing (gave.Not held) new now =
    (held ≡ held_of old) × RefusesSend held outgoing.plan number × (new ≡ old) × (now ≡ outgoing)

-- the value of all timestamps of the columns is computed
pub record Computes (value : Plan → List (List (Option (List ℕ))) → ℕ → ℕ → List ℤ) (old new : WorkView) : Type 0 where
  pub works : new ≡ record old {
    stage = Computed;
    out = record {
      plan = old.plan;
      sums = value old.plan (cells_of old.columns) 0 old.plan.heaps;
      added = old.plan.heaps;
    };
  }
