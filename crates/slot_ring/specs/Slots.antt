-- What slots, works and outgoing values hold, and what their types keep. This project's own.
use Rattle.std.specs.Prelude.{◌≡◌, ◌≢◌, ℕ, ◌^◌, ◌<◌, ◌≤◌, ℤ, Bool, true, false, List, length, count_by, replicate}
use Rattle.corr_model.specs.declared.plan.Plan.{Plan}
use Rattle.corr_model.specs.Plans.{Fits}
use Rattle.slot_column.specs.Columns.{Hand}
use Rattle.vis_shape.specs.Sums.{Sums, no_sums}
use Rattle.slot_ring.specs.declared.held.Kind.{Kind}
use Rattle.slot_ring.specs.declared.held.Kind.TheVariants.{Filling, Working, Done}
use Rattle.slot_ring.specs.declared.held.Held.{Held}
use Rattle.slot_ring.specs.declared.work.Stage.{Stage}
use Rattle.slot_ring.specs.declared.work.Stage.TheVariants.{Free, Taken, Computed}
use Rattle.slot_ring.specs.Means.{Means, IsMeant, AreTold, AreHeld, AreSpare, AreClosed, spare_hand}

-- what a slot holds
pub record View : Type 0 where
  pub plan : Plan
  pub number : ℕ
  pub kind : Kind
  pub columns : List Hand
  pub out : Sums

-- how many columns stand
abbrev pub standing : List Hand → ℕ
standing hands = count_by (λ h. h.is_closed) hands

-- what a slot shows
abbrev pub held_of : View → Held
held_of v = record { plan = v.plan; number = v.number; kind = v.kind; columns = standing v.columns }

-- an Out of this plan and of so many sums
pub record HasShape (plan : Plan) (size : ℕ) (out : Sums) : Type 0 where
  pub same_plan : out.plan ≡ plan
  pub as_many : length out.sums ≡ size

-- what a slot's type keeps: columns that stand are of their antenna and of its number, and stand only while it fills;
-- its Out is made for its plan; and the value of one that is done is of all timestamps, and the one that the types mean
pub record IsSlot (m : Means) (size : ℕ) (v : View) : Type 0 where
  pub fits : Fits v.plan
  pub held : AreHeld v.plan v.number v.columns
  pub spare : v.kind ≢ Filling → AreSpare v.columns
  pub told : AreTold m v.columns
  pub shape : HasShape v.plan size v.out
  pub value : v.kind ≡ Done → IsMeant m v.plan v.number v.out.sums
  pub counted : v.kind ≡ Done → v.out.added ≡ v.plan.heaps

-- what a work holds
pub record WorkView : Type 0 where
  pub plan : Plan
  pub number : ℕ
  pub stage : Stage
  pub columns : List Hand
  pub out : Sums

-- what a work's type keeps: all its columns are closed, for its number, unless it is free; its Out is made for its
-- plan; and a computed value is of all timestamps, and the one that the types mean
pub record IsWork (m : Means) (size : ℕ) (w : WorkView) : Type 0 where
  pub fits : Fits w.plan
  pub held : AreHeld w.plan w.number w.columns
  pub spare : w.stage ≡ Free → AreSpare w.columns
  pub full : w.stage ≢ Free → AreClosed w.columns
  pub told : AreTold m w.columns
  pub shape : HasShape w.plan size w.out
  pub value : w.stage ≡ Computed → IsMeant m w.plan w.number w.out.sums
  pub counted : w.stage ≡ Computed → w.out.added ≡ w.plan.heaps

-- what an outgoing value holds
pub record OutgoingView : Type 0 where
  pub plan : Plan
  pub number : ℕ
  pub is_computed : Bool
  pub out : Sums

-- what its type keeps, as of a slot that is done
pub record IsOutgoing (m : Means) (size : ℕ) (o : OutgoingView) : Type 0 where
  pub fits : Fits o.plan
  pub shape : HasShape o.plan size o.out
  pub value : o.is_computed ≡ true → IsMeant m o.plan o.number o.out.sums
  pub counted : o.is_computed ≡ true → o.out.added ≡ o.plan.heaps

-- a slot that is filled for this number, and holds nothing
abbrev pub empty_slot : Plan → ℕ → ℕ → View
empty_slot plan size number =
    record {
      plan = plan;
      number = number;
      kind = Filling;
      columns = replicate plan.antennas (spare_hand plan);
      out = no_sums plan size;
    }

-- a free work
abbrev pub free_work : Plan → ℕ → WorkView
free_work plan size =
    record {
      plan = plan;
      number = 0;
      stage = Free;
      columns = replicate plan.antennas (spare_hand plan);
      out = no_sums plan size;
    }

-- nothing to send
abbrev pub no_outgoing : Plan → ℕ → OutgoingView
no_outgoing plan size = record { plan = plan; number = 0; is_computed = false; out = no_sums plan size }
