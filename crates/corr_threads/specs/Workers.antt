-- What a worker shows, what it keeps, and its turns. This project's own.
use Rattle.std.specs.Prelude.{◌≡◌, ◌⊎◌, ℕ, ◌+◌, ◌-◌, ◌^◌, ◌<◌, ◌≤◌, min, List, length, get_or, Option, Some, None}
use Rattle.corr_model.specs.declared.plan.Plan.{Plan}
use Rattle.corr_model.specs.Plans.{Fits}
use Rattle.slot_ring.specs.declared.held.Held.{Held}
use Rattle.slot_ring.specs.declared.work.Stage.TheVariants.{Free}
use Rattle.slot_ring.specs.Slots.{WorkView}
use Rattle.slot_ring.specs.Answers.{RefusesTake}
use Rattle.corr_threads.specs.declared.turn.Turn.{Turn}
use Rattle.corr_threads.specs.declared.turn.Turn.TheVariants as turns

-- the slot that comes so many after this one, where the first comes after the last
pub record IsAfter (slots from count slot : ℕ) : Type 0 where
  pub inside : slot < slots
  pub at : (slot ≡ from + count) ⊎ (slot + slots ≡ from + count)

-- what a worker shows: which of the workers it is, the slot that it tries first, for each slot what it showed when it
-- refused last, and how many works were computed
pub record WorkerView : Type 0 where
  pub plan : Plan
  pub number : ℕ
  pub first : ℕ
  pub held : List (Option Held)
  pub computed : ℕ

-- what a worker's type keeps
pub record IsWorker (v : WorkerView) (work : WorkView) : Type 0 where
  pub fits : Fits v.plan
  pub same_plan : work.plan ≡ v.plan
  pub free : work.stage ≡ Free
  pub first_inside : v.first < v.plan.slots
  pub each_slot : length v.held ≡ v.plan.slots

-- what the slot showed when it last refused can't be taken
pub record RefusesAt (v : WorkerView) (slot : ℕ) : Type 0 where
  pub shown : Held
  pub is_held : get_or v.held slot None ≡ Some shown
  pub refuses : RefusesTake shown v.plan

-- so it is with each slot
abbrev pub RefusesEach : WorkerView → Type 0
RefusesEach v = (s : ℕ) → s < v.plan.slots → RefusesAt v s

-- so it is with each of so many slots, from this one on
abbrev pub RefusesFrom : WorkerView → ℕ → ℕ → Type 0
RefusesFrom v from count = (i s : ℕ) → i < count → IsAfter v.plan.slots from i s → RefusesAt v s

-- what the slots showed when they last refused is as it was, but for so many from this one on
abbrev pub StayPast : WorkerView → WorkerView → ℕ → ℕ → Type 0
StayPast old new from count = (i s : ℕ) → count ≤ i → i < new.plan.slots → IsAfter new.plan.slots from i s
    → get_or new.held s None ≡ get_or old.held s None

-- what the slot showed when it last refused has a number past the last
pub record PastAt (v : WorkerView) (slot : ℕ) : Type 0 where
  pub shown : Held
  pub is_held : get_or v.held slot None ≡ Some shown
  pub past : v.plan.accumulations ≤ shown.number

-- so it is with each of the first slots
abbrev pub PastTo : WorkerView → ℕ → Type 0
PastTo v count = (s : ℕ) → s < count → PastAt v s

-- so it is with each slot
abbrev pub EachPast : WorkerView → Type 0
EachPast v = PastTo v v.plan.slots

-- one work more was computed, of a slot that comes some number after the first; the count stays at 2^64 - 1 once it is
-- there. Each slot that was tried before it refused in this turn. What it and those after it showed when they last
-- refused is as it was. The next turn begins behind it
pub record ComputesOne (old new : WorkerView) : Type 0 where
  pub one_more : new.computed ≡ min (old.computed + 1) (2 ^ 64 - 1)
  pub tried : ℕ
  pub slot : ℕ
  pub is_left : tried < new.plan.slots
  pub is_slot : IsAfter new.plan.slots old.first tried slot
  pub refuses : RefusesFrom new old.first tried
  pub others : StayPast old new old.first tried
  pub next : IsAfter new.plan.slots slot 1 new.first

-- each slot refuses, and not each has a number past the last
pub record WaitsForWork (v : WorkerView) : Type 0 where
  pub refuses : RefusesEach v
  pub not_past : EachPast v → ⊥

-- each slot refuses, and has a number past the last
pub record HasNoWork (v : WorkerView) : Type 0 where
  pub refuses : RefusesEach v
  pub past : EachPast v

-- why a turn answers this
abbrev pub WorkerCause : WorkerView → Turn → WorkerView → Type 0
WorkerCause old turns.Moved new = ComputesOne old new
WorkerCause old turns.Waits new = WaitsForWork new
WorkerCause old turns.Done new = HasNoWork new

-- nothing was computed, and the next turn begins at the same slot
pub record RestsAt (old new : WorkerView) : Type 0 where
  pub same_computed : new.computed ≡ old.computed
  pub same_first : new.first ≡ old.first

-- what a turn that does not move keeps
abbrev pub WorkerRests : WorkerView → Turn → WorkerView → Type 0
WorkerRests old turns.Moved new = Unit {0}
WorkerRests old turns.Waits new = RestsAt old new
WorkerRests old turns.Done new = RestsAt old new

-- a turn of a worker
pub record WorkerTurn (old : WorkerView) (answer : Turn) (new : WorkerView) : Type 0 where
  pub same_plan : new.plan ≡ old.plan
  pub same_number : new.number ≡ old.number
  pub cause : WorkerCause old answer new
  pub rests : WorkerRests old answer new
