-- One packet more, by the state alone. This project's own.
use Rattle.std.specs.Prelude.{◌≡◌, ◌≤◌, ℕ, ◌-◌, ◌==◌, if◌then◌else◌, Bool, true, false, List, [], ◌∷◌, ◌++◌, length, drop, map, slice_get, slice_set, Option, Some, None}
use Rattle.std.specs.List.{position}
use Rattle.circular_buffer.specs.Buffer.{Buffer, keep_last}
use Rattle.corr_model.specs.declared.heap.DropCause.TheVariants.{PastLimit}
use Rattle.corr_model.specs.Packets.{Parts}
use Rattle.corr_model.specs.Windows.{PlacedPacket}
use Rattle.corr_model.specs.Assembly.{WholeHeap, heap_of}
use Rattle.corr_model.specs.LiveHeaps.{HeapStandsFor, kept_shown}
use Rattle.corr_model.specs.PacketVerdicts.{Outcome, Part, Makes, Stale, Dropped, member_outcome}
use Rattle.corr_model.specs.WindowSteps.{first_unfinished}
use Rattle.heap_assembly.specs.LiveStates.{LiveState, live_of}
use Rattle.heap_window.specs.declared.steps.Answer.{Answer}
use Rattle.heap_window.specs.declared.steps.Answer.TheVariants as answers
use Rattle.heap_window.specs.declared.steps.Step.{Step}
use Rattle.heap_window.specs.declared.take.Taken.{Taken}
use Rattle.heap_window.specs.declared.take.Taken.TheVariants as taken
use Rattle.heap_assembly.specs.declared.heap.Heap.{Heap}
use Rattle.heap_assembly.specs.Heaps.{whole_of}
use Rattle.heap_window.specs.WindowStates.{WindowState}

-- what a member is to its heap, which has this counter, by the answer on it. The members are those up to and
-- including it
abbrev pub outcome_by : ℕ → List PlacedPacket → Answer → Outcome
outcome_by counter ms answers.Part = Part
outcome_by counter ms (answers.Whole place) = Makes (heap_of counter (kept_shown ms))
outcome_by counter ms answers.Stale = Stale
outcome_by counter ms (answers.Dropped cause) = Dropped cause

-- the packet is not kept
abbrev pub is_left : Answer → Bool
is_left answers.Part = false
is_left (answers.Whole place) = false
is_left answers.Stale = true
is_left (answers.Dropped cause) = true

-- a heap that became whole has this place, and is whole
abbrev pub IsWholeBy : LiveState → ℕ → Answer → Type 0
IsWholeBy e place answers.Part = Unit {0}
IsWholeBy e place (answers.Whole at) = (at ≡ place) × (e.whole ≡ true)
IsWholeBy e place answers.Stale = Unit {0}
IsWholeBy e place (answers.Dropped cause) = Unit {0}

-- the heap takes in the packet
pub record TakesIn (old : LiveState) (place : ℕ) (p : Parts) (new : LiveState) (answer : Answer) : Type 0 where
  pub stands : (ms : List PlacedPacket) (q : PlacedPacket) → q.packet ≡ p → HeapStandsFor (live_of old) ms
      → HeapStandsFor (live_of new) (ms ++ q ∷ [])
  pub outcome : (ms : List PlacedPacket) (q : PlacedPacket) → q.packet ≡ p → HeapStandsFor (live_of old) ms
      → member_outcome q.packet.counter (ms ++ q ∷ []) ≡ outcome_by q.packet.counter (ms ++ q ∷ []) answer
  pub same : is_left answer ≡ true → new ≡ old
  pub whole : IsWholeBy new place answer
  pub counter : new.counter ≡ old.counter
  pub limit : new.limit ≡ old.limit

-- the place of the first heap with this counter, if one has it
abbrev pub heap_place : ℕ → List LiveState → Option ℕ
heap_place counter heaps = position (λ e. e.counter == counter) heaps

-- the heap at the place has this counter
abbrev pub HasCounter : List LiveState → ℕ → ℕ → Type 0
HasCounter heaps place counter = (e : LiveState) → slice_get heaps place ≡ Some e → e.counter ≡ counter

-- the heap at a place takes in the packet
pub record Joins (old : List LiveState) (place : ℕ) (p : Parts) (new : List LiveState) (answer : Answer) : Type 0 where
  pub before : LiveState
  pub after : LiveState
  pub there : slice_get old place ≡ Some before
  pub is : new ≡ slice_set old place after
  pub takes : TakesIn before place p after answer

-- the heaps of a window with a place for one more: without the first where it is full
abbrev pub with_a_place : Buffer LiveState → List LiveState
with_a_place b = if length b.items == b.capacity then drop 1 b.items else b.items

-- a new heap takes in the packet, for which the first leaves where there are W
pub record Opens (window : ℕ) (old : List LiveState) (p : Parts) (new : List LiveState) (step : Step) : Type 0 where
  pub before : LiveState
  pub after : LiveState
  pub empty : HeapStandsFor (live_of before) []
  pub counter : before.counter ≡ p.counter
  pub is : new ≡ keep_last window (old ++ after ∷ [])
  pub takes : TakesIn before (length new - 1) p after step.answer
  pub opened : step.opened ≡ true
  pub evicted : step.evicted ≡ first_unfinished window (map live_of old)

-- the packet, within the limit or not and with its heap at this place or none, is dropped past the limit, joins the
-- heap at the place, or opens one
abbrev pub StepsBy : Bool → Option ℕ → WindowState → Parts → List LiveState → Step → Type 0
StepsBy false place old p new step =
    (new ≡ old.heaps) × (step ≡ record { opened = false; evicted = None; answer = answers.Dropped PastLimit })
StepsBy true None old p new step = Opens old.window old.heaps p new step
StepsBy true (Some place) old p new step =
    Joins old.heaps place p new step.answer × (step.opened ≡ false) × (step.evicted ≡ None)

-- the width, which is at least 1, and the limit stay
pub record Steps (within : Bool) (place : Option ℕ) (old : WindowState) (p : Parts) (new : WindowState)
    (step : Step) : Type 0 where
  pub low : 1 ≤ old.window
  pub window : new.window ≡ old.window
  pub limit : new.limit ≡ old.limit
  pub heaps : StepsBy within place old p new.heaps step

-- the heap at the place, which is whole, is lent
pub record IsWholeAt (heaps : List LiveState) (place : ℕ) : Type 0 where
  pub heap : LiveState
  pub there : slice_get heaps place ≡ Some heap
  pub whole : heap.whole ≡ true

-- the heap that is lent is the whole heap of the members that the heap at this place stands for
abbrev pub IsLent : List LiveState → ℕ → WholeHeap → Type 0
IsLent heaps place lent =
    (e : LiveState) (ms : List PlacedPacket) → slice_get heaps place ≡ Some e → HeapStandsFor (live_of e) ms
    → lent ≡ heap_of e.counter (kept_shown ms)

-- what is answered is the answer of the step, with the heap at its place
abbrev pub Matches : List LiveState → Answer → Taken → Type 0
Matches heaps answers.Part what = what ≡ taken.Part
Matches heaps (answers.Whole place) what =
    (lent : Heap) × (what ≡ taken.Whole lent) × IsLent heaps place (whole_of lent)
Matches heaps answers.Stale what = what ≡ taken.Stale
Matches heaps (answers.Dropped cause) what = what ≡ taken.Dropped cause
