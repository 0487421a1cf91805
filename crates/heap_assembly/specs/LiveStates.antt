-- A heap that is being put together, as its state shows it, against
-- the live heap of the definitions. This project's own.
use Rattle.std.specs.Prelude.{◌≡◌, ℕ, Bool, true, false, ◌==◌, if◌then◌else◌, List, take, slice_index, Option, Some, None}
use Rattle.corr_model.specs.declared.pointer.Pointer.{Pointer}
use Rattle.corr_model.specs.Windows.{PlacedPacket}
use Rattle.corr_model.specs.Assembly.{WholeHeap, heap_of}
use Rattle.corr_model.specs.LiveHeaps.{LiveHeap, kept_shown}
use Rattle.corr_model.specs.PacketVerdicts.{Outcome, Part, Makes, Dropped}
use Rattle.heap_assembly.specs.Marks.{mark_at}
use Rattle.heap_assembly.specs.declared.added.Added.{Added}
use Rattle.heap_assembly.specs.declared.added.Added.TheVariants as added

-- a heap that is being put together: its counter, the most bytes that it can have, the size that was said, the greatest
-- end, the number of bytes that are there, the marks of those in words of 64 bits, the buffer, the distinct pointers in
-- order, and whether it is whole
pub record LiveState : Type 0 where
  pub counter : ℕ
  pub limit : ℕ
  pub size : Option ℕ
  pub ending : ℕ
  pub have : ℕ
  pub words : List ℕ
  pub bytes : List ℕ
  pub pointers : List Pointer
  pub whole : Bool

-- the byte at place k, where one is there
abbrev pub stored : LiveState → ℕ → Option ℕ
stored e k = if mark_at e.words k == 1 then Some (slice_index e.bytes k) else None

-- the live heap that the state is of
abbrev pub live_of : LiveState → LiveHeap
live_of e = record {
  counter = e.counter;
  size = e.size;
  ending = e.ending;
  byte = stored e;
  pointers = e.pointers;
  whole = e.whole;
}

-- the whole heap that the state lends: the bytes that are there
abbrev pub lent_of : LiveState → WholeHeap
lent_of e = record { counter = e.counter; pointers = e.pointers; payload = take e.have e.bytes }

-- what a member is to its heap, which has this counter, by the answer on it: kept, whole at it, or dropped. The members
-- are those up to and including it
abbrev pub outcome_by : ℕ → List PlacedPacket → Added → Outcome
outcome_by counter ms added.Kept = Part
outcome_by counter ms added.Whole = Makes (heap_of counter (kept_shown ms))
outcome_by counter ms (added.Dropped cause) = Dropped cause

-- the answer is that the heap is whole
abbrev pub is_whole_answer : Added → Bool
is_whole_answer added.Kept = false
is_whole_answer added.Whole = true
is_whole_answer (added.Dropped cause) = false

-- a packet that is dropped changes nothing
abbrev pub Stays : LiveState → LiveState → Added → Type 0
Stays old new added.Kept = Unit {0}
Stays old new added.Whole = Unit {0}
Stays old new (added.Dropped cause) = new ≡ old
