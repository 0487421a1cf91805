-- Worked runs of the machine. This project's own.
use Rattle.std.specs.Prelude.{ℕ, zero, ◌+◌, Bool, List, [], ◌∷◌}
use Rattle.corr_model.specs.declared.plan.Plan.{Plan}
use Rattle.corr_model.specs.Visibilities.{Lists}
use Rattle.corr_model.specs.Examples.{small_plan, voltage_heap, first_samples}
use Rattle.corr_machine.specs.Machines.{State, Event, Packet, End, Put, Take, Store, Send, enabled, step}

-- for each event in turn, whether it moves
abbrev pub moved : Plan → State → List Event → List Bool
moved plan state [] = []
moved plan state (e ∷ es) = enabled plan state e ∷ moved plan (step plan state e) es

-- two accumulations of two timestamps, lag 1, and one slot
abbrev pub short_ring : Plan
short_ring = record small_plan { accumulations = 2; slots = 1 }

-- the same with two slots and two workers
abbrev pub long_ring : Plan
long_ring = record short_ring { slots = 2; workers = 2 }

-- a heap of antenna 0 at this timestamp
abbrev pub heap_at : ℕ → List ℕ
heap_at t = voltage_heap (t + 1) 0 t first_samples

-- four heaps of antenna 0, and nothing of antenna 1
abbrev pub four_heaps : Lists
four_heaps zero = heap_at 0 ∷ heap_at 1 ∷ heap_at 2 ∷ heap_at 3 ∷ []
four_heaps a = []

-- a stream whose second accumulation is closed while the ring still waits for the first of the other
abbrev pub ahead : List Event
ahead = Packet 0 (heap_at 0) ∷ Packet 0 (heap_at 1) ∷ Packet 0 (heap_at 2) ∷ Packet 0 (heap_at 3) ∷ Put 0
    ∷ Packet 0 (heap_at 3) ∷ End 0 ∷ Put 0 ∷ []

-- the other stream's end and column, the work, the sender, and then the same for the second accumulation
abbrev pub goes_on : List Event
goes_on = End 1 ∷ Put 1 ∷ Take 0 0 ∷ Store 0 ∷ Send ∷ Put 0 ∷ Put 1 ∷ Take 0 0 ∷ Store 0 ∷ Send ∷ Send ∷ []

-- the other stream first: its second column waits as well
abbrev pub other_first : List Event
other_first =
    End 1 ∷ Put 1 ∷ Put 1
    ∷ Packet 0 (heap_at 0) ∷ Packet 0 (heap_at 1) ∷ Packet 0 (heap_at 2) ∷ Put 0 ∷ Take 0 0 ∷ Packet 0 (heap_at 3)
    ∷ End 0 ∷ Store 0 ∷ Send
    ∷ Put 1 ∷ Put 0 ∷ Take 0 0 ∷ Store 0 ∷ Send ∷ []

-- all actors by turns, whether they can move or not
abbrev pub by_turns : List Event
by_turns =
    Packet 0 (heap_at 0) ∷ End 1 ∷ Take 0 0 ∷ Store 0 ∷ Send
    ∷ Packet 0 (heap_at 1) ∷ Put 1 ∷ Take 0 0 ∷ Store 0 ∷ Send
    ∷ Packet 0 (heap_at 2) ∷ Put 1 ∷ Take 0 0 ∷ Store 0 ∷ Send
    ∷ Put 0 ∷ Put 1 ∷ Take 0 0 ∷ Store 0 ∷ Send
    ∷ Packet 0 (heap_at 3) ∷ Put 1 ∷ Take 0 0 ∷ Store 0 ∷ Send
    ∷ End 0 ∷ Put 0 ∷ Take 0 0 ∷ Store 0 ∷ Send ∷ []

-- on the longer ring the second accumulation is computed before the first, and its result waits
abbrev pub second_computed_first : List Event
second_computed_first =
    End 1 ∷ Put 1 ∷ Put 1
    ∷ Packet 0 (heap_at 0) ∷ Packet 0 (heap_at 1) ∷ Packet 0 (heap_at 2) ∷ Put 0 ∷ Packet 0 (heap_at 3) ∷ End 0 ∷ Put 0
    ∷ Take 1 0 ∷ Take 0 1 ∷ Store 0 ∷ Send ∷ Store 1 ∷ Send ∷ Send ∷ []
