-- Runs of the machine over lists of events: what was appended, how far the run is, and where it can go on.
-- This project's own.
use Rattle.std.specs.Prelude.{◌≡◌, ℕ, ◌+◌, ◌*◌, ◌<◌, true, ◌&&◌, ◌==◌, if◌then◌else◌, List, [], ◌∷◌, ◌++◌, length, take, fold, slice_get, Some, is_none}
use Rattle.std.specs.List.{flat_map, sum_by}
use Rattle.corr_model.specs.declared.plan.Plan.{Plan}
use Rattle.corr_model.specs.Lists.{numbers}
use Rattle.corr_model.specs.Streams.{ending, taken}
use Rattle.corr_model.specs.Visibilities.{Lists}
use Rattle.corr_model.specs.Outputs.{head_packets, heap_packets, stop_packets}
use Rattle.corr_machine.specs.Machines.{Kind, Filling, Working, Done, StreamState, SlotState, State, Event, Packet, End, Send, opening, enabled, step, stream_at}

-- the state after these events
abbrev pub after : Plan → State → List Event → State
after plan state events = fold (step plan) state events

-- the state after these events from the opening
abbrev pub reached : Plan → List Event → State
reached plan events = after plan (opening plan) events

-- the heaps of an output, each as its packets: the descriptor heap, the heap of each number, the stop heap
pub record OutputHeaps : Type 0 where
  pub head : List (List ℕ)
  pub heap : ℕ → List (List ℕ)
  pub stop : List (List ℕ)

-- the heaps of the output of these lists
abbrev pub heaps_of : Plan → Lists → OutputHeaps
heaps_of plan lists = record { head = head_packets plan; heap = heap_packets plan lists; stop = stop_packets plan }

-- the whole output of these heaps: the descriptor heap, the heap of each accumulation in order, the stop heap
abbrev pub output_of : Plan → OutputHeaps → List (List ℕ)
output_of plan heaps = heaps.head ++ (flat_map heaps.heap (numbers 0 plan.accumulations) ++ heaps.stop)

-- what is appended with heap n: before the first the descriptor heap, after the last the stop heap
abbrev pub sent_with : Plan → OutputHeaps → ℕ → List (List ℕ)
sent_with plan heaps n =
    (if n == 0 then heaps.head else []) ++ (heaps.heap n ++ (if n + 1 == plan.accumulations then heaps.stop else []))

-- what an event appends where it is enabled: a Send its heap, any other nothing
abbrev pub appended_by : Plan → OutputHeaps → ℕ → Event → List (List ℕ)
appended_by plan heaps n Send = sent_with plan heaps n
appended_by plan heaps n other = []

-- what an event appends
abbrev pub appends : Plan → OutputHeaps → State → Event → List (List ℕ)
appends plan heaps state e = if enabled plan state e then appended_by plan heaps state.sent e else []

-- what these events append, one after the other
abbrev pub appended : Plan → OutputHeaps → State → List Event → List (List ℕ)
appended plan heaps state [] = []
appended plan heaps state (e ∷ es) = appends plan heaps state e ++ appended plan heaps (step plan state e) es

-- the byte strings that each stream took
abbrev pub strings_of : State → Lists
strings_of state a = (stream_at state a).strings

-- what these events append, where each heap is that of the strings taken until then
abbrev pub sent_by : Plan → State → List Event → List (List ℕ)
sent_by plan state [] = []
sent_by plan state (e ∷ es) =
    appends plan (heaps_of plan (strings_of state)) state e ++ sent_by plan (step plan state e) es

-- what is appended with the first n heaps
abbrev pub output_before : Plan → OutputHeaps → ℕ → List (List ℕ)
output_before plan heaps n = flat_map (sent_with plan heaps) (numbers 0 n)

-- the list begins with this front
pub record IsFront {A : Type 0} (front whole : List A) : Type 0 where
  pub rest : List A
  pub is : whole ≡ front ++ rest

-- a stream's part of the measure: its strings, its end where it did not end by itself, its columns put
abbrev pub stream_done : Plan → StreamState → ℕ
stream_done plan x = length x.strings + (if x.ended && is_none (ending plan x.strings) then 1 else 0) + x.put

-- a slot's part of the measure: one where it is working, two where it is done
abbrev pub kind_done : Kind → ℕ
kind_done Filling = 0
kind_done Working = 1
kind_done Done = 2

abbrev pub slot_done : SlotState → ℕ
slot_done x = kind_done x.kind

-- how far a state is
abbrev pub done : Plan → State → ℕ
done plan state = sum_by (stream_done plan) state.streams + 3 * state.sent + sum_by slot_done state.slots

-- how far a stream can go
abbrev pub stream_full : Plan → List (List ℕ) → ℕ
stream_full plan l = length (taken plan l) + (if is_none (ending plan l) then 1 else 0) + plan.accumulations

-- how far a run over these lists goes
abbrev pub full : Plan → Lists → ℕ
full plan lists = sum_by (λ a. stream_full plan (lists a)) (numbers 0 plan.antennas) + 3 * plan.accumulations

-- the stream took the first strings of those of its list that count, and all of them where it has ended
pub record StreamFits (plan : Plan) (x : StreamState) (l : List (List ℕ)) : Type 0 where
  pub first : x.strings ≡ take (length x.strings) (taken plan l)
  pub all : x.ended ≡ true → x.strings ≡ taken plan l

-- each stream fits its list
abbrev pub FitsLists : Plan → State → Lists → Type 0
FitsLists plan state lists = (a : ℕ) → a < plan.antennas → StreamFits plan (stream_at state a) (lists a)

-- the event is one of a run over these lists: a string is the next of its list, and an end comes after the last
abbrev pub IsNext : Plan → Lists → State → Event → Type 0
IsNext plan lists state (Packet a b) = slice_get (taken plan (lists a)) (length (stream_at state a).strings) ≡ Some b
IsNext plan lists state (End a) = (stream_at state a).strings ≡ taken plan (lists a)
IsNext plan lists state other = Unit {0}

-- some event of a run over these lists is enabled
pub record CanMove (plan : Plan) (lists : Lists) (state : State) : Type 0 where
  pub event : Event
  pub next : IsNext plan lists state event
  pub can : enabled plan state event ≡ true

-- all results were sent, and each stream has ended
pub record IsOver (plan : Plan) (state : State) : Type 0 where
  pub sent : state.sent ≡ plan.accumulations
  pub ended : (a : ℕ) → a < plan.antennas → (stream_at state a).ended ≡ true
