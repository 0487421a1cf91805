-- Streams of the worked examples of windows and heaps, and what is looked at in them. This project's own.
use Rattle.std.specs.Prelude.{ℕ, ◌==◌, true, false, if◌then◌else◌, List, [], ◌∷◌, map, slice_get, Option, Some, None, option_and_then}
use Rattle.std.specs.List.{flat_map}
use Rattle.corr_model.specs.declared.plan.Plan.{Plan}
use Rattle.corr_model.specs.declared.heap.DropCause.{DropCause}
use Rattle.corr_model.specs.Lists.{numbers}
use Rattle.corr_model.specs.Descriptors.{immediate, addressed}
use Rattle.corr_model.specs.Windows.{openings, members, placed_in}
use Rattle.corr_model.specs.Assembly.{Fate, WholeHeap, fates, kept}
use Rattle.corr_model.specs.Streams.{whole_in}
use Rattle.corr_model.specs.LiveHeaps.{LiveHeap}
use Rattle.corr_model.specs.Examples.{small_plan, example_packet, voltage_pointers, first_packet, first_samples, both_heaps, one_heap}

-- a packet without pointers of the heap
abbrev pub piece : ℕ → Option ℕ → ℕ → List ℕ → List ℕ
piece counter size offset payload = example_packet counter size offset [] payload

-- a packet without a byte, with so many pointers from this id on
abbrev pub pointed : ℕ → ℕ → ℕ → List ℕ
pointed counter from count = example_packet counter None 0 (map (λ id. immediate id 0) (numbers from count)) []

-- a plan with this window
abbrev pub with_window : ℕ → Plan
with_window window = record small_plan { window = window }

-- the counters of the openings, in order
abbrev pub opened_counters : Plan → List (List ℕ) → List ℕ
opened_counters plan l = map (λ o. o.packet.counter) (openings (placed_in plan l))

-- for each opening, the payloads of the members of its heap
abbrev pub member_payloads : Plan → List (List ℕ) → List (List (List ℕ))
member_payloads plan l =
    map (λ o. map (λ q. q.packet.payload) (members plan.window (placed_in plan l) o)) (openings (placed_in plan l))

-- for each opening, its heap's members with their causes
abbrev pub fates_in : Plan → List (List ℕ) → List (List Fate)
fates_in plan l = map (λ o. fates (members plan.window (placed_in plan l) o)) (openings (placed_in plan l))

-- heap by heap, the causes of all members, none for a kept one
abbrev pub causes : List (List ℕ) → List (Option DropCause)
causes l = flat_map (map (λ f. f.cause)) (fates_in small_plan l)

-- heap by heap, the payloads that are kept
abbrev pub kept_payloads : List (List ℕ) → List (List ℕ)
kept_payloads l = flat_map (λ fs. map (λ p. p.payload) (kept fs)) (fates_in small_plan l)

-- the counters of the heaps that become whole, in order
abbrev pub whole_counters : Plan → List (List ℕ) → List ℕ
whole_counters plan l = map (λ heap. heap.counter) (whole_in plan l)

-- the payloads of the heaps that become whole, in order
abbrev pub whole_payloads : List (List ℕ) → List (List ℕ)
whole_payloads l = map (λ heap. heap.payload) (whole_in small_plan l)

-- 'pieces in reverse order': four packets of one byte, and only the last says size and items
abbrev pub reversed_pieces : List (List ℕ)
reversed_pieces =
    piece 1 None 3 (0 ∷ [])
    ∷ piece 1 None 2 (3 ∷ [])
    ∷ piece 1 None 1 (2 ∷ [])
    ∷ example_packet 1 (Some 4) 0 (voltage_pointers 0 0) (1 ∷ [])
    ∷ []

-- the reversed pieces from antenna 0, and nothing of antenna 1
abbrev pub reversed_alone : ℕ → List (List ℕ)
reversed_alone antenna = if antenna == 0 then reversed_pieces else []

-- 'a repeated packet': the first packet of antenna 0 comes twice
abbrev pub repeated : List (List ℕ)
repeated = first_packet ∷ both_heaps

-- the repeated packet from antenna 0, and one heap of antenna 1
abbrev pub repeated_lost : ℕ → List (List ℕ)
repeated_lost antenna = if antenna == 0 then repeated else one_heap

-- the first half of a heap of size 4
abbrev pub half : ℕ → List ℕ
half counter = piece counter (Some 4) 0 (1 ∷ 2 ∷ [])

-- the other half of a heap of size 4
abbrev pub other_half : ℕ → List ℕ
other_half counter = piece counter (Some 4) 2 (3 ∷ 4 ∷ [])

-- 'eviction from the window': heaps 1, 2 and 3 in halves, as 1a, 2a, 3a, 1b
abbrev pub halves : List (List ℕ)
halves = half 1 ∷ half 2 ∷ half 3 ∷ other_half 1 ∷ []

-- heap 1 in both halves, and then the first halves of heaps 2, 3 and 4
abbrev pub whole_then_halves : List (List ℕ)
whole_then_halves = half 1 ∷ other_half 1 ∷ half 2 ∷ half 3 ∷ half 4 ∷ []

-- 1a, 2a, 1b, 3a, 1b: with a window of 2 the first 1b is just in time, and the second one is not
abbrev pub just_in_time : List (List ℕ)
just_in_time = half 1 ∷ half 2 ∷ other_half 1 ∷ half 3 ∷ other_half 1 ∷ []

-- heaps 1, 2 and 1 of one packet each
abbrev pub one_two_one : List (List ℕ)
one_two_one = piece 1 (Some 0) 0 [] ∷ piece 2 (Some 0) 0 [] ∷ piece 1 (Some 0) 0 [] ∷ []

-- 'drop causes': five packets of a heap of size 4, one that says too great a size, one with 65 pointers
abbrev pub dropped_ones : List (List ℕ)
dropped_ones =
    example_packet 1 (Some 4) 0 (voltage_pointers 0 0) (1 ∷ 2 ∷ [])
    ∷ piece 1 None 1 (9 ∷ 9 ∷ [])
    ∷ piece 1 (Some 8) 2 (9 ∷ 9 ∷ [])
    ∷ piece 1 None 3 (9 ∷ 9 ∷ [])
    ∷ piece 1 None 2 (3 ∷ 0 ∷ [])
    ∷ piece 2 (Some 4101) 0 (9 ∷ [])
    ∷ pointed 3 100 65
    ∷ []

-- two halves of a heap, and between them this packet
abbrev pub between_halves : List ℕ → List (List ℕ)
between_halves packet = half 1 ∷ packet ∷ other_half 1 ∷ []

-- four bytes from offset 2, and then the two bytes before them in a packet that says this size
abbrev pub sized_late : ℕ → List (List ℕ)
sized_late size = piece 1 None 2 (1 ∷ 2 ∷ 3 ∷ 4 ∷ []) ∷ piece 1 (Some size) 0 (5 ∷ 6 ∷ []) ∷ []

-- two halves without a size, and between them a packet that says it at this offset
abbrev pub sized_between : ℕ → List (List ℕ)
sized_between offset =
    piece 1 None 0 (1 ∷ 2 ∷ []) ∷ piece 1 (Some 4) offset (3 ∷ 4 ∷ []) ∷ piece 1 None 2 (3 ∷ 4 ∷ []) ∷ []

-- a packet that overlaps the first half of heap 1 and has 65 pointers
abbrev pub overlapping : List ℕ
overlapping = example_packet 1 None 0 (map (λ id. immediate id 0) (numbers 100 65)) (1 ∷ [])

-- two packets of a heap that share pointers, beside some that differ in mode, id or value alone
abbrev pub shared_pointers : List (List ℕ)
shared_pointers =
    example_packet 1 None 0 (immediate 10 1 ∷ addressed 10 1 ∷ immediate 10 1 ∷ []) []
    ∷ example_packet 1 (Some 0) 0 (addressed 10 1 ∷ immediate 10 2 ∷ immediate 11 1 ∷ []) []
    ∷ []

-- a heap that becomes whole, and then a packet without payload that brings a pointer
abbrev pub pointed_late : List (List ℕ)
pointed_late = first_packet ∷ example_packet 1 None 0 (immediate 10 1 ∷ []) [] ∷ []

-- the byte at a place of these, where one is there
abbrev pub byte_there : List (Option ℕ) → ℕ → Option ℕ
byte_there bytes k = option_and_then (λ byte. byte) (slice_get bytes k)

-- a heap of which nothing is kept
abbrev pub opened_heap : ℕ → LiveHeap
opened_heap counter =
    record { counter = counter; size = None; ending = 0; byte = byte_there []; pointers = []; whole = false }

-- a heap of which the first half is kept
abbrev pub half_heap : ℕ → LiveHeap
half_heap counter = record (opened_heap counter) { size = Some 4; ending = 2; byte = byte_there (Some 1 ∷ Some 2 ∷ []) }

-- a heap of which the other half is kept
abbrev pub other_half_heap : ℕ → LiveHeap
other_half_heap counter =
    record (opened_heap counter) { size = Some 4; ending = 4; byte = byte_there (None ∷ None ∷ Some 3 ∷ Some 4 ∷ []) }

-- the first heap of antenna 0, whole
abbrev pub first_heap : LiveHeap
first_heap = record (opened_heap 1) {
  size = Some 4;
  ending = 4;
  byte = byte_there (Some 1 ∷ Some 2 ∷ Some 3 ∷ Some 0 ∷ []);
  pointers = voltage_pointers 0 0;
  whole = true;
}

-- the heap of the first three of the reversed pieces
abbrev pub three_pieces_heap : LiveHeap
three_pieces_heap = record (opened_heap 1) { ending = 4; byte = byte_there (None ∷ Some 2 ∷ Some 3 ∷ Some 0 ∷ []) }

-- the whole heap of the first packet of antenna 0
abbrev pub first_whole : WholeHeap
first_whole = record { counter = 1; pointers = voltage_pointers 0 0; payload = first_samples }
