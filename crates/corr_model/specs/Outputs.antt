-- The output stream: the descriptor heap, one visibility heap per accumulation, the stop heap.
-- SPEAD protocol definition, version 4: packets, item descriptors and stream control. The heap counters, the item ids,
-- the shapes, the order of the numbers and the cut into packets are this project's own.
use Rattle.std.specs.Prelude.{ℕ, ◌+◌, ◌*◌, ◌-◌, ◌/◌, max, ℤ, List, [], ◌∷◌, ◌++◌, length, take, drop, map}
use Rattle.std.specs.Int.{bytes_high_first, cast_unsigned}
use Rattle.std.specs.Int.{w64}
use Rattle.std.specs.List.{flat_map}
use Rattle.corr_model.specs.declared.plan.Plan.{Plan}
use Rattle.corr_model.specs.declared.pointer.Pointer.{Pointer}
use Rattle.corr_model.specs.declared.item.Dim.TheVariants.{Fixed}
use Rattle.corr_model.specs.Plans.{baselines, value_bytes}
use Rattle.corr_model.specs.Lists.{numbers}
use Rattle.corr_model.specs.Descriptors.{DescribedItem, immediate, addressed, packet_bytes, descriptor_bytes}
use Rattle.corr_model.specs.Tables.{item_type_of}
use Rattle.corr_model.specs.Visibilities.{Complex, Lists, vis, missing}

-- the number of packets of so many payload bytes into which a heap of n bytes is cut: at least one
abbrev pub piece_count : ℕ → ℕ → ℕ
piece_count width n = max 1 ((n + width - 1) / width)

-- one packet of a heap: counter, size, offset and length as immediate pointers, then the heap's own pointers
abbrev pub heap_packet : ℕ → ℕ → List Pointer → ℕ → List ℕ → List ℕ
heap_packet counter size own offset piece =
    packet_bytes (immediate 1 counter ∷ immediate 2 size ∷ immediate 3 offset ∷ immediate 4 (length piece) ∷ own) piece

-- a heap as packets: its payload cut into pieces of `packet` bytes, the last one may be shorter; an empty payload is
-- one empty piece
abbrev pub packets_of : Plan → ℕ → List Pointer → List ℕ → List (List ℕ)
packets_of plan counter own payload =
    map (λ k. heap_packet counter (length payload) own (k * plan.packet)
    (take plan.packet (drop (k * plan.packet) payload)))
    (numbers 0 (piece_count plan.packet (length payload)))

-- the output's timestamp item: an unsigned number of 48 bits named `timestamp`
abbrev pub timestamp_item : DescribedItem
timestamp_item = record {
  id = 0x1600;
  shape = [];
  types = item_type_of 117 48 ∷ [];
  name = 116 ∷ 105 ∷ 109 ∷ 101 ∷ 115 ∷ 116 ∷ 97 ∷ 109 ∷ 112 ∷ [];
}

-- the output's visibilities item: signed numbers of 64 bits, [channel, baseline, product, real and imaginary], named
-- `visibilities`
abbrev pub visibilities_item : Plan → DescribedItem
visibilities_item plan = record {
  id = 0x1800;
  shape = Fixed plan.channels ∷ Fixed (baselines plan) ∷ Fixed 4 ∷ Fixed 2 ∷ [];
  types = item_type_of 105 64 ∷ [];
  name = 118 ∷ 105 ∷ 115 ∷ 105 ∷ 98 ∷ 105 ∷ 108 ∷ 105 ∷ 116 ∷ 105 ∷ 101 ∷ 115 ∷ [];
}

-- the output's missing item: unsigned numbers of 32 bits, [baseline], named `missing`
abbrev pub missing_item : Plan → DescribedItem
missing_item plan = record {
  id = 0x1801;
  shape = Fixed (baselines plan) ∷ [];
  types = item_type_of 117 32 ∷ [];
  name = 109 ∷ 105 ∷ 115 ∷ 115 ∷ 105 ∷ 110 ∷ 103 ∷ [];
}

-- the payload of the descriptor heap: three descriptors of 84, 115 and 89 bytes
abbrev pub head_payload : Plan → List ℕ
head_payload plan = descriptor_bytes timestamp_item
    ++ (descriptor_bytes (visibilities_item plan) ++ descriptor_bytes (missing_item plan))

-- the descriptor heap, counter 1: three descriptors, each at its offset
abbrev pub head_packets : Plan → List (List ℕ)
head_packets plan = packets_of plan 1 (addressed 5 0 ∷ addressed 5 84 ∷ addressed 5 199 ∷ []) (head_payload plan)

-- antennas i and j, i not greater than j, in the order of baseline numbers
abbrev pub pairs : ℕ → List (ℕ × ℕ)
pairs antennas = flat_map (λ j. map (λ i. (i, j)) (numbers 0 (j + 1))) (numbers 0 antennas)

-- the products of polarisations p and q, in the order of their places
abbrev pub products : List (ℕ × ℕ)
products = (0, 0) ∷ (0, 1) ∷ (1, 0) ∷ (1, 1) ∷ []

-- a signed number as eight bytes in two's complement
abbrev pub signed_bytes : ℤ → List ℕ
signed_bytes z = bytes_high_first 8 (cast_unsigned w64 z)

-- real and imaginary part
abbrev pub complex_bytes : Complex → List ℕ
complex_bytes x = signed_bytes x.real ++ signed_bytes x.imaginary

-- the values of accumulation n, by channel, baseline and product
abbrev pub value_payload : Plan → Lists → ℕ → List ℕ
value_payload plan lists n =
    flat_map (λ c. flat_map (λ ij. flat_map (λ pq. complex_bytes (vis plan lists n ij.0 ij.1 c pq.0 pq.1)) products)
    (pairs plan.antennas)) (numbers 0 plan.channels)

-- the missing counts of accumulation n, by baseline
abbrev pub missing_payload : Plan → Lists → ℕ → List ℕ
missing_payload plan lists n =
    flat_map (λ ij. bytes_high_first 4 (missing plan lists n ij.0 ij.1)) (pairs plan.antennas)

-- the pointers of visibility heap n: its timestamp, its values and, after these, its missing counts
abbrev pub visibility_pointers : Plan → ℕ → List Pointer
visibility_pointers plan n =
    immediate 0x1600 (plan.start + n * plan.heaps * plan.step) ∷ addressed 0x1800 0
    ∷ addressed 0x1801 (value_bytes plan) ∷ []

-- the visibility heap of accumulation n, counter n + 2
abbrev pub heap_packets : Plan → Lists → ℕ → List (List ℕ)
heap_packets plan lists n =
    packets_of plan (n + 2) (visibility_pointers plan n) (value_payload plan lists n ++ missing_payload plan lists n)

-- the stop heap, counter N + 2: stream control with 2, and no payload
abbrev pub stop_packets : Plan → List (List ℕ)
stop_packets plan = packets_of plan (plan.accumulations + 2) (immediate 6 2 ∷ []) []

-- the whole output: the descriptor heap, the visibility heap of each accumulation in order, the stop heap
abbrev pub output : Plan → Lists → List (List ℕ)
output plan lists = head_packets plan
    ++ (flat_map (heap_packets plan lists) (numbers 0 plan.accumulations) ++ stop_packets plan)
