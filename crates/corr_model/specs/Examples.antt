-- The plan, the packets and the streams of the worked examples. This project's own.
use Rattle.std.specs.Prelude.{ℕ, ◌+◌, ◌*◌, ◌^◌, true, false, ◌==◌, if◌then◌else◌, ℤ, List, [], ◌∷◌, ◌++◌, length, take, drop, map, Option, Some}
use Rattle.corr_model.specs.declared.plan.Plan.{Plan}
use Rattle.corr_model.specs.declared.pointer.Pointer.{Pointer}
use Rattle.corr_model.specs.declared.verdict.Verdict.{Verdict}
use Rattle.corr_model.specs.Descriptors.{immediate, addressed, special_pointers, packet_bytes}
use Rattle.corr_model.specs.Streams.{heaps}
use Rattle.corr_model.specs.Visibilities.{Complex, Lists, vis}
use Rattle.corr_model.specs.Outputs.{products}

-- two antennas, one channel, one spectrum a heap, two timestamps in the one accumulation; voltages are described
-- beforehand
abbrev pub small_plan : Plan
small_plan = record {
  antennas = 2;
  channels = 1;
  spectra = 1;
  heaps = 2;
  accumulations = 1;
  lag = 1;
  window = 8;
  slots = 1;
  workers = 0;
  packet = 1024;
  heap_limit = 4100;
  beams = 0;
  step = 1;
  start = 0;
  leap = 0;
  packet_limit = 2 ^ 40;
  preset = true;
}

-- a packet: counter, size if said, offset, the length of its payload, the heap's pointers, and its payload
abbrev pub example_packet : ℕ → Option ℕ → ℕ → List Pointer → List ℕ → List ℕ
example_packet counter size offset pointers payload =
    packet_bytes (special_pointers counter size offset (length payload) ++ pointers) payload

-- the items of a voltage heap: timestamp, antenna, and voltages from offset 0
abbrev pub voltage_pointers : ℕ → ℕ → List Pointer
voltage_pointers timestamp antenna = immediate 0x1600 timestamp ∷ immediate 0x4101 antenna ∷ addressed 0x4300 0 ∷ []

-- a voltage heap in one packet: counter, antenna, timestamp and samples
abbrev pub voltage_heap : ℕ → ℕ → ℕ → List ℕ → List ℕ
voltage_heap counter antenna timestamp bytes =
    example_packet counter (Some (length bytes)) 0 (voltage_pointers timestamp antenna) bytes

-- samples (1 + 2i, 3) of the two polarisations
abbrev pub first_samples : List ℕ
first_samples = 1 ∷ 2 ∷ 3 ∷ 0 ∷ []

-- samples (−1, i)
abbrev pub second_samples : List ℕ
second_samples = 255 ∷ 0 ∷ 0 ∷ 1 ∷ []

-- samples (i, 2 − i)
abbrev pub other_samples : List ℕ
other_samples = 0 ∷ 1 ∷ 2 ∷ 255 ∷ []

-- the first packet of antenna 0: counter 1, timestamp 0
abbrev pub first_packet : List ℕ
first_packet = voltage_heap 1 0 0 first_samples

-- the second packet of antenna 0: counter 2, timestamp 1
abbrev pub second_packet : List ℕ
second_packet = voltage_heap 2 0 1 second_samples

-- antenna 0 of 'two antennas, one heap lost': heaps at 0 and at 1
abbrev pub both_heaps : List (List ℕ)
both_heaps = first_packet ∷ second_packet ∷ []

-- antenna 1 of 'two antennas, one heap lost': a heap at 0
abbrev pub one_heap : List (List ℕ)
one_heap = voltage_heap 1 1 0 other_samples ∷ []

-- two antennas, and the heap at 1 of antenna 1 is lost
abbrev pub one_heap_lost : ℕ → List (List ℕ)
one_heap_lost antenna = if antenna == 0 then both_heaps else one_heap

-- no packet of any antenna
abbrev pub empty_lists : ℕ → List (List ℕ)
empty_lists antenna = []

-- the bytes with these in place of those from a place on
abbrev pub with_bytes : ℕ → List ℕ → List ℕ → List ℕ
with_bytes place new bytes = take place bytes ++ (new ++ drop (place + length new) bytes)

-- the bytes with this one at a place
abbrev pub with_byte : ℕ → ℕ → List ℕ → List ℕ
with_byte place byte bytes = with_bytes place (byte ∷ []) bytes

-- the packet with all of pointer k zero, from 0
abbrev pub without_pointer : ℕ → List ℕ → List ℕ
without_pointer k bytes = with_bytes (8 + 8 * k) (0 ∷ 0 ∷ 0 ∷ 0 ∷ 0 ∷ 0 ∷ 0 ∷ 0 ∷ []) bytes

-- the verdicts of a stream's heaps, in order
abbrev pub verdicts : Plan → ℕ → List (List ℕ) → List Verdict
verdicts plan antenna l = map (λ j. j.verdict) (heaps plan antenna l)

-- a number by its real and imaginary part
abbrev pub complex : ℤ → ℤ → Complex
complex real imaginary = record { real = real; imaginary = imaginary }

-- an addressed descriptor at the front of each of these contents
abbrev pub descriptor_pointers : ℕ → List (List ℕ) → List Pointer
descriptor_pointers from [] = []
descriptor_pointers from (content ∷ contents) =
    addressed 5 from ∷ descriptor_pointers (from + length content) contents

-- a stop heap in one packet
abbrev pub stop_heap : ℕ → List ℕ
stop_heap counter = example_packet counter (Some 0) 0 (immediate 6 2 ∷ []) []

-- the first packet changed in ten ways: one for each refusal
abbrev pub ten_refused : List (List ℕ)
ten_refused =
    take 7 first_packet
    ∷ with_byte 0 0x54 first_packet
    ∷ with_byte 1 3 first_packet
    ∷ with_bytes 2 (4 ∷ 4 ∷ []) first_packet
    ∷ with_byte 7 8 first_packet
    ∷ without_pointer 0 first_packet
    ∷ without_pointer 2 first_packet
    ∷ without_pointer 3 first_packet
    ∷ (first_packet ++ 0 ∷ [])
    ∷ with_byte 23 3 first_packet
    ∷ []

-- a packet with two heap counters, an addressed pointer with that id, and null pointers
abbrev pub counted_twice : List ℕ
counted_twice =
    example_packet 3 (Some 1) 0 (immediate 1 9 ∷ addressed 1 8 ∷ immediate 0 7 ∷ addressed 0 6 ∷ []) (5 ∷ [])

-- the four products of a baseline at channel 0 of accumulation 0
abbrev pub values_of : Plan → Lists → ℕ → ℕ → List Complex
values_of plan lists i j = map (λ pq. vis plan lists 0 i j 0 pq.0 pq.1) products

-- the plan of the simulated trial
abbrev pub trial_plan : Plan
trial_plan = record {
  antennas = 4;
  channels = 16;
  spectra = 256;
  heaps = 256;
  accumulations = 2;
  lag = 2;
  window = 8;
  slots = 4;
  workers = 4;
  packet = 1024;
  heap_limit = 20480;
  beams = 0;
  step = 8192;
  start = 0;
  leap = 0;
  packet_limit = 2 ^ 40;
  preset = false;
}

-- the plan of settings that are refused, since it reserves too much
abbrev pub large_plan : Plan
large_plan = record trial_plan {
  antennas = 1;
  channels = 1024;
  lag = 1;
  window = 1;
  slots = 1;
  workers = 1;
  heap_limit = 1052672;
}
