-- Streams of the worked examples of verdicts, endings and floors. This project's own.
use Rattle.std.specs.Prelude.{ℕ, Bool, false, List, [], ◌∷◌, ◌++◌, length, map, replicate, take, Option, Some, None}
use Rattle.std.specs.List.{flat_map, zip}
use Rattle.corr_model.specs.declared.plan.Plan.{Plan}
use Rattle.corr_model.specs.declared.pointer.Pointer.{Pointer}
use Rattle.corr_model.specs.declared.pointer.Refusal.TheVariants.{Short}
use Rattle.corr_model.specs.declared.heap.DropCause.TheVariants.{Overlap}
use Rattle.corr_model.specs.declared.verdict.Verdict.{Verdict}
use Rattle.corr_model.specs.declared.verdict.Verdict.TheVariants as verdict
use Rattle.corr_model.specs.Lists.{numbers}
use Rattle.corr_model.specs.Windows.{placed_in}
use Rattle.corr_model.specs.Descriptors.{DescribedItem, immediate, addressed, descriptor_bytes}
use Rattle.corr_model.specs.Tables.{item_type_of, scalar, voltages, is_bad_after}
use Rattle.corr_model.specs.PacketVerdicts.{Report, next_evicted}
use Rattle.corr_model.specs.Examples.{small_plan, example_packet, voltage_heap, voltage_pointers, descriptor_pointers, stop_heap, first_packet, first_samples, second_samples}

-- `timestamp`, `antenna` and `voltages` as a sender describes them
abbrev pub voltage_items : Plan → List DescribedItem
voltage_items plan =
    record (scalar 0x1600) { name = 116 ∷ 105 ∷ 109 ∷ 101 ∷ 115 ∷ 116 ∷ 97 ∷ 109 ∷ 112 ∷ [] }
    ∷ record (scalar 0x4101) { name = 97 ∷ 110 ∷ 116 ∷ 101 ∷ 110 ∷ 110 ∷ 97 ∷ [] }
    ∷ record (voltages plan) { name = 118 ∷ 111 ∷ 108 ∷ 116 ∷ 97 ∷ 103 ∷ 101 ∷ 115 ∷ [] }
    ∷ []

-- the heap of these descriptor contents in one packet
abbrev pub descriptor_heap : ℕ → List (List ℕ) → List ℕ
descriptor_heap counter contents =
    example_packet counter (Some (length (flat_map (λ c. c) contents))) 0 (descriptor_pointers 0 contents)
    (flat_map (λ c. c) contents)

-- heaps of antenna 0 at these timestamps, with counters from 1
abbrev pub heaps_at : List ℕ → List (List ℕ)
heaps_at timestamps =
    map (λ ct. voltage_heap ct.0 0 ct.1 first_samples) (zip (numbers 1 (length timestamps)) timestamps)

-- a plan that describes nothing beforehand
abbrev pub undescribed_plan : Plan
undescribed_plan = record small_plan { preset = false }

-- 'undescribed until described': a heap at 0, a heap with the three descriptors, a heap at 1
abbrev pub described_late : List (List ℕ)
described_late =
    first_packet ∷ descriptor_heap 2 (map descriptor_bytes (voltage_items undescribed_plan))
    ∷ voltage_heap 3 0 1 second_samples ∷ []

-- a voltage heap that brings the three descriptors, and its samples in front of them
abbrev pub self_described : List ℕ
self_described =
    let contents = map descriptor_bytes (voltage_items undescribed_plan) in
    let payload = first_samples ++ flat_map (λ c. c) contents in
    example_packet 1 (Some (length payload)) 0 (voltage_pointers 0 0 ++ descriptor_pointers 4 contents) payload

-- a plan with two accumulations and this lag
abbrev pub with_lag : ℕ → Plan
with_lag lag = record small_plan { accumulations = 2; lag = lag }

-- two heaps at timestamp 0, with other bytes
abbrev pub two_at_one_place : List (List ℕ)
two_at_one_place = first_packet ∷ voltage_heap 2 0 0 second_samples ∷ []

-- the plan of 'every verdict of time'
abbrev pub timed_plan : Plan
timed_plan = record small_plan { start = 100; step = 4; accumulations = 2; leap = 2 }

-- the timestamps of 'every verdict of time'
abbrev pub timed : List ℕ
timed = 96 ∷ 102 ∷ 116 ∷ 108 ∷ 100 ∷ 116 ∷ 112 ∷ 124 ∷ 148 ∷ []

-- 'stop in the middle': a heap at 0, a stop heap, a heap at 1
abbrev pub stopped : List (List ℕ)
stopped = first_packet ∷ stop_heap 2 ∷ voltage_heap 3 0 1 second_samples ∷ []

-- one timestamp an accumulation, this guard, and a million accumulations
abbrev pub guarded_plan : ℕ → Plan
guarded_plan leap = record small_plan { heaps = 1; accumulations = 1048576; leap = leap }

-- a plan with this packet limit
abbrev pub with_limit : ℕ → Plan
with_limit packet_limit = record small_plan { packet_limit = packet_limit }

-- a heap of antenna 0 whose timestamp is addressed: so many bytes of 255
abbrev pub late_in_time : ℕ → List ℕ
late_in_time count =
    example_packet 1 (Some (length (replicate count 255 ++ first_samples))) 0
    (addressed 0x1600 0 ∷ immediate 0x4101 0 ∷ addressed 0x4300 count ∷ [])
    (replicate count 255 ++ first_samples)

-- a heap of one packet with these pointers and the first samples
abbrev pub with_pointers : List Pointer → List ℕ
with_pointers pointers = example_packet 1 (Some 4) 0 pointers first_samples

-- a heap at 0 of antenna 0 that goes on to say antenna 1 and timestamp 1
abbrev pub own_first : List ℕ
own_first = with_pointers (voltage_pointers 0 0 ++ immediate 0x4101 1 ∷ immediate 0x1600 1 ∷ [])

-- a heap that says antenna 1, and then timestamp 0 and antenna 0
abbrev pub other_first : List ℕ
other_first = with_pointers (immediate 0x4101 1 ∷ voltage_pointers 0 0)

-- a heap at 0 of antenna 0 whose voltages are immediate
abbrev pub immediate_voltages : List ℕ
immediate_voltages = with_pointers (immediate 0x1600 0 ∷ immediate 0x4101 0 ∷ immediate 0x4300 0 ∷ [])

-- a stop heap in two packets of one byte
abbrev pub stop_in_halves : List (List ℕ)
stop_in_halves = example_packet 1 None 0 (immediate 6 2 ∷ []) (7 ∷ []) ∷ example_packet 1 (Some 2) 1 [] (8 ∷ []) ∷ []

-- a report in which nothing is counted
abbrev pub nothing_counted : Report
nothing_counted = record {
  taken = 0;
  refused = 0;
  dropped = 0;
  stale = 0;
  evicted = 0;
  baddesc = 0;
  undescribed = 0;
  foreign = 0;
  before = 0;
  offgrid = 0;
  wild = 0;
  beyond = 0;
  late = 0;
  twice = 0;
  used = 0;
}

-- the descriptors of numbers with so many ids from this one on
abbrev pub described_ids : ℕ → ℕ → List (List ℕ)
described_ids from count = map (λ id. descriptor_bytes (scalar id)) (numbers from count)

-- after the descriptors of so many ids from 1 on, that of this id is bad
abbrev pub is_bad_id : Plan → ℕ → ℕ → Bool
is_bad_id plan count id = is_bad_after plan (described_ids 1 count) (descriptor_bytes (scalar id))

-- 65 ids described in two heaps
abbrev pub described_in_two_heaps : List (List ℕ)
described_in_two_heaps = descriptor_heap 1 (described_ids 1 40) ∷ descriptor_heap 2 (described_ids 41 25) ∷ []

-- for each heard packet, the counter of the heap that it evicts
abbrev pub evicted_in_turn : Plan → List (List ℕ) → List (Option ℕ)
evicted_in_turn plan l =
    map (λ q. next_evicted plan.window (take q.place (placed_in plan l)) q.packet) (placed_in plan l)

-- a stop heap that brings a descriptor of one byte, which is none
abbrev pub stop_with_descriptor : ℕ → List ℕ
stop_with_descriptor counter = example_packet counter (Some 1) 0 (immediate 6 2 ∷ addressed 5 0 ∷ []) (9 ∷ [])

-- a heap with the descriptors of these items, and then a heap at 0 of antenna 0
abbrev pub described_as : List DescribedItem → List (List ℕ)
described_as items = descriptor_heap 7 (map descriptor_bytes items) ∷ first_packet ∷ []

-- an item of this id, of one signed number of 48 bits
abbrev pub signed_scalar : ℕ → DescribedItem
signed_scalar id = record (scalar id) { types = item_type_of 105 48 ∷ [] }

-- two accumulations, from a timestamp that is no multiple of the step
abbrev pub odd_plan : Plan
odd_plan = record small_plan { start = 101; step = 4; accumulations = 2 }

-- a heap at 0 of antenna 0 that says immediate voltages before the addressed ones
abbrev pub immediate_first : List ℕ
immediate_first = with_pointers (immediate 0x4300 0 ∷ voltage_pointers 0 0)

-- one verdict of each kind
abbrev pub each_verdict : List Verdict
each_verdict =
    verdict.Refused Short
    ∷ verdict.Dropped Overlap
    ∷ verdict.Stale
    ∷ verdict.Part
    ∷ verdict.Stop
    ∷ verdict.Undescribed
    ∷ verdict.Foreign 1
    ∷ verdict.BeforeStart
    ∷ verdict.OffGrid
    ∷ verdict.Wild
    ∷ verdict.Beyond
    ∷ verdict.Late
    ∷ verdict.Twice
    ∷ verdict.Used 0 1
    ∷ []

-- the report on these with so many heaps evicted and so many bad descriptors
abbrev pub one_of_each : ℕ → ℕ → Report
one_of_each evicted baddesc = record {
  taken = 14;
  refused = 1;
  dropped = 1;
  stale = 1;
  evicted = evicted;
  baddesc = baddesc;
  undescribed = 1;
  foreign = 1;
  before = 1;
  offgrid = 1;
  wild = 1;
  beyond = 1;
  late = 1;
  twice = 1;
  used = 1;
}
