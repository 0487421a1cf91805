-- Plans, streams and samples of the worked examples of visibilities. This project's own.
use Rattle.std.specs.Prelude.{ℕ, ◌==◌, if◌then◌else◌, pos, List, [], ◌∷◌, length, map, replicate, Option, Some}
use Rattle.std.specs.List.{filter_map}
use Rattle.corr_model.specs.declared.plan.Plan.{Plan}
use Rattle.corr_model.specs.Packets.{Parts, packet_in}
use Rattle.corr_model.specs.Visibilities.{Complex, part_of, none_yet}
use Rattle.corr_model.specs.Outputs.{packets_of}
use Rattle.corr_model.specs.Streams.{contents_of}
use Rattle.corr_model.specs.Assembly.{pointers_of}
use Rattle.corr_model.specs.Examples.{small_plan, complex, voltage_heap, first_packet, second_samples, other_samples}

-- samples whose every part is −128
abbrev pub full_scale : List ℕ
full_scale = 128 ∷ 128 ∷ 128 ∷ 128 ∷ []

-- 4,096 timestamps of these samples
abbrev pub full_column : List (Option (List ℕ))
full_column = replicate 4096 (Some full_scale)

-- the product of polarisations p and q over that column with itself
abbrev pub full_product : ℕ → ℕ → Complex
full_product p q = part_of (record small_plan { heaps = 4096 }) full_column full_column 0 p q 0 4096

-- two channels and two spectra a heap
abbrev pub wide_plan : Plan
wide_plan = record small_plan { channels = 2; spectra = 2; heaps = 1 }

-- samples of two channels, two spectra and two polarisations: 1 + 2i, 3 + 4i, .. , 15 + 16i
abbrev pub counted_samples : List ℕ
counted_samples = 1 ∷ 2 ∷ 3 ∷ 4 ∷ 5 ∷ 6 ∷ 7 ∷ 8 ∷ 9 ∷ 10 ∷ 11 ∷ 12 ∷ 13 ∷ 14 ∷ 15 ∷ 16 ∷ []

-- two channels, one spectrum and one timestamp
abbrev pub two_channels : Plan
two_channels = record small_plan { channels = 2; heaps = 1 }

-- polarisation 0 with these whole numbers in two channels, polarisation 1 with 0
abbrev pub in_two_channels : ℕ → ℕ → List ℕ
in_two_channels x y = x ∷ 0 ∷ 0 ∷ 0 ∷ y ∷ 0 ∷ 0 ∷ 0 ∷ []

-- antenna 0 with 1 and 2 in its two channels, antenna 1 with 3 and 4
abbrev pub one_to_four : ℕ → List (List ℕ)
one_to_four antenna =
    if antenna == 0 then voltage_heap 1 0 0 (in_two_channels 1 2) ∷ []
    else voltage_heap 1 1 0 (in_two_channels 3 4) ∷ []

-- a whole number as product 00, and nothing in the other three products
abbrev pub first_product : ℕ → List Complex
first_product n = complex (pos n) (pos 0) ∷ none_yet ∷ none_yet ∷ none_yet ∷ []

-- packets of 64 payload bytes
abbrev pub narrow_plan : Plan
narrow_plan = record small_plan { packet = 64 }

-- two accumulations, from timestamp 100 in steps of 4
abbrev pub two_accumulations : Plan
two_accumulations = record small_plan { accumulations = 2; start = 100; step = 4 }

-- what the packets among these byte strings say, in order
abbrev pub spelled : List (List ℕ) → List Parts
spelled strings = filter_map packet_in strings

-- the contents of the descriptors in a packet that is a heap of its own
abbrev pub own_contents : Parts → List (List ℕ)
own_contents p = contents_of (record { counter = p.counter; pointers = pointers_of (p ∷ []); payload = p.payload })

-- a heap of so many bytes in packets of 64: of each its offset and its length
abbrev pub cut : ℕ → List (ℕ × ℕ)
cut size = map (λ p. (p.offset, length p.payload)) (spelled (packets_of narrow_plan 2 [] (replicate size 7)))

-- antenna 0 with a heap at 0, and antenna 1 with heaps at 0 and at 1
abbrev pub other_heap_lost : ℕ → List (List ℕ)
other_heap_lost antenna =
    if antenna == 0 then first_packet ∷ []
    else voltage_heap 1 1 0 other_samples ∷ voltage_heap 2 1 1 second_samples ∷ []
