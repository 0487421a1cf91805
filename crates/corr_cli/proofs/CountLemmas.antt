-- How many packets the output has.
use Rattle.std.proofs.Common.{◌≡◌, ℕ, ◌+◌, ◌-◌, ◌*◌, ◌^◌, ◌≤◌, [], ◌∷◌, ◌++◌, length, flat_map, sym, ap, ◌∙◌, arith, length-append}
use Rattle.std.proofs.Math.Nat.{div-le_self}
use Rattle.std.proofs.lemmas.Nat.{mul-le}
use Rattle.corr_model.specs.declared.plan.Plan.{Plan}
use Rattle.corr_model.specs.Plans.{Fits, visibility_bytes}
use Rattle.corr_model.specs.Lists.{numbers}
use Rattle.corr_model.specs.Visibilities.{Lists}
use Rattle.corr_model.specs.Descriptors.{immediate, addressed}
use Rattle.corr_model.specs.Outputs.{piece_count, head_payload, head_packets, value_payload, missing_payload, visibility_pointers, heap_packets, stop_packets, output}
use Rattle.corr_model.proofs.CountedLists.{length-numbers, length-flat_map_even}
use Rattle.corr_model.proofs.OutputLaws.{heap_payload_length}
use Rattle.corr_model.proofs.OutputPackets.{length-packets_of}

-- the packets of the descriptor heap, of all visibility heaps, and of the stop heap
packet_count : Plan → ℕ
packet_count plan = piece_count plan.packet 288
    + (plan.accumulations * piece_count plan.packet (visibility_bytes plan) + piece_count plan.packet 0)

length-heap_packets : (plan : Plan) (lists : Lists) (n : ℕ)
    → length (heap_packets plan lists n) ≡ piece_count plan.packet (visibility_bytes plan)
length-heap_packets plan lists n =
    length-packets_of plan (n + 2) (visibility_pointers plan n)
    (value_payload plan lists n ++ missing_payload plan lists n)
    ∙ ap (piece_count plan.packet) (heap_payload_length plan lists n)

-- the output has as many packets, whatever the lists
length-output : (plan : Plan) (lists : Lists) → length (output plan lists) ≡ packet_count plan
unfolding packet_count
length-output plan lists =
    let each = piece_count plan.packet (visibility_bytes plan) in
    let heaps = flat_map (heap_packets plan lists) (numbers 0 plan.accumulations) in
    let head = length-packets_of plan 1 (addressed 5 0 ∷ addressed 5 84 ∷ addressed 5 199 ∷ []) (head_payload plan) in
    let stop = length-packets_of plan (plan.accumulations + 2) (immediate 6 2 ∷ []) [] in
    let even : length heaps ≡ plan.accumulations * each
    = length-flat_map_even (heap_packets plan lists) each (length-heap_packets plan lists)
    (numbers 0 plan.accumulations) ∙ ap (λ k. k * each) (length-numbers 0 plan.accumulations) in
    length-append (head_packets plan) (heaps ++ stop_packets plan)
    ∙ (ap (λ k. k + length (heaps ++ stop_packets plan)) head
    ∙ ap (λ k. piece_count plan.packet 288 + k)
    (length-append heaps (stop_packets plan) ∙
    (ap (λ k. k + length (stop_packets plan)) even ∙ ap (λ k. plan.accumulations * each + k) stop)))

pub same_count : (plan : Plan) (lists others : Lists) → length (output plan lists) ≡ length (output plan others)
same_count plan lists others = length-output plan lists ∙ sym (length-output plan others)

-- a heap has no more packets than bytes and payload bytes of a packet together
few_pieces : (width n : ℕ) → 1 ≤ width → piece_count width n ≤ n + width
few_pieces width n some = let most = div-le_self (n + width - 1) width in omega (arith, most)

-- the packets are counted by 64 bits
pub few_packets : (plan : Plan) (lists : Lists) → Fits plan → length (output plan lists) ≤ 2 ^ 52
unfolding packet_count
few_packets plan lists fits =
    let memory : visibility_bytes plan ≤ 2 ^ 30 = omega arith in
    let width = fits.ranges.limit.packet in
    let most = fits.ranges.shape.accumulations.most_met in
    let each = few_pieces plan.packet (visibility_bytes plan) (omega arith) in
    let head = few_pieces plan.packet 288 (omega arith) in
    let stop = few_pieces plan.packet 0 (omega arith) in
    let product : plan.accumulations * piece_count plan.packet (visibility_bytes plan) ≤ 2 ^ 20 * 2 ^ 31 =
    mul-le plan.accumulations (piece_count plan.packet (visibility_bytes plan)) (2 ^ 20) (2 ^ 31) (omega arith)
    (omega arith) in
    omega (arith, length-output plan lists, head, stop, product)
