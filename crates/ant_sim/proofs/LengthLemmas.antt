-- How many packets a list has.
use Rattle.std.proofs.Common.{◌≡◌, ℕ, zero, suc, ◌+◌, ◌-◌, ◌*◌, ◌%◌, ◌==◌, ◌^◌, ◌<◌, ◌≤◌, if◌then◌else◌, Bool, true, false, List, [], ◌∷◌, ◌++◌, length, reverse, replicate, refl, sym, subst, ◌∙◌, arith}
use Rattle.std.specs.Prelude.{flat_map}
use Rattle.std.proofs.lemmas.List.{length-append, length-map, length-replicate, length-reverse}
use Rattle.std.proofs.Math.Nat.{div-le_self, mul-le-mul}
use Rattle.corr_model.proofs.CountedLists.{length-numbers}
use Rattle.rand_xoshiro.specs.SplitMix64.{mix_u64}
use Rattle.corr_model.specs.declared.plan.Plan.{Plan}
use Rattle.corr_model.specs.Plans.{Fits, sample_bytes}
use Rattle.corr_model.specs.Lists.{numbers}
use Rattle.corr_model.specs.Outputs.{piece_count}
use Rattle.ant_sim.specs.Fates.{order, pieces_from, times, words}
use Rattle.ant_sim.specs.Simulated.{described_packets, fate_key, heap_at, simulated, stop_packet, voltage_packet, voltage_packets}
use Rattle.ant_sim.specs.Blocks.{described_payload, heap_count, pieces}
use Rattle.ant_sim.proofs.FateLemmas.{order_next}
use Rattle.ant_sim.proofs.SmallLemmas.{heaps_few, length_words}

times_by : (lost twice : Bool) → (if lost then 0 else (if twice then 2 else 1)) ≤ 2
times_by true twice = omega arith
times_by false true = omega arith
times_by false false = omega arith

pieces_few : (k : ℕ) (fates : List ℕ) → length (pieces_from k fates) ≤ 2 * length fates
pieces_few k [] = omega arith
pieces_few k (fate ∷ fates) =
    let rest = pieces_few (k + 1) fates in
    let few : times fate ≤ 2 = times_by (fate % 256 == 0) (fate % 256 == 1) in
    omega (
      arith,
      rest,
      few,
      length-append (replicate (times fate) k) (pieces_from (k + 1) fates),
      length-replicate
          (times fate) k,
    )

either_few : (b : Bool) (ms : List ℕ) (most : ℕ) → length ms ≤ most → length (if b then reverse ms else ms) ≤ most
either_few true ms most h = omega (arith, h, length-reverse ms)
either_few false ms most h = h

-- a heap of so many pieces has at most twice as many packets
order_few : (seed n : ℕ) → length (order seed n) ≤ 2 * n
order_few seed n =
    let fates = words (mix_u64 seed).1 n in
    let few : length (pieces_from 0 fates) ≤ 2 * n =
    omega (arith, pieces_few 0 fates, length_words n (mix_u64 seed).1) in
    subst (λ ms. length ms ≤ 2 * n)
    (sym (order_next seed n (mix_u64 seed).0 (mix_u64 seed).1 ((mix_u64 seed).0 % 8 == 0) refl refl))
    (either_few ((mix_u64 seed).0 % 8 == 0) (pieces_from 0 fates) (2 * n) few)

heap_few : (plan : Plan) (seed antenna heap : ℕ) → length (voltage_packets plan seed antenna heap) ≤ 2 * pieces plan
heap_few plan seed antenna heap =
    omega (
      arith,
      order_few (fate_key seed antenna heap) (pieces plan),
      length-map
          (order (fate_key seed antenna heap) (pieces plan)) (voltage_packet plan seed antenna heap),
    )

all_few : (f : ℕ → List (List ℕ)) (most from n : ℕ) → ((place : ℕ) → length (f place) ≤ most)
    → length (flat_map f (numbers from n)) ≤ n * most
all_few f most from zero h = omega arith
all_few f most from (suc n) h =
    let rest = all_few f most (from + 1) n h in
    let more : suc n * most ≡ most + n * most = grind arith in
    omega (arith, rest, more, h from, length-append (f from) (flat_map f (numbers (from + 1) n)))

-- so many bytes are cut into no more pieces than they and a packet have bytes
cut_few : (width n : ℕ) → 1 ≤ width → piece_count width n ≤ n + width
cut_few width n some =
    let few = div-le_self (n + width - 1) width in
    omega (arith, few)

described_few : (plan : Plan) → 1 ≤ plan.packet → length (described_packets plan) ≤ 277 + plan.packet
described_few plan some =
    let long : length (described_payload plan) ≡ 277 = refl in
    let count = piece_count plan.packet (length (described_payload plan)) in
    let few : count ≤ 277 + plan.packet =
    subst (λ n. piece_count plan.packet n ≤ 277 + plan.packet) (sym long) (cut_few plan.packet 277 some) in
    let same : length (described_packets plan) ≡ count = length-map (numbers 0 count) _ ∙ length-numbers 0 count in
    omega (arith, same, few)

-- a list has fewer packets than a count of 64 bits can tell
pub list_few : (plan : Plan) (seed antenna : ℕ) → Fits plan → length (simulated plan seed antenna) < 2 ^ 64
list_few plan seed antenna fits =
    let some = fits.ranges.limit.packet.least_met in
    let width = fits.ranges.limit.packet.most_met in
    let bytes = fits.joint.samples in
    let heaps = heap_count plan in
    let sent : ℕ → List (List ℕ) = λ place. voltage_packets plan seed antenna (heap_at seed antenna heaps place) in
    let first = described_few plan (omega (arith, some)) in
    let cut = cut_few plan.packet (sample_bytes plan) (omega (arith, some)) in
    let most = all_few sent (2 * pieces plan) 0 heaps
    (λ place. heap_few plan seed antenna (heap_at seed antenna heaps place)) in
    let each : 2 * pieces plan ≤ 2 * (1048576 + 8192) = omega (arith, cut, bytes, width) in
    let all : heaps * (2 * pieces plan) ≤ 1048576 * 4096 * (2 * (1048576 + 8192)) =
    mul-le-mul (heaps_few plan fits) each in
    omega (
      arith,
      first,
      width,
      most,
      all,
      length-append (described_packets plan) (flat_map sent (numbers 0 heaps) ++ stop_packet heaps ∷ []),
      length-append (flat_map sent (numbers 0 heaps)) (stop_packet heaps ∷ []),
    )
