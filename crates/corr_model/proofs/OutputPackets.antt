-- The heaps of the output, and what their packets spell.
use Rattle.std.proofs.Common.{◌≡◌, ℕ, ◌+◌, ◌-◌, ◌*◌, ◌/◌, ◌^◌, ◌<◌, ◌≤◌, List, [], ◌∷◌, ◌++◌, Some, All, length, slice_get, map, take, drop, flat_map, option_map, sym, ap, ◌∙◌, subst, inl, inr, arith, length-take, length-drop, div-mul-le_self, mul-le-mul_right}
use Rattle.std.proofs.lemmas.Bool.{cases_lt}
use Rattle.std.proofs.lemmas.List.{length-map, get_or-map}
use Rattle.std.proofs.lemmas.List.Elements.{All-cons, All-nil, All-map}
use Rattle.std.proofs.lemmas.List.Folds.{flat_map-map}
use Rattle.std.proofs.lemmas.Option.{slice_get-get_or}
use Rattle.corr_model.specs.declared.plan.Plan.{Plan}
use Rattle.corr_model.specs.declared.pointer.Pointer.{Pointer}
use Rattle.corr_model.specs.Plans.{Fits, value_bytes, visibility_bytes}
use Rattle.corr_model.specs.Lists.{numbers}
use Rattle.corr_model.specs.Packets.{Parts, packet_in}
use Rattle.corr_model.specs.Descriptors.{immediate, addressed}
use Rattle.corr_model.specs.Visibilities.{Lists}
use Rattle.corr_model.specs.Outputs.{piece_count, heap_packet, packets_of, head_payload, head_packets, value_payload, missing_payload, visibility_pointers, heap_packets, stop_packets, output}
use Rattle.corr_model.proofs.CountedLists.{length-numbers, get_or-numbers}
use Rattle.corr_model.proofs.SpelledPackets.{IsOwn, spelled_packet}
use Rattle.corr_model.proofs.OutputLaws.{head_payload_length, heap_payload_length}

-- what holds of each number holds of each of the list
all_numbers : (P : ℕ → Type 0) (n : ℕ) → ((k : ℕ) → k < n → P k) → All P (numbers 0 n)
all_numbers P n each = λ k d h.
    let long = length-numbers 0 n in
    let within : k < n = omega (arith, long, h) in
    let e : 0 + k ≡ k = omega arith in
    subst P (sym (get_or-numbers 0 n k d within ∙ e)) (each k within)

-- a piece begins within the payload
pub piece_begins : (width n k : ℕ) → 1 ≤ width → k < piece_count width n → k * width ≤ n
piece_begins width n k some below =
    let pieces = (n + width - 1) / width in
    elim (cases_lt k pieces) [
      | inl less ↦
          let whole : pieces * width ≤ n + width - 1 = div-mul-le_self (n + width - 1) width in
          let up : (k + 1) * width ≤ pieces * width = mul-le-mul_right width (omega arith) in
          let expand : (k + 1) * width ≡ k * width + width = grind arith in
          omega (arith, whole, up, expand)
      | inr more ↦
          let none : k ≡ 0 = omega arith in
          let product : k * width ≡ 0 * width = ap (λ m. m * width) none in
          omega (arith, product)
    ]

pub piece_ends : (width k : ℕ) (payload : List ℕ) → k * width ≤ length payload
    → k * width + length (take width (drop (k * width) payload)) ≤ length payload
piece_ends width k payload begins =
    omega (arith, length-take width (drop (k * width) payload), length-drop (k * width) payload)

-- what the k-th packet of a heap says
abbrev piece_of : ℕ → ℕ → List Pointer → List ℕ → ℕ → Parts
piece_of width counter own payload k = record {
  counter = counter;
  size = Some (length payload);
  offset = k * width;
  pointers = own;
  payload = take width (drop (k * width) payload);
}

-- a heap that fits the widths of a packet
pub record IsSendable (counter : ℕ) (pointers : List Pointer) (payload : List ℕ) : Type 0 where
  pub number : counter < 2 ^ 48
  pub few : length pointers ≤ 60
  pub own : All IsOwn pointers
  pub size : length payload < 2 ^ 48

-- the k-th packet of a heap read back
pub piece_back : (width counter : ℕ) (own : List Pointer) (payload : List ℕ) (k : ℕ) → 1 ≤ width
    → IsSendable counter own payload → k < piece_count width (length payload)
    → packet_in (heap_packet counter (length payload) own (k * width) (take width (drop (k * width) payload)))
    ≡ Some (piece_of width counter own payload k)
piece_back width counter own payload k some fits below =
    let begins = piece_begins width (length payload) k some below in
    spelled_packet counter (length payload) (k * width) own (take width (drop (k * width) payload)) fits.number
    fits.size (piece_ends width k payload begins) fits.few fits.own

-- the bytes spell a packet with this counter
abbrev SpellsCounter : ℕ → List ℕ → Type 0
SpellsCounter counter bytes = option_map (λ p. p.counter) (packet_in bytes) ≡ Some counter

-- each packet of a heap spells the heap's counter
pub counters_of : (plan : Plan) (counter : ℕ) (own : List Pointer) (payload : List ℕ) → 1 ≤ plan.packet
    → IsSendable counter own payload → All (SpellsCounter counter) (packets_of plan counter own payload)
counters_of plan counter own payload some fits =
    All-map (SpellsCounter counter)
    (λ k. heap_packet counter (length payload) own (k * plan.packet)
    (take plan.packet (drop (k * plan.packet) payload))) (numbers 0 (piece_count plan.packet (length payload)))
    (all_numbers (λ k. SpellsCounter counter
    (heap_packet counter (length payload) own (k * plan.packet)
    (take plan.packet (drop (k * plan.packet) payload)))) (piece_count plan.packet (length payload))
    (λ k below. ap (option_map (λ p. p.counter)) (piece_back plan.packet counter own payload k some fits below)))

-- three pointers of the heap
three_own : (p q r : Pointer) → IsOwn p → IsOwn q → IsOwn r → All IsOwn (p ∷ q ∷ r ∷ [])
three_own p q r first second third =
    All-cons IsOwn p (q ∷ r ∷ []) first (All-cons IsOwn q (r ∷ []) second (All-cons IsOwn r [] third (All-nil IsOwn)))

-- the packets of the descriptor heap have counter 1
pub head_counters : (plan : Plan) → Fits plan → All (SpellsCounter 1) (head_packets plan)
head_counters plan fits =
    counters_of plan 1 (addressed 5 0 ∷ addressed 5 84 ∷ addressed 5 199 ∷ []) (head_payload plan)
    (omega arith) (record {
      number = omega arith;
      few = omega arith;
      own = three_own (addressed 5 0) (addressed 5 84) (addressed 5 199)
          (record { least = omega arith; id = omega arith; value = omega arith })
          (record { least = omega arith; id = omega arith; value = omega arith })
          (record { least = omega arith; id = omega arith; value = omega arith });
      size = omega (arith, head_payload_length plan);
    })

-- the timestamps of a plan that fits are below 2^48
pub timestamp_fits : (start n heaps step most : ℕ) → n ≤ most → start + most * heaps * step ≤ 2 ^ 48 - 1
    → start + n * heaps * step < 2 ^ 48
timestamp_fits start n heaps step most below last =
    let inner : n * heaps ≤ most * heaps = mul-le-mul_right heaps below in
    let outer : n * heaps * step ≤ most * heaps * step = mul-le-mul_right step inner in
    omega arith

-- the packets of visibility heap n have counter n + 2
pub heap_counters : (plan : Plan) (lists : Lists) (n : ℕ) → Fits plan → n < plan.accumulations
    → All (SpellsCounter (n + 2)) (heap_packets plan lists n)
heap_counters plan lists n fits below =
    let most = fits.ranges.shape.accumulations.most_met in
    let reserved_most : visibility_bytes plan ≤ 2 ^ 30 = omega arith in
    let timestamp = plan.start + n * plan.heaps * plan.step in
    counters_of plan (n + 2) (visibility_pointers plan n) (value_payload plan lists n ++ missing_payload plan lists n)
    (omega arith) (record {
      number = omega arith;
      few = omega arith;
      own = three_own (immediate 0x1600 timestamp) (addressed 0x1800 0) (addressed 0x1801 (value_bytes plan))
          (record {
            least = omega arith;
            id = omega arith;
            value = timestamp_fits plan.start n plan.heaps plan.step plan.accumulations (omega arith)
                fits.joint.end_of_grid;
          })
          (record { least = omega arith; id = omega arith; value = omega arith })
          (record { least = omega arith; id = omega arith; value = omega arith });
      size = omega (arith, heap_payload_length plan lists n);
    })

-- the packets of the stop heap have the counter after the last
pub stop_counters : (plan : Plan) → Fits plan → All (SpellsCounter (plan.accumulations + 2)) (stop_packets plan)
stop_counters plan fits =
    let most = fits.ranges.shape.accumulations.most_met in
    counters_of plan (plan.accumulations + 2) (immediate 6 2 ∷ []) [] (omega arith) (record {
      number = omega arith;
      few = omega arith;
      own = All-cons IsOwn (immediate 6 2) [] (record { least = omega arith; id = omega arith; value = omega arith })
          (All-nil IsOwn);
      size = omega arith;
    })

-- the output is its head, a heap for each accumulation, and its stop
pub heaps_in_output : (plan : Plan) (lists : Lists)
    → (heaps : List (List (List ℕ))) × (length heaps ≡ plan.accumulations)
    × ((n : ℕ) → n < plan.accumulations → slice_get heaps n ≡ Some (heap_packets plan lists n))
    × (output plan lists ≡ head_packets plan ++ (flat_map (λ heap. heap) heaps ++ stop_packets plan))
heaps_in_output plan lists =
    let count = plan.accumulations in
    let made = heap_packets plan lists in
    let long : length (map made (numbers 0 count)) ≡ count =
    length-map (numbers 0 count) made ∙ length-numbers 0 count in (
      map made (numbers 0 count),
      long,
      λ n below.
          slice_get-get_or (map made (numbers 0 count)) n [] (omega (arith, long))
          ∙ ap Some (get_or-map made (numbers 0 count) n 0 [] (omega (arith, length-numbers 0 count)) ∙ ap made
          (get_or-numbers 0 count n 0 below ∙ (let e : 0 + n ≡ n = omega arith in e))),
      ap (λ packets. head_packets plan ++ (packets ++ stop_packets plan))
          (sym (flat_map-map (λ heap. heap) made (numbers 0 count))),
    )

-- the packets of a heap are as many as its pieces
pub length-packets_of : (plan : Plan) (counter : ℕ) (own : List Pointer) (payload : List ℕ)
    → length (packets_of plan counter own payload) ≡ piece_count plan.packet (length payload)
length-packets_of plan counter own payload =
    length-map (numbers 0 (piece_count plan.packet (length payload)))
    (λ k. heap_packet counter (length payload) own (k * plan.packet)
    (take plan.packet (drop (k * plan.packet) payload)))
    ∙ length-numbers 0 (piece_count plan.packet (length payload))

-- the k-th packet of a heap
pub packet_at : (plan : Plan) (counter : ℕ) (own : List Pointer) (payload : List ℕ) (k : ℕ)
    → k < piece_count plan.packet (length payload)
    → slice_get (packets_of plan counter own payload) k
    ≡ Some (heap_packet counter (length payload) own (k * plan.packet)
    (take plan.packet (drop (k * plan.packet) payload)))
packet_at plan counter own payload k below =
    let count = piece_count plan.packet (length payload) in
    let piece : ℕ → List ℕ =
    λ m. heap_packet counter (length payload) own (m * plan.packet)
    (take plan.packet (drop (m * plan.packet) payload)) in
    slice_get-get_or (packets_of plan counter own payload) k []
    (omega (arith, length-packets_of plan counter own payload))
    ∙ ap Some (get_or-map piece (numbers 0 count) k 0 [] (omega (arith, length-numbers 0 count)) ∙ ap piece
    (get_or-numbers 0 count k 0 below ∙ (let e : 0 + k ≡ k = omega arith in e)))
