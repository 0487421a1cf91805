-- Lengths of what the output is made of, and the order of its baselines.
use Rattle.std.proofs.Common.{◌≡◌, ℕ, zero, suc, ◌+◌, ◌-◌, ◌*◌, ◌<◌, ◌≤◌, ℤ, List, [], ◌∷◌, ◌++◌, Some, length, get_or, slice_get, map, take, drop, flat_map, refl, sym, ap, ◌∙◌, inl, inr, append-nil, arith, length-append, get_or-append-add, mul_comm, zero-mul, take_all}
use Rattle.std.proofs.lemmas.Bool.{cases_lt}
use Rattle.std.proofs.lemmas.Nat.{div_below}
use Rattle.std.proofs.lemmas.List.{length-map, get_or-map, get_or_append_left}
use Rattle.std.proofs.lemmas.List.Concat.{flat_map-append}
use Rattle.std.proofs.lemmas.Option.{slice_get-get_or}
use Rattle.corr_model.proofs.BaselineLemmas.{apart}
use Rattle.std.specs.Int.{bytes_high_first}
use Rattle.corr_model.specs.declared.plan.Plan.{Plan}
use Rattle.corr_model.specs.declared.pointer.Pointer.{Pointer}
use Rattle.corr_model.specs.Plans.{baseline_count, baselines, value_bytes, visibility_bytes}
use Rattle.corr_model.specs.Baselines.{baseline_number}
use Rattle.corr_model.specs.Lists.{numbers}
use Rattle.corr_model.specs.Visibilities.{Complex, Lists, vis, missing}
use Rattle.corr_model.specs.Outputs.{pairs, products, signed_bytes, complex_bytes, head_payload, value_payload, missing_payload, piece_count, heap_packet, packets_of}
use Rattle.corr_model.proofs.CountedLists.{length-numbers, numbers_push, get_or-numbers, length-flat_map_even}

-- as many bytes as said
pub length-bytes_high_first : (n x : ℕ) → length (bytes_high_first n x) ≡ n
length-bytes_high_first zero x = refl
length-bytes_high_first (suc n) x = ap suc (length-bytes_high_first n x)

pub length-signed_bytes : (z : ℤ) → length (signed_bytes z) ≡ 8
length-signed_bytes z = refl

pub length-complex_bytes : (x : Complex) → length (complex_bytes x) ≡ 16
length-complex_bytes x = refl

-- the pairs with this greater antenna
abbrev row : ℕ → List (ℕ × ℕ)
row j = map (λ i. (i, j)) (numbers 0 (j + 1))

length-row : (j : ℕ) → length (row j) ≡ j + 1
length-row j = length-map (numbers 0 (j + 1)) (λ i. (i, j)) ∙ length-numbers 0 (j + 1)

-- one more antenna brings the pairs with it
pairs_push : (n : ℕ) → pairs (suc n) ≡ pairs n ++ row n
pairs_push n =
    ap (flat_map row) (numbers_push 0 n) ∙ flat_map-append row (numbers 0 n) ((0 + n) ∷ []) ∙ ap
    (λ k. pairs n ++ (row k ++ [])) (let e : 0 + n ≡ n = omega arith in e) ∙ ap (λ ps. pairs n ++ ps)
    (append-nil (row n))

twice_pairs : (n : ℕ) → 2 * length (pairs n) ≡ n * (n + 1)
twice_pairs zero = refl
twice_pairs (suc n) =
    let before = twice_pairs n in
    let whole : length (pairs (suc n)) ≡ length (pairs n) + (n + 1) =
    ap length (pairs_push n) ∙ length-append (pairs n) (row n) ∙ ap (λ k. length (pairs n) + k) (length-row n) in
    let grown : suc n * (suc n + 1) ≡ n * (n + 1) + 2 * (n + 1) = grind arith in
    omega (arith, before, whole, grown)

-- there is a pair for each baseline
pub pairs_length : (antennas : ℕ) → length (pairs antennas) ≡ baseline_count antennas
pairs_length antennas = let twice = twice_pairs antennas in omega (arith, twice)

-- factors in the order of `value_bytes`
in_order : (f b : ℕ) → f * (b * 64) ≡ 64 * f * b
in_order f b = grind arith

-- a pair of antennas stands at the number of its baseline
get_or-pairs : (n i j : ℕ) (d : ℕ × ℕ) → i ≤ j → j < n → get_or (pairs n) (baseline_number i j) d ≡ (i, j)
get_or-pairs zero i j d order below = absurd (omega arith)
get_or-pairs (suc n) i j d order below =
    let b = baseline_number i j in
    let twice = twice_pairs n in
    ap (λ ps. get_or ps b d) (pairs_push n) ∙ elim (cases_lt j n) [
      | inl less ↦
          let gap = apart j n less in
          get_or_append_left (pairs n) (row n) d b (omega (arith, twice, gap)) ∙ get_or-pairs n i j d order less
      | inr more ↦
          let same : j ≡ n = omega arith in
          let product : j * (j + 1) ≡ n * (n + 1) = ap (λ k. k * (k + 1)) same in
          let place : b ≡ length (pairs n) + i = omega (arith, twice, product) in
          let within : i < n + 1 = omega arith in
          ap (λ k. get_or (pairs n ++ row n) k d) place
          ∙ get_or-append-add (pairs n) (row n) i d
          ∙ get_or-map (λ k. (k, n)) (numbers 0 (n + 1)) i 0 d (omega (arith, length-numbers 0 (n + 1)))
          ∙ ap (λ k. (k, n)) (get_or-numbers 0 (n + 1) i 0 within ∙ (let e : 0 + i ≡ i = omega arith in e))
          ∙ ap (λ k. (i, k)) (sym same)
    ]

baseline_below : (n i j : ℕ) → i ≤ j → j < n → baseline_number i j < length (pairs n)
baseline_below n i j order below = let gap = apart j n below in omega (arith, twice_pairs n, gap)

-- the pair at the number of a baseline
pub pair_at_baseline : (antennas i j : ℕ) → i ≤ j → j < antennas
    → slice_get (pairs antennas) (baseline_number i j) ≡ Some (i, j)
pair_at_baseline antennas i j order below =
    slice_get-get_or (pairs antennas) (baseline_number i j) (0, 0) (baseline_below antennas i j order below) ∙ ap Some
    (get_or-pairs antennas i j (0, 0) order below)

-- the values of an accumulation, as bytes
pub value_payload_length : (plan : Plan) (lists : Lists) (n : ℕ)
    → length (value_payload plan lists n) ≡ value_bytes plan
value_payload_length plan lists n =
    let each : (c : ℕ) → length
    (flat_map (λ ij. flat_map (λ pq. complex_bytes (vis plan lists n ij.0 ij.1 c pq.0 pq.1)) products)
    (pairs plan.antennas)) ≡ baselines plan * 64
    = λ c.
    length-flat_map_even (λ ij. flat_map (λ pq. complex_bytes (vis plan lists n ij.0 ij.1 c pq.0 pq.1)) products) 64
    (λ ij. refl) (pairs plan.antennas) ∙ ap (λ k. k * 64) (pairs_length plan.antennas) in
    length-flat_map_even
    (λ c. flat_map (λ ij. flat_map (λ pq. complex_bytes (vis plan lists n ij.0 ij.1 c pq.0 pq.1)) products)
    (pairs plan.antennas)) (baselines plan * 64) each (numbers 0 plan.channels)
    ∙ ap (λ k. k * (baselines plan * 64)) (length-numbers 0 plan.channels)
    ∙ in_order plan.channels (baselines plan)

-- the missing counts of an accumulation, as bytes
pub missing_payload_length : (plan : Plan) (lists : Lists) (n : ℕ)
    → length (missing_payload plan lists n) ≡ 4 * baselines plan
missing_payload_length plan lists n =
    length-flat_map_even (λ ij. bytes_high_first 4 (missing plan lists n ij.0 ij.1)) 4 (λ ij. refl)
    (pairs plan.antennas) ∙ ap (λ k. k * 4) (pairs_length plan.antennas) ∙ mul_comm (baselines plan) 4

-- a payload that one packet holds is one piece
pub one_piece : (width n : ℕ) → 1 ≤ width → n ≤ width → piece_count width n ≡ 1
one_piece width n some short =
    let below = div_below (n + width - 1) width 2 (omega arith) (omega arith) in
    omega (arith, below)

-- such a heap is one packet
pub packets_of_one : (plan : Plan) (counter : ℕ) (own : List Pointer) (payload : List ℕ) → 1 ≤ plan.packet
    → length payload ≤ plan.packet
    → packets_of plan counter own payload ≡ heap_packet counter (length payload) own 0 payload ∷ []
packets_of_one plan counter own payload some short =
    let piece : ℕ → List ℕ =
    λ k. heap_packet counter (length payload) own (k * plan.packet)
    (take plan.packet (drop (k * plan.packet) payload)) in
    let zeroth : 0 * plan.packet ≡ 0 = zero-mul plan.packet in
    ap (λ k. map piece (numbers 0 k)) (one_piece plan.packet (length payload) some short)
    ∙ ap (λ k. heap_packet counter (length payload) own k (take plan.packet (drop k payload)) ∷ []) zeroth
    ∙ ap (λ bytes. heap_packet counter (length payload) own 0 bytes ∷ []) (take_all plan.packet payload short)

-- the payload of a visibility heap
pub heap_payload_length : (plan : Plan) (lists : Lists) (n : ℕ)
    → length (value_payload plan lists n ++ missing_payload plan lists n) ≡ visibility_bytes plan
heap_payload_length plan lists n =
    length-append (value_payload plan lists n) (missing_payload plan lists n)
    ∙ ap (λ k. k + length (missing_payload plan lists n)) (value_payload_length plan lists n)
    ∙ ap (λ k. value_bytes plan + k) (missing_payload_length plan lists n)

-- the payload of the descriptor heap
pub head_payload_length : (plan : Plan) → length (head_payload plan) ≡ 288
head_payload_length plan = refl
