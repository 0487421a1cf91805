-- The heap of an accumulation is said by the columns of the antennas alone.
use Rattle.std.proofs.Common.{◌≡◌, ℕ, zero, suc, ◌+◌, ◌<◌, List, [], ◌∷◌, ◌++◌, map, flat_map, Option, refl, sym, ap, ◌∙◌, arith}
use Rattle.std.specs.Int.{bytes_high_first}
use Rattle.std.proofs.lemmas.List.Concat.{flat_map-cons}
use Rattle.std.proofs.lemmas.List.Folds.{flat_map-map}
use Rattle.std.proofs.lemmas.Grind.{flat_map-append}
use Rattle.corr_model.specs.declared.plan.Plan.{Plan}
use Rattle.corr_model.specs.Lists.{numbers}
use Rattle.corr_model.specs.Streams.{column}
use Rattle.corr_model.specs.Visibilities.{Lists, part_of, missing_of}
use Rattle.corr_model.specs.Outputs.{complex_bytes, pairs, products, packets_of, visibility_pointers, value_payload, missing_payload, heap_packets}

-- two rules that agree on consecutive numbers
flat_numbers : {X : Type 0} (f g : ℕ → List X) (from n : ℕ) → ((k : ℕ) → k < from + n → f k ≡ g k)
    → flat_map f (numbers from n) ≡ flat_map g (numbers from n)
flat_numbers f g from zero same = refl
flat_numbers f g from (suc n) same =
    flat_map-cons f from (numbers (from + 1) n)
    ∙ ap (λ l. l ++ flat_map f (numbers (from + 1) n)) (same from (omega arith))
    ∙ ap (λ l. g from ++ l) (flat_numbers f g (from + 1) n (λ k low. same k (omega arith)))
    ∙ sym (flat_map-cons g from (numbers (from + 1) n))

flat_flat : {X Y Z : Type 0} (f : Y → List Z) (r : X → List Y) (xs : List X)
    → flat_map f (flat_map r xs) ≡ flat_map (λ x. flat_map f (r x)) xs
flat_flat f r [] = refl
flat_flat f r (x ∷ xs) =
    ap (flat_map f) (flat_map-cons r x xs) ∙ flat_map-append f (r x) (flat_map r xs)
    ∙ ap (λ l. flat_map f (r x) ++ l) (flat_flat f r xs)
    ∙ sym (flat_map-cons (λ y. flat_map f (r y)) x xs)

-- the pairs with this greater antenna
abbrev row : ℕ → List (ℕ × ℕ)
row j = map (λ i. (i, j)) (numbers 0 (j + 1))

same_row : {X : Type 0} (f g : (ℕ × ℕ) → List X) (antennas j : ℕ)
    → ((i k : ℕ) → i < antennas → k < antennas → f (i, k) ≡ g (i, k)) → j < antennas
    → flat_map f (row j) ≡ flat_map g (row j)
same_row f g antennas j same low =
    flat_map-map f (λ i. (i, j)) (numbers 0 (j + 1))
    ∙ flat_numbers (λ i. f (i, j)) (λ i. g (i, j)) 0 (j + 1) (λ i less. same i j (omega arith) low)
    ∙ sym (flat_map-map g (λ i. (i, j)) (numbers 0 (j + 1)))

-- two rules that agree on the pairs of antennas
flat_pairs : {X : Type 0} (f g : (ℕ × ℕ) → List X) (antennas : ℕ)
    → ((i j : ℕ) → i < antennas → j < antennas → f (i, j) ≡ g (i, j))
    → flat_map f (pairs antennas) ≡ flat_map g (pairs antennas)
flat_pairs f g antennas same =
    flat_flat f row (numbers 0 antennas)
    ∙ flat_numbers (λ j. flat_map f (row j)) (λ j. flat_map g (row j)) 0 antennas
    (λ j low. same_row f g antennas j same (omega arith))
    ∙ sym (flat_flat g row (numbers 0 antennas))

-- the values of two columns at a channel
abbrev pair_bytes : Plan → ℕ → List (Option (List ℕ)) → List (Option (List ℕ)) → List ℕ
pair_bytes plan c x y = flat_map (λ pq. complex_bytes (part_of plan x y c pq.0 pq.1 0 plan.heaps)) products

abbrev pair_missing : List (Option (List ℕ)) → List (Option (List ℕ)) → List ℕ
pair_missing x y = bytes_high_first 4 (missing_of x y)

-- of what two columns say, the same of columns that are the same
of_same : {C X : Type 0} (f : C → C → X) (x y u v : C) → x ≡ u → y ≡ v → f x y ≡ f u v
of_same f x y u v e h = ap (λ k. f k y) e ∙ ap (f u) h

-- lists with the same columns of the antennas have the same heap
pub same_heap : (plan : Plan) (k l : Lists) (n : ℕ)
    → ((a : ℕ) → a < plan.antennas → column plan a (k a) n ≡ column plan a (l a) n)
    → heap_packets plan k n ≡ heap_packets plan l n
same_heap plan k l n same =
    let values : value_payload plan k n ≡ value_payload plan l n =
    flat_numbers (λ c. flat_map (λ ij. pair_bytes plan c (column plan ij.0 (k ij.0) n) (column plan ij.1 (k ij.1) n))
    (pairs plan.antennas))
    (λ c. flat_map (λ ij. pair_bytes plan c (column plan ij.0 (l ij.0) n) (column plan ij.1 (l ij.1) n))
    (pairs plan.antennas)) 0 plan.channels
    (λ c less. flat_pairs (λ ij. pair_bytes plan c (column plan ij.0 (k ij.0) n) (column plan ij.1 (k ij.1) n))
    (λ ij. pair_bytes plan c (column plan ij.0 (l ij.0) n) (column plan ij.1 (l ij.1) n)) plan.antennas
    (λ i j low few. of_same (pair_bytes plan c) (column plan i (k i) n) (column plan j (k j) n) (column plan i (l i) n)
    (column plan j (l j) n) (same i low) (same j few))) in
    let absent : missing_payload plan k n ≡ missing_payload plan l n =
    flat_pairs (λ ij. pair_missing (column plan ij.0 (k ij.0) n) (column plan ij.1 (k ij.1) n))
    (λ ij. pair_missing (column plan ij.0 (l ij.0) n) (column plan ij.1 (l ij.1) n)) plan.antennas
    (λ i j low few. of_same pair_missing (column plan i (k i) n) (column plan j (k j) n) (column plan i (l i) n)
    (column plan j (l j) n) (same i low) (same j few)) in
    ap (λ v. packets_of plan (n + 2) (visibility_pointers plan n) (v ++ missing_payload plan k n)) values
    ∙ ap (λ m. packets_of plan (n + 2) (visibility_pointers plan n) (value_payload plan l n ++ m)) absent
