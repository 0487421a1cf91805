-- Baselines of a greater second antenna have greater numbers.
use Rattle.std.proofs.Common.{◌≡◌, ℕ, ◌+◌, ◌*◌, ◌/◌, ◌<◌, ◌≤◌, ◌-◌, arith, ap, inl, inr}
use Rattle.std.proofs.Math.Nat.{mul-le-mul}
use Rattle.std.proofs.lemmas.Bool.{cases_lt}
use Rattle.corr_model.specs.Baselines.{baseline_number}

-- a product of neighbours and twice the greater
pub next_product : (a : ℕ) → (a + 1) * (a + 2) ≡ a * (a + 1) + 2 * (a + 1)
next_product a = grind arith

-- products of neighbours are apart
pub apart : (a b : ℕ) → a < b → a * (a + 1) + 2 * (a + 1) ≤ b * (b + 1)
apart a b h =
    let up : a + 1 ≤ b = omega arith in
    let more : a + 2 ≤ b + 1 = omega arith in
    let grown : (a + 1) * (a + 2) ≤ b * (b + 1) = mul-le-mul up more in
    omega (arith, next_product a)

-- the second antenna that a search finds is the only one
second : (i j k start b : ℕ) → 2 * start ≡ k * (k + 1) → start ≤ b → b ≤ start + k → i ≤ j
    → j * (j + 1) / 2 + i ≡ b → k ≡ j
second i j k start b first low high order number =
    elim (cases_lt k j) [
      | inl less ↦ absurd (let e = apart k j less in let _d = e in omega arith)
      | inr more ↦ elim (cases_lt j k) [
        | inl less ↦ absurd (let e = apart j k less in omega arith)
        | inr same ↦ omega arith
      ]
    ]

-- the pair that a search finds is the only one
pub only_pair : (i j k start b : ℕ) → 2 * start ≡ k * (k + 1) → start ≤ b → b ≤ start + k → i ≤ j
    → baseline_number i j ≡ b → (b - start ≡ i) × (k ≡ j)
only_pair i j k start b first low high order number =
    let same : k ≡ j = second i j k start b first low high order number in
    let product : k * (k + 1) ≡ j * (j + 1) = ap (λ n. n * (n + 1)) same in
    (omega arith, same)
