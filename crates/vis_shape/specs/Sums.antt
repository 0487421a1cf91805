-- Lists of whole numbers that are added place by place. This project's own.
use Rattle.std.specs.Prelude.{ℕ, ◌+◌, ℤ, pos, neg_ℤ, ◌+ℤ◌, ◌≤ℤ◌, List, [], ◌∷◌, ◌++◌, take, drop, replicate, All}
use Rattle.corr_model.specs.declared.plan.Plan.{Plan}

-- the sums of two lists, place by place, as far as both go
abbrev pub add_sums : List ℤ → List ℤ → List ℤ
add_sums [] ys = []
add_sums (x ∷ xs) [] = []
add_sums (x ∷ xs) (y ∷ ys) = (x +ℤ y) ∷ add_sums xs ys

-- the numbers with these added to the n at a place
abbrev pub add_at : ℕ → ℕ → List ℤ → List ℤ → List ℤ
add_at at n xs ys = take at xs ++ (add_sums (take n (drop at xs)) ys ++ drop n (drop at xs))

-- the number is at most so far from zero
pub record IsUpTo (z : ℤ) (size : ℕ) : Type 0 where
  pub low : neg_ℤ (pos size) ≤ℤ z
  pub high : z ≤ℤ pos size

-- each number is at most so far from zero
abbrev pub AreUpTo : List ℤ → ℕ → Type 0
AreUpTo zs size = All (λ z. IsUpTo z size) zs

-- so many sums of nothing
abbrev pub zeros : ℕ → List ℤ
zeros n = replicate n (pos 0)

-- what a value shows: the plan for which it was made, its sums, and how many timestamps were added
pub record Sums : Type 0 where
  pub plan : Plan
  pub sums : List ℤ
  pub added : ℕ

-- the value with these sums of so many timestamps added
abbrev pub with_sums : Sums → List ℤ → ℕ → Sums
with_sums s more count = record { plan = s.plan; sums = add_sums s.sums more; added = s.added + count }

-- a value of so many sums to which nothing was added
abbrev pub no_sums : Plan → ℕ → Sums
no_sums plan size = record { plan = plan; sums = zeros size; added = 0 }
