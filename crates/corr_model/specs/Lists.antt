-- Words on lists that say 'in order, by those before'. This project's own.
use Rattle.std.specs.Prelude.{ℕ, zero, suc, ◌+◌, ◌-◌, Bool, false, if◌then◌else◌, List, [], ◌∷◌, ◌++◌, length, drop, map, fold, Option, Some, None}
use Rattle.std.specs.List.{list_any}

-- for each element in turn, what the rule says of it, by what was said of those before it
abbrev pub in_turn : {A B : Type 0} → (List B → A → B) → List A → List B
in_turn rule xs = fold (λ before x. before ++ rule before x ∷ []) [] xs

-- for each element in turn, the elements up to and including it
abbrev pub fronts : {A : Type 0} → List A → List (List A)
fronts [] = []
fronts (x ∷ xs) = (x ∷ []) ∷ map (λ front. x ∷ front) (fronts xs)

-- the elements up to and including the first that passes, or all
abbrev pub through_first : {A : Type 0} → (A → Bool) → List A → List A
through_first test [] = []
through_first test (x ∷ xs) = x ∷ (if test x then [] else through_first test xs)

-- the last n elements, or all where there are fewer
abbrev pub last_few : {A : Type 0} → ℕ → List A → List A
last_few n xs = drop (length xs - n) xs

-- the last element, if there is one
abbrev pub last_one : {A : Type 0} → List A → Option A
last_one xs = fold (λ before x. Some x) None xs

-- the elements without those that are the same as an earlier one
abbrev pub distinct : {A : Type 0} → (A → A → Bool) → List A → List A
distinct same xs = fold (λ before x. if list_any (same x) before then before else before ++ x ∷ []) [] xs

-- the numbers from `from` on, so many
abbrev pub numbers : ℕ → ℕ → List ℕ
numbers from zero = []
numbers from (suc n) = from ∷ numbers (from + 1) n

-- there is an element, and it passes
abbrev pub passes : {A : Type 0} → (A → Bool) → Option A → Bool
passes test None = false
passes test (Some x) = test x
