-- Lists of consecutive numbers, and lists put together of equally long pieces.
use Rattle.std.proofs.Common.{◌≡◌, ℕ, zero, suc, ◌+◌, ◌*◌, ◌<◌, List, [], ◌∷◌, ◌++◌, length, get_or, flat_map, refl, sym, ap, ◌∙◌, arith, add-zero, length-append}
use Rattle.corr_model.specs.Lists.{numbers}

-- as many as said
pub length-numbers : (from n : ℕ) → length (numbers from n) ≡ n
length-numbers from zero = refl
length-numbers from (suc n) = ap suc (length-numbers (from + 1) n)

-- one more at the end
pub numbers_push : (from n : ℕ) → numbers from (suc n) ≡ numbers from n ++ (from + n) ∷ []
numbers_push from zero = ap (λ k. k ∷ []) (sym (add-zero from))
numbers_push from (suc n) =
    let last : from + 1 + n ≡ from + suc n = omega arith in
    ap (λ ks. from ∷ ks) (numbers_push (from + 1) n ∙ ap (λ k. numbers (from + 1) n ++ k ∷ []) last)

-- the number at a place
pub get_or-numbers : (from n k d : ℕ) → k < n → get_or (numbers from n) k d ≡ from + k
get_or-numbers from zero k d h = absurd (omega arith)
get_or-numbers from (suc n) zero d h = sym (add-zero from)
get_or-numbers from (suc n) (suc k) d h =
    let next : from + 1 + k ≡ from + suc k = omega arith in
    get_or-numbers (from + 1) n k d (omega arith) ∙ next

-- a list of pieces of one length
pub length-flat_map_even : {X A : Type 0} (f : X → List A) (n : ℕ) → ((x : X) → length (f x) ≡ n) → (xs : List X)
    → length (flat_map f xs) ≡ length xs * n
length-flat_map_even f n each [] = omega arith
length-flat_map_even f n each (x ∷ xs) =
    let rest = length-flat_map_even f n each xs in
    let head = each x in
    let grown : (suc (length xs)) * n ≡ n + length xs * n = grind arith in
    omega (arith, length-append (f x) (flat_map f xs), rest, head, grown)
