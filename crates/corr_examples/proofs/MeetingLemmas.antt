-- Two sources that are begun.
use Rattle.std.proofs.Common.{◌≡◌, ℕ, zero, suc, ◌<◌, Bool, true, [], ◌∷◌, get_or, subst, arith}
use Rattle.corr_serial.specs.Sources.{AreBegun}

each_of_two : {S : Type 0} (begun : S → Bool) (x y : S) → begun x ≡ true → begun y ≡ true → (a : ℕ) (d : S) → a < 2
    → begun (get_or (x ∷ y ∷ []) a d) ≡ true
each_of_two begun x y h k zero d low = h
each_of_two begun x y h k (suc zero) d low = k
each_of_two begun x y h k (suc (suc a)) d low = absurd (omega arith)

pub two_begun : {S : Type 0} (begun : S → Bool) (count : ℕ) (x y : S) → count ≡ 2 → begun x ≡ true → begun y ≡ true
    → AreBegun begun count (x ∷ y ∷ [])
two_begun begun count x y two h k =
    record { each = λ a d low. each_of_two begun x y h k a d (subst (λ n. a < n) two low) }
