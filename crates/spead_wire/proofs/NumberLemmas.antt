-- Lemmas on bytes as a number.
use Rattle.std.proofs.Common.{◌≡◌, ℕ, zero, suc, ◌≤◌, Bool, false, List, [], ◌∷◌, length, Some, None, ◌&&◌, ◌==◌, nat_le, refl, sym, ap, ◌∙◌, arith}
use Rattle.std.proofs.lemmas.Bool.{and_from, le-leb, cond-true}
use Rattle.byteorder.specs.Endian.{big_number}
use Rattle.corr_model.specs.Packets.{big}
use Rattle.corr_model.specs.Items.{short_number}

-- at most eight bytes, read as a number
pub big_number-length : (bytes : List ℕ) → length bytes ≤ 8 → big_number (length bytes) bytes ≡ big bytes
big_number-length [] h = refl
big_number-length (a ∷ []) h = omega arith
big_number-length (a ∷ b ∷ []) h = omega arith
big_number-length (a ∷ b ∷ c ∷ []) h = omega arith
big_number-length (a ∷ b ∷ c ∷ d ∷ []) h = omega arith
big_number-length (a ∷ b ∷ c ∷ d ∷ e ∷ []) h = omega arith
big_number-length (a ∷ b ∷ c ∷ d ∷ e ∷ f ∷ []) h = omega arith
big_number-length (a ∷ b ∷ c ∷ d ∷ e ∷ f ∷ g ∷ []) h = omega arith
big_number-length (a ∷ b ∷ c ∷ d ∷ e ∷ f ∷ g ∷ i ∷ []) h = omega arith
big_number-length (a ∷ b ∷ c ∷ d ∷ e ∷ f ∷ g ∷ i ∷ j ∷ rest) h = absurd (omega arith)

one_at_least : (n : ℕ) → (n == 0) ≡ false → 1 ≤ n
one_at_least zero e = absurd cc
one_at_least (suc n) e = omega arith

-- a number of one to eight bytes
pub short_number-value : (bytes : List ℕ) (value : ℕ) {empty : Bool} → empty ≡ (length bytes == 0) → empty ≡ false
    → length bytes ≤ 8 → value ≡ big bytes → Some value ≡ short_number bytes
short_number-value bytes value {empty} is not_empty few e =
    let some : 1 ≤ length bytes = one_at_least (length bytes) (sym is ∙ not_empty) in
    sym (cond-true (nat_le 1 (length bytes) && nat_le (length bytes) 8) (Some (big bytes)) None
    (and_from _ _ (le-leb _ _ some) (le-leb _ _ few)) ∙ ap Some (sym e))
