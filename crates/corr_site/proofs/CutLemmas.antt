-- Bytes cut up into strings of given lengths.
use Rattle.std.proofs.Common.{ℕ, ◌≡◌, ◌+◌, ◌≤◌, List, [], ◌∷◌, ◌++◌, length, drop, sum, refl, ap, arith, length-drop}
use Rattle.std.proofs.lemmas.List.{take-append-le, drop-append-le}
use Rattle.std.proofs.Math.Seq.{take-length}
use Rattle.std.proofs.lemmas.Grind.{common_steps}
use Rattle.corr_site.specs.Memory.{cut_up}

-- there are as many strings as lengths
pub cut_up_length : (lens bytes : List ℕ) → length (cut_up lens bytes) ≡ length lens
cut_up_length [] bytes = refl
cut_up_length (n ∷ lens) bytes = grind (arith, cut_up_length lens (drop n bytes))

sum_from : (n : ℕ) (lens : List ℕ) → sum (n ∷ lens) ≡ n + sum lens
sum_from n lens = grind (arith, common_steps)

-- one more length and its bytes are one more string
pub cut_up_push : (lens bytes more : List ℕ) → sum lens ≡ length bytes
    → cut_up (lens ++ length more ∷ []) (bytes ++ more) ≡ cut_up lens bytes ++ more ∷ []
cut_up_push [] [] more h = ap (λ x. x ∷ []) (take-length more)
cut_up_push [] (b ∷ bytes) more h = absurd (omega arith)
cut_up_push (n ∷ lens) bytes more h =
    let all : n + sum lens ≡ length bytes = grind (arith, sum_from n lens) in
    let within : n ≤ length bytes = omega arith in
    let left : sum lens ≡ length (drop n bytes) = omega (arith, length-drop n bytes) in
    rw (
      take-append-le n bytes more within,
      drop-append-le n bytes more within,
      cut_up_push lens (drop n bytes)
          more left,
    ) refl
