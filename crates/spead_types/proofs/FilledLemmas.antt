-- Lemmas on lists at the front of arrays.
use Rattle.std.proofs.Common.{◌≡◌, ℕ, suc, ◌+◌, ◌-◌, ◌<◌, List, [], ◌∷◌, ◌++◌, length, take, set, replicate, sym, ap, ◌∙◌, arith, append_assoc}
use Rattle.std.proofs.lemmas.List.{take_more_set, length_push, set_at, length-set}
use Rattle.spead_types.specs.Filled.{filled, IsFilled, length-counted}

-- one more element is written behind those that count
pub IsFilled-set : {X : Type 0} (room : ℕ) (unused x : X) (all : List X) (count : ℕ) → IsFilled room unused all count
    → count < room → IsFilled room unused (set all count x) (count + 1)
IsFilled-set room unused x all count h more =
    let front = take count all in
    let behind = replicate (room - (count + 1)) unused in
    let counted : length front ≡ count = length-counted room unused all count h in
    let taken : take (count + 1) (set all count x) ≡ front ++ x ∷ [] =
    take_more_set all count x (omega (arith, h.long)) in
    let tail : replicate (room - count) unused ≡ unused ∷ behind =
    (let e : room - count ≡ suc (room - (count + 1)) = omega arith in ap (λ k. replicate k unused) e) in
    let whole : all ≡ front ++ unused ∷ behind =
    sym h.rest ∙ ap (λ k. front ++ replicate (room - k) unused) counted ∙ ap (λ t. front ++ t) tail in
    let written : set all count x ≡ front ++ x ∷ behind =
    ap (λ l. set l count x) whole ∙ set_at front unused behind x count counted in
    let grown : length (front ++ x ∷ []) ≡ count + 1 = length_push front x ∙ ap (λ k. k + 1) counted in
    record {
      within = omega arith;
      long = length-set all count x ∙ h.long;
      rest = ap (filled room unused) taken ∙ ap (λ k. (front ++ x ∷ []) ++ replicate (room - k) unused) grown ∙
          append_assoc front (x ∷ []) behind ∙ sym written;
    }

-- the same, where the elements that count are known as a list of their own
pub IsFilled-push : {X : Type 0} (room : ℕ) (unused x : X) (all now : List X) (count : ℕ)
    → IsFilled room unused all count → take count all ≡ now → length now < room
    → IsFilled room unused (set all count x) (count + 1)
IsFilled-push room unused x all now count h is more =
    IsFilled-set room unused x all count h (omega (arith, length-counted room unused all count h, ap length is))
