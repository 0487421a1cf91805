-- Seats that are added one by one, behind those of the two antennas.
use Rattle.std.proofs.Common.{◌≡◌, ℕ, zero, suc, ◌+◌, ◌<◌, ◌≤◌, List, [], ◌∷◌, ◌++◌, length, get_or, All, None, sym, subst, arith, length-append}
use Rattle.std.proofs.lemmas.Grind.{common_steps}
use Rattle.std.proofs.lemmas.List.{get_or_append_left}
use Rattle.corr_site.specs.Memory.{Source}
use Rattle.corr_examples.specs.Literals.{WillGive, literal_list}

-- the first two seats will give the lists of the observation, and none is begun
pub record AreNew {T : Type 0} (source : T → Source) (seats : List T) : Type 0 where
  pub two : 2 ≤ length seats
  pub give : (a : ℕ) (d : T) → a < 2 → WillGive (source (get_or seats a d)) (literal_list a)
  pub none_begun : All (λ s. (source s).at ≡ None) seats

give_push : {T : Type 0} (source : T → Source) (seats : List T) (x : T) → AreNew source seats
    → (a : ℕ) (d : T) → a < 2 → WillGive (source (get_or (seats ++ x ∷ []) a d)) (literal_list a)
give_push source seats x h a d low =
    let two = h.two in
    subst (λ s. WillGive (source s) (literal_list a))
    (sym (get_or_append_left seats (x ∷ []) d a (omega (arith, two, low)))) (h.give a d low)

all_push : {T : Type 0} (P : T → Type 0) (xs : List T) (x : T) → All P xs → P x → All P (xs ++ x ∷ [])
all_push P xs x all is = grind (arith, common_steps)

-- one more that is not begun
pub are_new_push : {T : Type 0} (source : T → Source) (seats : List T) (x : T) → AreNew source seats
    → (source x).at ≡ None → AreNew source (seats ++ x ∷ [])
are_new_push source seats x h none = record {
  two = let two = h.two in omega (arith, two, length-append seats (x ∷ []));
  give = give_push source seats x h;
  none_begun = all_push (λ s. (source s).at ≡ None) seats x h.none_begun none;
}

give_two : {T : Type 0} (source : T → Source) (x y : T) → WillGive (source x) (literal_list 0)
    → WillGive (source y) (literal_list 1) → (a : ℕ) (d : T) → a < 2
    → WillGive (source (get_or (x ∷ y ∷ []) a d)) (literal_list a)
give_two source x y h k zero d low = h
give_two source x y h k (suc zero) d low = k
give_two source x y h k (suc (suc a)) d low = absurd (omega arith)

all_two : {T : Type 0} (P : T → Type 0) (x y : T) → P x → P y → All P (x ∷ y ∷ [])
all_two P x y h k = grind (arith, common_steps)

-- those of the two antennas
pub are_new_two : {T : Type 0} (source : T → Source) (x y : T) → WillGive (source x) (literal_list 0)
    → WillGive (source y) (literal_list 1) → AreNew source (x ∷ y ∷ [])
are_new_two source x y h k = record {
  two = omega arith;
  give = give_two source x y h k;
  none_begun = all_two (λ s. (source s).at ≡ None) x y h.not_begun k.not_begun;
}
