-- A text that is read piece by piece.
use Rattle.std.proofs.Common.{◌≡◌, ◌<◌, ◌≤◌, ℕ, zero, suc, ◌+◌, ◌-◌, Bool, true, Option, Some, None, List, [], ◌∷◌, ◌++◌, length, take, drop, take-add, refl, ap, sym, subst, ◌∙◌, arith}
use borrow.Rule.Slice.PartMut.{put_mid, same_len_mid}
use Rattle.std.proofs.lemmas.List.{length-drop, length-take-le, drop-drop, take-append-le}
use Rattle.corr_site.specs.Outside.{TakesFront, Reads}
use Rattle.corr_site.specs.declared.answers.Got.TheVariants as got
use Rattle.corr_text.specs.Filling.{FilledSo, HoldsText}

-- what holds after each piece
pub record Filling {P : Type 0} (before now : Option (List ℕ)) (at_before at : P) (faults_before faults : ℕ)
    (begun : Bool) (buf : List ℕ) (n room : ℕ) : Type 0 where
  pub same_room : length buf ≡ room
  pub within : n ≤ length buf
  pub filled : FilledSo before now buf n
  pub placed : at ≡ at_before
  pub calm : faults ≡ faults_before
  pub is_begun : begun ≡ true

take_past : {X : Type 0} (xs ys : List X) (n : ℕ) → take (length xs + n) (xs ++ ys) ≡ xs ++ take n ys
take_past [] ys n = ap (λ k. take k ys) (omega arith)
take_past (x ∷ xs) ys n =
    let next : length (x ∷ xs) + n ≡ suc (length xs + n) = omega arith in
    ap (λ k. take k (x ∷ (xs ++ ys))) next ∙ ap (λ l. x ∷ l) (take_past xs ys n)

-- the front of two lists
take_seam : {X : Type 0} (xs ys : List X) (a n : ℕ) → length xs ≡ a → take (a + n) (xs ++ ys) ≡ xs ++ take n ys
take_seam xs ys a n h = sym (ap (λ k. take (k + n) (xs ++ ys)) h) ∙ take_past xs ys n

-- one piece more of a text
pub piece : (left : List ℕ) (middle now : Option (List ℕ)) (buf part : List ℕ) (a n : ℕ) → a + n ≤ length buf
    → length part ≡ length buf - a → TakesFront left middle buf a → Reads middle now part (got.Bytes n)
    → TakesFront left now (put_mid a (length buf - a) buf part) (a + n)
piece left middle now buf part a n fits long h k =
    let k' : TakesFront (drop a left) now part n = subst (λ m. Reads m now part (got.Bytes n)) h.rest k in
    let within_left : n ≤ length left - a = subst (λ m. n ≤ m) (length-drop a left) k'.within in
    record {
      front = take_seam (take a buf) (part ++ drop (length buf - a) (drop a buf)) a n
          (length-take-le a buf (omega arith))
          ∙ ap (λ l. take a buf ++ l)
          (take-append-le n part (drop (length buf - a) (drop a buf)) (omega arith) ∙ k'.front)
          ∙ ap (λ l. l ++ take n (drop a left)) h.front ∙ sym (take-add a n left);
      within = omega (arith, h.within, within_left);
      rest = k'.rest ∙ ap Some (drop-drop n a left);
    }

-- one piece more, where the text is told or not
pub filled_more : (before middle now : Option (List ℕ)) (buf part : List ℕ) (a n : ℕ) → a + n ≤ length buf
    → length part ≡ length buf - a → FilledSo before middle buf a → Reads middle now part (got.Bytes n)
    → FilledSo before now (put_mid a (length buf - a) buf part) (a + n)
filled_more None middle now buf part a n fits long h k = subst (λ m. Reads m now part (got.Bytes n)) h k
filled_more (Some left) middle now buf part a n fits long h k = piece left middle now buf part a n fits long h k

-- the buffer keeps its length
pub same_buffer : (buf part : List ℕ) (a : ℕ) → a ≤ length buf → length part ≡ length buf - a
    → length (put_mid a (length buf - a) buf part) ≡ length buf
same_buffer buf part a within long =
    let whole : length (take (length buf - a) (drop a buf)) ≡ length buf - a =
    length-take-le (length buf - a) (drop a buf) (omega (arith, length-drop a buf)) in
    same_len_mid a (length buf - a) buf part (long ∙ sym whole)

-- a front after which nothing is left is any longer front
front_is : (left : List ℕ) (n room : ℕ) → n ≤ room → (n < room → drop n left ≡ []) → take n left ≡ take room left
front_is [] zero zero within all = refl
front_is [] zero (suc room) within all = refl
front_is [] (suc n) zero within all = refl
front_is [] (suc n) (suc room) within all = refl
front_is (x ∷ left) zero zero within all = refl
front_is (x ∷ left) zero (suc room) within all = let h = all (omega arith) in absurd cc
front_is (x ∷ left) (suc n) zero within all = absurd (omega arith)
front_is (x ∷ left) (suc n) (suc room) within all =
    ap (λ l. x ∷ l) (front_is left n room (omega arith) (λ h. all (omega (arith, h))))

-- the bytes that count are the first of the text, as many as the buffer has room for
pub text_held : (left : List ℕ) (now : Option (List ℕ)) (buf : List ℕ) (n : ℕ) → n ≤ length buf
    → HoldsText left now buf n → take n buf ≡ take (length buf) left
text_held left now buf n within h = h.taken.front ∙ front_is left n (length buf) within h.all
