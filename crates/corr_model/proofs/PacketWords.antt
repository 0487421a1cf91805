-- Words of eight bytes cut from the front of bytes, and joined again.
use Rattle.std.proofs.Common.{◌≡◌, ℕ, zero, suc, ◌*◌, ◌≤◌, List, [], ◌∷◌, ◌++◌, length, take, drop, refl, sym, ap, ◌∙◌, append_assoc, arith, length-append, length-drop}
use Rattle.std.specs.List.{flat_map, AllByRecursion}
use Rattle.std.proofs.lemmas.List.{take-append-drop, take_at, drop_at, drop-drop, length-take}
use Rattle.corr_model.specs.Packets.{words_in}

-- the words, one after another
abbrev pub joined : List (List ℕ) → List ℕ
joined words = flat_map (λ w. w) words

abbrev pub AreEights : List (List ℕ) → Type 0
AreEights words = AllByRecursion (λ w. length w ≡ 8) words

pub length-words_in : (n : ℕ) (bytes : List ℕ) → length (words_in n bytes) ≡ n
length-words_in zero bytes = refl
length-words_in (suc n) bytes = ap (λ k. suc k) (length-words_in n (drop 8 bytes))

pub words_in-eights : (n : ℕ) (bytes : List ℕ) → 8 * n ≤ length bytes → AreEights (words_in n bytes)
words_in-eights zero bytes h = tt
words_in-eights (suc n) bytes h =
    let first = length-take 8 bytes in
    let rest = length-drop 8 bytes in
    (omega arith, words_in-eights n (drop 8 bytes) (omega arith))

pub joined-words_in : (n : ℕ) (bytes : List ℕ) → 8 * n ≤ length bytes
    → joined (words_in n bytes) ++ drop (8 * n) bytes ≡ bytes
joined-words_in zero bytes h = refl
joined-words_in (suc n) bytes h =
    let rest = length-drop 8 bytes in
    let later = joined-words_in n (drop 8 bytes) (omega arith) in
    let moved : drop (8 * suc n) bytes ≡ drop (8 * n) (drop 8 bytes) =
    ap (λ k. drop k bytes) (omega arith) ∙ sym (drop-drop (8 * n) 8 bytes) in
    append_assoc (take 8 bytes) (joined (words_in n (drop 8 bytes))) (drop (8 * suc n) bytes)
    ∙ ap (λ xs. take 8 bytes ++ (joined (words_in n (drop 8 bytes)) ++ xs)) moved
    ∙ ap (λ xs. take 8 bytes ++ xs) later
    ∙ take-append-drop 8 bytes

pub length-joined : (words : List (List ℕ)) → AreEights words → length (joined words) ≡ 8 * length words
length-joined [] h = refl
length-joined (w ∷ words) h =
    let first = h.0 in
    let later = length-joined words h.1 in
    omega (arith, length-append w (joined words))

pub words_in-joined : (words : List (List ℕ)) (rest : List ℕ) → AreEights words
    → words_in (length words) (joined words ++ rest) ≡ words
words_in-joined [] rest h = refl
words_in-joined (w ∷ words) rest h =
    let grouped : (w ++ joined words) ++ rest ≡ w ++ (joined words ++ rest) = append_assoc w (joined words) rest in
    let front : take 8 ((w ++ joined words) ++ rest) ≡ w =
    ap (λ xs. take 8 xs) grouped ∙ take_at w (joined words ++ rest) 8 h.0 in
    let back : drop 8 ((w ++ joined words) ++ rest) ≡ joined words ++ rest =
    ap (λ xs. drop 8 xs) grouped ∙ drop_at w (joined words ++ rest) 8 h.0 in
    ap (λ xs. xs ∷ words_in (length words) (drop 8 ((w ++ joined words) ++ rest))) front
    ∙ ap (λ xs. w ∷ words_in (length words) xs) back
    ∙ ap (λ xs. w ∷ xs) (words_in-joined words rest h.1)
