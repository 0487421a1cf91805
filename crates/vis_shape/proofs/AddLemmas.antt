-- Lists of numbers that are added place by place, a block at a time.
use Rattle.std.proofs.Common.{◌≡◌, ℕ, suc, ◌+◌, ◌≤◌, ℤ, ◌+ℤ◌, List, [], ◌∷◌, ◌++◌, length, take, drop, refl, sym, ap, ap₂, ◌∙◌, subst, arith, append_assoc, length-append, length-drop, drop-drop, take-add}
use Rattle.std.proofs.lemmas.Int.{ints}
use Rattle.std.proofs.lemmas.List.{length-take-le, drop_at, take_at, take_all, drop_all, append-nil}
use Rattle.std.proofs.lemmas.List.Elements.{All-cons, All-drop, All-head, All-nil, All-tail, All-take}
use borrow.Rule.Slice.PartMut.{put_mid}
use Rattle.vis_shape.specs.Sums.{add_sums, IsUpTo, AreUpTo}

-- as many as both have
pub length-add_sums : (xs ys : List ℤ) → length xs ≡ length ys → length (add_sums xs ys) ≡ length xs
length-add_sums [] ys e = refl
length-add_sums (x ∷ xs) [] e = absurd (omega arith)
length-add_sums (x ∷ xs) (y ∷ ys) e = ap suc (length-add_sums xs ys (omega arith))

-- two blocks
pub add_sums-append : (xs ys us vs : List ℤ) → length xs ≡ length ys
    → add_sums (xs ++ us) (ys ++ vs) ≡ add_sums xs ys ++ add_sums us vs
add_sums-append [] [] us vs e = refl
add_sums-append [] (y ∷ ys) us vs e = absurd (omega arith)
add_sums-append (x ∷ xs) [] us vs e = absurd (omega arith)
add_sums-append (x ∷ xs) (y ∷ ys) us vs e = ap (λ zs. (x +ℤ y) ∷ zs) (add_sums-append xs ys us vs (omega arith))

-- three lists are added in any order
pub add_sums-assoc : (xs ys zs : List ℤ) → add_sums (add_sums xs ys) zs ≡ add_sums xs (add_sums ys zs)
add_sums-assoc [] ys zs = refl
add_sums-assoc (x ∷ xs) [] zs = refl
add_sums-assoc (x ∷ xs) (y ∷ ys) [] = refl
add_sums-assoc (x ∷ xs) (y ∷ ys) (z ∷ zs) =
    let same : (x +ℤ y) +ℤ z ≡ x +ℤ (y +ℤ z) =
    omega (arith, ints) in ap₂ (λ u us. u ∷ us) same (add_sums-assoc xs ys zs)

one_up_to : (x y : ℤ) (m n : ℕ) → IsUpTo x m → IsUpTo y n → IsUpTo (x +ℤ y) (m + n)
one_up_to x y m n h k =
    let a = h.low in let b = h.high in let c = k.low in let d =
    k.high in record { low = omega (arith, ints); high = omega (arith, ints) }

-- sums of small numbers
pub add_sums-up_to : (xs ys : List ℤ) (m n : ℕ) → AreUpTo xs m → AreUpTo ys n → AreUpTo (add_sums xs ys) (m + n)
add_sums-up_to [] ys m n h k = All-nil (λ z. IsUpTo z (m + n))
add_sums-up_to (x ∷ xs) [] m n h k = All-nil (λ z. IsUpTo z (m + n))
add_sums-up_to (x ∷ xs) (y ∷ ys) m n h k =
    All-cons (λ z. IsUpTo z (m + n)) (x +ℤ y) (add_sums xs ys)
    (one_up_to x y m n (All-head (λ z. IsUpTo z m) x xs h) (All-head (λ z. IsUpTo z n) y ys k))
    (add_sums-up_to xs ys m n (All-tail (λ z. IsUpTo z m) x xs h) (All-tail (λ z. IsUpTo z n) y ys k))

-- the numbers ws were added to the front of the old ones, and the rest is as it was
pub record AddedFront (old now ws : List ℤ) : Type 0 where
  pub short : length ws ≤ length old
  pub is : now ≡ add_sums (take (length ws) old) ws ++ drop (length ws) old

pub front_none : (old : List ℤ) → AddedFront old old []
front_none old = record { short = omega arith; is = refl }

front_length : (old ws : List ℤ) → length ws ≤ length old → length (add_sums (take (length ws) old) ws) ≡ length ws
front_length old ws short =
    let e = length-take-le (length ws) old short in length-add_sums (take (length ws) old) ws e ∙ e

-- what lies behind the front is as it was
pub front_behind : (old now ws : List ℤ) → AddedFront old now ws → drop (length ws) now ≡ drop (length ws) old
front_behind old now ws h =
    ap (drop (length ws)) h.is ∙ drop_at (add_sums (take (length ws) old) ws) (drop (length ws) old) (length ws)
    (front_length old ws h.short)

-- a block behind the front is as small as the old numbers
pub front_up_to : (old now ws : List ℤ) (n m : ℕ) → AddedFront old now ws → AreUpTo old m
    → AreUpTo (take n (drop (length ws) now)) m
front_up_to old now ws n m h small =
    subst (λ rest. AreUpTo (take n rest) m) (sym (front_behind old now ws h))
    (All-take (λ z. IsUpTo z m) n (drop (length ws) old) (All-drop (λ z. IsUpTo z m) (length ws) old small))

pub front_long : (old now ws : List ℤ) → AddedFront old now ws → length now ≡ length old
front_long old now ws h =
    let short = h.short in
    ap length h.is ∙ omega (
      arith,
      length-append (add_sums (take (length ws) old) ws) (drop (length ws) old),
      front_length old ws h.short,
      length-drop (length ws) old,
    )

-- a block more
pub front_more : (old now ws part w : List ℤ) → AddedFront old now ws → length ws + length w ≤ length old
    → part ≡ add_sums (take (length w) (drop (length ws) now)) w
    → AddedFront old (put_mid (length ws) (length w) now part) (ws ++ w)
front_more old now ws part w h room e =
    let a = length ws in
    let n = length w in
    let front = add_sums (take a old) ws in
    let block = take n (drop a old) in
    let long : length (ws ++ w) ≡ a + n = length-append ws w in
    let at : take a now ≡ front = ap (take a) h.is ∙ take_at front (drop a old) a (front_length old ws h.short) in
    let behind = front_behind old now ws h in
    let mid : part ≡ add_sums block w = e ∙ ap (λ r. add_sums (take n r) w) behind in
    let rest : drop n (drop a now) ≡ drop (a + n) old = ap (drop n) behind ∙ drop-drop n a old in
    let parts : take (a + n) old ≡ take a old ++ block = take-add a n old in
    let even : length (take a old) ≡ length ws = length-take-le a old h.short in
    record {
      short = omega (arith, long, room);
      is =
          ap₂ (λ u v. u ++ (part ++ v)) at rest ∙ ap (λ p. front ++ (p ++ drop (a + n) old)) mid
          ∙ sym (append_assoc front (add_sums block w) (drop (a + n) old))
          ∙ ap (λ zs. zs ++ drop (a + n) old)
          (sym (add_sums-append (take a old) ws block w even) ∙ ap (λ xs. add_sums xs (ws ++ w)) (sym parts))
          ∙ ap (λ k. add_sums (take k old) (ws ++ w) ++ drop k old) (sym long);
    }

-- the front is all
pub front_all : (old now ws : List ℤ) → AddedFront old now ws → length ws ≡ length old → now ≡ add_sums old ws
front_all old now ws h e =
    h.is ∙ ap (λ k. add_sums (take k old) ws ++ drop k old) e
    ∙ ap₂ (λ x y. add_sums x ws ++ y) (take_all (length old) old (omega arith))
    (drop_all (length old) old (omega arith))
    ∙ append-nil (add_sums old ws)

-- the two change places
pub add_sums-comm : (xs ys : List ℤ) → add_sums xs ys ≡ add_sums ys xs
add_sums-comm [] [] = refl
add_sums-comm [] (y ∷ ys) = refl
add_sums-comm (x ∷ xs) [] = refl
add_sums-comm (x ∷ xs) (y ∷ ys) =
    let same : x +ℤ y ≡ y +ℤ x = omega (arith, ints) in ap₂ (λ u us. u ∷ us) same (add_sums-comm xs ys)
