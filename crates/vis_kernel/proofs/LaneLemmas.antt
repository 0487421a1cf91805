-- Samples and sums in lanes.
use Rattle.std.proofs.Common.{◌≡◌, ℕ, zero, suc, ◌+◌, ◌*◌, ◌%◌, ◌^◌, ◌≤◌, ◌<◌, lit≤, ℤ, pos, negsuc, ◌+ℤ◌, ◌*ℤ◌, [], ◌∷◌, ◌++◌, List, map, slice_index_or, refl, ap, ap₂, ◌∙◌, sym, subst, arith, w8, w32}
use Rattle.std.specs.Prelude.{neg_ℤ}
use Rattle.std.specs.Simd.Lanes.{Each2, zip2}
use Rattle.std.proofs.lemmas.Int.{ints, to_z-of_z}
use borrow.Rule.Simd.Lanes.{act1, act2, Asks2}
use borrow.Table.Row.{s_int}
use mir.Syntax.{w16, signed, cast, mul, wrap_add}
use mir.Val.{SFits, to_z, of_z}
use Rattle.vis_kernel.specs.Sizes.{IsUpTo}
use Rattle.vis_kernel.specs.Lanes.{lane, turned, crossed, neighbour_products, HoldsParts, AreFour}
use Rattle.vis_kernel.proofs.SumLemmas.{kept, product_up_to, wider_up_to}

-- lanes are the same where each is
pub eight_same : {a b c d e f g h : ℤ} {a' b' c' d' e' f' g' h' : ℤ} → a ≡ a' → b ≡ b' → c ≡ c' → d ≡ d' → e ≡ e'
    → f ≡ f' → g ≡ g' → h ≡ h'
    → ◌≡◌ {A = List ℤ} (a ∷ b ∷ c ∷ d ∷ e ∷ f ∷ g ∷ h ∷ []) (a' ∷ b' ∷ c' ∷ d' ∷ e' ∷ f' ∷ g' ∷ h' ∷ [])
eight_same p q r s t u v w = cc

pub four_lanes_same : {a b c d : ℤ} {a' b' c' d' : ℤ} → a ≡ a' → b ≡ b' → c ≡ c' → d ≡ d'
    → ◌≡◌ {A = List ℤ} (a ∷ b ∷ c ∷ d ∷ []) (a' ∷ b' ∷ c' ∷ d' ∷ [])
four_lanes_same p q r s = cc

-- ---- parts in lanes of 16 bits

pub kept_part : (z : ℤ) → IsUpTo z 128 → to_z w16 (of_z w16 z) ≡ z
kept_part z h = let low = h.low in let high = h.high in omega (arith, ints)

-- a byte in such a lane
pub widened : (z u : ℤ) → SFits w8 z → IsUpTo z 128 → z ≡ u → to_z w16 (of_z w16 (to_z w8 (of_z w8 z))) ≡ u
widened z u fits h e = ap (λ v. to_z w16 (of_z w16 v)) (to_z-of_z w8 z fits) ∙ kept_part z h ∙ e

times_one : (z : ℤ) → IsUpTo z 128 → to_z w16 (of_z w16 z * 1 % 65536) ≡ z
times_one (pos n) h =
    let high = h.high in let same : n * 1 % 65536 ≡ n = omega (arith, ints) in ap (to_z w16) same ∙ kept_part (pos n) h
times_one (negsuc n) h =
    let low = h.low in let same : of_z w16 (negsuc n) * 1 % 65536 ≡ of_z w16 (negsuc n) =
    omega (arith, ints) in ap (to_z w16) same ∙ kept_part (negsuc n) h

times_minus_one : (z : ℤ) → IsUpTo z 128 → to_z w16 (of_z w16 z * 65535 % 65536) ≡ neg_ℤ z
times_minus_one (pos zero) h = refl
times_minus_one (pos (suc n)) h =
    let high = h.high in
    let few : n < 128 = omega (arith, ints) in
    let same : suc n * 65535 % 65536 ≡ of_z w16 (negsuc n) = omega arith in
    ap (to_z w16) same ∙ kept_part (negsuc n) (record { low = omega (arith, ints); high = omega (arith, ints) })
times_minus_one (negsuc n) h =
    let low = h.low in
    let few : n < 128 = omega (arith, ints) in
    let same : of_z w16 (negsuc n) * 65535 % 65536 ≡ suc n = omega arith in
    ap (to_z w16) same ∙ kept_part (pos (suc n)) (record { low = omega (arith, ints); high = omega (arith, ints) })

-- what `turn` makes of lanes
abbrev turned_lanes : List ℤ → List ℤ
turned_lanes x =
    let xs = map (of_z w16) x ++ map (of_z w16) x in
    to_z w16 (slice_index_or xs 1 0 * 1 % 65536) ∷ to_z w16 (slice_index_or xs 0 0 * 65535 % 65536)
    ∷ to_z w16 (slice_index_or xs 3 0 * 1 % 65536) ∷ to_z w16 (slice_index_or xs 2 0 * 65535 % 65536)
    ∷ to_z w16 (slice_index_or xs 5 0 * 1 % 65536) ∷ to_z w16 (slice_index_or xs 4 0 * 65535 % 65536)
    ∷ to_z w16 (slice_index_or xs 7 0 * 1 % 65536) ∷ to_z w16 (slice_index_or xs 6 0 * 65535 % 65536) ∷ []

pub lanes_turned : (x : List ℤ) → HoldsParts x → turned_lanes x ≡ turned x
lanes_turned x h =
    ap turned_lanes h.eight
    ∙ eight_same (times_one _ h.second) (times_minus_one _ h.first) (times_one _ h.fourth) (times_minus_one _ h.third)
    (times_one _ h.sixth) (times_minus_one _ h.fifth) (times_one _ h.eighth) (times_minus_one _ h.seventh)
    ∙ sym (ap turned h.eight)

-- what `cross` makes of lanes
abbrev crossed_lanes : List ℤ → List ℤ
crossed_lanes x =
    let xs = map (of_z w16) x ++ map (of_z w16) x in
    to_z w16 (slice_index_or xs 2 0) ∷ to_z w16 (slice_index_or xs 3 0) ∷ to_z w16 (slice_index_or xs 0 0)
    ∷ to_z w16 (slice_index_or xs 1 0)
    ∷ to_z w16 (slice_index_or xs 6 0) ∷ to_z w16 (slice_index_or xs 7 0) ∷ to_z w16 (slice_index_or xs 4 0)
    ∷ to_z w16 (slice_index_or xs 5 0) ∷ []

pub lanes_crossed : (x : List ℤ) → HoldsParts x → crossed_lanes x ≡ crossed x
lanes_crossed x h =
    ap crossed_lanes h.eight
    ∙ eight_same (kept_part _ h.third) (kept_part _ h.fourth) (kept_part _ h.first) (kept_part _ h.second)
    (kept_part _ h.seventh) (kept_part _ h.eighth) (kept_part _ h.fifth) (kept_part _ h.sixth)
    ∙ sym (ap crossed h.eight)

negated_small : (z : ℤ) (n : ℕ) → IsUpTo z n → IsUpTo (neg_ℤ z) n
negated_small z n h =
    let low = h.low in let high = h.high in record { low = omega (arith, ints); high = omega (arith, ints) }

-- lanes that were turned or crossed hold parts
pub turned_holds : (x y : List ℤ) → HoldsParts x → y ≡ turned x → HoldsParts y
turned_holds x y h e = subst HoldsParts (sym (e ∙ ap turned h.eight)) (record {
  eight = refl;
  first = h.second;
  second = negated_small _ 128 h.first;
  third = h.fourth;
  fourth = negated_small _ 128 h.third;
  fifth = h.sixth;
  sixth = negated_small _ 128 h.fifth;
  seventh = h.eighth;
  eighth = negated_small _ 128 h.seventh;
})

pub crossed_holds : (x y : List ℤ) → HoldsParts x → y ≡ crossed x → HoldsParts y
crossed_holds x y h e = subst HoldsParts (sym (e ∙ ap crossed h.eight)) (record {
  eight = refl;
  first = h.third;
  second = h.fourth;
  third = h.first;
  fourth = h.second;
  fifth = h.seventh;
  sixth = h.eighth;
  seventh = h.fifth;
  eighth = h.sixth;
})

-- ---- products in lanes of 32 bits

abbrev wide : ℤ → ℤ
wide z = to_z w32 (of_z w32 (to_z w16 (of_z w16 z)))

wide_kept : (z : ℤ) → IsUpTo z 128 → wide z ≡ z
wide_kept z h = ap (λ u. to_z w32 (of_z w32 u)) (kept_part z h) ∙ kept z 128 h (lit≤ tt)

wide_product : (a b : ℤ) → IsUpTo a 128 → IsUpTo b 128 → wide a *ℤ wide b ≡ a *ℤ b
wide_product a b h k = ap₂ (λ u v. u *ℤ v) (wide_kept a h) (wide_kept b k)

product_fits : (z : ℤ) → IsUpTo z 16384 → SFits w32 z
product_fits z h = let low = h.low in let high = h.high in omega (arith, ints)

fits_wide : (a b : ℤ) → IsUpTo a 128 → IsUpTo b 128 → SFits w32 (wide a *ℤ wide b)
fits_wide a b h k = subst (SFits w32) (sym (wide_product a b h k))
    (product_fits (a *ℤ b) (product_up_to a b 128 128 h k))

abbrev wide_lanes : List ℤ → List ℕ
wide_lanes x = map (act1 (cast signed signed w32) (s_int w16) (s_int w32)) (map (of_z w16) x)

-- the products of such lanes fit
abbrev AreAsked : List ℤ → List ℤ → Type 0
AreAsked x y = Each2 (Asks2 (mul signed) (s_int w32) (s_int w32)) (wide_lanes x) (wide_lanes y)

pub products_fit : (x y : List ℤ) → HoldsParts x → HoldsParts y → AreAsked x y
products_fit x y h k =
    subst (λ u. AreAsked u y) (sym h.eight)
    (subst (λ v. AreAsked
    (lane x 0 ∷ lane x 1 ∷ lane x 2 ∷ lane x 3 ∷ lane x 4 ∷ lane x 5 ∷ lane x 6 ∷ lane x 7 ∷ []) v)
    (sym k.eight) (
      fits_wide _ _ h.first k.first,
      (
        fits_wide _ _ h.second k.second,
        (
          fits_wide _ _ h.third k.third,
          (
            fits_wide _ _ h.fourth k.fourth,
            (
              fits_wide _ _ h.fifth k.fifth,
              (
                fits_wide _ _ h.sixth k.sixth,
                (fits_wide _ _ h.seventh k.seventh, (fits_wide _ _ h.eighth k.eighth, record {})),
              ),
            ),
          ),
        ),
      ),
    ))

-- a sum that wraps, of numbers that fit
wrapped_sum : (u v : ℤ) → IsUpTo u (2 ^ 29) → IsUpTo v (2 ^ 29)
    → (of_z w32 u + of_z w32 v) % 4294967296 ≡ of_z w32 (u +ℤ v)
wrapped_sum u v h k = let l = h.low in let m = h.high in let n = k.low in let o = k.high in grind (arith, ints)

pub sum_small : (u v : ℤ) (m n : ℕ) → IsUpTo u m → IsUpTo v n → IsUpTo (u +ℤ v) (m + n)
sum_small u v m n h k =
    let a = h.low in let b = h.high in let c = k.low in let d =
    k.high in record { low = omega (arith, ints); high = omega (arith, ints) }

pub neighbours_small : (a b c d : ℤ) → IsUpTo a 128 → IsUpTo b 128 → IsUpTo c 128 → IsUpTo d 128
    → IsUpTo (a *ℤ c +ℤ b *ℤ d) 32768
neighbours_small a b c d ha hb hc hd =
    sum_small (a *ℤ c) (b *ℤ d) 16384 16384 (product_up_to a c 128 128 ha hc) (product_up_to b d 128 128 hb hd)

-- one lane of the sums
one_added : (s a b c d : ℤ) → IsUpTo s (2 ^ 29) → IsUpTo a 128 → IsUpTo b 128 → IsUpTo c 128 → IsUpTo d 128
    → to_z w32 ((of_z w32 s + (of_z w32 (wide a *ℤ wide c) + of_z w32 (wide b *ℤ wide d)) % 4294967296) % 4294967296)
    ≡ s +ℤ (a *ℤ c +ℤ b *ℤ d)
one_added s a b c d hs ha hb hc hd =
    let first = wider_up_to (a *ℤ c) 16384 (2 ^ 29) (lit≤ tt) (product_up_to a c 128 128 ha hc) in
    let second = wider_up_to (b *ℤ d) 16384 (2 ^ 29) (lit≤ tt) (product_up_to b d 128 128 hb hd) in
    let both = wider_up_to (a *ℤ c +ℤ b *ℤ d) 32768 (2 ^ 29) (lit≤ tt) (neighbours_small a b c d ha hb hc hd) in
    let all = sum_small s (a *ℤ c +ℤ b *ℤ d) (2 ^ 29) 32768 hs (neighbours_small a b c d ha hb hc hd) in
    ap₂ (λ u v. to_z w32 ((of_z w32 s + (of_z w32 u + of_z w32 v) % 4294967296) % 4294967296)) (wide_product a c ha hc)
    (wide_product b d hb hd)
    ∙ ap (λ n. to_z w32 ((of_z w32 s + n) % 4294967296)) (wrapped_sum (a *ℤ c) (b *ℤ d) first second)
    ∙ ap (to_z w32) (wrapped_sum s (a *ℤ c +ℤ b *ℤ d) hs both)
    ∙ kept_sum_of (s +ℤ (a *ℤ c +ℤ b *ℤ d)) all
  where
    kept_sum_of : (z : ℤ) → IsUpTo z (2 ^ 29 + 32768) → to_z w32 (of_z w32 z) ≡ z
    kept_sum_of z h = let low = h.low in let high = h.high in omega (arith, ints)

-- what `add_neighbours` makes of lanes
abbrev added_lanes : List ℤ → List ℤ → List ℤ → List ℤ
added_lanes sums x y =
    let products = zip2 (act2 (mul signed) (s_int w32) (s_int w32) (s_int w32)) (wide_lanes x) (wide_lanes y) in
    let at : ℕ → ℕ = λ k. slice_index_or (products ++ products) k 0 in
    map (to_z w32) (zip2 (act2 wrap_add (s_int w32) (s_int w32) (s_int w32)) (map (of_z w32) sums)
    ((at 0 + at 1) % 4294967296 ∷ (at 2 + at 3) % 4294967296 ∷ (at 4 + at 5) % 4294967296
    ∷ (at 6 + at 7) % 4294967296 ∷ []))

abbrev pub added : List ℤ → List ℤ → List ℤ → List ℤ
added sums x y = zip2 (λ a b. a +ℤ b) sums (neighbour_products x y)

abbrev pub eight_of : List ℤ → List ℤ
eight_of x = lane x 0 ∷ lane x 1 ∷ lane x 2 ∷ lane x 3 ∷ lane x 4 ∷ lane x 5 ∷ lane x 6 ∷ lane x 7 ∷ []

abbrev pub four_of : List ℤ → List ℤ
four_of s = lane s 0 ∷ lane s 1 ∷ lane s 2 ∷ lane s 3 ∷ []

pub alike : (f : List ℤ → List ℤ → List ℤ → List ℤ) (s x y : List ℤ) → s ≡ four_of s → x ≡ eight_of x → y ≡ eight_of y
    → f s x y ≡ f (four_of s) (eight_of x) (eight_of y)
alike f s x y es ex ey =
    ap (λ u. f u x y) es ∙ ap (λ u. f (four_of s) u y) ex ∙ ap (λ u. f (four_of s) (eight_of x) u) ey

pub lanes_added : (s x y : List ℤ) → AreFour s (2 ^ 29) → HoldsParts x → HoldsParts y → added_lanes s x y ≡ added s x y
lanes_added s x y i h k =
    alike added_lanes s x y i.four h.eight k.eight
    ∙ four_lanes_same (one_added _ _ _ _ _ i.first h.first h.second k.first k.second)
    (one_added _ _ _ _ _ i.second h.third h.fourth k.third k.fourth)
    (one_added _ _ _ _ _ i.third h.fifth h.sixth k.fifth k.sixth)
    (one_added _ _ _ _ _ i.fourth h.seventh h.eighth k.seventh k.eighth)
    ∙ sym (alike added s x y i.four h.eight k.eight)

-- ---- reading lanes

abbrev read : List ℤ → ℕ → ℤ
read v k = to_z w32 (of_z w32 (slice_index_or (map (to_z w32) (map (of_z w32) v)) k (pos 0)))

kept_twice : (z : ℤ) → IsUpTo z (2 ^ 29) → to_z w32 (of_z w32 (to_z w32 (of_z w32 z))) ≡ z
kept_twice z h = ap (λ u. to_z w32 (of_z w32 u)) (kept z (2 ^ 29) h (lit≤ tt)) ∙ kept z (2 ^ 29) h (lit≤ tt)

even_read : (v : List ℤ) → AreFour v (2 ^ 29) → read v 0 +ℤ read v 2 ≡ lane v 0 +ℤ lane v 2
even_read v i =
    ap₂ (λ a b. a +ℤ b) (ap (λ u. read u 0) i.four) (ap (λ u. read u 2) i.four) ∙ ap₂ (λ a b. a +ℤ b)
    (kept_twice _ i.first) (kept_twice _ i.third)

odd_read : (v : List ℤ) → AreFour v (2 ^ 29) → read v 1 +ℤ read v 3 ≡ lane v 1 +ℤ lane v 3
odd_read v i =
    ap₂ (λ a b. a +ℤ b) (ap (λ u. read u 1) i.four) (ap (λ u. read u 3) i.four) ∙ ap₂ (λ a b. a +ℤ b)
    (kept_twice _ i.second) (kept_twice _ i.fourth)

sum_fits : (a b : ℤ) → IsUpTo a (2 ^ 29) → IsUpTo b (2 ^ 29) → SFits w32 (a +ℤ b)
sum_fits a b h k = let l = h.low in let m = h.high in let n = k.low in let o = k.high in omega (arith, ints)

pub even_fits : (v : List ℤ) → AreFour v (2 ^ 29) → SFits w32 (read v 0 +ℤ read v 2)
even_fits v i = subst (SFits w32) (sym (even_read v i)) (sum_fits _ _ i.first i.third)

pub odd_fits : (v : List ℤ) → AreFour v (2 ^ 29) → SFits w32 (read v 1 +ℤ read v 3)
odd_fits v i = subst (SFits w32) (sym (odd_read v i)) (sum_fits _ _ i.second i.fourth)

pub even_kept : (v : List ℤ) → AreFour v (2 ^ 29) → to_z w32 (of_z w32 (read v 0 +ℤ read v 2)) ≡ lane v 0 +ℤ lane v 2
even_kept v i = to_z-of_z w32 _ (even_fits v i) ∙ even_read v i

pub odd_kept : (v : List ℤ) → AreFour v (2 ^ 29) → to_z w32 (of_z w32 (read v 1 +ℤ read v 3)) ≡ lane v 1 +ℤ lane v 3
odd_kept v i = to_z-of_z w32 _ (odd_fits v i) ∙ odd_read v i
