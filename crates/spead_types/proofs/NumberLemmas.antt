-- Lemmas on numbers of whole bytes.
use Rattle.std.proofs.Common.{◌≡◌, ℕ, zero, suc, ◌+◌, ◌-◌, ◌*◌, ◌/◌, ◌%◌, ◌^◌, ◌<◌, ◌≤◌, Bool, true, false, nat_lt, if◌then◌else◌, IsTrue, ℤ, pos, negsuc, List, [], ◌∷◌, ◌++◌, length, take, drop, fold, refl, sym, ap, subst, ◌∙◌, inl, inr, arith, w64, length-drop, length-append, length-take-le, neg_ℤ, ◌-ℤ◌, ◌≤ℤ◌, ◌<ℤ◌}
use Rattle.std.proofs.Math.Nat.{pow-succ'}
use Rattle.std.proofs.lemmas.Bool.{cases_eq, cond-true, cond-false, lt-ltb, le-ltb}
use Rattle.std.proofs.lemmas.Bool.Decides.{nat_tests}
use Rattle.std.proofs.lemmas.Int.{ints}
use Rattle.std.proofs.lemmas.List.{drop-drop, drop_at, take_at}
use Rattle.std.specs.Int.{bytes_high_first, cast_unsigned}
use borrow.Rule.Slice.PartMut.{put_mid}
use Rattle.byteorder.specs.Endian.{big_from, big_number, twos_complement}
use Rattle.byteorder.specs.Numbers.{big_from-cons, big_from-bytes, length-bytes_high_first}
use Rattle.corr_model.specs.Packets.{big}
use Rattle.spead_types.specs.Numbers.{is_width, number_bytes, number_at, with_number}

-- digits behind a number
digits_on : (a b p r : ℕ) → (256 * a + b) * p + r ≡ a * (256 * p) + (b * p + r)
digits_on a b p r = grind arith

-- the first bytes read behind a number
big_behind : (n a : ℕ) (bytes : List ℕ) → n ≤ length bytes
    → fold (λ k b. 256 * k + b) a (take n bytes) ≡ a * 256 ^ n + big_from 0 n bytes
big_behind zero a bytes h = omega arith
big_behind (suc n) a [] h = absurd (omega arith)
big_behind (suc n) a (b ∷ bytes) h =
    big_behind n (256 * a + b) bytes (omega arith)
    ∙ digits_on a b (256 ^ n) (big_from 0 n bytes)
    ∙ ap (λ r. a * (256 * 256 ^ n) + (b * 256 ^ n + r)) (sym (big_from-cons 0 n b bytes))
    ∙ ap (λ p. a * p + (b * 256 ^ n + big_from 1 n (b ∷ bytes))) (sym (pow-succ' 256 n))

-- the number in the first bytes
pub big-take : (n : ℕ) (bytes : List ℕ) → n ≤ length bytes → big (take n bytes) ≡ big_number n bytes
big-take n bytes h =
    big_behind n 0 bytes h ∙ (let e : 0 * 256 ^ n + big_from 0 n bytes ≡ big_from 0 n bytes = omega arith in e)

-- the signed number at a place is what is read behind the others
pub signed_at : (bits place width : ℕ) (bytes behind : List ℕ) (r : ℤ) (signed : Bool) → width ≡ bits / 8
    → (place + 1) * (bits / 8) ≤ length bytes → behind ≡ drop (place * width) bytes → signed ≡ true
    → r ≡ twos_complement width (big_number width behind) → r ≡ number_at bytes bits signed place
signed_at bits place width bytes behind r signed is room cut said read =
    let same : (place + 1) * width ≤ length bytes = subst (λ w. (place + 1) * w ≤ length bytes) (sym is) room in
    let fits : width ≤ length (drop (place * width) bytes) = omega (arith, length-drop (place * width) bytes, same) in
    read
    ∙ ap (λ xs. twos_complement width (big_number width xs)) cut
    ∙ ap (twos_complement width) (sym (big-take width (drop (place * width) bytes) fits))
    ∙ ap (λ w. twos_complement w (big (number_bytes w place bytes))) is
    ∙ ap (λ s. number_at bytes bits s place) (sym said)

-- what holds at each of the four widths holds at a width
by_width : (P : ℕ → Type 0) → P 8 → P 16 → P 32 → P 64 → (bits : ℕ) → IsTrue (is_width bits) → P bits
by_width P a b c d bits h =
    elim (cases_eq bits 8) [
      | inl e ↦ subst P (sym e) a
      | inr not8 ↦ elim (cases_eq bits 16) [
        | inl e ↦ subst P (sym e) b
        | inr not16 ↦ elim (cases_eq bits 32) [
          | inl e ↦ subst P (sym e) c
          | inr not32 ↦ elim (cases_eq bits 64) [
            | inl e ↦ subst P (sym e) d
            | inr not64 ↦ absurd (grind (arith, nat_tests))
          ]
        ]
      ]
    ]

-- the lowest bytes of a number of eight
lowest_bytes : (x bits : ℕ) → IsTrue (is_width bits)
    → take (8 - (8 - bits / 8)) (drop (8 - bits / 8) (bytes_high_first 8 x)) ≡ bytes_high_first (bits / 8) x
lowest_bytes x = by_width
    (λ bits. take (8 - (8 - bits / 8)) (drop (8 - bits / 8) (bytes_high_first 8 x)) ≡ bytes_high_first (bits / 8) x)
    refl refl refl refl

-- the lowest bytes of a value, copied to its place
pub put_bytes : (bits place width : ℕ) (bytes eight now : List ℕ) (value given : ℤ) → IsTrue (is_width bits)
    → width ≡ bits / 8 → given ≡ value → eight ≡ bytes_high_first 8 (cast_unsigned w64 given)
    → now ≡ take (8 - (8 - width)) (drop (8 - width) eight)
    → put_mid (place * width) (place * width + width - place * width) bytes now ≡ with_number bytes bits place value
put_bytes bits place width bytes eight now value given known is same whole copied =
    let x = cast_unsigned w64 value in
    let some : now ≡ bytes_high_first width x
    = copied ∙ ap (λ xs. take (8 - (8 - width)) (drop (8 - width) xs))
    (whole ∙ ap (λ z. bytes_high_first 8 (cast_unsigned w64 z)) same)
    ∙ subst (λ w. take (8 - (8 - w)) (drop (8 - w) (bytes_high_first 8 x)) ≡ bytes_high_first w x) (sym is)
    (lowest_bytes x bits known) in
    let end : place * width + (place * width + width - place * width) ≡ place * width + width = omega arith in
    let behind : drop (place * width + width - place * width) (drop (place * width) bytes)
    ≡ drop (place * width + width) bytes
    = drop-drop (place * width + width - place * width) (place * width) bytes ∙ ap (λ n. drop n bytes) end in
    ap (λ xs. take (place * width) bytes
    ++ (xs ++ drop (place * width + width - place * width) (drop (place * width) bytes))) some
    ∙ ap (λ xs. take (place * width) bytes ++ (bytes_high_first width x ++ xs)) behind
    ∙ ap (λ w. take (place * w) bytes ++ (bytes_high_first w x ++ drop (place * w + w) bytes)) is

-- the lowest bytes of a number, read back
big-bytes : (n x : ℕ) → big (bytes_high_first n x) ≡ x % 256 ^ n
big-bytes n x =
    let long : length (bytes_high_first n x) ≡ n = length-bytes_high_first n x in
    ap big (sym (take_at (bytes_high_first n x) [] n long))
    ∙ big-take n (bytes_high_first n x ++ []) (omega (arith, long, length-append (bytes_high_first n x) []))
    ∙ big_from-bytes n x []

-- the bytes of the number that was written at a place
written_number : (width place x : ℕ) (bytes : List ℕ) → place * width ≤ length bytes
    → number_bytes width place
    (take (place * width) bytes ++ (bytes_high_first width x ++ drop (place * width + width) bytes))
    ≡ bytes_high_first width x
written_number width place x bytes room =
    ap (take width) (drop_at (take (place * width) bytes)
    (bytes_high_first width x ++ drop (place * width + width) bytes) (place * width)
    (length-take-le (place * width) bytes room))
    ∙ take_at (bytes_high_first width x) (drop (place * width + width) bytes) width (length-bytes_high_first width x)

abbrev SignedBack : ℕ → Type 0
SignedBack bits = (value : ℤ) → neg_ℤ (pos (2 ^ (bits - 1))) ≤ℤ value → value <ℤ pos (2 ^ (bits - 1))
    → twos_complement (bits / 8) (cast_unsigned w64 value % 256 ^ (bits / 8)) ≡ value

-- a number below half the range stands for itself
stands : (half n x : ℕ) (other : ℤ) → x ≡ n → n < half → (if nat_lt x half then pos x else other) ≡ pos n
stands half n x other same low = cond-true (nat_lt x half) (pos x) other (lt-ltb x half (omega arith)) ∙ ap pos same

-- a number from half the range on stands for a negative one
stands_below : (half whole n x : ℕ) → x + suc n ≡ whole → half ≤ x
    → (if nat_lt x half then pos x else pos x -ℤ pos whole) ≡ negsuc n
stands_below half whole n x sum high =
    cond-false (nat_lt x half) (pos x) (pos x -ℤ pos whole) (le-ltb x half high) ∙
    (let e : pos x -ℤ pos whole ≡ negsuc n = omega (arith, ints) in e)

signed_8 : SignedBack 8
signed_8 (pos n) low high =
    let less : n < 2 ^ 7 = omega (arith, ints) in
    stands (2 ^ 7) n (n % 2 ^ 8) _ (omega arith) less
signed_8 (negsuc n) low high =
    let less : n < 2 ^ 7 = omega (arith, ints) in
    stands_below (2 ^ 7) (2 ^ 8) n ((2 ^ 64 - suc n) % 2 ^ 8) (omega arith) (omega arith)

signed_16 : SignedBack 16
signed_16 (pos n) low high =
    let less : n < 2 ^ 15 = omega (arith, ints) in
    stands (2 ^ 15) n (n % 2 ^ 16) _ (omega arith) less
signed_16 (negsuc n) low high =
    let less : n < 2 ^ 15 = omega (arith, ints) in
    stands_below (2 ^ 15) (2 ^ 16) n ((2 ^ 64 - suc n) % 2 ^ 16) (omega arith) (omega arith)

signed_32 : SignedBack 32
signed_32 (pos n) low high =
    let less : n < 2 ^ 31 = omega (arith, ints) in
    stands (2 ^ 31) n (n % 2 ^ 32) _ (omega arith) less
signed_32 (negsuc n) low high =
    let less : n < 2 ^ 31 = omega (arith, ints) in
    stands_below (2 ^ 31) (2 ^ 32) n ((2 ^ 64 - suc n) % 2 ^ 32) (omega arith) (omega arith)

signed_64 : SignedBack 64
signed_64 (pos n) low high =
    let less : n < 2 ^ 63 = omega (arith, ints) in
    stands (2 ^ 63) n (n % 2 ^ 64) _ (omega arith) less
signed_64 (negsuc n) low high =
    let less : n < 2 ^ 63 = omega (arith, ints) in
    stands_below (2 ^ 63) (2 ^ 64) n ((2 ^ 64 - suc n) % 2 ^ 64) (omega arith) (omega arith)

signed_back : (bits : ℕ) → IsTrue (is_width bits) → SignedBack bits
signed_back = by_width SignedBack signed_8 signed_16 signed_32 signed_64

abbrev UnsignedBack : ℕ → Type 0
UnsignedBack bits = (value : ℤ) → pos 0 ≤ℤ value → value <ℤ pos (2 ^ bits)
    → pos (cast_unsigned w64 value % 256 ^ (bits / 8)) ≡ value

unsigned_8 : UnsignedBack 8
unsigned_8 (pos n) low high =
    let less : n < 2 ^ 8 = omega (arith, ints) in
    ap pos (let e : n % 2 ^ 8 ≡ n = omega arith in e)
unsigned_8 (negsuc n) low high = absurd (omega (arith, ints))

unsigned_16 : UnsignedBack 16
unsigned_16 (pos n) low high =
    let less : n < 2 ^ 16 = omega (arith, ints) in
    ap pos (let e : n % 2 ^ 16 ≡ n = omega arith in e)
unsigned_16 (negsuc n) low high = absurd (omega (arith, ints))

unsigned_32 : UnsignedBack 32
unsigned_32 (pos n) low high =
    let less : n < 2 ^ 32 = omega (arith, ints) in
    ap pos (let e : n % 2 ^ 32 ≡ n = omega arith in e)
unsigned_32 (negsuc n) low high = absurd (omega (arith, ints))

unsigned_64 : UnsignedBack 64
unsigned_64 (pos n) low high =
    let less : n < 2 ^ 64 = omega (arith, ints) in
    ap pos (let e : n % 2 ^ 64 ≡ n = omega arith in e)
unsigned_64 (negsuc n) low high = absurd (omega (arith, ints))

unsigned_back : (bits : ℕ) → IsTrue (is_width bits) → UnsignedBack bits
unsigned_back = by_width UnsignedBack unsigned_8 unsigned_16 unsigned_32 unsigned_64

-- the bytes of a number that was written, as a number
written_big : (bits place : ℕ) (bytes : List ℕ) (value : ℤ) → (place + 1) * (bits / 8) ≤ length bytes
    → big (number_bytes (bits / 8) place (with_number bytes bits place value))
    ≡ cast_unsigned w64 value % 256 ^ (bits / 8)
written_big bits place bytes value room =
    ap big (written_number (bits / 8) place (cast_unsigned w64 value) bytes (omega arith)) ∙ big-bytes (bits / 8)
    (cast_unsigned w64 value)

-- what was written is read back as a signed number
pub signed_reads_back : (bits place : ℕ) (bytes now : List ℕ) (value : ℤ) → IsTrue (is_width bits)
    → (place + 1) * (bits / 8) ≤ length bytes → now ≡ with_number bytes bits place value
    → neg_ℤ (pos (2 ^ (bits - 1))) ≤ℤ value → value <ℤ pos (2 ^ (bits - 1)) → number_at now bits true place ≡ value
signed_reads_back bits place bytes now value known room written low high =
    ap (λ xs. number_at xs bits true place) written ∙ ap (twos_complement (bits / 8))
    (written_big bits place bytes value room) ∙ signed_back bits known value low high

-- what was written is read back as an unsigned number
pub unsigned_reads_back : (bits place : ℕ) (bytes now : List ℕ) (value : ℤ) → IsTrue (is_width bits)
    → (place + 1) * (bits / 8) ≤ length bytes → now ≡ with_number bytes bits place value
    → value <ℤ pos (2 ^ bits) → pos 0 ≤ℤ value → number_at now bits false place ≡ value
unsigned_reads_back bits place bytes now value known room written high low =
    ap (λ xs. number_at xs bits false place) written ∙ ap pos (written_big bits place bytes value room) ∙ unsigned_back
    bits known value low high
