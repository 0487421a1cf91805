-- How great the parts of a visibility can be.
use Rattle.std.proofs.Common.{◌≡◌, ℕ, suc, ◌+◌, ◌-◌, ◌*◌, ◌^◌, ◌<◌, ◌≤◌, ℤ, pos, ◌+ℤ◌, ◌-ℤ◌, ◌*ℤ◌, Bool, true, false, nat_lt, if◌then◌else◌, List, [], ◌∷◌, Option, Some, None, IfSome, All, length, map, drop, zip, slice_index, slice_range, refl, sym, ap, subst, ◌∙◌, inl, inr, arith, length-take, length-drop, mul-le-mul, mul-le-mul_right, get_or}
use Rattle.std.specs.Int.RustNames.{unsigned_abs}
use Rattle.std.proofs.lemmas.Bool.{cases_lt, ltb-true, ltb-false}
use Rattle.std.proofs.lemmas.Int.{ints, unsigned_abs-mul}
use Rattle.std.proofs.lemmas.List.{get_or_past, length-map}
use Rattle.std.proofs.lemmas.List.Elements.{All-cons, All-drop, All-get_or, All-head, All-map, All-nil, All-tail, All-take}
use Rattle.std.proofs.lemmas.Slice.Zip.{length-zip}
use Rattle.corr_model.specs.declared.plan.Plan.{Plan}
use Rattle.corr_model.specs.Plans.{Fits}
use Rattle.corr_model.specs.Lists.{numbers}
use Rattle.corr_model.specs.Streams.{column, cell}
use Rattle.corr_model.specs.Visibilities.{Complex, none_yet, plus, times_conjugate, signed, total, sample, of_cells, part_of, Lists, part}
use Rattle.corr_model.proofs.CountedLists.{length-numbers}
use Rattle.corr_model.proofs.SumLaws.{total_append, none_plus}

abbrev Cell : Type 0
Cell = Option (List ℕ)

-- neither part is greater in size
record IsSmall (most : ℕ) (x : Complex) : Type 0 where
  real : unsigned_abs x.real ≤ most
  imaginary : unsigned_abs x.imaginary ≤ most

signed_by : (b : ℕ) (t : Bool) → nat_lt b 128 ≡ t → b < 256 → unsigned_abs (if t then pos b else pos b -ℤ pos 256) ≤ 128
signed_by b true e small = let low = ltb-true b 128 e in omega (arith, ints, low)
signed_by b false e small = let high = ltb-false b 128 e in omega (arith, ints, high)

-- a signed byte is at most 128 in size
signed_small : (b : ℕ) → b < 256 → unsigned_abs (signed b) ≤ 128
signed_small b small = signed_by b (nat_lt b 128) refl small

abs_sum : (a b : ℤ) (m n : ℕ) → unsigned_abs a ≤ m → unsigned_abs b ≤ n → unsigned_abs (a +ℤ b) ≤ m + n
abs_sum a b m n h k = omega (arith, ints)

abs_difference : (a b : ℤ) (m n : ℕ) → unsigned_abs a ≤ m → unsigned_abs b ≤ n → unsigned_abs (a -ℤ b) ≤ m + n
abs_difference a b m n h k = omega (arith, ints)

abs_product : (a b : ℤ) → unsigned_abs a ≤ 128 → unsigned_abs b ≤ 128 → unsigned_abs (a *ℤ b) ≤ 2 ^ 14
abs_product a b h k =
    let within : unsigned_abs a * unsigned_abs b ≤ 128 * 128 = mul-le-mul h k in rw (unsigned_abs-mul a b) within

product_small : (x y : Complex) → IsSmall 128 x → IsSmall 128 y → IsSmall (2 ^ 15) (times_conjugate x y)
product_small x y first second = record {
  real = abs_sum (x.real *ℤ y.real) (x.imaginary *ℤ y.imaginary) (2 ^ 14) (2 ^ 14)
      (abs_product x.real y.real first.real second.real)
      (abs_product x.imaginary y.imaginary first.imaginary second.imaginary);
  imaginary = abs_difference (x.imaginary *ℤ y.real) (x.real *ℤ y.imaginary) (2 ^ 14) (2 ^ 14)
      (abs_product x.imaginary y.real first.imaginary second.real)
      (abs_product x.real y.imaginary first.real second.imaginary);
}

plus_small : (x y : Complex) (m n : ℕ) → IsSmall m x → IsSmall n y → IsSmall (m + n) (plus x y)
plus_small x y m n first second = record {
  real = abs_sum x.real y.real m n first.real second.real;
  imaginary = abs_sum x.imaginary y.imaginary m n first.imaginary second.imaginary;
}

none_small : (m : ℕ) → IsSmall m none_yet
none_small m = record { real = omega arith; imaginary = omega arith }

IsSmall-more : (m n : ℕ) (x : Complex) → m ≤ n → IsSmall m x → IsSmall n x
IsSmall-more m n x more small =
    record { real = let h = small.real in omega arith; imaginary = let h = small.imaginary in omega arith }

-- a sum of small numbers
total_small : (m : ℕ) (xs : List Complex) → All (IsSmall m) xs → IsSmall (length xs * m) (total xs)
total_small m [] each = none_small (0 * m)
total_small m (x ∷ xs) each =
    let here = All-head (IsSmall m) x xs each in
    let rest = total_small m xs (All-tail (IsSmall m) x xs each) in
    let split : total (x ∷ xs) ≡ plus x (total xs) =
    total_append (x ∷ []) xs ∙ ap (λ z. plus z (total xs)) (none_plus x) in
    let sum = plus_small x (total xs) m (length xs * m) here rest in
    let grown : m + length xs * m ≡ suc (length xs) * m = grind arith in
    subst (λ n. IsSmall n (total (x ∷ xs))) grown (subst (IsSmall (m + length xs * m)) (sym split) sum)

-- the bytes of a cell, where there is one
abbrev HasBytes : Cell → Type 0
HasBytes cell = IfSome cell (All (λ b. b < 256))

-- each byte read is below 256, past the end too
pub byte_read : (bytes : List ℕ) (k : ℕ) → All (λ b. b < 256) bytes → slice_index bytes k < 256
byte_read bytes k each = elim (cases_lt k (length bytes)) [
  | inl within ↦ All-get_or (λ b. b < 256) bytes k 0 within each
  | inr past ↦ let zeroth = get_or_past bytes k 0 past in omega (arith, zeroth)
]

sample_small : (plan : Plan) (bytes : List ℕ) (c s p : ℕ) → All (λ b. b < 256) bytes
    → IsSmall 128 (sample plan bytes c s p)
sample_small plan bytes c s p each =
    let at = 2 * (2 * (plan.spectra * c + s) + p) in
    record {
      real = signed_small (slice_index bytes at) (byte_read bytes at each);
      imaginary = signed_small (slice_index bytes (at + 1)) (byte_read bytes (at + 1) each);
    }

of_cells_small : (plan : Plan) (c p q : ℕ) (x y : Cell) → HasBytes x → HasBytes y
    → IsSmall (plan.spectra * 2 ^ 15) (of_cells plan c p q x y)
of_cells_small plan c p q None y first second = none_small (plan.spectra * 2 ^ 15)
of_cells_small plan c p q (Some x) None first second = none_small (plan.spectra * 2 ^ 15)
of_cells_small plan c p q (Some x) (Some y) first second =
    let value : ℕ → Complex = λ s. times_conjugate (sample plan x c s p) (sample plan y c s q) in
    let each : All (IsSmall (2 ^ 15)) (map value (numbers 0 plan.spectra))
    = All-map (IsSmall (2 ^ 15)) value (numbers 0 plan.spectra)
    (λ k d h. product_small (sample plan x c (get_or (numbers 0 plan.spectra) k d) p)
    (sample plan y c (get_or (numbers 0 plan.spectra) k d) q)
    (sample_small plan x c (get_or (numbers 0 plan.spectra) k d) p first)
    (sample_small plan y c (get_or (numbers 0 plan.spectra) k d) q second)) in
    let long = length-map (numbers 0 plan.spectra) value ∙ length-numbers 0 plan.spectra in
    subst (λ n. IsSmall (n * 2 ^ 15) (total (map value (numbers 0 plan.spectra)))) long
    (total_small (2 ^ 15) (map value (numbers 0 plan.spectra)) each)

abbrev BothHaveBytes : Cell × Cell → Type 0
BothHaveBytes cells = HasBytes cells.0 × HasBytes cells.1

zip_bytes : (x y : List Cell) → All HasBytes x → All HasBytes y → All BothHaveBytes (zip x y)
zip_bytes [] y first second = All-nil BothHaveBytes
zip_bytes (x ∷ xs) [] first second = All-nil BothHaveBytes
zip_bytes (x ∷ xs) (y ∷ ys) first second =
    All-cons BothHaveBytes (x, y) (zip xs ys) (All-head HasBytes x xs first, All-head HasBytes y ys second)
    (zip_bytes xs ys (All-tail HasBytes x xs first) (All-tail HasBytes y ys second))

-- any range of two columns of bytes
part_of_small : (plan : Plan) (x y : List Cell) (c p q from to : ℕ) → All HasBytes x → All HasBytes y
    → length x ≤ plan.heaps
    → IsSmall (plan.heaps * (plan.spectra * 2 ^ 15)) (part_of plan x y c p q from to)
part_of_small plan x y c p q from to first second short =
    let most = plan.spectra * 2 ^ 15 in
    let value : Cell × Cell → Complex = λ cells. of_cells plan c p q cells.0 cells.1 in
    let cells = slice_range (zip x y) from to in
    let both = All-take BothHaveBytes (to - from) (drop from (zip x y))
    (All-drop BothHaveBytes from (zip x y) (zip_bytes x y first second)) in
    let each : All (IsSmall most) (map value cells) =
    All-map (IsSmall most) value cells
    (λ k d h. let its = both k d h in of_cells_small plan c p q (get_or cells k d).0 (get_or cells k d).1
    its.0 its.1) in
    let few : length (map value cells) ≤ plan.heaps =
    omega (
      arith,
      length-map cells value,
      length-take (to - from) (drop from (zip x y)),
      length-drop from (zip x y),
      length-zip x y,
    ) in
    let within : length (map value cells) * most ≤ plan.heaps * most = mul-le-mul_right most few in
    IsSmall-more (length (map value cells) * most) (plan.heaps * most) (total (map value cells)) within
    (total_small most (map value cells) each)

most_of_all : (heaps spectra : ℕ) → heaps ≤ 4096 → spectra ≤ 4096 → heaps * (spectra * 2 ^ 15) ≤ 2 ^ 39
most_of_all heaps spectra h s =
    let inner : spectra * 2 ^ 15 ≤ 4096 * 2 ^ 15 = omega arith in
    mul-le-mul h inner

-- each part of a value is at most 2^39 in size, where the cells are bytes
pub part_small : (plan : Plan) (lists : Lists) (n i j c p q from to : ℕ) → Fits plan
    → All HasBytes (column plan i (lists i) n) → All HasBytes (column plan j (lists j) n)
    → (unsigned_abs (part plan lists n i j c p q from to).real ≤ 2 ^ 39)
    × (unsigned_abs (part plan lists n i j c p q from to).imaginary ≤ 2 ^ 39)
part_small plan lists n i j c p q from to fits first second =
    let x = column plan i (lists i) n in
    let long = length-map (numbers 0 plan.heaps) (cell plan i (lists i) n) ∙ length-numbers 0 plan.heaps in
    let small = part_of_small plan x (column plan j (lists j) n) c p q from to first second (omega (arith, long)) in
    let most = most_of_all plan.heaps plan.spectra fits.ranges.shape.heaps.most_met
    fits.ranges.shape.spectra.most_met in
    let real = small.real in
    let imaginary = small.imaginary in
    (omega (arith, most, real), omega (arith, most, imaginary))
