-- Sizes of sums and of products.
use Rattle.std.proofs.Common.{◌≡◌, ℕ, suc, ◌+◌, ◌*◌, ◌^◌, ◌≤◌, lit≤, ℤ, pos, negsuc, ◌+ℤ◌, ◌-ℤ◌, ◌*ℤ◌, ◌++◌, [], ◌∷◌, List, map, arith, ap, ◌∙◌, sym}
use Rattle.std.specs.Int.RustNames.{unsigned_abs}
use Rattle.std.proofs.lemmas.Int.{ints, unsigned_abs-mul}
use Rattle.std.proofs.lemmas.Nat.{mul-le}
use Rattle.std.proofs.lemmas.List.Sums.{fold_push}
use mir.Syntax.{w32}
use mir.Val.{SFits, to_z, of_z}
use Rattle.std.proofs.lemmas.List.{map-append}
use Rattle.corr_model.specs.declared.plan.Plan.{Plan}
use Rattle.corr_model.specs.Lists.{numbers}
use Rattle.corr_model.specs.Visibilities.{Complex, plus, none_yet, total, times_conjugate, sample}
use Rattle.corr_model.proofs.CountedLists.{numbers_push}
use Rattle.vis_kernel.specs.Sizes.{complex_of, IsUpTo, IsSmall}
use Rattle.vis_kernel.specs.declared.products.Value.{Value}

-- a complex number of the same parts is the same
pub of_parts : (a b c d : ℤ) → a ≡ c → b ≡ d
    → (let x : Complex = record { real = a; imaginary = b } in let y : Complex =
    record { real = c; imaginary = d } in x ≡ y)
of_parts a b c d p q = cc

size_of : (z : ℤ) (n : ℕ) → IsUpTo z n → unsigned_abs z ≤ n
size_of (pos k) n h = let high = h.high in omega (arith, ints)
size_of (negsuc k) n h = let low = h.low in omega (arith, ints)

of_size : (z : ℤ) (n : ℕ) → unsigned_abs z ≤ n → IsUpTo z n
of_size (pos k) n h = record { low = omega (arith, ints); high = omega (arith, ints) }
of_size (negsuc k) n h = record { low = omega (arith, ints); high = omega (arith, ints) }

-- the size of a product
pub product_up_to : (a b : ℤ) (m n : ℕ) → IsUpTo a m → IsUpTo b n → IsUpTo (a *ℤ b) (m * n)
product_up_to a b m n h k =
    let size = mul-le (unsigned_abs a) (unsigned_abs b) m n (size_of a m h) (size_of b n k) in
    of_size (a *ℤ b) (m * n) (omega (arith, unsigned_abs-mul a b, size))

-- what is passed to a call and comes back is the same
pub kept : (z : ℤ) (n : ℕ) → IsUpTo z n → n ≤ 2 ^ 29 → to_z w32 (of_z w32 z) ≡ z
kept z n h short = let low = h.low in let high = h.high in omega (arith, ints)

pub kept_product : (a b : ℤ) → IsUpTo a 128 → IsUpTo b 128 → to_z w32 (of_z w32 a) *ℤ to_z w32 (of_z w32 b) ≡ a *ℤ b
kept_product a b h k =
    ap (λ u. u *ℤ to_z w32 (of_z w32 b)) (kept a 128 h (lit≤ tt)) ∙ ap (λ v. a *ℤ v) (kept b 128 k (lit≤ tt))

-- the sum of two products of samples
pub kept_sum : (a b u v : ℤ) → a ≡ u → b ≡ v → IsUpTo a 16384 → IsUpTo b 16384
    → to_z w32 (of_z w32 (to_z w32 (of_z w32 a) +ℤ to_z w32 (of_z w32 b))) ≡ u +ℤ v
kept_sum a b u v e f h k = let l = h.low in let m = h.high in let n = k.low in let o = k.high in omega (arith, ints)

-- the difference of two products of samples
pub kept_difference : (a b u v : ℤ) → a ≡ u → b ≡ v → IsUpTo a 16384 → IsUpTo b 16384
    → to_z w32 (of_z w32 (to_z w32 (of_z w32 a) -ℤ to_z w32 (of_z w32 b))) ≡ u -ℤ v
kept_difference a b u v e f h k =
    let l = h.low in let m = h.high in let n = k.low in let o = k.high in omega (arith, ints)

pub difference_fits : (a b : ℤ) → IsUpTo a 16384 → IsUpTo b 16384
    → SFits w32 (to_z w32 (of_z w32 a) -ℤ to_z w32 (of_z w32 b))
difference_fits a b h k = let l = h.low in let m = h.high in let n = k.low in let o = k.high in omega (arith, ints)

pub sum_up_to : (a b : ℤ) → IsUpTo a 16384 → IsUpTo b 16384
    → IsUpTo (to_z w32 (of_z w32 (to_z w32 (of_z w32 a) +ℤ to_z w32 (of_z w32 b)))) 32768
sum_up_to a b h k = let l =
    h.low in let m = h.high in let n = k.low in let o =
    k.high in record { low = omega (arith, ints); high = omega (arith, ints) }

pub difference_up_to : (a b : ℤ) → IsUpTo a 16384 → IsUpTo b 16384
    → IsUpTo (to_z w32 (of_z w32 (to_z w32 (of_z w32 a) -ℤ to_z w32 (of_z w32 b)))) 32768
difference_up_to a b h k =
    let l = h.low in let m = h.high in let n = k.low in let o =
    k.high in record { low = omega (arith, ints); high = omega (arith, ints) }

-- zero, and a wider bound
pub zero_up_to : (size : ℕ) → IsUpTo (pos 0) size
zero_up_to size = record { low = omega (arith, ints); high = omega (arith, ints) }

pub wider_up_to : (z : ℤ) (m n : ℕ) → m ≤ n → IsUpTo z m → IsUpTo z n
wider_up_to z m n le h =
    let low = h.low in let high = h.high in record { low = omega (arith, ints); high = omega (arith, ints) }

-- one more term
pub total_push : (f : ℕ → Complex) (s : ℕ)
    → total (map f (numbers 0 (s + 1))) ≡ plus (total (map f (numbers 0 s))) (f s)
total_push f s =
    let next : s + 1 ≡ suc s = omega arith in
    let same : 0 + s ≡ s = omega arith in
    ap (λ n. total (map f (numbers 0 n))) next ∙ ap (λ ks. total (map f ks)) (numbers_push 0 s) ∙ ap
    (λ k. total (map f (numbers 0 s ++ k ∷ []))) same
    ∙ ap total (map-append f (numbers 0 s) (s ∷ []))
    ∙ fold_push plus none_yet (map f (numbers 0 s)) (f s)

-- the product at a spectrum
abbrev pub product_at : Plan → List ℕ → List ℕ → ℕ → ℕ → ℕ → ℕ → Complex
product_at plan x y c p q s = times_conjugate (sample plan x c s p) (sample plan y c s q)

-- the sum over the first spectra
pub record SummedSpectra (plan : Plan) (x y : List ℕ) (c p q s : ℕ) (sum : Value) : Type 0 where
  pub value : complex_of sum ≡ total (map (product_at plan x y c p q) (numbers 0 s))
  pub small : IsSmall sum (s * 32768)

-- a sum of a small value and a product
pub plus_small : (sum more now : Value) (size step : ℕ) → complex_of now ≡ plus (complex_of sum) (complex_of more)
    → IsSmall sum size → IsSmall more step → IsSmall now (size + step)
plus_small sum more now size step e h k =
    let real : now.real ≡ sum.real +ℤ more.real = ap (λ z. z.real) e in
    let imaginary : now.imaginary ≡ sum.imaginary +ℤ more.imaginary = ap (λ z. z.imaginary) e in
    let a = h.real in
    let b = h.imaginary in
    let c = k.real in
    let d = k.imaginary in
    record {
      real = record { low = omega (arith, ints); high = omega (arith, ints) };
      imaginary = record { low = omega (arith, ints); high = omega (arith, ints) };
    }

-- a wider bound
pub wider : (v : Value) (m n : ℕ) → m ≤ n → IsSmall v m → IsSmall v n
wider v m n le h =
    let a = h.real in
    let b = h.imaginary in
    record {
      real = record { low = omega (arith, ints); high = omega (arith, ints) };
      imaginary = record { low = omega (arith, ints); high = omega (arith, ints) };
    }

-- one more spectrum
pub summed_more : (plan : Plan) (x y : List ℕ) (c p q s : ℕ) (sum product now first second : Value)
    → SummedSpectra plan x y c p q s sum
    → complex_of first ≡ sample plan x c s p → complex_of second ≡ sample plan y c s q
    → complex_of product ≡ times_conjugate (complex_of first) (complex_of second) → IsSmall product 32768
    → complex_of now ≡ plus (complex_of sum) (complex_of product)
    → SummedSpectra plan x y c p q (s + 1) now
summed_more plan x y c p q s sum product now first second before ef es ep small en =
    let grown : s * 32768 + 32768 ≡ (s + 1) * 32768 = omega arith in
    record {
      value =
          en ∙ ap (λ z. plus z (complex_of product)) before.value ∙ ap
          (λ z. plus (total (map (product_at plan x y c p q) (numbers 0 s))) z)
          (ep ∙ ap (λ z. times_conjugate z (complex_of second)) ef ∙ ap
          (λ z. times_conjugate (sample plan x c s p) z) es)
          ∙ sym (total_push (product_at plan x y c p q) s);
      small = wider now (s * 32768 + 32768) ((s + 1) * 32768) (omega arith)
          (plus_small sum product now (s * 32768) 32768 en before.small small);
    }
