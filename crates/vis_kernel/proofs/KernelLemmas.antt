-- The sums of one baseline, a channel or a timestamp at a time.
use Rattle.std.proofs.Common.{◌≡◌, ℕ, zero, suc, ◌+◌, ◌-◌, ◌*◌, ◌^◌, ◌<◌, ◌≤◌, ℤ, pos, ◌+ℤ◌, Bool, true, false, ◌||◌, cond, List, [], ◌∷◌, ◌++◌, length, take, drop, map, get_or, zip, slice_range, slice_set, count_by, flat_map, Option, Some, None, is_none, refl, sym, ap, ap₂, ◌∙◌, subst, arith, mul-le-mul_right, add-zero, add_assoc}
use Rattle.std.proofs.lemmas.Int.{ints}
use Rattle.std.proofs.lemmas.List.{append-nil}
use Rattle.std.proofs.lemmas.List.Concat.{flat_map-append}
use Rattle.std.proofs.lemmas.List.Elements.{All-cons, All-nil, All-append}
use Rattle.std.proofs.lemmas.List.Sums.{sum_by-append, sum_by-cons}
use Rattle.std.proofs.lemmas.Slice.Zip.{get_or-zip, length-zip}
use Rattle.corr_model.specs.declared.plan.Plan.{Plan}
use Rattle.corr_model.specs.Lists.{numbers}
use Rattle.corr_model.specs.Visibilities.{Complex, none_yet, plus, total, of_cells, part_of}
use Rattle.corr_model.proofs.CountedLists.{length-numbers, numbers_push, length-flat_map_even}
use Rattle.corr_model.proofs.SumLaws.{none_plus, range_split, parts_of_add}
use Rattle.vis_kernel.specs.declared.products.Value.{Value}
use Rattle.vis_kernel.specs.declared.products.Products.{Products}
use Rattle.vis_kernel.specs.Sizes.{complex_of, IsUpTo, AreUpTo, IsSmall, AreSmall, ArePartsOf, eight_parts}
use Rattle.vis_kernel.specs.Kernels.{two_parts, add_sums, zeros, four_products, cell_values, baseline_values, missing_in, add_at}
use Rattle.vis_kernel.proofs.SumLemmas.{wider, wider_up_to, zero_up_to}
use Rattle.vis_shape.proofs.AddLemmas.{AddedFront, front_none, front_more, front_up_to, front_all, front_long, length-add_sums, add_sums-append, add_sums-assoc, add_sums-up_to}

abbrev Cell : Type 0
Cell = Option (List ℕ)

-- ---- two and eight numbers

-- two numbers written one after the other
pub two_set : (xs : List ℤ) (a b u v : ℤ) → length xs ≡ 2 → a ≡ get_or xs 0 (pos 0) +ℤ u → b ≡ get_or xs 1 (pos 0) +ℤ v
    → slice_set (slice_set xs 0 a) 1 b ≡ add_sums xs (u ∷ v ∷ [])
two_set [] a b u v long ea eb = absurd (omega arith)
two_set (x ∷ []) a b u v long ea eb = absurd (omega arith)
two_set (x ∷ y ∷ []) a b u v long ea eb = ap₂ (λ p q. p ∷ q ∷ []) ea eb
two_set (x ∷ y ∷ z ∷ rest) a b u v long ea eb = absurd (omega arith)

abbrev eight_of : Complex → Complex → Complex → Complex → List ℤ
eight_of a b c d = a.real ∷ a.imaginary ∷ b.real ∷ b.imaginary ∷ c.real ∷ c.imaginary ∷ d.real ∷ d.imaginary ∷ []

pub four_same : (f g : ℕ → ℕ → Complex) → f 0 0 ≡ g 0 0 → f 0 1 ≡ g 0 1 → f 1 0 ≡ g 1 0 → f 1 1 ≡ g 1 1
    → four_products f ≡ four_products g
four_same f g xx xy yx yy =
    ap₂ (λ a b. eight_of a b (f 1 0) (f 1 1)) xx xy ∙ ap₂ (λ c d. eight_of (g 0 0) (g 0 1) c d) yx yy

pub eight_is : (v : Products) (size : ℕ) (f : ℕ → ℕ → Complex) → ArePartsOf v size f → eight_parts v ≡ four_products f
eight_is v size f h =
    ap₂ (λ a b. eight_of a b (complex_of v.yx) (complex_of v.yy)) h.xx h.xy ∙ ap₂
    (λ c d. eight_of (f 0 0) (f 0 1) c d) h.yx h.yy

parts_on : (x : Value) (rest : List ℤ) (size : ℕ) → IsSmall x size → AreUpTo rest size
    → AreUpTo (x.real ∷ x.imaginary ∷ rest) size
parts_on x rest size h more =
    let P : ℤ → Type 0 = λ z. IsUpTo z size in
    All-cons P x.real (x.imaginary ∷ rest) h.real (All-cons P x.imaginary rest h.imaginary more)

pub eight_up_to : (v : Products) (size : ℕ) → AreSmall v size → AreUpTo (eight_parts v) size
eight_up_to v size h =
    let d = parts_on v.yy [] size h.yy (All-nil (λ z. IsUpTo z size)) in
    let c = parts_on v.yx (two_parts (complex_of v.yy)) size h.yx d in
    let b = parts_on v.xy (two_parts (complex_of v.yx) ++ two_parts (complex_of v.yy)) size h.xy c in
    parts_on v.xx (two_parts (complex_of v.xy) ++ (two_parts (complex_of v.yx) ++ two_parts (complex_of v.yy))) size
    h.xx b

pub are_small_more : (v : Products) (m n : ℕ) → m ≤ n → AreSmall v m → AreSmall v n
are_small_more v m n le h =
    record {
      xx = wider v.xx m n le h.xx;
      xy = wider v.xy m n le h.xy;
      yx = wider v.yx m n le h.yx;
      yy = wider v.yy m n le h.yy;
    }

-- one block more, as a call writes it
pub next_front : (old now after ws w : List ℤ) → AddedFront old now ws → length ws + length w ≤ length old
    → after ≡ add_at (length ws) (length w) now w → AddedFront old after (ws ++ w)
next_front old now after ws w h room e =
    subst (λ zs. AddedFront old zs (ws ++ w)) (sym e)
    (front_more old now ws (add_sums (take (length w) (drop (length ws) now)) w) w h room refl)

abbrev two_of : Value → List ℤ
two_of v = two_parts (complex_of v)

pub first_front : (xs o : List ℤ) (v : Products) → length xs ≡ 8 → o ≡ add_at 0 2 xs (two_of v.xx)
    → AddedFront xs o (two_of v.xx)
first_front xs o v long e = next_front xs xs o [] (two_of v.xx) (front_none xs) (omega arith) e

pub second_front : (xs o after : List ℤ) (v : Products) → length xs ≡ 8 → o ≡ add_at 0 2 xs (two_of v.xx)
    → after ≡ add_at 2 2 o (two_of v.xy) → AddedFront xs after (two_of v.xx ++ two_of v.xy)
second_front xs o after v long e f =
    next_front xs o after (two_of v.xx) (two_of v.xy) (first_front xs o v long e) (omega arith) f

pub third_front : (xs o after last : List ℤ) (v : Products) → length xs ≡ 8 → o ≡ add_at 0 2 xs (two_of v.xx)
    → after ≡ add_at 2 2 o (two_of v.xy) → last ≡ add_at 4 2 after (two_of v.yx)
    → AddedFront xs last (two_of v.xx ++ two_of v.xy ++ two_of v.yx)
third_front xs o after last v long e f g =
    next_front xs after last (two_of v.xx ++ two_of v.xy) (two_of v.yx) (second_front xs o after v long e f)
    (omega arith) g

pub all_eight : (xs o after last all : List ℤ) (v : Products) → length xs ≡ 8 → o ≡ add_at 0 2 xs (two_of v.xx)
    → after ≡ add_at 2 2 o (two_of v.xy) → last ≡ add_at 4 2 after (two_of v.yx) → all ≡ add_at 6 2 last (two_of v.yy)
    → all ≡ add_sums xs (eight_parts v)
all_eight xs o after last all v long e f g h =
    front_all xs all (eight_parts v)
    (next_front xs last all (two_of v.xx ++ two_of v.xy ++ two_of v.yx) (two_of v.yy)
    (third_front xs o after last v long e f g) (omega arith) h) (sym long)

-- ---- channels

abbrev pub channel_cells : Plan → List ℕ → List ℕ → ℕ → List ℤ
channel_cells plan x y c = four_products (λ p q. of_cells plan c p q (Some x) (Some y))

-- the products of the first channels were added
pub record AddedCells (plan : Plan) (x y : List ℕ) (old now : List ℤ) (c : ℕ) : Type 0 where
  pub front : AddedFront old now (flat_map (channel_cells plan x y) (numbers 0 c))
  pub small : AreUpTo (flat_map (channel_cells plan x y) (numbers 0 c)) (plan.spectra * 2 ^ 15)

length-channels : (plan : Plan) (x y : List ℕ) (c : ℕ)
    → length (flat_map (channel_cells plan x y) (numbers 0 c)) ≡ 8 * c
length-channels plan x y c =
    let even = length-flat_map_even (channel_cells plan x y) 8 (λ k. refl) (numbers 0 c) in
    let few = ap (λ n. n * 8) (length-numbers 0 c) in
    omega (arith, even, few)

channels_push : (plan : Plan) (x y : List ℕ) (c : ℕ)
    → flat_map (channel_cells plan x y) (numbers 0 (c + 1))
    ≡ flat_map (channel_cells plan x y) (numbers 0 c) ++ channel_cells plan x y c
channels_push plan x y c =
    let next : c + 1 ≡ suc c = omega arith in
    let same : 0 + c ≡ c = omega arith in
    let f = channel_cells plan x y in
    ap (λ n. flat_map f (numbers 0 n)) next ∙ ap (flat_map f) (numbers_push 0 c) ∙ ap
    (λ k. flat_map f (numbers 0 c ++ k ∷ [])) same
    ∙ flat_map-append f (numbers 0 c) (c ∷ []) ∙ ap (λ r. flat_map f (numbers 0 c) ++ r) (append-nil (f c))

pub cells_none : (plan : Plan) (x y : List ℕ) (old : List ℤ) → AddedCells plan x y old old 0
cells_none plan x y old = record { front = front_none old; small = All-nil (λ z. IsUpTo z (plan.spectra * 2 ^ 15)) }

-- the eight places of the next channel hold small numbers
pub cells_next : (plan : Plan) (x y : List ℕ) (old now : List ℤ) (c size : ℕ) → AddedCells plan x y old now c
    → AreUpTo old size → AreUpTo (take 8 (drop (8 * c) now)) size
cells_next plan x y old now c size h small =
    let ws = flat_map (channel_cells plan x y) (numbers 0 c) in
    subst (λ k. AreUpTo (take 8 (drop k now)) size) (length-channels plan x y c)
    (front_up_to old now ws 8 size h.front small)

pub cells_room : (plan : Plan) (x y : List ℕ) (old now : List ℤ) (c : ℕ) → AddedCells plan x y old now c
    → length now ≡ length old
cells_room plan x y old now c h = front_long old now (flat_map (channel_cells plan x y) (numbers 0 c)) h.front

-- one more channel
pub cells_more : (plan : Plan) (x y : List ℕ) (old now after : List ℤ) (c : ℕ) (v : Products)
    → AddedCells plan x y old now c → c < plan.channels → length old ≡ 8 * plan.channels
    → ArePartsOf v (plan.spectra * 2 ^ 15) (λ p q. of_cells plan c p q (Some x) (Some y))
    → after ≡ add_at (8 * c) 8 now (eight_parts v)
    → AddedCells plan x y old after (c + 1)
cells_more plan x y old now after c v h less room is e =
    let f = channel_cells plan x y in
    let ws = flat_map f (numbers 0 c) in
    let at : length ws ≡ 8 * c = length-channels plan x y c in
    let w : eight_parts v ≡ f c =
    eight_is v (plan.spectra * 2 ^ 15) (λ p q. of_cells plan c p q (Some x) (Some y)) is in
    let part = add_sums (take 8 (drop (length ws) now)) (f c) in
    let more = front_more old now ws part (f c) h.front (omega (arith, at, room)) refl in
    let same : after ≡ add_at (length ws) 8 now (f c) =
    e ∙ ap (add_at (8 * c) 8 now) w ∙ ap (λ k. add_at k 8 now (f c)) (sym at) in
    let small = subst (λ zs. AreUpTo zs (plan.spectra * 2 ^ 15)) w
    (eight_up_to v (plan.spectra * 2 ^ 15) is.are_small) in
    record {
      front = subst (λ zs. AddedFront old zs (flat_map f (numbers 0 (c + 1)))) (sym same)
          (subst (λ zs. AddedFront old (add_at (length ws) 8 now (f c)) zs) (sym (channels_push plan x y c)) more);
      small = subst (λ zs. AreUpTo zs (plan.spectra * 2 ^ 15)) (sym (channels_push plan x y c))
          (All-append (λ z. IsUpTo z (plan.spectra * 2 ^ 15)) ws (f c) h.small small);
    }

-- all channels
pub cells_all : (plan : Plan) (x y : List ℕ) (old now : List ℤ) (c : ℕ) → AddedCells plan x y old now c
    → c ≡ plan.channels → length old ≡ 8 * plan.channels → now ≡ add_sums old (cell_values plan (Some x) (Some y))
cells_all plan x y old now c h at room =
    let ws = flat_map (channel_cells plan x y) (numbers 0 c) in
    let long = length-channels plan x y c in
    front_all old now ws h.front (omega (arith, long, at, room)) ∙ ap
    (λ k. add_sums old (flat_map (channel_cells plan x y) (numbers 0 k))) at

pub cells_small : (plan : Plan) (x y : List ℕ) (old now : List ℤ) (c : ℕ) → AddedCells plan x y old now c
    → c ≡ plan.channels → AreUpTo (cell_values plan (Some x) (Some y)) (plan.spectra * 2 ^ 15)
cells_small plan x y old now c h at =
    subst (λ k. AreUpTo (flat_map (channel_cells plan x y) (numbers 0 k)) (plan.spectra * 2 ^ 15)) at h.small

-- ---- nothing

pub flat_same : {X : Type 0} (f g : X → List ℤ) (ks : List X) → ((k : X) → f k ≡ g k) → flat_map f ks ≡ flat_map g ks
flat_same f g [] each = refl
flat_same f g (k ∷ ks) each = ap₂ (λ u v. u ++ v) (each k) (flat_same f g ks each)

flat_zeros : (ks : List ℕ) → flat_map (λ k. zeros 8) ks ≡ zeros (8 * length ks)
flat_zeros [] = refl
flat_zeros (k ∷ ks) =
    let grown : 8 * length (k ∷ ks) ≡ suc (suc (suc (suc (suc (suc (suc (suc (8 * length ks)))))))) = omega arith in
    ap (λ r. zeros 8 ++ r) (flat_zeros ks) ∙ sym (ap zeros grown)

pub add_sums-zeros : (xs : List ℤ) → add_sums xs (zeros (length xs)) ≡ xs
add_sums-zeros [] = refl
add_sums-zeros (x ∷ xs) =
    let same : x +ℤ pos 0 ≡ x = omega (arith, ints) in ap₂ (λ u us. u ∷ us) same (add_sums-zeros xs)

zeros_up_to : (n size : ℕ) → AreUpTo (zeros n) size
zeros_up_to zero size = All-nil (λ z. IsUpTo z size)
zeros_up_to (suc n) size = All-cons (λ z. IsUpTo z size) (pos 0) (zeros n) (zero_up_to size) (zeros_up_to n size)

channel_zeros : (f : ℕ → List ℤ) (n : ℕ) → ((k : ℕ) → f k ≡ zeros 8) → flat_map f (numbers 0 n) ≡ zeros (8 * n)
channel_zeros f n each =
    flat_same f (λ k. zeros 8) (numbers 0 n) each ∙ flat_zeros (numbers 0 n) ∙ ap (λ k. zeros (8 * k))
    (length-numbers 0 n)

-- a place without both cells adds nothing
pub nothing_added : (plan : Plan) (x y : Cell) (out : List ℤ)
    → ((k : ℕ) → four_products (λ p q. of_cells plan k p q x y) ≡ zeros 8) → length out ≡ 8 * plan.channels
    → out ≡ add_sums out (cell_values plan x y)
nothing_added plan x y out each room =
    sym (ap (add_sums out)
    (channel_zeros (λ k. four_products (λ p q. of_cells plan k p q x y)) plan.channels each ∙ ap zeros (sym room)) ∙
    add_sums-zeros out)

pub nothing_small : (plan : Plan) (x y : Cell) (size : ℕ)
    → ((k : ℕ) → four_products (λ p q. of_cells plan k p q x y) ≡ zeros 8) → AreUpTo (cell_values plan x y) size
nothing_small plan x y size each =
    subst (λ zs. AreUpTo zs size)
    (sym (channel_zeros (λ k. four_products (λ p q. of_cells plan k p q x y)) plan.channels each))
    (zeros_up_to (8 * plan.channels) size)

pub each_first : (plan : Plan) (x y : Cell) → x ≡ None → (k : ℕ)
    → four_products (λ p q. of_cells plan k p q x y) ≡ zeros 8
each_first plan x y e k = ap (λ o. four_products (λ p q. of_cells plan k p q o y)) e

pub each_second : (plan : Plan) (x y : Cell) → y ≡ None → (k : ℕ)
    → four_products (λ p q. of_cells plan k p q x y) ≡ zeros 8
each_second plan None y e k = refl
each_second plan (Some x) y e k = ap (λ o. four_products (λ p q. of_cells plan k p q (Some x) o)) e

-- ---- timestamps

one_at : {X : Type 0} (xs : List X) (t : ℕ) (d : X) → t < length xs → take 1 (drop t xs) ≡ get_or xs t d ∷ []
one_at [] t d h = absurd (omega arith)
one_at (x ∷ xs) zero d h = refl
one_at (x ∷ xs) (suc t) d h = one_at xs t d (omega arith)

abbrev pair_at : List Cell → List Cell → ℕ → Cell × Cell
pair_at x y t = (get_or x t None, get_or y t None)

range_one : (x y : List Cell) (t : ℕ) → t < length x → t < length y
    → slice_range (zip x y) t (t + 1) ≡ pair_at x y t ∷ []
range_one x y t hx hy =
    let one : t + 1 - t ≡ 1 = omega arith in
    let d : Cell × Cell = (None, None) in
    ap (λ n. take n (drop t (zip x y))) one ∙ one_at (zip x y) t d (omega (arith, length-zip x y)) ∙ ap (λ z. z ∷ [])
    (get_or-zip x y t d hx hy)

part_more : (plan : Plan) (x y : List Cell) (c p q from t : ℕ) → from ≤ t → t < length x → t < length y
    → part_of plan x y c p q from (t + 1)
    ≡ plus (part_of plan x y c p q from t) (of_cells plan c p q (get_or x t None) (get_or y t None))
part_more plan x y c p q from t h hx hy =
    let value : Cell × Cell → Complex = λ cells. of_cells plan c p q cells.0 cells.1 in
    sym (parts_of_add plan x y c p q from t (t + 1) h (omega arith))
    ∙ ap (plus (part_of plan x y c p q from t))
    (ap (λ zs. total (map value zs)) (range_one x y t hx hy) ∙ none_plus (value (pair_at x y t)))

part_none : (plan : Plan) (x y : List Cell) (c p q from : ℕ) → part_of plan x y c p q from from ≡ none_yet
part_none plan x y c p q from =
    let value : Cell × Cell → Complex = λ cells. of_cells plan c p q cells.0 cells.1 in
    let nothing : from - from ≡ 0 = omega arith in
    ap (λ n. total (map value (take n (drop from (zip x y))))) nothing

pub values_more : (f g h : ℕ → List ℤ) (ks : List ℕ) → ((k : ℕ) → h k ≡ add_sums (f k) (g k))
    → ((k : ℕ) → length (f k) ≡ length (g k)) → flat_map h ks ≡ add_sums (flat_map f ks) (flat_map g ks)
values_more f g h [] each even = refl
values_more f g h (k ∷ ks) each even =
    ap₂ (λ u v. u ++ v) (each k) (values_more f g h ks each even) ∙ sym
    (add_sums-append (f k) (g k) (flat_map f ks) (flat_map g ks) (even k))

baseline_more : (plan : Plan) (x y : List Cell) (from t : ℕ) → from ≤ t → t < length x → t < length y
    → baseline_values plan x y from (t + 1)
    ≡ add_sums (baseline_values plan x y from t) (cell_values plan (get_or x t None) (get_or y t None))
baseline_more plan x y from t h hx hy =
    values_more
    (λ c. four_products (λ p q. part_of plan x y c p q from t))
    (λ c. four_products (λ p q. of_cells plan c p q (get_or x t None) (get_or y t None)))
    (λ c. four_products (λ p q. part_of plan x y c p q from (t + 1)))
    (numbers 0 plan.channels)
    (λ c. four_same (λ p q. part_of plan x y c p q from (t + 1))
    (λ p q. plus (part_of plan x y c p q from t) (of_cells plan c p q (get_or x t None) (get_or y t None)))
    (part_more plan x y c 0 0 from t h hx hy) (part_more plan x y c 0 1 from t h hx hy)
    (part_more plan x y c 1 0 from t h hx hy) (part_more plan x y c 1 1 from t h hx hy))
    (λ c. refl)

pub baseline_none : (plan : Plan) (x y : List Cell) (from : ℕ)
    → baseline_values plan x y from from ≡ zeros (8 * plan.channels)
baseline_none plan x y from =
    channel_zeros (λ c. four_products (λ p q. part_of plan x y c p q from from)) plan.channels
    (λ c. four_same (λ p q. part_of plan x y c p q from from) (λ p q. none_yet) (part_none plan x y c 0 0 from)
    (part_none plan x y c 0 1 from) (part_none plan x y c 1 0 from) (part_none plan x y c 1 1 from))

abbrev misses : Cell × Cell → Bool
misses cells = is_none cells.0 || is_none cells.1

missing_more : (x y : List Cell) (from t : ℕ) → from ≤ t → t < length x → t < length y
    → missing_in x y from (t + 1) ≡ missing_in x y from t + cond (misses (pair_at x y t)) 1 0
missing_more x y from t h hx hy =
    ap (count_by misses)
    (range_split (zip x y) from t (t + 1) h (omega arith) ∙ ap (λ r. slice_range (zip x y) from t ++ r)
    (range_one x y t hx hy))
    ∙ sum_by-append (λ z. cond (misses z) 1 0) (slice_range (zip x y) from t) (pair_at x y t ∷ [])
    ∙ ap (λ n. missing_in x y from t + n)
    (sum_by-cons (λ z. cond (misses z) 1 0) (pair_at x y t) [] ∙ add-zero (cond (misses (pair_at x y t)) 1 0))

pub missing_none : (x y : List Cell) (from : ℕ) → missing_in x y from from ≡ 0
missing_none x y from =
    let nothing : from - from ≡ 0 = omega arith in ap (λ n. count_by misses (take n (drop from (zip x y)))) nothing

missing_few : (b : Bool) (m n k : ℕ) → m ≤ n → k ≡ m + cond b 1 0 → k ≤ n + 1
missing_few true m n k h e = omega arith
missing_few false m n k h e = omega arith

-- the sums and the count over the timestamps up to t
pub record Multiplied (plan : Plan) (x y : List Cell) (old now : List ℤ) (from t before missing : ℕ) : Type 0 where
  pub sums : now ≡ add_sums old (baseline_values plan x y from t)
  pub small : AreUpTo (baseline_values plan x y from t) ((t - from) * (plan.spectra * 2 ^ 15))
  pub count : missing ≡ before + missing_in x y from t
  pub few : missing_in x y from t ≤ t - from

pub multiplied_none : (plan : Plan) (x y : List Cell) (old : List ℤ) (from before : ℕ) → length old ≡ 8 * plan.channels
    → Multiplied plan x y old old from from before before
multiplied_none plan x y old from before room = record {
  sums = sym (ap (add_sums old) (baseline_none plan x y from ∙ ap zeros (sym room)) ∙ add_sums-zeros old);
  small = subst (λ zs. AreUpTo zs ((from - from) * (plan.spectra * 2 ^ 15))) (sym (baseline_none plan x y from))
      (zeros_up_to (8 * plan.channels) ((from - from) * (plan.spectra * 2 ^ 15)));
  count = let none = missing_none x y from in omega arith;
  few = let none = missing_none x y from in omega arith;
}

pub multiplied_more : (plan : Plan) (x y : List Cell) (old now after : List ℤ)
    (from t before missing later : ℕ) (u v : Cell)
    → Multiplied plan x y old now from t before missing → from ≤ t → t < length x → t < length y
    → u ≡ get_or x t None → v ≡ get_or y t None → after ≡ add_sums now (cell_values plan u v)
    → AreUpTo (cell_values plan u v) (plan.spectra * 2 ^ 15)
    → later ≡ missing + cond (is_none u || is_none v) 1 0
    → Multiplied plan x y old after from (t + 1) before later
multiplied_more plan x y old now after from t before missing later u v i h hx hy eu ev e small el =
    let ws = cell_values plan (get_or x t None) (get_or y t None) in
    let same : cell_values plan u v ≡ ws = ap₂ (cell_values plan) eu ev in
    let step = baseline_more plan x y from t h hx hy in
    let more = missing_more x y from t h hx hy in
    let one : cond (is_none u || is_none v) 1 0 ≡ cond (misses (pair_at x y t)) 1 0 =
    ap₂ (λ a b. cond (is_none a || is_none b) 1 0) eu ev in
    let count = i.count in
    let few = i.few in
    let size = plan.spectra * 2 ^ 15 in
    let grown : (t - from) * size + size ≡ (t + 1 - from) * size = let next : t + 1 - from ≡ suc (t - from) =
    omega arith in rw next (grind arith) in
    record {
      sums = e ∙ ap₂ add_sums i.sums same ∙ add_sums-assoc old (baseline_values plan x y from t) ws ∙ ap
          (add_sums old) (sym step);
      small = subst (λ zs. AreUpTo zs ((t + 1 - from) * size)) (sym step)
          (subst (λ n. AreUpTo (add_sums (baseline_values plan x y from t) ws) n) grown
          (add_sums-up_to (baseline_values plan x y from t) ws ((t - from) * size) size i.small
          (subst (λ zs. AreUpTo zs size) same small)));
      count = el ∙ ap₂ (λ m b. m + b) count one ∙ add_assoc before (missing_in x y from t)
          (cond (misses (pair_at x y t)) 1 0) ∙ ap (λ m. before + m) (sym more);
      few = let f = missing_few (misses (pair_at x y t)) (missing_in x y from t) (t - from)
          (missing_in x y from (t + 1)) few more in omega arith;
    }

up_to_more : (xs : List ℤ) (m n : ℕ) → m ≤ n → AreUpTo xs m → AreUpTo xs n
up_to_more xs m n le h = λ k d inside. wider_up_to (get_or xs k d) m n le (h k d inside)

-- what stands so far is small enough for a place more
pub still_small : (plan : Plan) (x y : List Cell) (old now : List ℤ) (from t before missing : ℕ)
    → Multiplied plan x y old now from t before missing → t - from ≤ 4096 → plan.spectra ≤ 4096 → AreUpTo old (2 ^ 55)
    → AreUpTo now (2 ^ 56)
still_small plan x y old now from t before missing i few spectra small =
    let most : (t - from) * (plan.spectra * 2 ^ 15) ≤ 4096 * (plan.spectra * 2 ^ 15) =
    mul-le-mul_right (plan.spectra * 2 ^ 15) few in
    subst (λ zs. AreUpTo zs (2 ^ 56)) (sym i.sums)
    (up_to_more (add_sums old (baseline_values plan x y from t)) (2 ^ 55 + (t - from) * (plan.spectra * 2 ^ 15))
    (2 ^ 56) (omega arith)
    (add_sums-up_to old (baseline_values plan x y from t) (2 ^ 55) ((t - from) * (plan.spectra * 2 ^ 15))
    small i.small))

pub same_length : (plan : Plan) (x y : List Cell) (old now : List ℤ) (from t before missing : ℕ)
    → Multiplied plan x y old now from t before missing → length old ≡ 8 * plan.channels
    → length now ≡ 8 * plan.channels
same_length plan x y old now from t before missing i room =
    let even = length-flat_map_even (λ c. four_products (λ p q. part_of plan x y c p q from t)) 8 (λ k. refl)
    (numbers 0 plan.channels) in
    let few = ap (λ n. n * 8) (length-numbers 0 plan.channels) in
    ap length i.sums ∙ length-add_sums old (baseline_values plan x y from t) (omega arith) ∙ room
