-- Sums over ranges of timestamps, their two antennas turned round, and the lists on which they depend.
use Rattle.std.proofs.Common.{◌≡◌, ℕ, ◌+◌, ◌-◌, ◌≤◌, ◌||◌, cond, ℤ, neg_ℤ, List, [], ◌∷◌, ◌++◌, Option, Some, None, map, take, drop, slice_range, fold, zip, refl, sym, ap, ap₂, ◌∙◌, arith, take-add, drop-drop}
use Rattle.std.specs.Option.{is_none}
use Rattle.std.proofs.Math.IntN.{*ℤ_comm}
use Rattle.std.proofs.lemmas.Int.{ints}
use Rattle.std.proofs.lemmas.List.{map-append, take-map, drop-map}
use Rattle.std.proofs.lemmas.List.Sums.{fold-append}
use Rattle.corr_model.specs.declared.plan.Plan.{Plan}
use Rattle.corr_model.specs.Lists.{numbers}
use Rattle.corr_model.specs.Streams.{column}
use Rattle.corr_model.specs.Visibilities.{Complex, none_yet, plus, times_conjugate, total, sample, of_cells, part_of, Lists, part, missing, missing_of}

abbrev Cell : Type 0
Cell = Option (List ℕ)

abbrev complex : ℤ → ℤ → Complex
complex x y = record { real = x; imaginary = y }

-- two numbers of the same parts are one
same_complex : (x y : Complex) → x.real ≡ y.real → x.imaginary ≡ y.imaginary → x ≡ y
same_complex x y real imaginary = ap₂ complex real imaginary

plus_assoc : (x y z : Complex) → plus (plus x y) z ≡ plus x (plus y z)
plus_assoc x y z = same_complex _ _ (omega (arith, ints)) (omega (arith, ints))

plus_none : (x : Complex) → plus x none_yet ≡ x
plus_none x = same_complex _ _ (omega (arith, ints)) (omega (arith, ints))

pub none_plus : (x : Complex) → plus none_yet x ≡ x
none_plus x = same_complex _ _ (omega (arith, ints)) (omega (arith, ints))

-- a sum onto what is there
fold_plus : (x : Complex) (ys : List Complex) → fold plus x ys ≡ plus x (total ys)
fold_plus x [] = sym (plus_none x)
fold_plus x (y ∷ ys) =
    fold_plus (plus x y) ys ∙ plus_assoc x y (total ys) ∙ ap (plus x)
    (sym (fold_plus y ys) ∙ ap (λ z. fold plus z ys) (sym (none_plus y)))

-- the sum of two lists
pub total_append : (xs ys : List Complex) → total (xs ++ ys) ≡ plus (total xs) (total ys)
total_append xs ys = fold-append plus none_yet xs ys ∙ fold_plus (total xs) ys

-- a range is its parts
pub range_split : {X : Type 0} (xs : List X) (from mid to : ℕ) → from ≤ mid → mid ≤ to
    → slice_range xs from to ≡ slice_range xs from mid ++ slice_range xs mid to
range_split xs from mid to first second =
    let whole : to - from ≡ (mid - from) + (to - mid) = omega arith in
    let later : from + (mid - from) ≡ mid = omega arith in
    ap (λ n. take n (drop from xs)) whole
    ∙ take-add (mid - from) (to - mid) (drop from xs)
    ∙ ap (λ ys. take (mid - from) (drop from xs) ++ take (to - mid) ys)
    (drop-drop (mid - from) from xs ∙ ap (λ n. drop n xs) later)

-- the sum of a range is the sum of its parts' sums, for any two columns
pub parts_of_add : (plan : Plan) (x y : List Cell) (c p q from mid to : ℕ) → from ≤ mid → mid ≤ to
    → plus (part_of plan x y c p q from mid) (part_of plan x y c p q mid to) ≡ part_of plan x y c p q from to
parts_of_add plan x y c p q from mid to first second =
    let value : Cell × Cell → Complex = λ cells. of_cells plan c p q cells.0 cells.1 in
    let cells = zip x y in
    sym
    (ap (λ zs. total (map value zs)) (range_split cells from mid to first second)
    ∙ ap total (map-append value (slice_range cells from mid) (slice_range cells mid to))
    ∙ total_append (map value (slice_range cells from mid)) (map value (slice_range cells mid to)))

-- the sum of a range is the sum of its parts' sums
pub parts_add : (plan : Plan) (lists : Lists) (n i j c p q from mid to : ℕ) → from ≤ mid → mid ≤ to
    → plus (part plan lists n i j c p q from mid) (part plan lists n i j c p q mid to)
    ≡ part plan lists n i j c p q from to
parts_add plan lists n i j c p q from mid to first second =
    parts_of_add plan (column plan i (lists i) n) (column plan j (lists j) n) c p q from mid to first second

-- a sum depends on the two antennas' lists alone
pub part_of_two_lists : (plan : Plan) (lists others : Lists) (n i j c p q from to : ℕ) → lists i ≡ others i
    → lists j ≡ others j
    → part plan lists n i j c p q from to ≡ part plan others n i j c p q from to
part_of_two_lists plan lists others n i j c p q from to first second =
    ap₂ (λ x y. part_of plan (column plan i x n) (column plan j y n) c p q from to) first second

-- a missing count depends on the two antennas' lists alone
pub missing_of_two_lists : (plan : Plan) (lists others : Lists) (n i j : ℕ) → lists i ≡ others i → lists j ≡ others j
    → missing plan lists n i j ≡ missing plan others n i j
missing_of_two_lists plan lists others n i j first second =
    ap₂ (λ x y. missing_of (column plan i x n) (column plan j y n)) first second

-- the complex conjugate
abbrev conjugate : Complex → Complex
conjugate x = record { real = x.real; imaginary = neg_ℤ x.imaginary }

conjugate_plus : (x y : Complex) → plus (conjugate x) (conjugate y) ≡ conjugate (plus x y)
conjugate_plus x y = same_complex _ _ refl (omega (arith, ints))

-- the sum of conjugates
total_conjugate : {A : Type 0} (f g : A → Complex) → ((a : A) → g a ≡ conjugate (f a)) → (as' : List A)
    → total (map g as') ≡ conjugate (total (map f as'))
total_conjugate f g each [] = refl
total_conjugate f g each (a ∷ rest) =
    total_append (g a ∷ []) (map g rest)
    ∙ ap₂ plus (none_plus (g a) ∙ each a) (total_conjugate f g each rest)
    ∙ conjugate_plus (f a) (total (map f rest))
    ∙ ap conjugate (sym (total_append (f a ∷ []) (map f rest) ∙ ap (λ z. plus z (total (map f rest)))
    (none_plus (f a))))

times_turned : (x y : Complex) → times_conjugate y x ≡ conjugate (times_conjugate x y)
times_turned x y =
    let a = *ℤ_comm x.real y.real in
    let b = *ℤ_comm x.imaginary y.imaginary in
    let c = *ℤ_comm x.imaginary y.real in
    let d = *ℤ_comm x.real y.imaginary in
    same_complex _ _ (omega (arith, ints)) (omega (arith, ints))

of_cells_turned : (plan : Plan) (c p q : ℕ) (x y : Cell) → of_cells plan c q p y x ≡ conjugate (of_cells plan c p q x y)
of_cells_turned plan c p q None None = refl
of_cells_turned plan c p q None (Some y) = refl
of_cells_turned plan c p q (Some x) None = refl
of_cells_turned plan c p q (Some x) (Some y) =
    total_conjugate (λ s. times_conjugate (sample plan x c s p) (sample plan y c s q))
    (λ s. times_conjugate (sample plan y c s q) (sample plan x c s p))
    (λ s. times_turned (sample plan x c s p) (sample plan y c s q)) (numbers 0 plan.spectra)

abbrev turned : Cell × Cell → Cell × Cell
turned cells = (cells.1, cells.0)

zip_turned : (x y : List Cell) → zip y x ≡ map turned (zip x y)
zip_turned [] [] = refl
zip_turned [] (y ∷ ys) = refl
zip_turned (x ∷ xs) [] = refl
zip_turned (x ∷ xs) (y ∷ ys) = ap (λ zs. (y, x) ∷ zs) (zip_turned xs ys)

map_map : {A B C : Type 0} (f : A → B) (g : B → C) (xs : List A) → map g (map f xs) ≡ map (λ x. g (f x)) xs
map_map f g [] = refl
map_map f g (x ∷ xs) = ap (λ ys. g (f x) ∷ ys) (map_map f g xs)

-- the antennas turned round, for any two columns
part_of_turned : (plan : Plan) (x y : List Cell) (c p q from to : ℕ)
    → part_of plan y x c q p from to ≡ conjugate (part_of plan x y c p q from to)
part_of_turned plan x y c p q from to =
    let there : Cell × Cell → Complex = λ cells. of_cells plan c p q cells.0 cells.1 in
    let back : Cell × Cell → Complex = λ cells. of_cells plan c q p cells.0 cells.1 in
    let cells = zip x y in
    ap (λ zs. total (map back (slice_range zs from to))) (zip_turned x y)
    ∙ ap (λ zs. total (map back (take (to - from) zs))) (drop-map turned from cells)
    ∙ ap (λ zs. total (map back zs)) (take-map turned (to - from) (drop from cells))
    ∙ ap total (map_map turned back (slice_range cells from to))
    ∙ total_conjugate there (λ cells. back (turned cells)) (λ cells. of_cells_turned plan c p q cells.0 cells.1)
    (slice_range cells from to)

-- the real part stays where the antennas are turned round
pub turned_real : (plan : Plan) (lists : Lists) (n i j c p q from to : ℕ)
    → (part plan lists n j i c q p from to).real ≡ (part plan lists n i j c p q from to).real
turned_real plan lists n i j c p q from to =
    ap (λ z. z.real) (part_of_turned plan (column plan i (lists i) n) (column plan j (lists j) n) c p q from to)

-- the imaginary part turns its sign where the antennas are turned round
pub turned_imaginary : (plan : Plan) (lists : Lists) (n i j c p q from to : ℕ)
    → (part plan lists n j i c q p from to).imaginary ≡ neg_ℤ (part plan lists n i j c p q from to).imaginary
turned_imaginary plan lists n i j c p q from to =
    ap (λ z. z.imaginary) (part_of_turned plan (column plan i (lists i) n) (column plan j (lists j) n) c p q from to)

none_turned : (x y : Cell) → (is_none x || is_none y) ≡ (is_none y || is_none x)
none_turned None None = refl
none_turned None (Some y) = refl
none_turned (Some x) None = refl
none_turned (Some x) (Some y) = refl

-- a cell of the two is none, as a number
abbrev misses : Cell × Cell → ℕ
misses cells = cond (is_none cells.0 || is_none cells.1) 1 0

misses_turned : (cells : Cell × Cell) → misses (turned cells) ≡ misses cells
misses_turned cells = ap (λ b. cond b 1 0) (none_turned cells.1 cells.0)

counted_turned : (count : ℕ) (zs : List (Cell × Cell))
    → fold (λ n cells. n + misses cells) count (map turned zs) ≡ fold (λ n cells. n + misses cells) count zs
counted_turned count [] = refl
counted_turned count (z ∷ zs) =
    counted_turned (count + misses (turned z)) zs ∙ ap (λ n. fold (λ m cells. m + misses cells) (count + n) zs)
    (misses_turned z)

-- a missing count stays where the antennas are turned round
pub missing_turned : (plan : Plan) (lists : Lists) (n i j : ℕ) → missing plan lists n j i ≡ missing plan lists n i j
missing_turned plan lists n i j =
    let x = column plan i (lists i) n in
    let y = column plan j (lists j) n in
    ap (λ zs. fold (λ m (cells : Cell × Cell). m + misses cells) 0 zs) (zip_turned x y) ∙ counted_turned 0 (zip x y)
