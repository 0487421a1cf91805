-- How many places are marked.
use Rattle.std.proofs.Common.{◌≡◌, ◌≢◌, ℕ, zero, suc, ◌+◌, ◌-◌, ◌<◌, ◌≤◌, min, false, refl, sym, ap, ap₂, ◌∙◌, inl, inr, arith}
use Rattle.std.proofs.lemmas.Bool.{cases_lt}
use Rattle.heap_assembly.specs.Marks.{any_marked, marked, Marks}
use Rattle.heap_assembly.proofs.MarkLemmas.{none_from_any}

-- the same marks are as many
pub same_marked : (f g : ℕ → ℕ) → ((i : ℕ) → f i ≡ g i) → (n : ℕ) → marked f n ≡ marked g n
same_marked f g same zero = refl
same_marked f g same (suc n) = ap₂ (λ a b. a + b) (same_marked f g same n) (same n)

pub none_marked : (f : ℕ → ℕ) → ((i : ℕ) → f i ≡ 0) → (n : ℕ) → marked f n ≡ 0
none_marked f none zero = refl
none_marked f none (suc n) = ap₂ (λ a b. a + b) (none_marked f none n) (none n)

-- no mark from here on
pub marked_before : (f : ℕ → ℕ) (m n : ℕ) → m ≤ n → ((i : ℕ) → m ≤ i → f i ≡ 0) → marked f n ≡ marked f m
marked_before f m zero within none = let e : m ≡ 0 = omega arith in sym (ap (marked f) e)
marked_before f m (suc n) within none = elim (cases_lt n m) [
  | inl last ↦ let e : m ≡ suc n = omega arith in sym (ap (marked f) e)
  | inr before ↦ let rest = marked_before f m n before none in let here = none n before in omega (arith, rest, here)
]

marked_range : (f g : ℕ → ℕ) (from to n : ℕ) → Marks f g from to → from ≤ to → ((i : ℕ) → from ≤ i → i < to → f i ≡ 0)
    → marked g n ≡ marked f n + (min n to - min n from)
marked_range f g from to zero m order free = omega arith
marked_range f g from to (suc n) m order free =
    let before = marked_range f g from to n m order free in
    elim (cases_lt n from) [
      | inl below ↦ let here = m.below n below in omega (arith, before, here)
      | inr begun ↦ elim (cases_lt n to) [
        | inl inside ↦ let here = m.inside n begun inside in let was =
            free n begun inside in omega (arith, before, here, was)
        | inr above ↦ let here = m.above n above in omega (arith, before, here)
      ]
    ]

-- where no place of a range is marked, marking it adds its length
pub marks_more : (f g : ℕ → ℕ) (from to n : ℕ) → Marks f g from to → ((i : ℕ) → f i < 2) → from ≤ to
    → any_marked f from (to - from) ≡ false → to ≤ n
    → marked g n ≡ marked f n + (to - from)
marks_more f g from to n m small order free within =
    let none : (i : ℕ) → from ≤ i → i < to → f i ≡ 0
    = λ i low high.
    let not_one : f i ≢ 1 = none_from_any f from (to - from) i free low (omega arith) in
    let below_two = small i in
    omega (arith, not_one, below_two) in
    let all = marked_range f g from to n m order none in
    omega (arith, all)

pub marked-le : (f : ℕ → ℕ) (n : ℕ) → ((i : ℕ) → f i < 2) → marked f n ≤ n
marked-le f zero small = omega arith
marked-le f (suc n) small = let before = marked-le f n small in let here = small n in omega (arith, before, here)

-- as many marks as places: each place is marked
pub all_marked : (f : ℕ → ℕ) (n i : ℕ) → ((i : ℕ) → f i < 2) → marked f n ≡ n → i < n → f i ≡ 1
all_marked f zero i small whole below = absurd (omega arith)
all_marked f (suc n) i small whole below =
    let most = marked-le f n small in
    let last = small n in
    elim (cases_lt i n) [
      | inl less ↦ all_marked f n i small (omega (arith, most, last, whole)) less
      | inr same ↦ let e : i ≡ n = omega arith in let one : f n ≡ 1 = omega (arith, most, last, whole) in ap f e ∙ one
    ]
