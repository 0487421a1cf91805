-- Marks by whole words: what a mask of bits looks up and sets.
use Rattle.std.proofs.Common.{◌≡◌, ◌≢◌, ℕ, zero, suc, ◌+◌, ◌-◌, ◌*◌, ◌/◌, ◌%◌, ◌^◌, ◌<◌, ◌≤◌, min, max, Bool, true, false, ◌||◌, nat_eq, List, ◌++◌, length, get_or, set, take, drop, replicate, slice_index, bit_and, bit_or, refl, sym, ap, ap₂, subst, ◌∙◌, inl, inr, arith, get_or-set_same, get_or-set_other, length-take-le}
use Rattle.std.specs.Int.{bit_at, trailing_zeros, w64}
use Rattle.std.proofs.lemmas.Bool.{cases_lt, eq-eqb}
use Rattle.std.proofs.lemmas.List.{get_or-replicate, get_or_past, get_or_append_left, get_or-append_right, get_or-drop, get_or-take, length-replicate}
use Rattle.std.proofs.lemmas.Nat.{and_le_l}
use Rattle.std.proofs.lemmas.Nat.Bits.{bit_at_and, bit_at_or, bit_at_ones, bit_at_ones_above, bit_at_mask_inside, bit_at_mask_below, ones_shl, ones_shr, bit_at-lt, bit_at-zero, bit_at-trailing_zeros}
use Rattle.heap_assembly.specs.Marks.{mark_at, any_marked, Marks}

-- ---- the mask of a range of bits

-- the bits from `low` up to `high`, as they are computed
abbrev mask : ℕ → ℕ → ℕ
mask low high = bit_and ((2 ^ 64 - 1) / 2 ^ (64 - high)) ((2 ^ 64 - 1) * 2 ^ low % 2 ^ 64)

bit_of_mask : (low high i : ℕ) → low ≤ 64
    → bit_at (mask low high) i ≡ min (bit_at (2 ^ (64 - (64 - high)) - 1) i) (bit_at (2 ^ 64 - 2 ^ low) i)
bit_of_mask low high i fits =
    bit_at_and ((2 ^ 64 - 1) / 2 ^ (64 - high)) ((2 ^ 64 - 1) * 2 ^ low % 2 ^ 64) i
    ∙ ap₂ (λ a b. min (bit_at a i) (bit_at b i)) (ones_shr 64 (64 - high) (omega arith)) (ones_shl 64 low fits)

pub mask_inside : (low high i : ℕ) → high ≤ 64 → low ≤ i → i < high → bit_at (mask low high) i ≡ 1
mask_inside low high i fits from to =
    let a = bit_at_ones (64 - (64 - high)) i (omega arith) in
    let b = bit_at_mask_inside low 64 i from (omega arith) in
    bit_of_mask low high i (omega arith) ∙ ap₂ (λ x y. min x y) a b

pub mask_below : (low high i : ℕ) → low ≤ 64 → i < low → bit_at (mask low high) i ≡ 0
mask_below low high i fits below =
    let b = bit_at_mask_below low 64 i below in
    let e = bit_of_mask low high i fits in
    omega (arith, e, b)

pub mask_above : (low high i : ℕ) → low ≤ 64 → high ≤ 64 → high ≤ i → bit_at (mask low high) i ≡ 0
mask_above low high i fits fits_too above =
    let a = bit_at_ones_above (64 - (64 - high)) i (omega arith) in
    let e = bit_of_mask low high i fits in
    omega (arith, e, a)

-- ---- one place

-- the places of a word are its bits
pub mark_in : (words : List ℕ) (w i : ℕ) → 64 * w ≤ i → i < 64 * (w + 1)
    → mark_at words i ≡ bit_at (get_or words w 0) (i - 64 * w)
unfolding mark_at
mark_in words w i from to =
    let e : i / 64 ≡ w = omega arith in
    let r : i % 64 ≡ i - 64 * w = omega arith in
    ap (λ k. bit_at (get_or words k 0) (i % 64)) e ∙ ap (λ k. bit_at (get_or words w 0) k) r

-- a mark is 0 or 1
pub mark_at-lt : (words : List ℕ) (i : ℕ) → mark_at words i < 2
unfolding mark_at
mark_at-lt words i = bit_at-lt (slice_index words (i / 64)) (i % 64)

abbrev zeros : ℕ → List ℕ
zeros n = replicate n 0

zero_at : (n i : ℕ) → get_or (zeros n) i 0 ≡ 0
zero_at n i = elim (cases_lt i n) [
  | inl inside ↦ get_or-replicate n i 0 0 inside
  | inr past ↦ get_or_past (zeros n) i 0 (let l = length-replicate {A = ℕ} n 0 in omega (arith, l))
]

-- no place of words that are all 0 is marked
pub none_in_zeros : (words : List ℕ) (n i : ℕ) → words ≡ replicate n 0 → mark_at words i ≡ 0
unfolding mark_at
none_in_zeros words n i is =
    ap (λ ws. bit_at (get_or ws (i / 64) 0) (i % 64)) is ∙ ap (λ v. bit_at v (i % 64)) (zero_at n (i / 64)) ∙
    bit_at-zero (i % 64)

-- ---- some place of a range

pub any_from_one : (marks : ℕ → ℕ) (from n i : ℕ) → from ≤ i → i < from + n → marks i ≡ 1
    → any_marked marks from n ≡ true
any_from_one marks from zero i low high one = absurd (omega arith)
any_from_one marks from (suc n) i low high one =
    elim (cases_lt i (from + n)) [
      | inl less ↦ let rest = any_from_one marks from n i low less one in grind (arith, rest)
      | inr same ↦ let e : from + n ≡ i = omega arith in let here =
          eq-eqb (marks (from + n)) 1 (ap marks e ∙ one) in grind (arith, here)
    ]

pub any_from_none : (marks : ℕ → ℕ) (from n : ℕ) → ((i : ℕ) → from ≤ i → i < from + n → marks i ≡ 0)
    → any_marked marks from n ≡ false
any_from_none marks from zero none = refl
any_from_none marks from (suc n) none =
    let here : marks (from + n) ≡ 0 = none (from + n) (omega arith) (omega arith) in
    let rest = any_from_none marks from n (λ i low high. none i low (omega arith)) in
    ap₂ (λ m b. nat_eq m 1 || b) here rest

pub none_from_any : (marks : ℕ → ℕ) (from n i : ℕ) → any_marked marks from n ≡ false → from ≤ i
    → i < from + n → marks i ≢ 1
none_from_any marks from n i none low high one =
    let some = any_from_one marks from n i low high one in
    absurd (cc)

-- the same marks have the same places
pub same_any : (f g : ℕ → ℕ) → ((i : ℕ) → f i ≡ g i) → (from n : ℕ) → any_marked f from n ≡ any_marked g from n
same_any f g same from zero = refl
same_any f g same from (suc n) = ap₂ (λ m b. nat_eq m 1 || b) (same (from + n)) (same_any f g same from n)

or_assoc : (x y z : Bool) → x || (y || z) ≡ (x || y) || z
or_assoc true y z = refl
or_assoc false y z = refl

or_third : (z y : Bool) → z || (y || true) ≡ true
or_third true y = refl
or_third false true = refl
or_third false false = refl

or_second : (z x : Bool) → z || (true || x) ≡ true
or_second true x = refl
or_second false x = refl

or_first : (z : Bool) → z || (false || false) ≡ z
or_first true = refl
or_first false = refl

-- a range in two parts
any_two : (marks : ℕ → ℕ) (from a b : ℕ)
    → any_marked marks from (a + b) ≡ any_marked marks (from + a) b || any_marked marks from a
any_two marks from a zero = let e : a + 0 ≡ a = omega arith in ap (λ n. any_marked marks from n) e
any_two marks from a (suc b) =
    let e : a + suc b ≡ suc (a + b) = omega arith in
    let f : from + (a + b) ≡ from + a + b = omega arith in
    ap (λ n. any_marked marks from n) e
    ∙ ap₂ (λ i r. nat_eq (marks i) 1 || r) f (any_two marks from a b)
    ∙ or_assoc (nat_eq (marks (from + a + b)) 1) (any_marked marks (from + a) b) (any_marked marks from a)

-- a range in three parts, the last in front
any_three : (marks : ℕ → ℕ) (from middle end to : ℕ) → from ≤ middle → middle ≤ end → end ≤ to
    → any_marked marks from (to - from)
    ≡ any_marked marks end (to - end)
    || (any_marked marks middle (end - middle) || any_marked marks from (middle - from))
any_three marks from middle end to a b c =
    let whole : to - from ≡ (end - from) + (to - end) = omega arith in
    let front : end - from ≡ (middle - from) + (end - middle) = omega arith in
    let at_end : from + (end - from) ≡ end = omega arith in
    let at_middle : from + (middle - from) ≡ middle = omega arith in
    ap (λ n. any_marked marks from n) whole
    ∙ any_two marks from (end - from) (to - end)
    ∙ ap₂ (λ i r. any_marked marks i (to - end) || r) at_end
    (ap (λ n. any_marked marks from n) front
    ∙ any_two marks from (middle - from) (end - middle)
    ∙ ap (λ i. any_marked marks i (end - middle) || any_marked marks from (middle - from)) at_middle)

pub any_in_front : (marks : ℕ → ℕ) (from middle end to : ℕ) → from ≤ middle → middle ≤ end → end ≤ to
    → any_marked marks from (middle - from) ≡ true → any_marked marks from (to - from) ≡ true
any_in_front marks from middle end to a b c some =
    let last = any_marked marks end (to - end) in
    let between = any_marked marks middle (end - middle) in
    any_three marks from middle end to a b c ∙ ap (λ x. last || (between || x)) some ∙ or_third last between

pub any_between : (marks : ℕ → ℕ) (from middle end to : ℕ) → from ≤ middle → middle ≤ end → end ≤ to
    → any_marked marks middle (end - middle) ≡ true → any_marked marks from (to - from) ≡ true
any_between marks from middle end to a b c some =
    let last = any_marked marks end (to - end) in
    let front = any_marked marks from (middle - from) in
    any_three marks from middle end to a b c ∙ ap (λ y. last || (y || front)) some ∙ or_second last front

pub any_at_end : (marks : ℕ → ℕ) (from middle end to : ℕ) → from ≤ middle → middle ≤ end → end ≤ to
    → any_marked marks from (middle - from) ≡ false → any_marked marks middle (end - middle) ≡ false
    → any_marked marks from (to - from) ≡ any_marked marks end (to - end)
any_at_end marks from middle end to a b c front between =
    let last = any_marked marks end (to - end) in
    any_three marks from middle end to a b c ∙ ap₂ (λ x y. last || (y || x)) front between ∙ or_first last

-- ---- looking up by a mask

-- the mask shows no mark of the range in the word
pub none_seen : (words : List ℕ) (w mask from to i : ℕ) → bit_and (get_or words w 0) mask ≡ 0
    → ((k : ℕ) → k < 64 → from ≤ 64 * w + k → 64 * w + k < to → bit_at mask k ≡ 1)
    → from ≤ i → i < to → 64 * w ≤ i → i < 64 * (w + 1) → mark_at words i ≡ 0
none_seen words w mask from to i none inside low high begin end =
    let k = i - 64 * w in
    let both : bit_at (bit_and (get_or words w 0) mask) k ≡ 0 = ap (λ n. bit_at n k) none ∙ bit_at-zero k in
    let split = bit_at_and (get_or words w 0) mask k in
    let set = inside k (omega arith) (omega arith) (omega arith) in
    let word : bit_at (get_or words w 0) k ≡ 0 = omega (arith, both, split, set) in
    mark_in words w i begin end ∙ word

-- a bit that the mask shows is a mark of the range
pub some_seen : (words : List ℕ) (w mask from to : ℕ) → bit_and (get_or words w 0) mask ≢ 0 → get_or words w 0 < 2 ^ 64
    → ((k : ℕ) → k < 64 → 64 * w + k < from → bit_at mask k ≡ 0)
    → ((k : ℕ) → k < 64 → to ≤ 64 * w + k → bit_at mask k ≡ 0)
    → any_marked (mark_at words) from (to - from) ≡ true
some_seen words w mask from to some fits below above =
    let n = bit_and (get_or words w 0) mask in
    let less = and_le_l (get_or words w 0) mask in
    let k = trailing_zeros w64 n in
    let bit = bit_at-trailing_zeros w64 n (omega arith) (omega (arith, less)) in
    let word : k < 64 = bit.0 in
    let one : bit_at n k ≡ 1 = bit.1 in
    let split : bit_at n k ≡ min (bit_at (get_or words w 0) k) (bit_at mask k) = bit_at_and (get_or words w 0) mask k in
    let small = bit_at-lt (get_or words w 0) k in
    let low : from ≤ 64 * w + k =
    elim (cases_lt (64 * w + k) from) [
      | inl before ↦ let zero =
          below k word before in absurd (omega (arith, one, split, zero))
      | inr not_before ↦ not_before
    ] in
    let high : 64 * w + k < to =
    elim (cases_lt (64 * w + k) to) [
      | inl within ↦ within
      | inr past ↦ let zero =
          above k word past in absurd (omega (arith, one, split, zero))
    ] in
    let same : 64 * w + k - 64 * w ≡ k = omega arith in
    let here : mark_at words (64 * w + k) ≡ 1 =
    mark_in words w (64 * w + k) (omega arith) (omega arith) ∙ ap (bit_at (get_or words w 0)) same ∙
    (omega (arith, one, split, small)) in
    any_from_one (mark_at words) from (to - from) (64 * w + k) low (omega arith) here

-- a word that is not 0 has a mark
pub word_seen : (words : List ℕ) (w first last : ℕ) → get_or words w 0 ≢ 0 → get_or words w 0 < 2 ^ 64
    → first ≤ w → w < last
    → any_marked (mark_at words) (64 * first) (64 * last - 64 * first) ≡ true
word_seen words w first last some fits low high =
    let n = get_or words w 0 in
    let k = trailing_zeros w64 n in
    let bit = bit_at-trailing_zeros w64 n (omega arith) fits in
    let word : k < 64 = bit.0 in
    let one : bit_at n k ≡ 1 = bit.1 in
    let same : 64 * w + k - 64 * w ≡ k = omega arith in
    let here : mark_at words (64 * w + k) ≡ 1 =
    mark_in words w (64 * w + k) (omega arith) (omega arith) ∙ ap (bit_at n) same ∙ one in
    any_from_one (mark_at words) (64 * first) (64 * last - 64 * first) (64 * w + k) (omega arith) (omega arith) here

-- a word that is 0 has none
pub none_in_word : (words : List ℕ) (w i : ℕ) → get_or words w 0 ≡ 0 → 64 * w ≤ i → i < 64 * (w + 1)
    → mark_at words i ≡ 0
none_in_word words w i none begin end =
    mark_in words w i begin end ∙ ap (λ n. bit_at n (i - 64 * w)) none ∙ bit_at-zero (i - 64 * w)

-- ---- marking by a mask

-- the word with the mask's bits
abbrev with_mask : List ℕ → ℕ → ℕ → List ℕ
with_mask words w mask = set words w (bit_or (get_or words w 0) mask)

bit_in_word : (words : List ℕ) (w mask i : ℕ) → w < length words → 64 * w ≤ i → i < 64 * (w + 1)
    → mark_at (with_mask words w mask) i ≡ max (mark_at words i) (bit_at mask (i - 64 * w))
bit_in_word words w mask i room begin end =
    let k = i - 64 * w in
    mark_in (with_mask words w mask) w i begin end
    ∙ ap (λ n. bit_at n k) (get_or-set_same words w (bit_or (get_or words w 0) mask) 0 room)
    ∙ bit_at_or (get_or words w 0) mask k
    ∙ ap (λ n. max n (bit_at mask k)) (sym (mark_in words w i begin end))

bit_in_other : (words : List ℕ) (w mask i : ℕ) → i / 64 ≢ w → mark_at (with_mask words w mask) i ≡ mark_at words i
unfolding mark_at
bit_in_other words w mask i other =
    ap (λ n. bit_at n (i % 64)) (get_or-set_other words w (i / 64) (bit_or (get_or words w 0) mask) 0 other)

before_word : (words : List ℕ) (w mask i : ℕ) → i < 64 * w → mark_at (with_mask words w mask) i ≡ mark_at words i
before_word words w mask i before = bit_in_other words w mask i (λ e. let d = e in omega arith)

after_word : (words : List ℕ) (w mask i : ℕ) → 64 * (w + 1) ≤ i → mark_at (with_mask words w mask) i ≡ mark_at words i
after_word words w mask i after = bit_in_other words w mask i (λ e. let d = e in omega arith)

-- the bits of a mask of the range
pub record IsMask (mask w from to : ℕ) : Type 0 where
  pub inside : (k : ℕ) → k < 64 → from ≤ 64 * w + k → 64 * w + k < to → bit_at mask k ≡ 1
  pub below : (k : ℕ) → k < 64 → 64 * w + k < from → bit_at mask k ≡ 0
  pub above : (k : ℕ) → k < 64 → to ≤ 64 * w + k → bit_at mask k ≡ 0

-- how far the range is marked once the words before w are done
abbrev pub up_to : ℕ → ℕ → ℕ → ℕ
up_to from to w = max from (min to (64 * w))

-- a word more of the range is marked
pub marks_more_words : (old : ℕ → ℕ) (words : List ℕ) (w mask from to : ℕ)
    → Marks old (mark_at words) from (up_to from to w) → IsMask mask w from to → w < length words
    → Marks old (mark_at (set words w (bit_or (get_or words w 0) mask))) from (up_to from to (w + 1))
marks_more_words old words w mask from to so_far m room = record {
  inside = λ i low high. elim (cases_lt i (64 * w)) [
    | inl before ↦ before_word words w mask i before ∙ so_far.inside i low (omega arith)
    | inr begun ↦
        let bit = m.inside (i - 64 * w) (omega arith) (omega arith) (omega arith) in
        let is = bit_in_word words w mask i room begun (omega arith) in
        let small = mark_at-lt words i in
        omega (arith, bit, is, small)
  ];
  below = λ i less. elim (cases_lt i (64 * w)) [
    | inl before ↦ before_word words w mask i before ∙ so_far.below i less
    | inr begun ↦ elim (cases_lt i (64 * (w + 1))) [
      | inl here ↦
          let bit = m.below (i - 64 * w) (omega arith) (omega arith) in
          let is = bit_in_word words w mask i room begun here in
          (omega (arith, bit, is)) ∙ so_far.below i less
      | inr after ↦ after_word words w mask i after ∙ so_far.below i less
    ]
  ];
  above = λ i more. elim (cases_lt i (64 * w)) [
    | inl before ↦ before_word words w mask i before ∙ so_far.above i (omega arith)
    | inr begun ↦ elim (cases_lt i (64 * (w + 1))) [
      | inl here ↦
          let bit = m.above (i - 64 * w) (omega arith) (omega arith) in
          let is = bit_in_word words w mask i room begun here in
          (omega (arith, bit, is)) ∙ so_far.above i (omega arith)
      | inr after ↦ after_word words w mask i after ∙ so_far.above i (omega arith)
    ]
  ];
}

-- nothing is marked where the range up to the first word is empty
pub marks_none : (old : ℕ → ℕ) (from to : ℕ) → to ≤ from → Marks old old from to
marks_none old from to empty =
    record { inside = λ i low high. absurd (omega arith); below = λ i less. refl; above = λ i more. refl }

-- marks up to here are marks up to there, where the two are one
pub marks_up_to : (old new : ℕ → ℕ) (from to end : ℕ) → to ≡ end → Marks old new from to → Marks old new from end
marks_up_to old new from to end same marks = subst (λ e. Marks old new from e) same marks

-- words that are all 0 before the marks' end have no mark
pub none_after_zeros : (words : List ℕ) (n k to : ℕ) → n ≤ length words → k ≡ n → to ≤ 64 * n
    → ((i : ℕ) → to ≤ i → mark_at words i ≡ 0) → (i : ℕ) → mark_at (replicate k 0 ++ drop n words) i ≡ 0
unfolding mark_at
none_after_zeros words n k to room same within none i = elim (cases_lt (i / 64) n) [
  | inl before ↦
      ap (λ v. bit_at v (i % 64))
      (get_or_append_left (zeros k) (drop n words) 0 (i / 64)
      (let l = length-replicate {A = ℕ} k 0 in omega (arith, l)) ∙ zero_at k (i / 64)) ∙ bit_at-zero (i % 64)
  | inr after ↦
      let at : n + (i / 64 - n) ≡ i / 64 = omega arith in
      ap (λ v. bit_at v (i % 64))
      (get_or-append_right (zeros k) (drop n words) n (i / 64) 0 (length-replicate {A = ℕ} k 0 ∙ same) after ∙
      get_or-drop n words (i / 64 - n) 0 ∙ ap (λ j. get_or words j 0) at)
      ∙ none i (omega arith)
]

-- one range after another
pub marks_then : (old middle new : ℕ → ℕ) (from at to : ℕ) → from ≤ at → at ≤ to → Marks old middle from at
    → Marks middle new at to → Marks old new from to
marks_then old middle new from at to low high first second = record {
  inside = λ i begin end. elim (cases_lt i at) [
    | inl before ↦ second.below i before ∙ first.inside i begin before
    | inr behind ↦ second.inside i behind end
  ];
  below = λ i less. second.below i (omega arith) ∙ first.below i less;
  above = λ i more. second.above i more ∙ first.above i (omega arith);
}

-- words that are all ones have each mark
pub marks_filled : (words : List ℕ) (first last count k : ℕ) → first ≤ last → last ≤ length words
    → count ≡ last - first → k ≡ count
    → Marks (mark_at words) (mark_at (take first words ++ (replicate k (2 ^ 64 - 1) ++ drop count (drop first words))))
    (64 * first) (64 * last)
unfolding mark_at
marks_filled words first last count k order room counted long_as =
    let ones = replicate k (2 ^ 64 - 1) in
    let long : length (take first words) ≡ first = length-take-le first words (omega arith) in
    let many : length ones ≡ k = length-replicate {A = ℕ} k (2 ^ 64 - 1) in
    record {
      inside = λ i begin end.
          ap (λ v. bit_at v (i % 64))
          (get_or-append_right (take first words) (ones ++ drop count (drop first words)) first (i / 64) 0
          long (omega arith)
          ∙ get_or_append_left ones (drop count (drop first words)) 0 (i / 64 - first) (omega (arith, many))
          ∙ get_or-replicate k (i / 64 - first) (2 ^ 64 - 1) 0 (omega arith))
          ∙ bit_at_ones 64 (i % 64) (omega arith);
      below = λ i less.
          ap (λ v. bit_at v (i % 64))
          (get_or_append_left (take first words) (ones ++ drop count (drop first words)) 0 (i / 64)
          (omega (arith, long))
          ∙ get_or-take first words (i / 64) 0 (omega arith));
      above = λ i more.
          let at : first + (count + (i / 64 - first - k)) ≡ i / 64 = omega arith in
          ap (λ v. bit_at v (i % 64))
          (get_or-append_right (take first words) (ones ++ drop count (drop first words)) first (i / 64) 0
          long (omega arith)
          ∙ get_or-append_right ones (drop count (drop first words)) k (i / 64 - first) 0 many (omega arith)
          ∙ get_or-drop count (drop first words) (i / 64 - first - k) 0
          ∙ get_or-drop first words (count + (i / 64 - first - k)) 0
          ∙ ap (λ j. get_or words j 0) at);
    }
