-- Kept packets, by what the state keeps of them: the size, the greatest end, the bytes and the pointers.
use Rattle.std.proofs.Common.{◌≡◌, ◌⊎◌, ℕ, ◌-◌, ◌<◌, ◌≤◌, max, min, Bool, true, false, cond, ◌||◌, nat_lt, nat_le, ◌==◌, if◌then◌else◌, List, [], ◌∷◌, ◌++◌, map, find, fold, slice_index, Option, Some, None, is_some, option_map, refl, sym, ap, ap₂, subst, ◌∙◌, inl, inr, arith}
use Rattle.std.specs.List.{list_any, AllByRecursion}
use Rattle.std.specs.Option.{option_or}
use Rattle.std.proofs.lemmas.Bool.{and_from, and_parts, cases_lt, eqb-true, le-leb, le-ltb, leb-true, lt-ltb, ltb-true, not-false, or_cases, or_left, or_right, false≢true}
use Rattle.std.proofs.lemmas.List.{map_push}
use Rattle.std.proofs.lemmas.List.Sums.{fold_push}
use Rattle.corr_model.specs.Packets.{Parts}
use Rattle.corr_model.specs.Windows.{end_of}
use Rattle.corr_model.specs.Assembly.{sizes_differ, is_past, share_a_byte, said_size, holds_byte}
use Rattle.corr_model.specs.LiveHeaps.{greatest_end, byte_brought}

-- two tests are one where each passes with the other
pub same_tests : (a b : Bool) → (a ≡ true → b ≡ true) → (b ≡ true → a ≡ true) → a ≡ b
same_tests true b there back = sym (there refl)
same_tests false true there back = back refl
same_tests false false there back = refl

-- ---- sizes

-- each of these packets says no size or this one
abbrev pub Agrees : Option ℕ → List Parts → Type 0
Agrees s ks = AllByRecursion (λ k. (k.size ≡ None) ⊎ (k.size ≡ s)) ks

any_said_cons : (t : Option ℕ → Bool) → t None ≡ false → (own rest : Option ℕ) (later : Bool)
    → (t rest ≡ true → later ≡ true) → t (option_or own rest) ≡ true → (t own || later) ≡ true
any_said_cons t none None rest later by_rest said = or_right (t None) later (by_rest said)
any_said_cons t none (Some n) rest later by_rest said = or_left (t (Some n)) later said

any_said : (t : Option ℕ → Bool) → t None ≡ false → (ks : List Parts) → t (said_size ks) ≡ true
    → list_any (λ k. t k.size) ks ≡ true
any_said t none [] said = absurd (false≢true (sym none ∙ said))
any_said t none (k ∷ ks) said =
    any_said_cons t none k.size (said_size ks) (list_any (λ q. t q.size) ks) (any_said t none ks) said

any_agrees : (t : Option ℕ → Bool) → t None ≡ false → (s : Option ℕ) (ks : List Parts) → Agrees s ks
    → list_any (λ k. t k.size) ks ≡ true → t s ≡ true
any_agrees t none s [] agree some = absurd (false≢true some)
any_agrees t none s (k ∷ ks) agree some = elim (or_cases (t k.size) (list_any (λ q. t q.size) ks) some) [
  | inl here ↦ elim agree.0 [
    | inl silent ↦ absurd (false≢true (sym none ∙ ap t (sym silent) ∙ here))
    | inr same ↦ ap t (sym same) ∙ here
  ]
  | inr later ↦ any_agrees t none s ks agree.1 later
]

-- a test that no absent size passes is passed by some packet where the said size passes it
pub any_size : (t : Option ℕ → Bool) → t None ≡ false → (ks : List Parts) → Agrees (said_size ks) ks
    → list_any (λ k. t k.size) ks ≡ t (said_size ks)
any_size t none ks agree =
    same_tests (list_any (λ k. t k.size) ks) (t (said_size ks)) (any_agrees t none (said_size ks) ks agree)
    (any_said t none ks)

or_none : (s : Option ℕ) → option_or s None ≡ s
or_none None = refl
or_none (Some n) = refl

or_or : (r s t : Option ℕ) → option_or r (option_or s t) ≡ option_or (option_or r s) t
or_or None s t = refl
or_or (Some n) s t = refl

-- one more packet's size
pub said_push : (ks : List Parts) (p : Parts) → said_size (ks ++ p ∷ []) ≡ option_or (said_size ks) p.size
said_push [] p = or_none p.size
said_push (k ∷ ks) p = ap (option_or k.size) (said_push ks p) ∙ or_or k.size (said_size ks) p.size

agrees_later : (own s said : Option ℕ) → (own ≡ None) ⊎ (own ≡ s) → (own ≡ None) ⊎ (own ≡ option_or s said)
agrees_later own s said (inl silent) = inl silent
agrees_later own None said (inr same) = inl same
agrees_later own (Some n) said (inr same) = inr same

agrees_last : (s said : Option ℕ) → sizes_differ s said ≡ false → (said ≡ None) ⊎ (said ≡ option_or s said)
agrees_last None said same = inr refl
agrees_last (Some n) None same = inl refl
agrees_last (Some n) (Some m) same = inr (ap Some (sym (eqb-true n m (not-false (n == m) same))))

agrees_with : (s : Option ℕ) (p : Parts) (ks : List Parts) → sizes_differ s p.size ≡ false → Agrees s ks
    → Agrees (option_or s p.size) (ks ++ p ∷ [])
agrees_with s p [] same agree = (agrees_last s p.size same, tt)
agrees_with s p (k ∷ ks) same agree = (agrees_later k.size s p.size agree.0, agrees_with s p ks same agree.1)

-- a packet of no other size agrees too
pub agrees_push : (ks : List Parts) (p : Parts) → sizes_differ (said_size ks) p.size ≡ false → Agrees (said_size ks) ks
    → Agrees (said_size (ks ++ p ∷ [])) (ks ++ p ∷ [])
agrees_push ks p same agree =
    subst (λ s. Agrees s (ks ++ p ∷ [])) (sym (said_push ks p)) (agrees_with (said_size ks) p ks same agree)

-- ---- ends

-- one more packet's end
pub greatest_push : (ks : List Parts) (p : Parts) → greatest_end (ks ++ p ∷ []) ≡ max (greatest_end ks) (end_of p)
greatest_push ks p = ap (fold max 0) (map_push end_of ks p) ∙ fold_push max 0 (map end_of ks) (end_of p)

or_assoc : (a b c : Bool) → ((a || b) || c) ≡ (a || (b || c))
or_assoc true b c = refl
or_assoc false b c = refl

below_max : (n a b : ℕ) → nat_lt n (max a b) ≡ (nat_lt n a || nat_lt n b)
below_max n a b =
    same_tests (nat_lt n (max a b)) (nat_lt n a || nat_lt n b)
    (λ less. let more = ltb-true n (max a b) less in elim (cases_lt n a) [
      | inl first ↦ or_left (nat_lt n a) (nat_lt n b) (lt-ltb n a first)
      | inr not_first ↦ or_right (nat_lt n a)
          (nat_lt n b) (lt-ltb n b (omega (arith, more)))
    ])
    (λ either. elim (or_cases (nat_lt n a) (nat_lt n b) either) [
      | inl first ↦ let more =
          ltb-true n a first in lt-ltb n (max a b) (omega (arith, more))
      | inr second ↦ let more =
          ltb-true n b second in lt-ltb n (max a b) (omega (arith, more))
    ])

or_false : (a : Bool) → a ≡ (a || false)
or_false true = refl
or_false false = refl

or_swap : (a b c d : Bool) → ((a || b) || (c || d)) ≡ ((a || c) || (b || d))
or_swap true b c d = refl
or_swap false true true d = refl
or_swap false true false d = refl
or_swap false false c d = refl

-- one where the test passes
abbrev pub one_if : Bool → ℕ
one_if b = if b then 1 else 0

one_or_none : (b : Bool) → one_if b < 2
one_or_none true = omega arith
one_or_none false = omega arith

greatest_from : (n a : ℕ) (ks : List Parts)
    → nat_lt n (fold max a (map end_of ks)) ≡ (nat_lt n a || list_any (λ k. nat_lt n (end_of k)) ks)
greatest_from n a [] = or_false (nat_lt n a)
greatest_from n a (k ∷ ks) =
    greatest_from n (max a (end_of k)) ks
    ∙ ap (λ b. b || list_any (λ q. nat_lt n (end_of q)) ks) (below_max n a (end_of k))
    ∙ or_assoc (nat_lt n a) (nat_lt n (end_of k)) (list_any (λ q. nat_lt n (end_of q)) ks)

none_past : (ks : List Parts) → list_any (λ k. is_past None (end_of k)) ks ≡ false
none_past [] = refl
none_past (k ∷ ks) = none_past ks

-- some end is past a size where the greatest is
pub any_end : (said : Option ℕ) (ks : List Parts)
    → list_any (λ k. is_past said (end_of k)) ks ≡ is_past said (greatest_end ks)
any_end None ks = none_past ks
any_end (Some n) ks =
    sym (greatest_from n 0 ks ∙ ap (λ b. b || list_any (λ k. nat_lt n (end_of k)) ks) (le-ltb n 0 (omega arith)))

any_or : (f g : Parts → Bool) (ks : List Parts) → list_any (λ k. f k || g k) ks ≡ (list_any f ks || list_any g ks)
any_or f g [] = refl
any_or f g (k ∷ ks) = ap (λ b. (f k || g k) || b) (any_or f g ks) ∙ or_swap (f k) (g k) (list_any f ks) (list_any g ks)

-- an end is past a size that another says, either way round
pub any_past : (ks : List Parts) (p : Parts) → Agrees (said_size ks) ks
    → list_any (λ k. is_past k.size (end_of p) || is_past p.size (end_of k)) ks
    ≡ (is_past (said_size ks) (end_of p) || is_past p.size (greatest_end ks))
any_past ks p agree =
    any_or (λ k. is_past k.size (end_of p)) (λ k. is_past p.size (end_of k)) ks
    ∙ ap₂ (λ a b. a || b) (any_size (λ s. is_past s (end_of p)) refl ks agree) (any_end p.size ks)

differ_none : (said : Option ℕ) → sizes_differ None said ≡ false
differ_none None = refl
differ_none (Some n) = refl

-- another size is said where it is not the said one
pub any_differ : (ks : List Parts) (p : Parts) → Agrees (said_size ks) ks
    → list_any (λ k. sizes_differ k.size p.size) ks ≡ sizes_differ (said_size ks) p.size
any_differ ks p agree = any_size (λ s. sizes_differ s p.size) (differ_none p.size) ks agree

-- ---- bytes

-- 1 where one of these packets holds the byte, else 0
abbrev pub held : List Parts → ℕ → ℕ
held ks k = one_if (is_some (byte_brought ks k))

pub held-lt : (ks : List Parts) (k : ℕ) → held ks k < 2
held-lt ks k = one_or_none (is_some (byte_brought ks k))

mapped_is_some : {X Y : Type 0} (f : X → Y) (o : Option X) → is_some (option_map f o) ≡ is_some o
mapped_is_some f None = refl
mapped_is_some f (Some x) = refl

found_cons : (test : Parts → Bool) (b : Bool) (k : Parts) (rest : Option Parts)
    → is_some (cond b (Some k) rest) ≡ (b || is_some rest)
found_cons test true k rest = refl
found_cons test false k rest = refl

found_any : (test : Parts → Bool) (ks : List Parts) → is_some (find test ks) ≡ list_any test ks
found_any test [] = refl
found_any test (k ∷ ks) = found_cons test (test k) k (find test ks) ∙ ap (λ b. test k || b) (found_any test ks)

-- a byte is brought where a packet holds it
pub brought_any : (ks : List Parts) (k : ℕ) → is_some (byte_brought ks k) ≡ list_any (holds_byte k) ks
brought_any ks k = mapped_is_some (λ p. slice_index p.payload (k - p.offset)) (find (holds_byte k) ks) ∙ found_any
    (holds_byte k) ks

-- a byte of the range that a packet holds is shared
pub shares_from_held : (ks : List Parts) (p : Parts) (k : ℕ) → p.offset ≤ k → k < end_of p
    → list_any (holds_byte k) ks ≡ true → list_any (share_a_byte p) ks ≡ true
shares_from_held [] p k low high some = absurd (false≢true some)
shares_from_held (q ∷ qs) p k low high some = elim (or_cases (holds_byte k q) (list_any (holds_byte k) qs) some) [
  | inl here ↦
      let its = and_parts (nat_le q.offset k) (nat_lt k (end_of q)) here in
      let its_low = leb-true q.offset k its.0 in
      let its_high = ltb-true k (end_of q) its.1 in
      or_left (share_a_byte p q) (list_any (share_a_byte p) qs)
      (lt-ltb (max p.offset q.offset) (min (end_of p) (end_of q)) (omega (arith, its_low, its_high)))
  | inr later ↦ or_right (share_a_byte p q) (list_any (share_a_byte p) qs) (shares_from_held qs p k low high later)
]

-- a place of the packet's range that another holds
pub record Shared (ks : List Parts) (p : Parts) : Type 0 where
  pub place : ℕ
  pub low : p.offset ≤ place
  pub high : place < end_of p
  pub held_there : list_any (holds_byte place) ks ≡ true

pub held_from_shares : (ks : List Parts) (p : Parts) → list_any (share_a_byte p) ks ≡ true → Shared ks p
held_from_shares [] p some = absurd (false≢true some)
held_from_shares (q ∷ qs) p some = elim (or_cases (share_a_byte p q) (list_any (share_a_byte p) qs) some) [
  | inl here ↦
      let gap = ltb-true (max p.offset q.offset) (min (end_of p) (end_of q)) here in
      let k = max p.offset q.offset in
      record {
        place = k;
        low = omega arith;
        high = omega (arith, gap);
        held_there = or_left (holds_byte k q) (list_any (holds_byte k) qs)
            (and_from (nat_le q.offset k) (nat_lt k (end_of q)) (le-leb q.offset k (omega arith))
            (lt-ltb k (end_of q) (omega (arith, gap))));
      }
  | inr later ↦
      let s = held_from_shares qs p later in
      record {
        place = s.place;
        low = s.low;
        high = s.high;
        held_there = or_right (holds_byte s.place q) (list_any (holds_byte s.place) qs) s.held_there;
      }
]
