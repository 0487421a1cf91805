-- The kept packets of a whole heap hold each byte exactly once.
use Rattle.std.proofs.Common.{◌≡◌, ℕ, zero, suc, ◌+◌, ◌-◌, ◌<◌, ◌≤◌, min, max, Bool, true, false, cond, ◌&&◌, ◌||◌, nat_lt, nat_le, if◌then◌else◌, List, [], ◌∷◌, ◌++◌, Option, Some, None, IfSome, is_none, All, length, map, filter, find, slice_index, count_by, sum_by, refl, sym, ap, ap₂, ◌∙◌, inl, inr, append-nil, arith}
use Rattle.std.specs.List.{list_any}
use Rattle.std.specs.Option.{option_or}
use Rattle.std.proofs.lemmas.Bool.{and_from, and_left, and_parts, and_right, cases_Bool, cases_lt, le-ltb, lt-leb, eqb-true, false_from_ne_true, le-leb, leb-true, lt-ltb, ltb-false, ltb-true, or_parts, false≢true}
use Rattle.std.proofs.lemmas.List.{get_or-map, length-map, map-append}
use Rattle.std.proofs.lemmas.List.Elements.{All-cons, All-head, All-nil, All-push, All-tail, filter-append}
use Rattle.std.proofs.lemmas.Option.{none-some, same_Some}
use Rattle.std.proofs.lemmas.List.Sums.{sum_by-cons, sum_by_push}
use Rattle.corr_model.specs.declared.heap.DropCause.{DropCause}
use Rattle.corr_model.specs.declared.heap.DropCause.TheVariants.{SizeDiffers, PastSize, Overlap, TooManyPointers}
use Rattle.corr_model.specs.Lists.{numbers}
use Rattle.corr_model.specs.Packets.{Parts}
use Rattle.corr_model.specs.Windows.{PlacedPacket, end_of}
use Rattle.corr_model.specs.Assembly.{byte_of, joined, sizes_differ, is_past, share_a_byte, pointers_of, drop_cause, Fate, kept, fate_next, said_size, adds_up, payload_bytes, holds_byte}
use Rattle.corr_model.proofs.CountedLists.{length-numbers, numbers_push, get_or-numbers}

-- ---- counts of bytes

-- one where the test passes
abbrev pub one_if : Bool → ℕ
one_if b = cond b 1 0

held_step : (o e n s t : ℕ) → o ≤ e → s + min n o ≡ min n e → t ≡ s + one_if (nat_le o n && nat_lt n e)
    → t + min (suc n) o ≡ min (suc n) e
held_step o e n s t order before more =
    elim (cases_lt n o) [
      | inl early ↦ let no : (nat_le o n && nat_lt n e) ≡ false =
          and_left (nat_le o n) (nat_lt n e) (lt-leb o n early) in
          let same : t ≡ s + 0 = more ∙ ap (λ b. s + one_if b) no in omega arith
      | inr begun ↦ elim (cases_lt n e) [
        | inl inside ↦ let yes : (nat_le o n && nat_lt n e) ≡ true =
            and_from (nat_le o n) (nat_lt n e) (le-leb o n begun) (lt-ltb n e inside) in
            let one : t ≡ s + 1 = more ∙ ap (λ b. s + one_if b) yes in omega arith
        | inr after ↦ let no : (nat_le o n && nat_lt n e) ≡ false =
            and_right (nat_le o n) (nat_lt n e) (le-ltb n e after) in
            let same : t ≡ s + 0 = more ∙ ap (λ b. s + one_if b) no in omega arith
      ]
    ]

-- one more number in a sum
sum_more : (f : ℕ → ℕ) (n : ℕ) → sum_by f (numbers 0 (suc n)) ≡ sum_by f (numbers 0 n) + f n
sum_more f n =
    ap (sum_by f) (numbers_push 0 n) ∙ sum_by_push f (numbers 0 n) (0 + n) ∙ ap (λ m. sum_by f (numbers 0 n) + f m)
    (let e : 0 + n ≡ n = omega arith in e)

-- below n the packet holds the bytes from its offset to its end
held_below : (p : Parts) (n : ℕ) → count_by (λ k. holds_byte k p) (numbers 0 n) + min n p.offset ≡ min n (end_of p)
held_below p zero = omega arith
held_below p (suc n) =
    held_step p.offset (end_of p) n (count_by (λ k. holds_byte k p) (numbers 0 n))
    (count_by (λ k. holds_byte k p) (numbers 0 (suc n))) (omega arith) (held_below p n)
    (sum_more (λ k. one_if (holds_byte k p)) n)

-- a packet that ends within n holds as many of these bytes as it brings
held_all : (p : Parts) (n : ℕ) → end_of p ≤ n → count_by (λ k. holds_byte k p) (numbers 0 n) ≡ length p.payload
held_all p n within = let below = held_below p n in omega (arith, below)

-- how many packets hold a byte
abbrev pub holders : List Parts → ℕ → ℕ
holders ps k = count_by (holds_byte k) ps

sum_of_sums : (f g h : ℕ → ℕ) → ((k : ℕ) → h k ≡ f k + g k) → (ns : List ℕ) → sum_by h ns ≡ sum_by f ns + sum_by g ns
sum_of_sums f g h same [] = refl
sum_of_sums f g h same (n ∷ ns) =
    let rest = sum_of_sums f g h same ns in
    let a = sum_by-cons f n ns in
    let b = sum_by-cons g n ns in
    let here = same n in
    sum_by-cons h n ns ∙
    (let e : h n + sum_by h ns ≡ (f n + sum_by f ns) + (g n + sum_by g ns) = omega (arith, rest, here) in e) ∙ ap₂
    (λ x y. x + y) (sym a) (sym b)

none_held : (n : ℕ) → sum_by (holders []) (numbers 0 n) ≡ 0
none_held zero = refl
none_held (suc n) = sum_more (holders []) n ∙ ap (λ s. s + 0) (none_held n)

-- counted by bytes or by packets, the sum is the same
counted_twice : (ps : List Parts) (n : ℕ) → All (λ p. end_of p ≤ n) ps
    → sum_by (holders ps) (numbers 0 n) ≡ payload_bytes ps
counted_twice [] n within = none_held n
counted_twice (p ∷ ps) n within =
    let ends : Parts → Type 0 = λ q. end_of q ≤ n in
    sum_of_sums (λ k. one_if (holds_byte k p)) (holders ps) (holders (p ∷ ps))
    (λ k. sum_by-cons (λ q. one_if (holds_byte k q)) p ps) (numbers 0 n)
    ∙ ap₂ (λ x y. x + y) (held_all p n (All-head ends p ps within)) (counted_twice ps n (All-tail ends p ps within))
    ∙ sym (sum_by-cons (λ q. length q.payload) p ps)

small_sum : (f : ℕ → ℕ) → ((k : ℕ) → f k ≤ 1) → (n : ℕ) → sum_by f (numbers 0 n) ≤ n
small_sum f small zero = omega arith
small_sum f small (suc n) =
    let before = small_sum f small n in let here = small n in omega (arith, sum_more f n, before, here)

-- numbers of at most one that add up to as many as they are, are one each
all_one : (f : ℕ → ℕ) → ((k : ℕ) → f k ≤ 1) → (n : ℕ) → sum_by f (numbers 0 n) ≡ n → (k : ℕ) → k < n → f k ≡ 1
all_one f small zero whole k below = absurd (omega arith)
all_one f small (suc n) whole k below =
    let more = sum_more f n in
    let most = small_sum f small n in
    let last = small n in
    elim (cases_lt k n) [
      | inl less ↦ all_one f small n (omega (arith, more, most, last, whole)) k less
      | inr same ↦ let e : k ≡ n = omega arith in let one : f n ≡ 1 =
          omega (arith, more, most, last, whole) in ap f e ∙ one
    ]

-- ---- kept packets

-- a packet that shares no byte with these has its bytes alone
no_holder : (ps : List Parts) (p : Parts) (k : ℕ) → list_any (share_a_byte p) ps ≡ false → holds_byte k p ≡ true
    → holders ps k ≡ 0
no_holder [] p k apart held = refl
no_holder (q ∷ qs) p k apart held =
    let parts = or_parts (share_a_byte p q) (list_any (share_a_byte p) qs) apart in
    let gap = ltb-false (max p.offset q.offset) (min (end_of p) (end_of q)) parts.0 in
    let mine = and_parts (nat_le p.offset k) (nat_lt k (end_of p)) held in
    let low = leb-true p.offset k mine.0 in
    let high = ltb-true k (end_of p) mine.1 in
    let not_other : holds_byte k q ≡ true → ⊥
    = λ other.
    let its = and_parts (nat_le q.offset k) (nat_lt k (end_of q)) other in
    let its_low = leb-true q.offset k its.0 in
    let its_high = ltb-true k (end_of q) its.1 in
    omega (arith, gap, low, high, its_low, its_high) in
    sum_by-cons (λ r. one_if (holds_byte k r)) q qs
    ∙ ap₂ (λ b n. one_if b + n) (false_from_ne_true (holds_byte k q) not_other) (no_holder qs p k parts.1 held)

-- the test for an end past a size, either way round
abbrev past_either : Parts → Parts → Bool
past_either p q = is_past q.size (end_of p) || is_past p.size (end_of q)

not_past : (size end z : ℕ) → size ≡ z → is_past (Some size) end ≡ false → end ≤ z
not_past size end z same past = let within = ltb-false size end past in omega (arith, within, same)

by_first_size : (s rest : Option ℕ) (z e : ℕ) → option_or s rest ≡ Some z → is_past s e ≡ false
    → (rest ≡ Some z → e ≤ z) → e ≤ z
by_first_size None rest z e said past later = later said
by_first_size (Some n) rest z e said past later = not_past n e z (same_Some n z said) past

-- a packet that passes the test ends within the size that these say
ends_within : (ps : List Parts) (p : Parts) (z : ℕ) → said_size ps ≡ Some z → list_any (past_either p) ps ≡ false
    → end_of p ≤ z
ends_within [] p z said past = absurd (none-some z said)
ends_within (q ∷ qs) p z said past =
    let parts = or_parts (past_either p q) (list_any (past_either p) qs) past in
    let its = or_parts (is_past q.size (end_of p)) (is_past p.size (end_of q)) parts.0 in
    by_first_size q.size (said_size qs) z (end_of p) said its.0 (λ later. ends_within qs p z later parts.1)

past_said : (s : Option ℕ) (z e : ℕ) → s ≡ Some z → is_past s e ≡ false → e ≤ z
past_said None z e said past = absurd (none-some z said)
past_said (Some n) z e said past = not_past n e z (same_Some n z said) past

-- and these end within the size that it says
others_end_within : (ps : List Parts) (p : Parts) (z : ℕ) → p.size ≡ Some z → list_any (past_either p) ps ≡ false
    → All (λ q. end_of q ≤ z) ps
others_end_within [] p z said past = All-nil (λ q. end_of q ≤ z)
others_end_within (q ∷ qs) p z said past =
    let parts = or_parts (past_either p q) (list_any (past_either p) qs) past in
    let its = or_parts (is_past q.size (end_of p)) (is_past p.size (end_of q)) parts.0 in
    All-cons (λ r. end_of r ≤ z) q qs (past_said p.size z (end_of q) said its.1) (others_end_within qs p z said parts.1)

or_none : (s : Option ℕ) → option_or s None ≡ s
or_none None = refl
or_none (Some n) = refl

or_or : (r s t : Option ℕ) → option_or r (option_or s t) ≡ option_or (option_or r s) t
or_or None s t = refl
or_or (Some n) s t = refl

-- one more packet's size
said_push : (ps : List Parts) (p : Parts) → said_size (ps ++ p ∷ []) ≡ option_or (said_size ps) p.size
said_push [] p = or_none p.size
said_push (q ∷ qs) p = ap (option_or q.size) (said_push qs p) ∙ or_or q.size (said_size qs) p.size

-- no byte is held twice, and none past a said size
pub record IsApart (ps : List Parts) : Type 0 where
  pub once : (k : ℕ) → holders ps k ≤ 1
  pub within : (z : ℕ) → said_size ps ≡ Some z → All (λ p. end_of p ≤ z) ps

pub none_apart : IsApart []
none_apart = record { once = λ k. omega arith; within = λ z said. All-nil (λ p. end_of p ≤ z) }

abbrev pub EndsWithin : Parts → Type 0
EndsWithin p = IfSome p.size (λ size. end_of p ≤ size)

own_size : (s : Option ℕ) (z e : ℕ) → s ≡ Some z → IfSome s (λ size. e ≤ size) → e ≤ z
own_size None z e said own = absurd (none-some z said)
own_size (Some n) z e said own = let same = same_Some n z said in omega (arith, same, own)

cond_none : {A : Type 0} (b : Bool) (x : A) (rest : Option A) → (if b then Some x else rest) ≡ None
    → (b ≡ false) × (rest ≡ None)
cond_none true x rest e = absurd (none-some x (sym e))
cond_none false x rest e = (refl, e)

-- the tests that a kept packet passed
passed : (ps : List Parts) (p : Parts) → drop_cause ps p ≡ None
    → (list_any (past_either p) ps ≡ false) × (list_any (share_a_byte p) ps ≡ false)
passed ps p none =
    let pointers = if nat_lt 64 (length (pointers_of (ps ++ p ∷ []))) then Some TooManyPointers else None in
    let overlap = if list_any (share_a_byte p) ps then Some Overlap else pointers in
    let past = if list_any (past_either p) ps then Some PastSize else overlap in
    let first = cond_none (list_any (λ k. sizes_differ k.size p.size) ps) SizeDiffers past none in
    let second = cond_none (list_any (past_either p) ps) PastSize overlap first.1 in
    let third = cond_none (list_any (share_a_byte p) ps) Overlap pointers second.1 in
    (second.0, third.0)

within_by : (ps : List Parts) (p : Parts) (s : Option ℕ) → said_size ps ≡ s → IsApart ps → EndsWithin p
    → list_any (past_either p) ps ≡ false
    → (z : ℕ) → option_or s p.size ≡ Some z → All (λ q. end_of q ≤ z) (ps ++ p ∷ [])
within_by ps p None is apart own past z said =
    All-push (λ q. end_of q ≤ z) ps p (others_end_within ps p z said past) (own_size p.size z (end_of p) said own)
within_by ps p (Some n) is apart own past z said =
    All-push (λ q. end_of q ≤ z) ps p (apart.within z (is ∙ said)) (ends_within ps p z (is ∙ said) past)

-- one more kept packet
push_apart : (ps : List Parts) (p : Parts) → IsApart ps → EndsWithin p → drop_cause ps p ≡ None → IsApart (ps ++ p ∷ [])
push_apart ps p apart own none =
    let tests = passed ps p none in
    let pushed : (k : ℕ) → holders (ps ++ p ∷ []) k ≡ holders ps k + one_if (holds_byte k p) =
    λ k. sum_by_push (λ q. one_if (holds_byte k q)) ps p in
    record {
      once = λ k.
          elim (cases_Bool (holds_byte k p)) [
            | inl held ↦ let alone = no_holder ps p k tests.1 held in let one =
                ap one_if held in omega (arith, pushed k, alone, one)
            | inr free ↦ let before = apart.once k in let none_here =
                ap one_if free in omega (arith, pushed k, before, none_here)
          ];
      within = λ z said. within_by ps p (said_size ps) refl apart own tests.0 z (sym (said_push ps p) ∙ said);
    }

abbrev pub kept_by : Option DropCause → List Parts → Parts → List Parts
kept_by None ps p = ps ++ p ∷ []
kept_by (Some cause) ps p = ps

kept_one : (q : PlacedPacket) (cause : Option DropCause) (ps : List Parts)
    → ps ++ kept (record { member = q; cause = cause } ∷ []) ≡ kept_by cause ps q.packet
kept_one q None ps = refl
kept_one q (Some cause) ps = append-nil ps

-- one more member among the kept packets
pub kept_push : (fs : List Fate) (q : PlacedPacket)
    → kept (fs ++ fate_next fs q ∷ []) ≡ kept_by (drop_cause (kept fs) q.packet) (kept fs) q.packet
kept_push fs q =
    let is_kept : Fate → Bool = λ f. is_none f.cause in
    ap (map (λ f. f.member.packet)) (filter-append is_kept fs (fate_next fs q ∷ []))
    ∙ map-append (λ f. f.member.packet) (filter is_kept fs) (filter is_kept (fate_next fs q ∷ []))
    ∙ kept_one q (drop_cause (kept fs) q.packet) (kept fs)

pub apart_by : (ps : List Parts) (p : Parts) (cause : Option DropCause) → drop_cause ps p ≡ cause → IsApart ps
    → EndsWithin p → IsApart (kept_by cause ps p)
apart_by ps p None is apart own = push_apart ps p apart own is
apart_by ps p (Some cause) is apart own = apart

pub added_up : (s : Option ℕ) (n : ℕ) → adds_up s n ≡ true → s ≡ Some n
added_up None n e = absurd (false≢true e)
added_up (Some size) n e = ap Some (eqb-true size n e)

-- packets of which none holds a byte of another hold each byte once, where their lengths add up to the size
pub held_once : (ps : List Parts) (k : ℕ) → IsApart ps → adds_up (said_size ps) (payload_bytes ps) ≡ true
    → k < payload_bytes ps → count_by (holds_byte k) ps ≡ 1
held_once ps k apart complete below =
    let n = payload_bytes ps in
    let ends = apart.within n (added_up (said_size ps) n complete) in
    all_one (holders ps) apart.once n (counted_twice ps n ends) k below

found_one : {X : Type 0} (test : X → Bool) (xs : List X) → 1 ≤ count_by test xs
    → (x : X) × (find test xs ≡ Some x) × (test x ≡ true)
found_one test [] some = absurd (omega arith)
found_one test (x ∷ xs) some = elim (cases_Bool (test x)) [
  | inl here ↦ (x, ap (λ b. cond b (Some x) (find test xs)) here, here)
  | inr not_here ↦
      let count = sum_by-cons (λ y. one_if (test y)) x xs in
      let zero_here = ap one_if not_here in
      let rest = found_one test xs (omega (arith, some, count, zero_here)) in
      (rest.0, ap (λ b. cond b (Some x) (find test xs)) not_here ∙ rest.1, rest.2)
]

-- a byte that one packet holds is that of a packet
pub joined_byte : (ps : List Parts) (k : ℕ) → k < payload_bytes ps → count_by (holds_byte k) ps ≡ 1
    → (p : Parts) × (find (holds_byte k) ps ≡ Some p) × (p.offset ≤ k) × (k < end_of p)
    × (slice_index (joined ps) k ≡ slice_index p.payload (k - p.offset))
joined_byte ps k below once =
    let n = payload_bytes ps in
    let found = found_one (holds_byte k) ps (omega (arith, once)) in
    let p = found.0 in
    let range = and_parts (nat_le p.offset k) (nat_lt k (end_of p)) found.2 in (
      p,
      found.1,
      leb-true p.offset k range.0,
      ltb-true k (end_of p) range.1,
      get_or-map (λ m. byte_of m (find (holds_byte m) ps)) (numbers 0 n) k 0 0 (omega (arith, length-numbers 0 n))
          ∙ ap (λ m. byte_of m (find (holds_byte m) ps))
          (get_or-numbers 0 n k 0 below ∙ (let e : 0 + k ≡ k = omega arith in e))
          ∙ ap (byte_of k) found.1,
    )

-- a payload has as many bytes as its packets bring
pub length-joined : (ps : List Parts) → length (joined ps) ≡ payload_bytes ps
length-joined ps = length-map (numbers 0 (payload_bytes ps)) (λ k. byte_of k (find (holds_byte k) ps)) ∙ length-numbers
    0 (payload_bytes ps)
