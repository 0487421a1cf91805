-- Kept packets that agree and share no byte: what one more brings.
use Rattle.std.proofs.Common.{◌≡◌, ◌≢◌, ℕ, zero, suc, ◌+◌, ◌-◌, ◌<◌, ◌≤◌, Bool, true, false, cond, ◌||◌, nat_lt, nat_le, nat_eq, if◌then◌else◌, List, [], ◌∷◌, ◌++◌, length, find, slice_index, Option, Some, None, is_some, is_none, option_map, refl, sym, ap, ap₂, subst, ◌∙◌, inl, inr, arith, append-nil}
use Rattle.std.specs.List.{list_any, flat_map}
use Rattle.std.specs.Option.{option_or}
use Rattle.std.proofs.lemmas.Bool.{and_from, and_left, and_right, eqb-true, or_cases, le-leb, le-ltb, lt-leb, lt-ltb, false≢true}
use Rattle.std.proofs.lemmas.List.{append_assoc}
use Rattle.std.proofs.lemmas.List.Folds.{find-append}
use Rattle.std.proofs.lemmas.List.Sums.{fold-append, sum_by_push}
use Rattle.std.proofs.lemmas.Option.{none-some}
use Rattle.corr_model.specs.declared.heap.DropCause.{DropCause}
use Rattle.corr_model.specs.declared.heap.DropCause.TheVariants.{SizeDiffers, PastSize, Overlap, TooManyPointers}
use Rattle.corr_model.specs.Lists.{distinct}
use Rattle.corr_model.specs.Packets.{Parts}
use Rattle.corr_model.specs.Windows.{PlacedPacket, end_of}
use Rattle.corr_model.specs.Assembly.{are_same, sizes_differ, is_past, share_a_byte, pointers_of, said_size, payload_bytes, holds_byte, drop_cause, kept, fates, fate_next}
use Rattle.corr_model.specs.LiveHeaps.{greatest_end, byte_brought}
use Rattle.corr_model.proofs.Turns.{in_turn_keeps}
use Rattle.corr_model.proofs.Pushes.{kept_push}
use Rattle.heap_assembly.specs.Marks.{any_marked, marked, Marks}
use Rattle.heap_assembly.specs.Steps.{with_pointers}
use Rattle.heap_assembly.proofs.MarkLemmas.{any_from_one, none_from_any}
use Rattle.heap_assembly.proofs.CountLemmas.{none_marked, marks_more}
use Rattle.heap_assembly.proofs.KeptLemmas.{Agrees, agrees_push, any_differ, brought_any, greatest_push, held, held-lt, one_if, held_from_shares, same_tests, shares_from_held}

-- ---- one more packet's bytes and pointers

mapped_or : (f : Parts → ℕ) (o : Option Parts) (b : Bool) (p : Parts)
    → option_map f (option_or o (cond b (Some p) None)) ≡ option_or (option_map f o) (cond b (Some (f p)) None)
mapped_or f None true p = refl
mapped_or f None false p = refl
mapped_or f (Some q) b p = refl

-- a byte is that of the packets before, where one holds it, or of the packet more
pub brought_push : (ks : List Parts) (p : Parts) (k : ℕ)
    → byte_brought (ks ++ p ∷ []) k
    ≡ option_or (byte_brought ks k) (cond (holds_byte k p) (Some (slice_index p.payload (k - p.offset))) None)
brought_push ks p k =
    let byte : Parts → ℕ = λ q. slice_index q.payload (k - q.offset) in
    ap (option_map byte) (find-append (holds_byte k) ks (p ∷ [])) ∙ mapped_or byte (find (holds_byte k) ks)
    (holds_byte k p) p

or_none : (o : Option ℕ) → option_or o None ≡ o
or_none None = refl
or_none (Some n) = refl

-- outside its range it brings none
pub brought_outside : (ks : List Parts) (p : Parts) (k : ℕ) → holds_byte k p ≡ false
    → byte_brought (ks ++ p ∷ []) k ≡ byte_brought ks k
brought_outside ks p k outside =
    brought_push ks p k ∙ ap
    (λ b. option_or (byte_brought ks k) (cond b (Some (slice_index p.payload (k - p.offset))) None)) outside ∙
    or_none (byte_brought ks k)

-- in its range it brings its own, where no other does
pub brought_inside : (ks : List Parts) (p : Parts) (k : ℕ) → holds_byte k p ≡ true → byte_brought ks k ≡ None
    → byte_brought (ks ++ p ∷ []) k ≡ Some (slice_index p.payload (k - p.offset))
brought_inside ks p k inside free =
    brought_push ks p k ∙ ap₂
    (λ o b. option_or o (cond b (Some (slice_index p.payload (k - p.offset))) None)) free inside

pub holds_inside : (p : Parts) (k : ℕ) → p.offset ≤ k → k < end_of p → holds_byte k p ≡ true
holds_inside p k low high =
    and_from (nat_le p.offset k) (nat_lt k (end_of p)) (le-leb p.offset k low) (lt-ltb k (end_of p) high)

pub holds_below : (p : Parts) (k : ℕ) → k < p.offset → holds_byte k p ≡ false
holds_below p k below = and_left (nat_le p.offset k) (nat_lt k (end_of p)) (lt-leb p.offset k below)

pub holds_above : (p : Parts) (k : ℕ) → end_of p ≤ k → holds_byte k p ≡ false
holds_above p k above = and_right (nat_le p.offset k) (nat_lt k (end_of p)) (le-ltb k (end_of p) above)

flat_push : (ks : List Parts) (p : Parts)
    → flat_map (λ q. q.pointers) (ks ++ p ∷ []) ≡ flat_map (λ q. q.pointers) ks ++ p.pointers
flat_push [] p = append-nil p.pointers
flat_push (k ∷ ks) p =
    ap (λ ps. k.pointers ++ ps) (flat_push ks p) ∙ sym
    (append_assoc k.pointers (flat_map (λ q. q.pointers) ks) p.pointers)

-- one more packet's pointers come in turn behind those before
pub pointers_push : (ks : List Parts) (p : Parts)
    → pointers_of (ks ++ p ∷ []) ≡ with_pointers (pointers_of ks) p.pointers
pointers_push ks p =
    ap (distinct are_same) (flat_push ks p)
    ∙ fold-append (λ before q. if list_any (are_same q) before then before else before ++ q ∷ []) []
    (flat_map (λ q. q.pointers) ks) p.pointers

pub bytes_push : (ks : List Parts) (p : Parts) → payload_bytes (ks ++ p ∷ []) ≡ payload_bytes ks + length p.payload
bytes_push ks p = sum_by_push (λ q. length q.payload) ks p

-- ---- shared bytes by marks

some_if_one : (b : Bool) → one_if b ≡ 1 → b ≡ true
some_if_one true is = refl
some_if_one false is = absurd (omega arith)

pub held_one : (ks : List Parts) (k : ℕ) → list_any (holds_byte k) ks ≡ true → held ks k ≡ 1
held_one ks k some = ap one_if (brought_any ks k ∙ some)

pub one_held : (ks : List Parts) (k : ℕ) → held ks k ≡ 1 → list_any (holds_byte k) ks ≡ true
one_held ks k one = sym (brought_any ks k) ∙ some_if_one (is_some (byte_brought ks k)) one

-- a place of a range that is marked, if one is
pub record Marked (marks : ℕ → ℕ) (from n : ℕ) : Type 0 where
  pub place : ℕ
  pub low : from ≤ place
  pub high : place < from + n
  pub one : marks place ≡ 1

pub marked_from_any : (marks : ℕ → ℕ) (from n : ℕ) → any_marked marks from n ≡ true → Marked marks from n
marked_from_any marks from zero some = absurd (false≢true some)
marked_from_any marks from (suc n) some = elim (or_cases (nat_eq (marks (from + n)) 1) (any_marked marks from n) some) [
  | inl here ↦ record {
    place = from + n;
    low = omega arith;
    high = omega arith;
    one = eqb-true (marks (from + n)) 1 here;
  }
  | inr before ↦
      let m = marked_from_any marks from n before in
      record { place = m.place; low = m.low; high = let less = m.high in omega (arith, less); one = m.one }
]

-- a packet shares a byte with these where one of its places is held
pub any_share : (ks : List Parts) (p : Parts)
    → list_any (share_a_byte p) ks ≡ any_marked (held ks) p.offset (length p.payload)
any_share ks p =
    same_tests (list_any (share_a_byte p) ks) (any_marked (held ks) p.offset (length p.payload))
    (λ some. let s = held_from_shares ks p some in any_from_one (held ks) p.offset (length p.payload) s.place s.low
    s.high (held_one ks s.place s.held_there))
    (λ some. let m = marked_from_any (held ks) p.offset (length p.payload) some in shares_from_held ks p m.place m.low
    m.high (one_held ks m.place m.one))

-- ---- kept packets

-- they say at most one size, and hold as many places as they bring bytes
pub record IsKeeping (ks : List Parts) : Type 0 where
  pub agree : Agrees (said_size ks) ks
  pub counted : (n : ℕ) → greatest_end ks ≤ n → marked (held ks) n ≡ payload_bytes ks

-- the tests that a kept packet passed
pub record HasPassed (ks : List Parts) (p : Parts) : Type 0 where
  pub sizes : list_any (λ k. sizes_differ k.size p.size) ks ≡ false
  pub free : list_any (share_a_byte p) ks ≡ false

cond_none : {A : Type 0} (b : Bool) (x : A) (rest : Option A) → (if b then Some x else rest) ≡ None
    → (b ≡ false) × (rest ≡ None)
cond_none true x rest e = absurd (none-some x (sym e))
cond_none false x rest e = (refl, e)

pub has_passed : (ks : List Parts) (p : Parts) → drop_cause ks p ≡ None → HasPassed ks p
has_passed ks p none =
    let pointers = if nat_lt 64 (length (pointers_of (ks ++ p ∷ []))) then Some TooManyPointers else None in
    let overlap = if list_any (share_a_byte p) ks then Some Overlap else pointers in
    let past = if list_any (λ k. is_past k.size (end_of p) || is_past p.size (end_of k)) ks then Some PastSize
    else overlap in
    let first = cond_none (list_any (λ k. sizes_differ k.size p.size) ks) SizeDiffers past none in
    let second = cond_none (list_any (λ k. is_past k.size (end_of p) || is_past p.size (end_of k)) ks) PastSize
    overlap first.1 in
    let third = cond_none (list_any (share_a_byte p) ks) Overlap pointers second.1 in
    record { sizes = first.0; free = third.0 }

none_of_zero : (o : Option ℕ) → one_if (is_some o) ≢ 1 → o ≡ None
none_of_zero None not_one = refl
none_of_zero (Some n) not_one = absurd (not_one refl)

-- where it shares no byte, none of its places is held
pub brought_free : (ks : List Parts) (p : Parts) (k : ℕ) → list_any (share_a_byte p) ks ≡ false → p.offset ≤ k
    → k < end_of p → byte_brought ks k ≡ None
brought_free ks p k free low high =
    none_of_zero (byte_brought ks k)
    (none_from_any (held ks) p.offset (length p.payload) k (sym (any_share ks p) ∙ free) low high)

-- so its range is marked by it
held_push : (ks : List Parts) (p : Parts) → list_any (share_a_byte p) ks ≡ false
    → Marks (held ks) (held (ks ++ p ∷ [])) p.offset (end_of p)
held_push ks p free = record {
  inside = λ k low high.
      ap (λ o. one_if (is_some o))
      (brought_inside ks p k (holds_inside p k low high) (brought_free ks p k free low high));
  below = λ k below. ap (λ o. one_if (is_some o)) (brought_outside ks p k (holds_below p k below));
  above = λ k above. ap (λ o. one_if (is_some o)) (brought_outside ks p k (holds_above p k above));
}

nothing_kept : IsKeeping []
nothing_kept = record { agree = tt; counted = λ n end. none_marked (held []) (λ k. refl) n }

keeping_push : (ks : List Parts) (p : Parts) → drop_cause ks p ≡ None → IsKeeping ks → IsKeeping (ks ++ p ∷ [])
keeping_push ks p none so_far =
    let t = has_passed ks p none in
    let width : end_of p - p.offset ≡ length p.payload = omega arith in
    record {
      agree = agrees_push ks p (sym (any_differ ks p so_far.agree) ∙ t.sizes) so_far.agree;
      counted = λ n within.
          let ends = greatest_push ks p in
          marks_more (held ks) (held (ks ++ p ∷ [])) p.offset (end_of p) n (held_push ks p t.free) (held-lt ks)
          (omega arith) (ap (any_marked (held ks) p.offset) width ∙ sym (any_share ks p) ∙ t.free)
          (omega (arith, ends))
          ∙ ap₂ (λ a b. a + b) (so_far.counted n (omega (arith, ends))) width
          ∙ sym (bytes_push ks p);
    }

keeping_by : (ks : List Parts) (p : Parts) (cause : Option DropCause) → drop_cause ks p ≡ cause → IsKeeping ks
    → IsKeeping (ks ++ cond (is_none cause) (p ∷ []) [])
keeping_by ks p None is so_far = keeping_push ks p is so_far
keeping_by ks p (Some cause) is so_far = subst IsKeeping (sym (append-nil ks)) so_far

-- the packets that a heap keeps are such
pub kept_keeping : (ms : List PlacedPacket) → IsKeeping (kept (fates ms))
kept_keeping ms =
    in_turn_keeps (λ fs. IsKeeping (kept fs)) fate_next nothing_kept
    (λ before q so_far. subst IsKeeping (sym (kept_push before (fate_next before q)))
    (keeping_by (kept before) q.packet (drop_cause (kept before) q.packet) refl so_far)) ms
