-- What always holds of a heap that is being put together, after each change.
use Rattle.std.proofs.Common.{◌≡◌, ℕ, ◌+◌, ◌-◌, ◌*◌, ◌^◌, ◌<◌, ◌≤◌, max, Bool, true, false, ◌||◌, nat_le, if◌then◌else◌, List, ◌++◌, length, take, drop, Option, Some, None, IfSome, refl, sym, ap, ap₂, subst, ◌∙◌, arith, length-append, length-take, length-drop}
use Rattle.std.specs.Option.{option_or}
use Rattle.std.proofs.lemmas.Bool.{and_parts, or_parts, leb-true, ltb-false, le-ltb}
use Rattle.std.proofs.lemmas.Option.{none-some}
use Rattle.corr_model.specs.declared.heap.DropCause.TheVariants.{SizeDiffers, PastSize, Overlap}
use Rattle.corr_model.specs.Packets.{Parts}
use Rattle.corr_model.specs.Windows.{end_of, is_within, is_size_within}
use Rattle.corr_model.specs.Assembly.{sizes_differ, is_past, adds_up}
use Rattle.heap_assembly.specs.Marks.{mark_at, any_marked, marked}
use Rattle.heap_assembly.specs.LiveStates.{LiveState}
use Rattle.heap_assembly.specs.Inside.{IsSound}
use Rattle.heap_assembly.specs.Steps.{early_cause, Keeps}
use Rattle.heap_assembly.proofs.MarkLemmas.{mark_at-lt}
use Rattle.heap_assembly.proofs.CountLemmas.{marks_more, marked-le, none_marked}

-- ---- the tests that a kept packet passed

cond_none : {A : Type 0} (b : Bool) (x : A) (rest : Option A) → (if b then Some x else rest) ≡ None
    → (b ≡ false) × (rest ≡ None)
cond_none true x rest e = absurd (none-some x (sym e))
cond_none false x rest e = (refl, e)

-- no cause by sizes and bytes
pub record HasNoCause (e : LiveState) (p : Parts) : Type 0 where
  pub sizes : sizes_differ e.size p.size ≡ false
  pub past_known : is_past e.size (end_of p) ≡ false
  pub past_said : is_past p.size e.ending ≡ false
  pub free : any_marked (mark_at e.words) p.offset (length p.payload) ≡ false

pub passed : (e : LiveState) (p : Parts) → early_cause e p ≡ None → HasNoCause e p
passed e p none =
    let overlap = if any_marked (mark_at e.words) p.offset (length p.payload) then Some Overlap else None in
    let past = if is_past e.size (end_of p) || is_past p.size e.ending then Some PastSize else overlap in
    let first = cond_none (sizes_differ e.size p.size) SizeDiffers past none in
    let second = cond_none (is_past e.size (end_of p) || is_past p.size e.ending) PastSize overlap first.1 in
    let third = cond_none (any_marked (mark_at e.words) p.offset (length p.payload)) Overlap None second.1 in
    let ends = or_parts (is_past e.size (end_of p)) (is_past p.size e.ending) second.0 in
    record { sizes = first.0; past_known = ends.0; past_said = ends.1; free = third.0 }

-- the end of a packet within the limit
pub end_within : (limit : ℕ) (p : Parts) → is_within limit p ≡ true → end_of p ≤ limit
end_within limit p within =
    leb-true (end_of p) limit (and_parts (is_size_within limit p.size) (nat_le (end_of p) limit) within).1

not_past : (size a b : ℕ) → is_past (Some size) a ≡ false → is_past (Some size) b ≡ false
    → is_past (Some size) (max a b) ≡ false
not_past size a b one other =
    let x = ltb-false size a one in
    let y = ltb-false size b other in
    le-ltb size (max a b) (omega (arith, x, y))

within_own : (said : Option ℕ) (end : ℕ) → IfSome said (λ size. end ≤ size) → is_past said end ≡ false
within_own None end within = refl
within_own (Some size) end within = le-ltb size end within

-- neither end is past the size
not_past_either : (known said : Option ℕ) (ending end : ℕ) → is_past known ending ≡ false → is_past known end ≡ false
    → is_past said ending ≡ false → is_past said end ≡ false
    → is_past (option_or known said) (max ending end) ≡ false
not_past_either None None ending end a b c d = refl
not_past_either None (Some size) ending end a b c d = not_past size ending end c d
not_past_either (Some size) said ending end a b c d = not_past size ending end a b

-- ---- one packet more

length_put : (bytes payload : List ℕ) (at : ℕ) → at + length payload ≤ length bytes
    → length (take at bytes ++ (payload ++ drop (at + length payload) bytes)) ≡ length bytes
length_put bytes payload at within = simp (length-append, length-take, length-drop) (omega arith)

-- a packet that is kept leaves it sound
pub sound_after : (old : LiveState) (p : Parts) (new : LiveState) → IsSound old → Keeps old p new
    → early_cause old p ≡ None → IfSome p.size (λ size. end_of p ≤ size)
    → end_of p ≤ old.limit → length new.words ≡ length old.words → IsSound new
sound_after old p new s k none own within long =
    let t = passed old p none in
    let more : marked (mark_at new.words) old.limit ≡ marked (mark_at old.words) old.limit + (end_of p - p.offset)
    = marks_more (mark_at old.words) (mark_at new.words) p.offset (end_of p) old.limit k.words
    (mark_at-lt old.words) (omega arith)
    (let n : end_of p - p.offset ≡ length p.payload =
    omega arith in ap (any_marked (mark_at old.words) p.offset) n ∙ t.free) within in
    let limit = k.limit in
    let sound_room = s.room in
    let sound_few = s.few in
    let sound_ending = s.ending in
    let new_ending = k.ending in
    record {
      small = subst (λ l. l < 2 ^ 32) (sym k.limit) s.small;
      room = omega (arith, limit, long, sound_room);
      few = omega (arith, limit, long, sound_few);
      bytes = ap length k.bytes ∙ length_put old.bytes p.payload p.offset (let b = s.bytes in omega arith) ∙ s.bytes
          ∙ sym k.limit;
      have = k.have ∙ (let h = s.have in omega (arith, h, more)) ∙ ap (marked (mark_at new.words)) (sym k.limit);
      ending = omega (arith, limit, new_ending, sound_ending);
      above = λ i from. k.words.above i (omega (arith, new_ending)) ∙ s.above i (omega (arith, new_ending));
      within = ap₂ is_past k.size k.ending ∙ not_past_either old.size p.size old.ending (end_of p) s.within t.past_known
          t.past_said (within_own p.size (end_of p) own);
      told = k.whole;
    }

-- as many bytes are there as the limit at most
pub have_within : (e : LiveState) → IsSound e → e.have ≤ e.limit
have_within e s = let most =
    marked-le (mark_at e.words) e.limit (mark_at-lt e.words) in let h = s.have in omega (arith, most, h)

-- ---- no packet

-- a heap with no mark and nothing said is sound
pub sound_empty : (e : LiveState) → e.limit < 2 ^ 32 → e.limit ≤ 64 * length e.words
    → 64 * length e.words < e.limit + 64 → length e.bytes ≡ e.limit
    → ((i : ℕ) → mark_at e.words i ≡ 0) → e.have ≡ 0 → e.ending ≡ 0 → e.size ≡ None → e.whole ≡ false → IsSound e
sound_empty e small room few bytes none have ending size whole = record {
  small = small;
  room = room;
  few = few;
  bytes = bytes;
  have = have ∙ sym (none_marked (mark_at e.words) none e.limit);
  ending = omega (arith, ending);
  above = λ i from. none i;
  within = ap (λ s. is_past s e.ending) size;
  told = whole ∙ sym (ap (λ s. adds_up s e.have) size);
}
