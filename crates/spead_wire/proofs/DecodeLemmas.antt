-- What is read of a header and of the bytes behind it is what the whole byte string spells.
use Rattle.std.proofs.Common.{◌≡◌, ℕ, ◌*◌, ◌<◌, ◌^◌, List, length, drop, map, Option, Some, None, Result, Ok, Err, IfOk, sym, ap, ◌∙◌, subst, arith}
use Rattle.std.proofs.lemmas.List.{drop-drop, length-map}
use Rattle.corr_model.specs.declared.pointer.Pointer.{Pointer}
use Rattle.corr_model.specs.declared.pointer.Refusal.{Refusal}
use Rattle.corr_model.specs.Packets.{Parts, Spells, pointer_of, words_in, pointer_count, pointers_in, payload_in, front_refusal, either_row}
use Rattle.corr_model.proofs.PacketLaws.{neither_applies, found, not_refused, again}
use Rattle.corr_model.proofs.PacketWords.{length-words_in}
use Rattle.spead_wire.specs.Reading.{IsReading}

early : (front later : Option Refusal) (e : Refusal) → front ≡ Some e → either_row front later ≡ None → ⊥
early None later e h k = cc
early (Some x) later e h k = cc

late : (front later : Option Refusal) (e : Refusal) → front ≡ None → later ≡ Some e → either_row front later ≡ None → ⊥
late None later e h k n = cc
late (Some x) later e h k n = cc

-- bytes whose header is refused spell nothing
pub refused_front : (bytes : List ℕ) (e : Refusal) (p : Parts) → front_refusal bytes ≡ Some e → Spells bytes p → ⊥
refused_front bytes e p h s = early _ _ e h (not_refused bytes p s)

-- a reading of the words and the payload of bytes whose header passes
pub record IsReadOf (bytes : List ℕ) (r : Result Parts Refusal) : Type 0 where
  pub front : front_refusal bytes ≡ None
  pub reading : IsReading (pointers_in bytes) (payload_in bytes) r

pub read_of : (bytes rest payload : List ℕ) (count : ℕ) (ps : List Pointer) (r : Result Parts Refusal)
    → front_refusal bytes ≡ None → count ≡ pointer_count bytes → rest ≡ drop 8 bytes → payload ≡ drop (8 * count) rest
    → ps ≡ map pointer_of (words_in count rest) → IsReading ps payload r → IsReadOf bytes r
read_of bytes rest payload count ps r front counted behind cut words reading =
    let pointers : ps ≡ pointers_in bytes
    = words ∙ ap (λ n. map pointer_of (words_in n rest)) counted ∙ ap
    (λ xs. map pointer_of (words_in (pointer_count bytes) xs)) behind in
    let left : payload ≡ payload_in bytes
    = cut ∙ ap (λ n. drop (8 * n) rest) counted ∙ ap (λ xs. drop (8 * pointer_count bytes) xs) behind ∙ drop-drop
    (8 * pointer_count bytes) 8 bytes in
    record {
      front = front;
      reading = subst (λ ws. IsReading ws (payload_in bytes) r) pointers (subst (λ xs. IsReading ps xs r) left reading);
    }

pub spelled : (bytes : List ℕ) (r : Result Parts Refusal) → IsReadOf bytes r → IfOk r (λ p. Spells bytes p)
spelled bytes (Ok p) h =
    subst (λ q. Spells bytes q) (sym h.reading.1) (found bytes (neither_applies _ _ h.front h.reading.0))
spelled bytes (Err e) h = tt

pub only : (bytes : List ℕ) (r : Result Parts Refusal) (p : Parts) → IsReadOf bytes r → Spells bytes p → r ≡ Ok p
only bytes (Ok q) p h s = ap (λ (x : Parts). Ok x) (h.reading.1 ∙ again bytes p s)
only bytes (Err e) p h s = absurd (late _ _ e h.front h.reading (not_refused bytes p s))

-- there are as many item pointers as the words that were cut
pub few_words : (count : ℕ) (rest : List ℕ) (ps : List Pointer) → ps ≡ map pointer_of (words_in count rest)
    → count < 2 ^ 16 → length ps < 2 ^ 16
few_words count rest ps words few =
    let cut = ap (λ (xs : List Pointer). length xs) words ∙ length-map (words_in count rest) pointer_of ∙
    length-words_in count rest in
    omega arith
