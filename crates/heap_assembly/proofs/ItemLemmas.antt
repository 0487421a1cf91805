-- Lemmas on the items of a heap.
use Rattle.std.proofs.Common.{◌≡◌, ℕ, ◌+◌, ◌-◌, ◌<◌, ◌≤◌, min, Bool, true, false, not, List, [], ◌∷◌, length, take, drop, slice_get, map, filter, Option, Some, None, IfSome, cond, fold, ◌&&◌, nat_lt, refl, ap, subst, ◌∙◌, arith, get_or}
use Rattle.std.specs.List.{list_any}
use Rattle.std.proofs.lemmas.Bool.{ltb-true, and_parts, le-ltb}
use Rattle.std.proofs.lemmas.Option.{get_or_from_slice_get}
use Rattle.corr_model.specs.declared.pointer.Pointer.{Pointer}
use Rattle.corr_model.specs.Items.{Group, content_end, content_at, content}
use Rattle.heap_assembly.specs.Heaps.{is_addressed_at}

-- an addressed pointer above the offset
abbrev pub is_above : ℕ → Pointer → Bool
is_above offset p = not p.immediate && nat_lt offset p.value

abbrev pub least : ℕ → ℕ → List Pointer → ℕ
least offset end ps = fold min end (map (λ p. p.value) (filter (is_above offset) ps))

least-low-cond : (offset end : ℕ) (p : Pointer) (ps : List Pointer) (b : Bool) → (b ≡ true → offset < p.value)
    → ((a : ℕ) → offset ≤ a → offset ≤ least offset a ps) → offset ≤ end
    → offset ≤ fold min end
    (map (λ (q : Pointer). q.value) (cond b (p ∷ filter (is_above offset) ps) (filter (is_above offset) ps)))
least-low-cond offset end p ps true above rest h = rest (min end p.value) (omega (arith, above refl))
least-low-cond offset end p ps false above rest h = rest end h

pub least-low : (offset : ℕ) (ps : List Pointer) (end : ℕ) → offset ≤ end → offset ≤ least offset end ps
least-low offset [] end h = h
least-low offset (p ∷ ps) end h =
    least-low-cond offset end p ps (is_above offset p)
    (λ e. ltb-true offset p.value (and_parts (not p.immediate) (nat_lt offset p.value) e).1) (least-low offset ps) h

fold_min-high : (xs : List ℕ) (end : ℕ) → fold min end xs ≤ end
fold_min-high [] end = omega arith
fold_min-high (x ∷ xs) end = omega (arith, fold_min-high xs (min end x))

pub content_end-low : (g : Group) (offset : ℕ) → offset ≤ length g.payload → offset ≤ content_end g offset
content_end-low g offset h = least-low offset g.pointers (length g.payload) h

pub content_end-high : (g : Group) (offset : ℕ) → content_end g offset ≤ length g.payload
content_end-high g offset =
    fold_min-high (map (λ (p : Pointer). p.value) (filter (is_above offset) g.pointers)) (length g.payload)

-- what holds of the element, where there is one
pub IfSome-from : {A : Type 0} (o : Option A) (P : A → Type 0) → ((x : A) → o ≡ Some x → P x) → IfSome o P
IfSome-from None P h = tt
IfSome-from (Some x) P h = h x refl

-- the content of a pointer at which none of the three rules but the last applies
pub content_at-range : (g : Group) (place offset end size : ℕ) → size ≡ length g.payload → offset ≤ size
    → false ≡ list_any (is_addressed_at offset) (drop (place + 1) g.pointers) → end ≡ content_end g offset
    → Some (take (end - offset) (drop offset g.payload)) ≡ content_at g place offset
content_at-range g place offset end size is within last e =
    rw (le-ltb _ _ (subst (λ n. offset ≤ n) is within), ← last, e) refl

-- the content of the pointer that stands at a place
pub content-at : (g : Group) (place : ℕ) (found : Option (List ℕ)) (d p : Pointer)
    → found ≡ content_at g place (get_or g.pointers place d).value → slice_get g.pointers place ≡ Some p
    → found ≡ content g (place, p)
content-at g place found d p e is =
    e ∙ ap (λ (q : Pointer). content_at g place q.value) (get_or_from_slice_get g.pointers place p d is)
