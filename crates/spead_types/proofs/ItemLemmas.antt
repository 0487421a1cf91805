-- Lemmas on the items of a packet.
use Rattle.std.proofs.Common.{◌≡◌, ℕ, zero, suc, ◌<◌, ◌≤◌, min, Bool, true, false, not, List, [], ◌∷◌, length, map, filter, Option, Some, None, option_map, unwrap_or, Bor, cond, fold, ◌&&◌, ◌==◌, nat_lt, refl, ap, ◌∙◌, arith}
use Rattle.std.proofs.lemmas.Bool.{ltb-true, and_parts}
use Rattle.corr_model.specs.declared.pointer.Pointer.{Pointer}
use Rattle.corr_model.specs.Items.{Group, content_end}

-- ---- numbers

-- a number that is not 0
pub one_at_least : (n : ℕ) → (n == 0) ≡ false → 1 ≤ n
one_at_least zero e = absurd cc
one_at_least (suc n) e = omega arith

-- ---- the end of a content

-- an addressed pointer above the offset
abbrev pub is_above : ℕ → Pointer → Bool
is_above offset p = not p.immediate && nat_lt offset p.value

abbrev pub least : ℕ → ℕ → List Pointer → ℕ
least offset end ps = fold min end (map (λ p. p.value) (filter (is_above offset) ps))

least-low-cond : (offset end : ℕ) (p : Pointer) (ps : List Pointer) (b : Bool) → (b ≡ true → offset < p.value)
    → ((a : ℕ) → offset ≤ a → offset ≤ least offset a ps) → offset ≤ end
    → offset ≤ fold min end
    (map (λ (q : Pointer). q.value) (cond b (p ∷ filter (is_above offset) ps) (filter (is_above offset) ps)))
least-low-cond offset end p ps true above rest h = rest (min end p.value) (omega (arith, above refl))
least-low-cond offset end p ps false above rest h = rest end h

least-low : (offset : ℕ) (ps : List Pointer) (end : ℕ) → offset ≤ end → offset ≤ least offset end ps
least-low offset [] end h = h
least-low offset (p ∷ ps) end h =
    least-low-cond offset end p ps (is_above offset p)
    (λ e. ltb-true offset p.value (and_parts (not p.immediate) (nat_lt offset p.value) e).1) (least-low offset ps) h

fold_min-high : (xs : List ℕ) (end : ℕ) → fold min end xs ≤ end
fold_min-high [] end = omega arith
fold_min-high (x ∷ xs) end = omega (arith, fold_min-high xs (min end x))

pub content_end-low : (g : Group) (offset : ℕ) → offset ≤ length g.payload → offset ≤ content_end g offset
content_end-low g offset h = least-low offset g.pointers (length g.payload) h

pub content_end-high : (g : Group) (offset : ℕ) → content_end g offset ≤ length g.payload
content_end-high g offset =
    fold_min-high (map (λ (p : Pointer). p.value) (filter (is_above offset) g.pointers)) (length g.payload)

-- the bytes that are there, or none
pub or_nothing : (o : Option (Bor (List ℕ))) (x : Option (List ℕ)) (empty r : Bor (List ℕ))
    → option_map (λ b. b.now) o ≡ x → r ≡ unwrap_or o empty → empty.now ≡ [] → r.now ≡ unwrap_or x []
or_nothing None x empty r is was none =
    ap (λ (b : Bor (List ℕ)). b.now) was ∙ none ∙ ap (λ (y : Option (List ℕ)). unwrap_or y []) is
or_nothing (Some b) x empty r is was none =
    ap (λ (y : Bor (List ℕ)). y.now) was ∙ ap (λ (y : Option (List ℕ)). unwrap_or y []) is
