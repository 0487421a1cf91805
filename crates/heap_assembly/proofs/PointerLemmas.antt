-- Lemmas on the distinct pointers of a heap.
use Rattle.std.proofs.Common.{◌≡◌, ℕ, ◌<◌, ◌≤◌, Bool, true, false, cond, List, [], ◌∷◌, ◌++◌, length, take, refl, sym, ap, ◌∙◌, arith}
use Rattle.std.specs.List.{list_any}
use Rattle.std.proofs.lemmas.List.{length_push, take-append-le}
use Rattle.corr_model.specs.declared.pointer.Pointer.{Pointer}
use Rattle.corr_model.specs.Assembly.{are_same}
use Rattle.heap_assembly.specs.Steps.{with_pointer, with_pointers}

length-with_pointer_cond : (b : Bool) (before : List Pointer) (p : Pointer)
    → length before ≤ length (cond b before (before ++ p ∷ []))
length-with_pointer_cond true before p = omega arith
length-with_pointer_cond false before p = omega (arith, length_push before p)

length-with_pointer : (before : List Pointer) (p : Pointer) → length before ≤ length (with_pointer before p)
length-with_pointer before p = length-with_pointer_cond (list_any (are_same p) before) before p

-- more pointers never make the distinct ones fewer
pub length-with_pointers : (before ps : List Pointer) → length before ≤ length (with_pointers before ps)
length-with_pointers before [] = omega arith
length-with_pointers before (p ∷ ps) =
    omega (arith, length-with_pointer before p, length-with_pointers (with_pointer before p) ps)

-- the pointers so far, with those that are left, come to all of them
pub next_pointer : (before all items left rest : List Pointer) (p : Pointer)
    → with_pointers items left ≡ with_pointers before all → left ≡ p ∷ rest
    → with_pointers (with_pointer items p) rest ≡ with_pointers before all
next_pointer before all items left rest p so_far is = ap (with_pointers items) (sym is) ∙ so_far

-- too many distinct pointers on the way are too many in the end
pub many_pointers : (before all items left rest : List Pointer) (p : Pointer)
    → with_pointers items left ≡ with_pointers before all → left ≡ p ∷ rest → 64 < length (with_pointer items p)
    → 64 < length (with_pointers before all)
many_pointers before all items left rest p so_far is many =
    let more = length-with_pointers (with_pointer items p) rest in
    let e : length (with_pointers (with_pointer items p) rest) ≡ length (with_pointers before all) =
    ap length (next_pointer before all items left rest p so_far is) in
    omega arith

take_with_pointer_cond : (b : Bool) (n : ℕ) (items : List Pointer) (p : Pointer) → n ≤ length items
    → take n (cond b items (items ++ p ∷ [])) ≡ take n items
take_with_pointer_cond true n items p within = refl
take_with_pointer_cond false n items p within = take-append-le n items (p ∷ []) within

-- one pointer more leaves the first few as they are
pub take-with_pointer : (n : ℕ) (items : List Pointer) (p : Pointer) → n ≤ length items
    → take n (with_pointer items p) ≡ take n items
take-with_pointer n items p within = take_with_pointer_cond (list_any (are_same p) items) n items p within

-- and is no fewer
pub le-with_pointer : (n : ℕ) (items : List Pointer) (p : Pointer) → n ≤ length items
    → n ≤ length (with_pointer items p)
le-with_pointer n items p within = omega (arith, length-with_pointer items p)
