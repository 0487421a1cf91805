-- The items of a packet's distinct pointers are those of all its pointers.
use Rattle.std.proofs.Common.{◌≡◌, ℕ, ◌+◌, Bool, true, false, not, ◌&&◌, ◌||◌, ◌==◌, nat_lt, if◌then◌else◌, List, [], ◌∷◌, ◌++◌, length, take, drop, find, fold, slice_range, Option, Some, None, option_and_then, refl, sym, ap, ap₂, subst, ◌∙◌, arith, append_assoc}
use Rattle.std.specs.List.{list_any, enumerate_from}
use Rattle.std.proofs.lemmas.Bool.{or_parts, or_from, false_from_ne_true, cond-true, cond-false}
use Rattle.std.proofs.lemmas.List.{take_at, drop_at, length_push}
use Rattle.std.proofs.lemmas.List.Folds.{list_any-append}
use Rattle.std.proofs.lemmas.List.Sums.{fold-append}
use Rattle.corr_model.specs.declared.pointer.Pointer.{Pointer}
use Rattle.corr_model.specs.Assembly.{are_same}
use Rattle.corr_model.specs.Lists.{distinct}
use Rattle.corr_model.specs.Packets.{Parts}
use Rattle.corr_model.specs.Items.{Group, content_at, content, item, number_item, addressed_content, short_number}
use Rattle.corr_model.specs.Descriptors.{own_group}
use Rattle.spead_types.specs.AllItems.{all_group, is_addressed_at, is_new_at, is_shared, all_content_at, all_addressed, all_number}
use Rattle.spead_types.proofs.DistinctLemmas.{same_is, news, with_pointer, put_behind, any_news, any_distinct, least_distinct}

abbrev has_id : ℕ → Pointer → Bool
has_id id p = p.id == id

abbrev first_of : ℕ → ℕ → List Pointer → Option (ℕ × Pointer)
first_of id from ps = find (λ placed. placed.1.id == id) (enumerate_from from ps)

-- ---- the first pointer with an id

-- the pointer stands there, and none before it has the id
record IsFirst (id from : ℕ) (ps : List Pointer) (placed : ℕ × Pointer) : Type 0 where
  pub front : List Pointer
  pub back : List Pointer
  pub whole : ps ≡ front ++ placed.1 ∷ back
  pub count : from + length front ≡ placed.0
  pub none : list_any (has_id id) front ≡ false
  pub hit : (placed.1.id == id) ≡ true

found_by : (b : Bool) (id from : ℕ) (p : Pointer) (ps : List Pointer) (placed : ℕ × Pointer) → (p.id == id) ≡ b
    → (if b then Some (from, p) else first_of id (from + 1) ps) ≡ Some placed
    → (first_of id (from + 1) ps ≡ Some placed → IsFirst id (from + 1) ps placed) → IsFirst id from (p ∷ ps) placed
found_by true id from p ps placed is was later =
    let same : (from, p) ≡ placed = cc in
    subst (λ x. IsFirst id from (p ∷ ps) x) same
    (record { front = []; back = ps; whole = refl; count = omega arith; none = refl; hit = is })
found_by false id from p ps placed is was later =
    let rest = later was in
    let count = rest.count in
    record {
      front = p ∷ rest.front;
      back = rest.back;
      whole = ap (λ xs. p ∷ xs) rest.whole;
      count = omega arith;
      none = or_from (p.id == id) (list_any (has_id id) rest.front) is rest.none;
      hit = rest.hit;
    }

found : (id from : ℕ) (ps : List Pointer) (placed : ℕ × Pointer) → first_of id from ps ≡ Some placed
    → IsFirst id from ps placed
found id from [] placed was = absurd cc
found id from (p ∷ ps) placed was = found_by (p.id == id) id from p ps placed refl was (found id (from + 1) ps placed)

-- the first pointer with the id is found behind those that have it not
first_at : (id from : ℕ) (front back : List Pointer) (p : Pointer) → list_any (has_id id) front ≡ false
    → (p.id == id) ≡ true → first_of id from (front ++ p ∷ back) ≡ Some (from + length front, p)
first_at id from [] back p none hit =
    cond-true (p.id == id) (Some (from, p)) (first_of id (from + 1) back) hit ∙ ap (λ k. Some (k, p))
    (let e : from ≡ from + 0 = omega arith in e)
first_at id from (q ∷ front) back p none hit =
    let parts = or_parts (q.id == id) (list_any (has_id id) front) none in
    cond-false (q.id == id) (Some (from, q)) (first_of id (from + 1) (front ++ p ∷ back)) parts.0
    ∙ first_at id (from + 1) front back p parts.1 hit
    ∙ ap (λ k. Some (k, p)) (let e : from + 1 + length front ≡ from + length (q ∷ front) = omega arith in e)

missing_by : (b : Bool) (id from : ℕ) (p : Pointer) (rest : Option (ℕ × Pointer)) (later : Bool)
    → (if b then Some (from, p) else rest) ≡ None → (rest ≡ None → later ≡ false) → (b || later) ≡ false
missing_by true id from p rest later was none = absurd cc
missing_by false id from p rest later was none = none was

missing : (id from : ℕ) (ps : List Pointer) → first_of id from ps ≡ None → list_any (has_id id) ps ≡ false
missing id from [] was = refl
missing id from (p ∷ ps) was =
    missing_by (p.id == id) id from p (first_of id (from + 1) ps) (list_any (has_id id) ps) was
    (missing id (from + 1) ps)

not_found : (id from : ℕ) (ps : List Pointer) → list_any (has_id id) ps ≡ false → first_of id from ps ≡ None
not_found id from [] none = refl
not_found id from (p ∷ ps) none =
    let parts = or_parts (p.id == id) (list_any (has_id id) ps) none in
    cond-false (p.id == id) (Some (from, p)) (first_of id (from + 1) ps) parts.0 ∙ not_found id (from + 1) ps parts.1

-- ---- the distinct pointers up to the first with an id, and behind it

-- a pointer is not among those that have another id
not_among : (id : ℕ) (front : List Pointer) (p : Pointer) → list_any (has_id id) front ≡ false → (p.id == id) ≡ true
    → list_any (are_same p) front ≡ false
not_among id [] p none hit = refl
not_among id (q ∷ front) p none hit =
    let parts = or_parts (q.id == id) (list_any (has_id id) front) none in
    or_from (are_same p q) (list_any (are_same p) front)
    (false_from_ne_true (are_same p q)
    (λ same. (let other : (q.id == id) ≡ true =
    ap (λ (x : Pointer). x.id == id) (sym (same_is p q same)) ∙ hit in absurd cc)))
    (not_among id front p parts.1 hit)

-- the distinct pointers of a list with a first pointer of an id
distinct_at : (id : ℕ) (front back : List Pointer) (p : Pointer) → list_any (has_id id) front ≡ false
    → (p.id == id) ≡ true
    → distinct are_same (front ++ p ∷ back)
    ≡ distinct are_same front ++ p ∷ news (distinct are_same front ++ p ∷ []) back
distinct_at id front back p none hit =
    let before = distinct are_same front in
    let new : list_any (are_same p) before ≡ false = any_distinct (are_same p) front ∙ not_among id front p none hit in
    fold-append with_pointer [] front (p ∷ back)
    ∙ ap (λ xs. fold with_pointer xs back) (cond-false (list_any (are_same p) before) before (before ++ p ∷ []) new)
    ∙ put_behind (before ++ p ∷ []) back
    ∙ append_assoc before (p ∷ []) (news (before ++ p ∷ []) back)

-- the same stand among the distinct pointers up to a place as among all up to it
among_front : (front : List Pointer) (p q : Pointer)
    → list_any (are_same q) (distinct are_same front ++ p ∷ []) ≡ list_any (are_same q) (front ++ p ∷ [])
among_front front p q =
    list_any-append (are_same q) (distinct are_same front) (p ∷ []) ∙ ap (λ b. b || list_any (are_same q) (p ∷ []))
    (any_distinct (are_same q) front) ∙ sym (list_any-append (are_same q) front (p ∷ []))

past : (front back : List Pointer) (p : Pointer) → drop (length front + 1) (front ++ p ∷ back) ≡ back
past front back p =
    ap (drop (length front + 1)) (sym (append_assoc front (p ∷ []) back)) ∙ drop_at (front ++ p ∷ []) back
    (length front + 1) (length_push front p)

upto : (front back : List Pointer) (p : Pointer) → take (length front + 1) (front ++ p ∷ back) ≡ front ++ p ∷ []
upto front back p =
    ap (take (length front + 1)) (sym (append_assoc front (p ∷ []) back)) ∙ take_at (front ++ p ∷ []) back
    (length front + 1) (length_push front p)

-- a later distinct pointer is addressed at an offset where a new pointer is
shared_same : (id offset : ℕ) (front back : List Pointer) (p : Pointer) → list_any (has_id id) front ≡ false
    → (p.id == id) ≡ true
    → list_any (is_addressed_at offset)
    (drop (length (distinct are_same front) + 1) (distinct are_same (front ++ p ∷ back)))
    ≡ is_shared (front ++ p ∷ back) (length front) offset
shared_same id offset front back p none hit =
    let before = distinct are_same front in
    let ps = front ++ p ∷ back in
    ap (λ xs. list_any (is_addressed_at offset) (drop (length before + 1) xs)) (distinct_at id front back p none hit)
    ∙ ap (list_any (is_addressed_at offset)) (past before (news (before ++ p ∷ []) back) p)
    ∙ any_news (is_addressed_at offset) (before ++ p ∷ []) back
    ∙ (λ i. list_any (λ q. is_addressed_at offset q && not (among_front front p q i)) back)
    ∙ ap (λ xs. list_any (λ q. is_addressed_at offset q && not (list_any (are_same q) xs)) back)
    (sym (upto front back p))
    ∙ ap (list_any (is_new_at ps (length front) offset)) (sym (past front back p))

-- ---- contents

abbrev group_of : List Pointer → List ℕ → Group
group_of pointers payload = record { pointers = pointers; payload = payload }

-- the content of the first pointer with an id
content_same : (id offset : ℕ) (front back : List Pointer) (p : Pointer) (payload : List ℕ)
    → list_any (has_id id) front ≡ false → (p.id == id) ≡ true
    → content_at (group_of (distinct are_same (front ++ p ∷ back)) payload) (length (distinct are_same front)) offset
    ≡ all_content_at (group_of (front ++ p ∷ back) payload) (length front) offset
content_same id offset front back p payload none hit =
    ap₂ (λ shared end. if nat_lt (length payload) offset then None
    else (if shared then Some [] else Some (slice_range payload offset end)))
    (shared_same id offset front back p none hit)
    (least_distinct offset (length payload) (front ++ p ∷ back))

-- ---- items

by_item_at : {B : Type 0} (o : Option (ℕ × Pointer)) (id : ℕ) (ps : List Pointer) (f g : ℕ × Pointer → Option B)
    → first_of id 0 ps ≡ o
    → ((front back : List Pointer) (p : Pointer) → ps ≡ front ++ p ∷ back → list_any (has_id id) front ≡ false
    → (p.id == id) ≡ true → f (length (distinct are_same front), p) ≡ g (length front, p))
    → option_and_then f (first_of id 0 (distinct are_same ps)) ≡ option_and_then g o
by_item_at None id ps f g was each =
    ap (option_and_then f) (not_found id 0 (distinct are_same ps) (any_distinct (has_id id) ps ∙ missing id 0 ps was))
by_item_at (Some placed) id ps f g was each =
    let first = found id 0 ps placed was in
    let before = distinct are_same first.front in
    let p = placed.1 in
    let count = first.count in
    let here : (length first.front, p) ≡ placed = ap (λ (k : ℕ). (k, p)) (omega arith) in
    ap (λ xs. option_and_then f (first_of id 0 (distinct are_same xs))) first.whole
    ∙ ap (λ xs. option_and_then f (first_of id 0 xs)) (distinct_at id first.front first.back p first.none first.hit)
    ∙ ap (option_and_then f)
    (first_at id 0 before (news (before ++ p ∷ []) first.back) p
    (any_distinct (has_id id) first.front ∙ first.none) first.hit)
    ∙ ap (λ (k : ℕ). f (k, p)) (let e : 0 + length before ≡ length before = omega arith in e)
    ∙ each first.front first.back p first.whole first.none first.hit
    ∙ ap g here

-- a number among the distinct pointers is one among all
pub number_same : (p : Parts) (id : ℕ) → number_item (own_group p) id ≡ all_number (all_group p) id
number_same p id =
    by_item_at (item id (all_group p)) id p.pointers
    (λ placed. if placed.1.immediate then Some placed.1.value
    else option_and_then short_number (content (own_group p) placed))
    (λ placed. if placed.1.immediate then Some placed.1.value
    else option_and_then short_number (all_content_at (all_group p) placed.0 placed.1.value))
    refl
    (λ front back q whole none hit.
    ap (λ c. if q.immediate then Some q.value else option_and_then short_number c)
    (ap (λ xs. content_at (group_of (distinct are_same xs) p.payload) (length (distinct are_same front)) q.value) whole
    ∙ content_same id q.value front back q p.payload none hit
    ∙ ap (λ xs. all_content_at (group_of xs p.payload) (length front) q.value) (sym whole)))

-- a content among the distinct pointers is one among all
pub addressed_same : (p : Parts) (id : ℕ) → addressed_content (own_group p) id ≡ all_addressed (all_group p) id
addressed_same p id =
    by_item_at (item id (all_group p)) id p.pointers
    (λ placed. if placed.1.immediate then None else content (own_group p) placed)
    (λ placed. if placed.1.immediate then None else all_content_at (all_group p) placed.0 placed.1.value)
    refl
    (λ front back q whole none hit.
    ap (λ c. if q.immediate then None else c)
    (ap (λ xs. content_at (group_of (distinct are_same xs) p.payload) (length (distinct are_same front)) q.value) whole
    ∙ content_same id q.value front back q p.payload none hit
    ∙ ap (λ xs. all_content_at (group_of xs p.payload) (length front) q.value) (sym whole)))
