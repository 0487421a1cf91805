-- One descriptor more in a table.
use Rattle.std.proofs.Common.{◌≡◌, ℕ, suc, ◌+◌, ◌<◌, ◌≤◌, Bool, true, false, not, ◌&&◌, ◌||◌, ◌==◌, nat_lt, nat_le, if◌then◌else◌, cond, List, [], ◌∷◌, ◌++◌, length, take, map, filter, find, set, get_or, Option, Some, None, unwrap_or, inl, inr, refl, sym, ap, subst, ◌∙◌, arith}
use Rattle.std.specs.List.{list_any, position, position_or_len}
use Rattle.std.specs.Option.{option_or}
use Rattle.std.proofs.Math.Seq.{take-set-lt}
use Rattle.std.proofs.lemmas.Bool.{cases_lt, cases_Bool, cond-false, or_parts, le-leb, lt-leb, lt-ltb, eqb-true, and_parts, and_from, not_from_false, not-true, both_ways}
use Rattle.std.proofs.lemmas.Bool.Decides.{nat_tests}
use Rattle.std.proofs.lemmas.List.{append-nil, map_push, map-set, set-get_or, length_push, length-take-le, take_all, take-append-le, length-map, get_or-map, length-take, take_more_set}
use Rattle.std.proofs.lemmas.List.Elements.{filter-append}
use Rattle.std.proofs.lemmas.List.Folds.{find-append, find-set, find_past, list_any-append}
use Rattle.std.proofs.lemmas.List.Quantifiers.{position-Some}
use Rattle.std.proofs.lemmas.List.Sums.{fold-append, passes_at_first}
use Rattle.corr_model.specs.Descriptors.{DescribedItem}
use Rattle.corr_model.specs.Lists.{distinct, last_one}
use Rattle.corr_model.specs.Tables.{table_ids, table_entry, is_full_for}
use Rattle.corr_model.proofs.Turns.{last_one_push}
use Rattle.item_group.specs.Holding.{HoldsDescriptors}

-- the entry of an id
abbrev pub has_id : ℕ → DescribedItem → Bool
has_id id d = d.id == id

-- the last descriptor of an id
abbrev last_of : List DescribedItem → ℕ → Option DescribedItem
last_of ds id = last_one (filter (has_id id) ds)

-- these ids and one more, where it is new and there is room
abbrev pub ids_with : List ℕ → ℕ → List ℕ
ids_with ids id = if list_any (λ x. x == id) ids then ids else (if nat_le 64 (length ids) then ids else ids ++ id ∷ [])

same_turned : (m n : ℕ) → (m == n) ≡ (n == m)
same_turned m n = grind (arith, nat_tests)

any_turned : (id : ℕ) (ids : List ℕ) → list_any (λ x. id == x) ids ≡ list_any (λ x. x == id) ids
any_turned id [] = refl
any_turned id (x ∷ xs) =
    ap (λ b. b || list_any (λ y. id == y) xs) (same_turned id x) ∙ ap (λ b. (x == id) || b) (any_turned id xs)

first_few : (known : List ℕ) (id : ℕ) (b full : Bool) → length known < 64 → full ≡ false
    → take 64 (if b then known else known ++ id ∷ [])
    ≡ (if b then known else (if full then known else known ++ id ∷ []))
first_few known id true full few room = take_all 64 known (omega arith)
first_few known id false true few room = absurd cc
first_few known id false false few room = take_all 64 (known ++ id ∷ []) (omega (arith, length_push known id))

first_many : (known : List ℕ) (id : ℕ) (b c full : Bool) → 64 ≤ length known → full ≡ true
    → take 64 (if b then known else known ++ id ∷ [])
    ≡ (if c then take 64 known else (if full then take 64 known else take 64 known ++ id ∷ []))
first_many known id b c false many full = absurd cc
first_many known id true true true many full = refl
first_many known id true false true many full = refl
first_many known id false true true many full = take-append-le 64 known (id ∷ []) many
first_many known id false false true many full = take-append-le 64 known (id ∷ []) many

first_ids : (known : List ℕ) (id : ℕ)
    → take 64 (if list_any (λ x. id == x) known then known else known ++ id ∷ []) ≡ ids_with (take 64 known) id
first_ids known id =
    elim (cases_lt (length known) 64) [
      | inl few ↦
          ap (λ b. take 64 (if b then known else known ++ id ∷ [])) (any_turned id known)
          ∙ first_few known id (list_any (λ x. x == id) known) (nat_le 64 (length known)) few
          (lt-leb 64 (length known) few)
          ∙ ap (λ ids. ids_with ids id) (sym (take_all 64 known (omega arith)))
      | inr many ↦
          let whole : 64 ≤ length (take 64 known) = omega (arith, length-take-le 64 known many) in
          first_many known id (list_any (λ x. id == x) known) (list_any (λ x. x == id) (take 64 known))
          (nat_le 64 (length (take 64 known))) many (le-leb 64 (length (take 64 known)) whole)
    ]

-- the ids of one descriptor more
pub table_ids_push : (ds : List DescribedItem) (d : DescribedItem)
    → table_ids (ds ++ d ∷ []) ≡ ids_with (table_ids ds) d.id
table_ids_push ds d =
    ap (λ ids. take 64 (distinct (λ x y. x == y) ids)) (map_push (λ (e : DescribedItem). e.id) ds d)
    ∙ ap (take 64) (fold-append (λ before x. if list_any (λ y. x == y) before then before else before ++ x ∷ []) []
    (map (λ (e : DescribedItem). e.id) ds) (d.id ∷ []))
    ∙ first_ids (distinct (λ x y. x == y) (map (λ (e : DescribedItem). e.id) ds)) d.id

last_by : (xs : List DescribedItem) (d : DescribedItem) (b : Bool)
    → last_one (xs ++ cond b (d ∷ []) []) ≡ (if b then Some d else last_one xs)
last_by xs d true = last_one_push xs d
last_by xs d false = ap last_one (append-nil xs)

last_of_push : (ds : List DescribedItem) (d : DescribedItem) (id : ℕ)
    → last_of (ds ++ d ∷ []) id ≡ (if d.id == id then Some d else last_of ds id)
last_of_push ds d id =
    ap last_one (filter-append (has_id id) ds (d ∷ [])) ∙ last_by (filter (has_id id) ds) d (d.id == id)

or_false : (b : Bool) → (b || false) ≡ b
or_false true = refl
or_false false = refl

or_true : (b c : Bool) → (c ≡ true → b ≡ true) → b ≡ (b || c)
or_true true c h = refl
or_true false true h = h refl
or_true false false h = refl

already : (ids : List ℕ) (j id : ℕ) → list_any (λ x. x == j) ids ≡ true
    → list_any (λ x. x == id) ids ≡ (list_any (λ x. x == id) ids || (j == id))
already ids j id there =
    or_true (list_any (λ x. x == id) ids) (j == id)
    (λ same. subst (λ i. list_any (λ x. x == i) ids ≡ true) (eqb-true j id same) there)

any_with : (ids : List ℕ) (j id : ℕ) (b full : Bool) → list_any (λ x. x == j) ids ≡ b → (full && not b) ≡ false
    → list_any (λ x. x == id) (if b then ids else (if full then ids else ids ++ j ∷ []))
    ≡ (list_any (λ x. x == id) ids || (j == id))
any_with ids j id true full there room = already ids j id there
any_with ids j id false true there room = absurd cc
any_with ids j id false false there room =
    list_any-append (λ x. x == id) ids (j ∷ []) ∙ ap (λ b. list_any (λ x. x == id) ids || b) (or_false (j == id))

-- an id is one of those with another, where that has room
any_ids_with : (ids : List ℕ) (j id : ℕ) → is_full_for ids j ≡ false
    → list_any (λ x. x == id) (ids_with ids j) ≡ (list_any (λ x. x == id) ids || (j == id))
any_ids_with ids j id room = any_with ids j id (list_any (λ x. x == j) ids) (nat_le 64 (length ids)) refl room

full_with : (ids : List ℕ) (j : ℕ) (b full : Bool) → (full && not b) ≡ true
    → (if b then ids else (if full then ids else ids ++ j ∷ [])) ≡ ids
full_with ids j true full h = refl
full_with ids j false true h = refl
full_with ids j false false h = absurd cc

ids_with_full : (ids : List ℕ) (j : ℕ) → is_full_for ids j ≡ true → ids_with ids j ≡ ids
ids_with_full ids j full = full_with ids j (list_any (λ x. x == j) ids) (nat_le 64 (length ids)) full

new_where_full : (ids : List ℕ) (j id : ℕ) → is_full_for ids j ≡ true → (j == id) ≡ true
    → list_any (λ x. x == id) ids ≡ false
new_where_full ids j id full same =
    let new = not-true _ (and_parts (nat_le 64 (length ids)) (not (list_any (λ x. x == j) ids)) full).1 in
    subst (λ i. list_any (λ x. x == i) ids ≡ false) (eqb-true j id same) new

-- the entry by the ids and the last, with a descriptor more
entry_by : (there same full : Bool) (last : Option DescribedItem) (d : DescribedItem)
    → (full ≡ true → same ≡ true → there ≡ false)
    → (if (if full then there else (there || same)) then (if same then Some d else last) else None)
    ≡ (if full then (if there then last else None) else (if same then Some d else (if there then last else None)))
entry_by true true true last d new = absurd (both_ways true (new refl refl) refl)
entry_by false true true last d new = refl
entry_by true false true last d new = refl
entry_by false false true last d new = refl
entry_by true true false last d new = refl
entry_by false true false last d new = refl
entry_by true false false last d new = refl
entry_by false false false last d new = refl

any_next : (ids : List ℕ) (j id : ℕ) (full : Bool) → is_full_for ids j ≡ full
    → list_any (λ x. x == id) (ids_with ids j)
    ≡ (if full then list_any (λ x. x == id) ids else (list_any (λ x. x == id) ids || (j == id)))
any_next ids j id true h = ap (λ is. list_any (λ x. x == id) is) (ids_with_full ids j h)
any_next ids j id false h = any_ids_with ids j id h

-- the entry of an id with one descriptor more
pub table_entry_push : (ds : List DescribedItem) (d : DescribedItem) (id : ℕ)
    → table_entry (ds ++ d ∷ []) id
    ≡ (if is_full_for (table_ids ds) d.id then table_entry ds id
    else (if d.id == id then Some d else table_entry ds id))
table_entry_push ds d id =
    let ids = table_ids ds in
    let full = is_full_for ids d.id in
    ap (λ is. if list_any (λ x. x == id) is then last_of (ds ++ d ∷ []) id else None) (table_ids_push ds d)
    ∙ ap (λ b. if b then last_of (ds ++ d ∷ []) id else None) (any_next ids d.id id full refl)
    ∙ ap (λ o. if (if full then list_any (λ x. x == id) ids else (list_any (λ x. x == id) ids || (d.id == id))) then o
    else None) (last_of_push ds d id)
    ∙ entry_by (list_any (λ x. x == id) ids) (d.id == id) full (last_of ds id) d (new_where_full ids d.id id)

next_lt : (m n : ℕ) → nat_lt (1 + m) (suc n) ≡ nat_lt m n
next_lt m n = grind (arith, nat_tests)

place_after : (here : Bool) (place len : ℕ) (later : Bool) → nat_lt place len ≡ later
    → nat_lt (cond (not here) (1 + place) 0) (suc len) ≡ (here || later)
place_after true place len later h = lt-ltb 0 (suc len) (omega arith)
place_after false place len later h = next_lt place len ∙ h

-- a place is found where an element passes
pub place_or_none : {X : Type 0} (p : X → Bool) (xs : List X)
    → nat_lt (position_or_len p xs) (length xs) ≡ list_any p xs
place_or_none p [] = refl
place_or_none p (x ∷ xs) = place_after (p x) (position_or_len p xs) (length xs) (list_any p xs) (place_or_none p xs)

found_place : {X : Type 0} (p : X → Bool) (xs : List X) (b : Bool) (i : ℕ) → list_any p xs ≡ b
    → cond b (Some (position_or_len p xs)) None ≡ Some i → (i ≡ position_or_len p xs) × (list_any p xs ≡ true)
found_place p xs true i there is = (sym (ap (λ o. unwrap_or o 0) is), there)
found_place p xs false i there is = absurd cc

none_found : {X : Type 0} (p : X → Bool) (xs : List X) (b : Bool) → list_any p xs ≡ b
    → cond b (Some (position_or_len p xs)) None ≡ None → list_any p xs ≡ false
none_found p xs true there is = absurd cc
none_found p xs false there is = there

-- an element passes at the place that is found
pub position_found : {X : Type 0} (p : X → Bool) (xs : List X) (i : ℕ) → position p xs ≡ Some i
    → (i ≡ position_or_len p xs) × (list_any p xs ≡ true)
position_found p xs i is =
    found_place p xs (list_any p xs) i refl
    (ap (λ b. cond b (Some (position_or_len p xs)) None) (sym (place_or_none p xs)) ∙ is)

-- none passes where no place is found
pub position_none : {X : Type 0} (p : X → Bool) (xs : List X) → position p xs ≡ None → list_any p xs ≡ false
position_none p xs is =
    none_found p xs (list_any p xs) refl
    (ap (λ b. cond b (Some (position_or_len p xs)) None) (sym (place_or_none p xs)) ∙ is)

some_none : (e : DescribedItem) → Some e ≡ None → ⊥
some_none e h = cc

none_there : {X : Type 0} (p : X → Bool) (xs : List X) → list_any p xs ≡ false → find p xs ≡ None
none_there p [] h = refl
none_there p (x ∷ xs) h =
    let parts = or_parts (p x) (list_any p xs) h in
    cond-false (p x) (Some x) (find p xs) parts.0 ∙ none_there p xs parts.1

find_after : (o : Option DescribedItem) (d : DescribedItem) (b : Bool) → (b ≡ true → o ≡ None)
    → option_or o (cond b (Some d) None) ≡ (if b then Some d else o)
find_after None d true new = refl
find_after None d false new = refl
find_after (Some e) d true new = absurd (some_none e (new refl))
find_after (Some e) d false new = refl

-- what is found by its id, with an entry more of a new id
find_pushed : (es : List DescribedItem) (d : DescribedItem) (id : ℕ) → list_any (has_id d.id) es ≡ false
    → find (has_id id) (es ++ d ∷ []) ≡ (if d.id == id then Some d else find (has_id id) es)
find_pushed es d id new =
    find-append (has_id id) es (d ∷ []) ∙ find_after (find (has_id id) es) d (d.id == id)
    (λ same. subst (λ i. find (has_id i) es ≡ None) (eqb-true d.id id same) (none_there (has_id d.id) es new))

-- what is found by its id, with the entry of an id replaced
find_replaced : (es : List DescribedItem) (d : DescribedItem) (place id : ℕ) → place ≡ position_or_len (has_id d.id) es
    → place < length es → find (has_id id) (set es place d) ≡ (if d.id == id then Some d else find (has_id id) es)
find_replaced es d place id first within =
    let there = passes_at_first (has_id d.id) es d (subst (λ k. k < length es) first within) in
    let here : (get_or es place d).id ≡ d.id = eqb-true _ _ (ap (λ k. (get_or es k d).id == d.id) first ∙ there) in
    elim (cases_Bool (d.id == id)) [
      | inl same ↦
          let e = eqb-true d.id id same in
          find-set (has_id id) es place d (first ∙ ap (λ i. position_or_len (has_id i) es) e) within same ∙ ap
          (λ b. if b then Some d else find (has_id id) es) (sym same)
      | inr other ↦
          find_past (has_id id) es place d d (ap (λ i. i == id) here ∙ other) other ∙ ap
          (λ b. if b then Some d else find (has_id id) es) (sym other)
    ]

ids_replaced : (es : List DescribedItem) (d : DescribedItem) (place : ℕ) → (get_or es place d).id ≡ d.id
    → place < length es → map (λ (e : DescribedItem). e.id) (set es place d) ≡ map (λ (e : DescribedItem). e.id) es
ids_replaced es d place same within =
    let ids = map (λ (e : DescribedItem). e.id) es in
    map-set (λ (e : DescribedItem). e.id) es place d
    ∙ ap (λ i. set ids place i) (sym same ∙ sym (get_or-map (λ (e : DescribedItem). e.id) es place d 0 within))
    ∙ set-get_or ids place 0

any_mapped : (es : List DescribedItem) (id : ℕ)
    → list_any (λ x. x == id) (map (λ (e : DescribedItem). e.id) es) ≡ list_any (has_id id) es
any_mapped [] id = refl
any_mapped (e ∷ es) id = ap (λ b. (e.id == id) || b) (any_mapped es id)

-- whether the table with these entries has no room for an id
pub full_by : (es : List DescribedItem) (id : ℕ)
    → is_full_for (map (λ (e : DescribedItem). e.id) es) id ≡ (nat_le 64 (length es) && not (list_any (has_id id) es))
full_by es id =
    ap (λ n. nat_le 64 n && not (list_any (λ x. x == id) (map (λ (e : DescribedItem). e.id) es)))
    (length-map es (λ (e : DescribedItem). e.id))
    ∙ ap (λ b. nat_le 64 (length es) && not b) (any_mapped es id)

room_where_there : (many there : Bool) → there ≡ true → (many && not there) ≡ false
room_where_there true true h = refl
room_where_there false true h = refl
room_where_there many false h = absurd cc

new_last : (ids : List ℕ) (id : ℕ) (there many : Bool) → there ≡ false → many ≡ false
    → (if there then ids else (if many then ids else ids ++ id ∷ [])) ≡ ids ++ id ∷ []
new_last ids id false false h k = refl
new_last ids id true many h k = absurd cc
new_last ids id false true h k = absurd cc

-- one descriptor more, whose id has an entry that it replaces
pub holds_replaced : (entries es ds : List DescribedItem) (d : DescribedItem) (len place : ℕ) → take len entries ≡ es
    → position (has_id d.id) es ≡ Some place → HoldsDescriptors es ds
    → HoldsDescriptors (take len (set entries place d)) (ds ++ d ∷ [])
holds_replaced entries es ds d len place view found h =
    let at_place = position-Some (has_id d.id) es place d found in
    let first = position_found (has_id d.id) es place found in
    let same : (get_or es place d).id ≡ d.id = eqb-true _ _ at_place.1 in
    let short : length es ≤ len = omega (arith, length-take len entries, ap length view) in
    let now : take len (set entries place d) ≡ set es place d =
    take-set-lt len entries place d (omega (arith, at_place.0)) ∙ ap (λ xs. set xs place d) view in
    let there : list_any (λ x. x == d.id) (table_ids ds) ≡ true =
    ap (list_any (λ x. x == d.id)) (sym h.ids) ∙ any_mapped es d.id ∙ first.1 in
    record {
      ids =
          ap (map (λ e. e.id)) now
          ∙ ids_replaced es d place same at_place.0
          ∙ h.ids
          ∙ sym (table_ids_push ds d ∙ ap
          (λ b. if b then table_ids ds
          else (if nat_le 64 (length (table_ids ds)) then table_ids ds else table_ids ds ++ d.id ∷ [])) there);
      each = λ id.
          ap (find (has_id id)) now
          ∙ find_replaced es d place id first.0 at_place.0
          ∙ ap (λ o. if d.id == id then Some d else o) (h.each id)
          ∙ sym (table_entry_push ds d id ∙ ap
          (λ b. if b then table_entry ds id else (if d.id == id then Some d else table_entry ds id))
          (room_where_there (nat_le 64 (length (table_ids ds))) _ there));
    }

-- one descriptor more of a new id, where there is room
pub holds_pushed : (entries es ds : List DescribedItem) (d : DescribedItem) (len : ℕ) → take len entries ≡ es → len < 64
    → len < length entries → position (has_id d.id) es ≡ None → HoldsDescriptors es ds
    → HoldsDescriptors (take (len + 1) (set entries len d)) (ds ++ d ∷ [])
holds_pushed entries es ds d len view room within none h =
    let new = position_none (has_id d.id) es none in
    let now : take (len + 1) (set entries len d) ≡ es ++ d ∷ [] =
    take_more_set entries len d within ∙ ap (λ xs. xs ++ d ∷ []) view in
    let few : length (table_ids ds) < 64 =
    omega (
      arith,
      length-map es (λ (e : DescribedItem). e.id),
      ap length h.ids,
      length-take len entries,
      ap
          length view,
    ) in
    let absent : list_any (λ x. x == d.id) (table_ids ds) ≡ false =
    ap (list_any (λ x. x == d.id)) (sym h.ids) ∙ any_mapped es d.id ∙ new in
    let less = lt-leb 64 (length (table_ids ds)) few in
    record {
      ids =
          ap (map (λ e. e.id)) now
          ∙ map_push (λ (e : DescribedItem). e.id) es d
          ∙ ap (λ is. is ++ d.id ∷ []) h.ids
          ∙ sym (table_ids_push ds d ∙ new_last (table_ids ds) d.id _ _ absent less);
      each = λ id.
          ap (find (has_id id)) now
          ∙ find_pushed es d id new
          ∙ ap (λ o. if d.id == id then Some d else o) (h.each id)
          ∙ sym (table_entry_push ds d id ∙ ap
          (λ b. if b && not (list_any (λ x. x == d.id) (table_ids ds)) then table_entry ds id
          else (if d.id == id then Some d else table_entry ds id)) less);
    }

-- one descriptor more of a new id, where there is no room
pub holds_full : (es ds : List DescribedItem) (d : DescribedItem)
    → is_full_for (map (λ (e : DescribedItem). e.id) es) d.id ≡ true → HoldsDescriptors es ds
    → HoldsDescriptors es (ds ++ d ∷ [])
holds_full es ds d full h =
    let full_there : is_full_for (table_ids ds) d.id ≡ true = ap (λ is. is_full_for is d.id) (sym h.ids) ∙ full in
    record {
      ids = h.ids ∙ sym (table_ids_push ds d ∙ ids_with_full (table_ids ds) d.id full_there);
      each = λ id. h.each id ∙ sym
          (table_entry_push ds d id ∙ ap
          (λ b. if b then table_entry ds id else (if d.id == id then Some d else table_entry ds id)) full_there);
    }

-- a table with an entry of the id has room for it
pub room_replaced : (es : List DescribedItem) (id place : ℕ) → position (has_id id) es ≡ Some place
    → is_full_for (map (λ (e : DescribedItem). e.id) es) id ≡ false
room_replaced es id place found =
    full_by es id ∙ room_where_there (nat_le 64 (length es)) _ (position_found (has_id id) es place found).1

-- a table of 64 entries has no room for a new id
pub full_where_new : (es : List DescribedItem) (id : ℕ) → 64 ≤ length es → position (has_id id) es ≡ None
    → is_full_for (map (λ (e : DescribedItem). e.id) es) id ≡ true
full_where_new es id many none =
    full_by es id ∙ and_from _ _ (le-leb 64 (length es) many) (not_from_false _ (position_none (has_id id) es none))
