-- The descriptor table: what one more descriptor content changes.
use Rattle.std.proofs.Common.{◌≡◌, ℕ, ◌+◌, ◌-◌, ◌≤◌, Bool, true, false, not, cond, eqb, leb, ◌&&◌, ◌||◌, List, [], ◌∷◌, ◌++◌, length, map, take, Option, Some, None, Result, Ok, Err, refl, sym, ap, ◌∙◌, arith, inl, inr}
use Rattle.std.specs.List.{count_by, filter, filter_map, list_any}
use Rattle.std.specs.Option.{option_to_list}
use Rattle.std.specs.Result.{result_ok}
use Rattle.std.proofs.Math.Seq.{take-append_seam}
use Rattle.std.proofs.lemmas.Bool.{cases_eq, cases_lt, eq-eqb, le-leb, lt-leb, ne_eqb, or_left, or_right}
use Rattle.std.proofs.lemmas.List.{append-nil, append_assoc, length-take, length_push, map-append, take-append-le, take_all}
use Rattle.std.proofs.lemmas.List.Elements.{filter-append}
use Rattle.std.proofs.lemmas.List.Folds.{list_any-append}
use Rattle.std.proofs.lemmas.List.Sums.{fold_push}
use Rattle.corr_model.specs.declared.plan.Plan.{Plan}
use Rattle.corr_model.specs.declared.item.DescRefusal.{DescRefusal}
use Rattle.corr_model.specs.Lists.{distinct, fronts, last_one, passes}
use Rattle.corr_model.specs.Descriptors.{DescribedItem, described_in}
use Rattle.corr_model.specs.Tables.{preset, readable_descriptors, table_ids, table_entry, is_full_for, is_bad_among, is_bad_after, ends_bad, bad_count}
use Rattle.corr_model.proofs.Turns.{filter_map_push, fronts_push, last_one_push}
use Rattle.corr_model.proofs.StreamLawsCells.{count_push}

but_last : {A : Type 0} (xs : List A) (x : A) → take (length (xs ++ x ∷ []) - 1) (xs ++ x ∷ []) ≡ xs
but_last xs x =
    let before : length (xs ++ x ∷ []) - 1 ≡ length xs = omega (arith, length_push xs x) in
    ap (λ n. take n (xs ++ x ∷ [])) before ∙ take-append_seam xs (x ∷ [])

-- a content more is counted where it is bad
pub bad_count_push : (plan : Plan) (contents : List (List ℕ)) (c : List ℕ)
    → bad_count plan (contents ++ c ∷ []) ≡ bad_count plan contents + cond (is_bad_after plan contents c) 1 0
bad_count_push plan contents c =
    let all = contents ++ c ∷ [] in
    let last : ends_bad plan all ≡ is_bad_after plan contents c =
    ap (passes (is_bad_after plan (take (length all - 1) all))) (last_one_push contents c) ∙ ap
    (λ front. is_bad_after plan front c) (but_last contents c) in
    ap (count_by (ends_bad plan)) (fronts_push contents c) ∙ count_push (ends_bad plan) (fronts contents) all ∙ ap
    (λ b. bad_count plan contents + cond b 1 0) last

-- a content more is a descriptor more, where it is readable
readable_push : (plan : Plan) (contents : List (List ℕ)) (c : List ℕ)
    → readable_descriptors plan (contents ++ c ∷ [])
    ≡ readable_descriptors plan contents ++ option_to_list (result_ok (described_in c))
readable_push plan contents c =
    ap (λ ds. preset plan ++ ds) (filter_map_push (λ k. result_ok (described_in k)) contents c)
    ∙ sym (append_assoc (preset plan) (filter_map (λ k. result_ok (described_in k)) contents)
    (option_to_list (result_ok (described_in c))))

readable_more : (plan : Plan) (contents : List (List ℕ)) (c : List ℕ) (d : DescribedItem) → described_in c ≡ Ok d
    → readable_descriptors plan (contents ++ c ∷ []) ≡ readable_descriptors plan contents ++ d ∷ []
readable_more plan contents c d h =
    readable_push plan contents c ∙ ap (λ r. readable_descriptors plan contents ++ option_to_list (result_ok r)) h

readable_stays : (plan : Plan) (contents : List (List ℕ)) (c : List ℕ) (e : DescRefusal) → described_in c ≡ Err e
    → readable_descriptors plan (contents ++ c ∷ []) ≡ readable_descriptors plan contents
readable_stays plan contents c e h =
    readable_push plan contents c ∙ ap (λ r. readable_descriptors plan contents ++ option_to_list (result_ok r)) h ∙
    append-nil (readable_descriptors plan contents)

-- the number is among these
has : ℕ → List ℕ → Bool
has x ids = list_any (λ y. eqb y x) ids

eqb_turned : (a b : ℕ) → eqb a b ≡ eqb b a
eqb_turned a b = elim (cases_eq a b) [
  | inl e ↦ eq-eqb a b e ∙ sym (eq-eqb b a (sym e))
  | inr other ↦ ne_eqb a b other ∙ sym
      (ne_eqb b a (λ e. other (sym e)))
]

has_turned : (x : ℕ) (ids : List ℕ) → list_any (eqb x) ids ≡ has x ids
unfolding has
has_turned x [] = refl
has_turned x (y ∷ ys) = ap (λ b. b || list_any (eqb x) ys) (eqb_turned x y) ∙ ap (λ b. eqb y x || b) (has_turned x ys)

has_push : (x : ℕ) (ids : List ℕ) (y : ℕ) → has x (ids ++ y ∷ []) ≡ (has x ids || (eqb y x || false))
unfolding has
has_push x ids y = list_any-append (λ z. eqb z x) ids (y ∷ [])

-- the distinct ids with one more
distinct_push : (xs : List ℕ) (x : ℕ)
    → distinct eqb (xs ++ x ∷ []) ≡ cond (has x (distinct eqb xs)) (distinct eqb xs) (distinct eqb xs ++ x ∷ [])
distinct_push xs x =
    fold_push _ [] xs x ∙ ap (λ b. cond b (distinct eqb xs) (distinct eqb xs ++ x ∷ []))
    (has_turned x (distinct eqb xs))

or_full : (full b : Bool) (ids other : List ℕ) → full ≡ true → cond (full || b) ids other ≡ ids
or_full true b ids other h = refl
or_full false b ids other h = absurd cc

or_room : (full b : Bool) (ids other : List ℕ) → full ≡ false → cond (full || b) ids other ≡ cond b ids other
or_room true b ids other h = absurd cc
or_room false b ids other h = refl

fits_all : (b : Bool) (all : List ℕ) (x : ℕ) → length all ≤ 64 → length (all ++ x ∷ []) ≤ 64
    → take 64 (cond b all (all ++ x ∷ [])) ≡ cond b all (all ++ x ∷ [])
fits_all true all x short longer = take_all 64 all short
fits_all false all x short longer = take_all 64 (all ++ x ∷ []) longer

keeps_first : (b : Bool) (all : List ℕ) (x : ℕ) → 64 ≤ length all → take 64 (cond b all (all ++ x ∷ [])) ≡ take 64 all
keeps_first true all x full = refl
keeps_first false all x full = take-append-le 64 all (x ∷ []) full

-- the first 64 of distinct ids with one more: where there are 64, or it is among them, as before
first_ids : (all : List ℕ) (x : ℕ)
    → take 64 (cond (has x all) all (all ++ x ∷ []))
    ≡ cond (leb 64 (length (take 64 all)) || has x (take 64 all)) (take 64 all) (take 64 all ++ x ∷ [])
first_ids all x =
    let first = take 64 all in
    elim (cases_lt (length all) 64) [
      | inl room ↦
          let short : length all ≤ 64 = omega arith in
          let longer : length (all ++ x ∷ []) ≤ 64 = omega (arith, length_push all x) in
          let same = take_all 64 all short in
          fits_all (has x all) all x short longer
          ∙ sym (or_room (leb 64 (length first)) (has x first) first (first ++ x ∷ [])
          (ap (λ ids. leb 64 (length ids)) same ∙ lt-leb 64 (length all) room)
          ∙ ap (λ ids. cond (has x ids) ids (ids ++ x ∷ [])) same)
      | inr full ↦
          let many : 64 ≤ length first = omega (arith, length-take 64 all) in
          keeps_first (has x all) all x full ∙ sym
          (or_full (leb 64 (length first)) (has x first) first (first ++ x ∷ []) (le-leb 64 (length first) many))
    ]

-- the ids of a table with a descriptor more
ids_push : (ds : List DescribedItem) (d : DescribedItem)
    → table_ids (ds ++ d ∷ [])
    ≡ cond (leb 64 (length (table_ids ds)) || has d.id (table_ids ds)) (table_ids ds) (table_ids ds ++ d.id ∷ [])
ids_push ds d =
    ap (λ xs. take 64 (distinct eqb xs)) (map-append (λ (e : DescribedItem). e.id) ds (d ∷ []))
    ∙ ap (take 64) (distinct_push (map (λ (e : DescribedItem). e.id) ds) d.id)
    ∙ first_ids (distinct eqb (map (λ (e : DescribedItem). e.id) ds)) d.id

full_parts : (full b : Bool) → (full && not b) ≡ true → (full ≡ true) × (b ≡ false)
full_parts true false h = (refl, refl)
full_parts true true h = absurd cc
full_parts false b h = absurd cc

room_parts : (full b : Bool) (ids other : List ℕ) → (full && not b) ≡ false
    → cond (full || b) ids other ≡ cond b ids other
room_parts true true ids other h = refl
room_parts true false ids other h = absurd cc
room_parts false b ids other h = refl

-- where there is no room the ids stay
ids_full : (ds : List DescribedItem) (d : DescribedItem) → is_full_for (table_ids ds) d.id ≡ true
    → table_ids (ds ++ d ∷ []) ≡ table_ids ds
unfolding has
ids_full ds d h =
    let ids = table_ids ds in
    let parts = full_parts (leb 64 (length ids)) (has d.id ids) h in
    ids_push ds d ∙ or_full (leb 64 (length ids)) (has d.id ids) ids (ids ++ d.id ∷ []) parts.0

-- where there is room the id is among them, or comes last
ids_room : (ds : List DescribedItem) (d : DescribedItem) → is_full_for (table_ids ds) d.id ≡ false
    → table_ids (ds ++ d ∷ []) ≡ cond (has d.id (table_ids ds)) (table_ids ds) (table_ids ds ++ d.id ∷ [])
unfolding has
ids_room ds d h =
    let ids = table_ids ds in
    ids_push ds d ∙ room_parts (leb 64 (length ids)) (has d.id ids) ids (ids ++ d.id ∷ []) h

or_none : (b : Bool) → (b || false) ≡ b
or_none true = refl
or_none false = refl

same_with : (b : Bool) (ids : List ℕ) (x id : ℕ) → eqb x id ≡ false → has id (cond b ids (ids ++ x ∷ [])) ≡ has id ids
same_with true ids x id other = refl
same_with false ids x id other = has_push id ids x ∙ ap (λ b. has id ids || (b || false)) other ∙ or_none (has id ids)

there_with : (b : Bool) (ids : List ℕ) (x : ℕ) → has x ids ≡ b → has x (cond b ids (ids ++ x ∷ [])) ≡ true
there_with true ids x is = is
there_with false ids x is =
    has_push x ids x ∙ or_right (has x ids) (eqb x x || false) (or_left (eqb x x) false (eq-eqb x x refl))

-- the last descriptor of an id, with one more
last_of : ℕ → List DescribedItem → Option DescribedItem
last_of id ds = last_one (filter (λ d. eqb d.id id) ds)

last_of_own : (ds : List DescribedItem) (d : DescribedItem) → last_of d.id (ds ++ d ∷ []) ≡ Some d
unfolding last_of
last_of_own ds d =
    ap last_one (filter-append (λ e. eqb e.id d.id) ds (d ∷ [])
    ∙ ap (λ b. filter (λ e. eqb e.id d.id) ds ++ cond b (d ∷ []) []) (eq-eqb d.id d.id refl))
    ∙ last_one_push (filter (λ e. eqb e.id d.id) ds) d

last_of_other : (ds : List DescribedItem) (d : DescribedItem) (id : ℕ) → eqb d.id id ≡ false
    → last_of id (ds ++ d ∷ []) ≡ last_of id ds
unfolding last_of
last_of_other ds d id other =
    ap last_one (filter-append (λ e. eqb e.id id) ds (d ∷ [])
    ∙ ap (λ b. filter (λ e. eqb e.id id) ds ++ cond b (d ∷ []) []) other
    ∙ append-nil (filter (λ e. eqb e.id id) ds))

entry_is : (ds : List DescribedItem) (id : ℕ) → table_entry ds id ≡ cond (has id (table_ids ds)) (last_of id ds) None
unfolding has last_of
entry_is ds id = refl

-- the entry of another id stays
entry_other : (ds : List DescribedItem) (d : DescribedItem) (id : ℕ) → eqb d.id id ≡ false
    → table_entry (ds ++ d ∷ []) id ≡ table_entry ds id
entry_other ds d id other =
    let ids = table_ids ds in
    let there = ap (has id) (ids_push ds d) ∙ same_with (leb 64 (length ids) || has d.id ids) ids d.id id other in
    entry_is (ds ++ d ∷ []) id
    ∙ ap (λ b. cond b (last_of id (ds ++ d ∷ [])) None) there
    ∙ ap (λ o. cond (has id ids) o None) (last_of_other ds d id other)
    ∙ sym (entry_is ds id)

-- its own is the descriptor, where there is room
entry_own : (ds : List DescribedItem) (d : DescribedItem) → is_full_for (table_ids ds) d.id ≡ false
    → table_entry (ds ++ d ∷ []) d.id ≡ Some d
entry_own ds d room =
    let ids = table_ids ds in
    let there = ap (has d.id) (ids_room ds d room) ∙ there_with (has d.id ids) ids d.id refl in
    entry_is (ds ++ d ∷ []) d.id ∙ ap (λ b. cond b (last_of d.id (ds ++ d ∷ [])) None) there ∙ last_of_own ds d

-- and none, where there is no room
entry_full : (ds : List DescribedItem) (d : DescribedItem) (id : ℕ) → is_full_for (table_ids ds) d.id ≡ true
    → table_entry (ds ++ d ∷ []) id ≡ table_entry ds id
unfolding has
entry_full ds d id full =
    let ids = table_ids ds in
    let absent = (full_parts (leb 64 (length ids)) (has d.id ids) full).1 in
    elim (cases_eq d.id id) [
      | inl same ↦
          let none : has id ids ≡ false = ap (λ x. has x ids) (sym same) ∙ absent in
          entry_is (ds ++ d ∷ []) id
          ∙ ap (λ k. cond (has id k) (last_of id (ds ++ d ∷ [])) None) (ids_full ds d full)
          ∙ ap (λ b. cond b (last_of id (ds ++ d ∷ [])) None) none
          ∙ sym (entry_is ds id ∙ ap (λ b. cond b (last_of id ds) None) none)
      | inr other ↦ entry_other ds d id (ne_eqb d.id id other)
    ]

-- a content is read as a descriptor, or refused
by_read : (plan : Plan) (contents : List (List ℕ)) (c : List ℕ) (r : Result DescribedItem DescRefusal)
    → described_in c ≡ r → is_bad_among (table_ids (readable_descriptors plan contents)) r ≡ true
    → (table_ids (readable_descriptors plan (contents ++ c ∷ [])) ≡ table_ids (readable_descriptors plan contents))
    × ((id : ℕ) → table_entry (readable_descriptors plan (contents ++ c ∷ [])) id
    ≡ table_entry (readable_descriptors plan contents) id)
by_read plan contents c (Err e) h bad =
    let same = readable_stays plan contents c e h in
    (ap table_ids same, λ id. ap (λ ds. table_entry ds id) same)
by_read plan contents c (Ok d) h bad =
    let ds = readable_descriptors plan contents in
    let more = readable_more plan contents c d h in
    (ap table_ids more ∙ ids_full ds d bad, λ id. ap (λ es. table_entry es id) more ∙ entry_full ds d id bad)

-- a bad content leaves the ids as they are
pub bad_keeps_ids : (plan : Plan) (contents : List (List ℕ)) (c : List ℕ) → is_bad_after plan contents c ≡ true
    → table_ids (readable_descriptors plan (contents ++ c ∷ [])) ≡ table_ids (readable_descriptors plan contents)
bad_keeps_ids plan contents c bad = (by_read plan contents c (described_in c) refl bad).0

-- and each entry
pub bad_keeps_entries : (plan : Plan) (contents : List (List ℕ)) (c : List ℕ) (id : ℕ)
    → is_bad_after plan contents c ≡ true
    → table_entry (readable_descriptors plan (contents ++ c ∷ [])) id
    ≡ table_entry (readable_descriptors plan contents) id
bad_keeps_entries plan contents c id bad = (by_read plan contents c (described_in c) refl bad).1 id

room_for : (plan : Plan) (contents : List (List ℕ)) (c : List ℕ) (d : DescribedItem) → described_in c ≡ Ok d
    → is_bad_after plan contents c ≡ false
    → is_full_for (table_ids (readable_descriptors plan contents)) d.id ≡ false
room_for plan contents c d h good = ap (is_bad_among (table_ids (readable_descriptors plan contents))) (sym h) ∙ good

-- another content puts its id last, where it is not there
pub good_adds_id : (plan : Plan) (contents : List (List ℕ)) (c : List ℕ) (d : DescribedItem) → described_in c ≡ Ok d
    → is_bad_after plan contents c ≡ false
    → table_ids (readable_descriptors plan (contents ++ c ∷ []))
    ≡ cond (list_any (λ x. eqb x d.id) (table_ids (readable_descriptors plan contents)))
    (table_ids (readable_descriptors plan contents))
    (table_ids (readable_descriptors plan contents) ++ d.id ∷ [])
unfolding has
good_adds_id plan contents c d h good =
    ap table_ids (readable_more plan contents c d h) ∙ ids_room (readable_descriptors plan contents) d
    (room_for plan contents c d h good)

-- and is the entry of it
pub good_is_entry : (plan : Plan) (contents : List (List ℕ)) (c : List ℕ) (d : DescribedItem) → described_in c ≡ Ok d
    → is_bad_after plan contents c ≡ false
    → table_entry (readable_descriptors plan (contents ++ c ∷ [])) d.id ≡ Some d
good_is_entry plan contents c d h good =
    ap (λ ds. table_entry ds d.id) (readable_more plan contents c d h) ∙ entry_own (readable_descriptors plan contents)
    d (room_for plan contents c d h good)

-- the entries of other ids stay
pub others_keep_entries : (plan : Plan) (contents : List (List ℕ)) (c : List ℕ) (d : DescribedItem) (id : ℕ)
    → described_in c ≡ Ok d → (d.id ≡ id → ⊥)
    → table_entry (readable_descriptors plan (contents ++ c ∷ [])) id
    ≡ table_entry (readable_descriptors plan contents) id
others_keep_entries plan contents c d id h other =
    ap (λ ds. table_entry ds id) (readable_more plan contents c d h) ∙ entry_other (readable_descriptors plan contents)
    d id (ne_eqb d.id id other)
