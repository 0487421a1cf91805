-- The descriptors of a heap, applied one by one, and how many of them change nothing.
use Rattle.std.proofs.Common.{◌≡◌, ℕ, ◌+◌, ◌-◌, ◌<◌, ◌≤◌, Bool, true, false, if◌then◌else◌, cond, List, [], ◌∷◌, ◌++◌, length, take, map, filter, slice_get, get_or, count_by, sum_by, IfSome, Option, Some, None, Ok, Err, Result, is_none, refl, sym, ap, subst, ◌∙◌, arith, add-zero, zero-add}
use Rattle.std.specs.Result.{result_ok}
use Rattle.std.specs.List.{enumerate_from}
use Rattle.std.specs.Option.{option_to_list}
use Rattle.std.proofs.lemmas.List.{append-nil, append_assoc, map-append, length_push, take_at, take_all}
use Rattle.std.proofs.lemmas.List.Elements.{filter_more}
use Rattle.std.proofs.lemmas.List.FromFn.{length-enumerate_from, get_or-enumerate_from}
use Rattle.std.proofs.lemmas.Option.{none-some, slice_get-get_or, get_or_from_slice_get}
use Rattle.std.proofs.lemmas.List.Sums.{fold-append, sum_by-cons}
use Rattle.corr_model.specs.declared.plan.Plan.{Plan}
use Rattle.corr_model.specs.declared.pointer.Pointer.{Pointer}
use Rattle.corr_model.specs.declared.item.DescRefusal.{DescRefusal}
use Rattle.corr_model.specs.Lists.{fronts, passes}
use Rattle.corr_model.specs.Items.{Group, descriptor_contents}
use Rattle.corr_model.specs.Descriptors.{DescribedItem, described_in}
use Rattle.corr_model.specs.Tables.{TableStandsFor, table_ids, readable_descriptors, is_full_for, is_bad_among, is_bad_after, ends_bad, bad_count}
use Rattle.corr_model.proofs.Turns.{fronts_push, last_one_push}
use Rattle.item_group.specs.declared.applied.Applied.{Applied}
use Rattle.item_group.specs.declared.applied.Taken.{Taken}
use Rattle.item_group.specs.declared.applied.Taken.TheVariants.{Changed, Refused, Full}
use Rattle.item_group.specs.Applying.{with_taken, taken_as, is_descriptor, own_content, descriptor_at}
use Rattle.item_group.specs.Counting.{is_refused, is_full_after, full_count}

-- the contents of the descriptors among the first pointers
abbrev pub contents_to : Group → ℕ → List (List ℕ)
contents_to g n = map (own_content g) (filter is_descriptor (take n (enumerate_from 0 g.pointers)))

-- these contents were applied in order to a table, and so many of them came to each end
pub record HasApplied (old new : List DescribedItem) (contents : List (List ℕ)) (a : Applied) : Type 0 where
  pub stands : (plan : Plan) (before : List (List ℕ)) → TableStandsFor plan old before
      → TableStandsFor plan new (before ++ contents)
  pub refused : a.refused ≡ count_by is_refused contents
  pub full : (plan : Plan) (before : List (List ℕ)) → TableStandsFor plan old before
      → a.full ≡ full_count plan before contents
  pub all : a.changed + a.refused + a.full ≡ length contents

-- one where it holds, else none
abbrev pub one_if : Bool → ℕ
one_if b = if b then 1 else 0

sum_push : {X : Type 0} (f : X → ℕ) (xs : List X) (x : X) → sum_by f (xs ++ x ∷ []) ≡ sum_by f xs + f x
sum_push f xs x = fold-append (λ n y. n + f y) 0 xs (x ∷ [])

-- a count with one more
count_push : {X : Type 0} (p : X → Bool) (xs : List X) (x : X)
    → count_by p (xs ++ x ∷ []) ≡ count_by p xs + one_if (p x)
count_push p xs x = sum_push (λ y. cond (p y) 1 0) xs x

-- the bad ones with one more
bad_count_push : (plan : Plan) (before : List (List ℕ)) (c : List ℕ)
    → bad_count plan (before ++ c ∷ []) ≡ bad_count plan before + one_if (is_bad_after plan before c)
bad_count_push plan before c =
    let all = before ++ c ∷ [] in
    let front : take (length all - 1) all ≡ before =
    take_at before (c ∷ []) (length all - 1) (omega (arith, length_push before c)) in
    let last : ends_bad plan all ≡ is_bad_after plan before c =
    ap (passes (is_bad_after plan (take (length all - 1) all))) (last_one_push before c) ∙ ap
    (λ f. is_bad_after plan f c) front in
    ap (count_by (ends_bad plan)) (fronts_push before c)
    ∙ count_push (ends_bad plan) (fronts before) all
    ∙ ap (λ b. bad_count plan before + one_if b) last

bad_by : (ids : List ℕ) (r : Result DescribedItem DescRefusal)
    → one_if (is_bad_among ids r)
    ≡ one_if (is_none (result_ok r)) + one_if (passes (λ d. is_full_for ids d.id) (result_ok r))
bad_by ids (Err e) = refl
bad_by ids (Ok d) = omega arith

four_parts : (a b c d e : ℕ) → a + (b + c) + (d + e) ≡ a + (b + d + (c + e))
four_parts a b c d e = omega arith

-- the bad ones are those that are refused, and those whose id would be the 65th
pub bad_count_after : (plan : Plan) (before cs : List (List ℕ))
    → bad_count plan (before ++ cs) ≡ bad_count plan before + (count_by is_refused cs + full_count plan before cs)
bad_count_after plan before [] = ap (bad_count plan) (append-nil before) ∙ omega arith
bad_count_after plan before (c ∷ cs) =
    let next = before ++ c ∷ [] in
    let moved : next ++ cs ≡ before ++ c ∷ cs = append_assoc before (c ∷ []) cs in
    let rest = bad_count_after plan next cs in
    let first = bad_count_push plan before c in
    let parts = bad_by (table_ids (readable_descriptors plan before)) (described_in c) in
    ap (bad_count plan) (sym moved) ∙ rest
    ∙ ap (λ n. n + (count_by is_refused cs + full_count plan next cs))
    (first ∙ ap (λ n. bad_count plan before + n) parts)
    ∙ four_parts (bad_count plan before) (one_if (is_refused c)) (one_if (is_full_after plan before c))
    (count_by is_refused cs) (full_count plan next cs)
    ∙ ap (λ n. bad_count plan before + (n + full_count plan before (c ∷ cs)))
    (sym (sum_by-cons (λ x. cond (is_refused x) 1 0) c cs))

full_count_push : (plan : Plan) (before cs : List (List ℕ)) (c : List ℕ)
    → full_count plan before (cs ++ c ∷ []) ≡ full_count plan before cs + one_if (is_full_after plan (before ++ cs) c)
full_count_push plan before [] c = ap (λ f. one_if (is_full_after plan f c) + 0) (sym (append-nil before)) ∙ omega arith
full_count_push plan before (x ∷ xs) c =
    let rest = full_count_push plan (before ++ x ∷ []) xs c in
    let moved = append_assoc before (x ∷ []) xs in
    omega (arith, rest ∙ ap (λ f. full_count plan (before ++ x ∷ []) xs + one_if (is_full_after plan f c)) moved)

-- before any content
pub applied_none : (es : List DescribedItem) → HasApplied es es [] (record { changed = 0; refused = 0; full = 0 })
applied_none es = record {
  stands = λ plan before s. subst (TableStandsFor plan es) (sym (append-nil before)) s;
  refused = refl;
  full = λ plan before s. refl;
  all = refl;
}

refused_stays : (a : Applied) (full : Bool) → (with_taken a (if full then Full else Changed)).refused ≡ a.refused + 0
refused_stays a true = sym (add-zero a.refused)
refused_stays a false = sym (add-zero a.refused)

full_if : (a : Applied) (full : Bool) → (with_taken a (if full then Full else Changed)).full ≡ a.full + one_if full
full_if a true = refl
full_if a false = sym (add-zero a.full)

refused_as : (a : Applied) (t : Taken) (ids : List ℕ) (r : Result DescribedItem DescRefusal) → t ≡ taken_as ids r
    → (with_taken a t).refused ≡ a.refused + one_if (is_none (result_ok r))
refused_as a t ids (Err e) is = ap (λ u. (with_taken a u).refused) is
refused_as a t ids (Ok d) is = ap (λ u. (with_taken a u).refused) is ∙ refused_stays a (is_full_for ids d.id)

full_as : (a : Applied) (t : Taken) (ids : List ℕ) (r : Result DescribedItem DescRefusal) → t ≡ taken_as ids r
    → (with_taken a t).full ≡ a.full + one_if (passes (λ d. is_full_for ids d.id) (result_ok r))
full_as a t ids (Err e) is = ap (λ u. (with_taken a u).full) is ∙ sym (add-zero a.full)
full_as a t ids (Ok d) is = ap (λ u. (with_taken a u).full) is ∙ full_if a (is_full_for ids d.id)

all_as : (a : Applied) (t : Taken)
    → (with_taken a t).changed + (with_taken a t).refused + (with_taken a t).full ≡ a.changed + a.refused + a.full + 1
all_as a Changed = omega arith
all_as a Refused = omega arith
all_as a Full = omega arith

-- with one content more
pub applied_more : (old mid new : List DescribedItem) (cs : List (List ℕ)) (c : List ℕ) (a : Applied) (t : Taken)
    → HasApplied old mid cs a
    → ((plan : Plan) (before : List (List ℕ)) → TableStandsFor plan mid before
    → TableStandsFor plan new (before ++ c ∷ []))
    → t ≡ taken_as (map (λ (d : DescribedItem). d.id) mid) (described_in c)
    → HasApplied old new (cs ++ c ∷ []) (with_taken a t)
applied_more old mid new cs c a t h stands taken = record {
  stands = λ plan before s.
      subst (TableStandsFor plan new) (append_assoc before cs (c ∷ []))
      (stands plan (before ++ cs) (h.stands plan before s));
  refused = refused_as a t _ (described_in c) taken ∙ ap (λ n. n + one_if (is_refused c)) h.refused ∙ sym
      (count_push is_refused cs c);
  full = λ plan before s.
      let there = h.stands plan before s in
      full_as a t _ (described_in c) (taken ∙ ap (λ ids. taken_as ids (described_in c)) there.ids)
      ∙ ap (λ n. n + one_if (is_full_after plan (before ++ cs) c)) (h.full plan before s)
      ∙ sym (full_count_push plan before cs c);
  all = all_as a t ∙ ap (λ n. n + 1) h.all ∙ sym (length_push cs c);
}

kept_one : (g : Group) (b : Bool) (placed : ℕ × Pointer)
    → map (own_content g) (cond b (placed ∷ []) []) ≡ option_to_list (if b then Some (own_content g placed) else None)
kept_one g true placed = refl
kept_one g false placed = refl

-- the contents with one pointer more
contents_more : (g : Group) (n : ℕ) (d : Pointer) → n < length g.pointers
    → contents_to g (n + 1) ≡ contents_to g n ++ option_to_list (descriptor_at g (n, get_or g.pointers n d))
contents_more g n d within =
    let placed = enumerate_from 0 g.pointers in
    let next = get_or placed n (0, d) in
    let last = cond (is_descriptor next) (next ∷ []) [] in
    ap (map (own_content g))
    (filter_more is_descriptor placed n (0, d) (omega (arith, length-enumerate_from 0 g.pointers)))
    ∙ map-append (own_content g) (filter is_descriptor (take n placed)) last
    ∙ ap (λ cs. contents_to g n ++ cs)
    (kept_one g (is_descriptor next) next ∙ ap (λ p. option_to_list (descriptor_at g p))
    (get_or-enumerate_from 0 g.pointers n (0, d) within) ∙ ap
    (λ k. option_to_list (descriptor_at g (k, get_or g.pointers n d))) (zero-add n))

contents_found : (g : Group) (n : ℕ) (found : Option (List ℕ)) (o : Option Pointer) → n < length g.pointers
    → slice_get g.pointers n ≡ o → IfSome o (λ p. found ≡ descriptor_at g (n, p))
    → contents_to g (n + 1) ≡ contents_to g n ++ option_to_list found
contents_found g n found None within there is =
    let d : Pointer = record { immediate = false; id = 0; value = 0 } in
    absurd (none-some (get_or g.pointers n d) (sym there ∙ slice_get-get_or g.pointers n d within))
contents_found g n found (Some p) within there is =
    contents_more g n p within ∙ ap (λ o. contents_to g n ++ option_to_list o)
    (ap (λ q. descriptor_at g (n, q)) (get_or_from_slice_get g.pointers n p p there) ∙ sym is)

-- the contents with one pointer more, of which this was found
pub contents_after : (g : Group) (n : ℕ) (found : Option (List ℕ)) → n < length g.pointers
    → IfSome (slice_get g.pointers n) (λ p. found ≡ descriptor_at g (n, p))
    → contents_to g (n + 1) ≡ contents_to g n ++ option_to_list found
contents_after g n found within is = contents_found g n found (slice_get g.pointers n) within refl is

-- the first pointers were applied, and so many came to each end
pub record IsAppliedTo (g : Group) (n : ℕ) (old new : List DescribedItem) (a : Applied) : Type 0 where
  pub applied : HasApplied old new (contents_to g n) a
  pub few : length (contents_to g n) ≤ n

-- before any pointer
pub applied_to_none : (g : Group) (es : List DescribedItem)
    → IsAppliedTo g 0 es es (record { changed = 0; refused = 0; full = 0 })
applied_to_none g es = record { applied = applied_none es; few = omega arith }

-- with one pointer more that is a descriptor's
pub applied_one : (g : Group) (n : ℕ) (old mid new : List DescribedItem) (c : List ℕ) (a : Applied) (t : Taken)
    → IsAppliedTo g n old mid a → contents_to g (n + 1) ≡ contents_to g n ++ c ∷ []
    → ((plan : Plan) (before : List (List ℕ)) → TableStandsFor plan mid before
    → TableStandsFor plan new (before ++ c ∷ []))
    → t ≡ taken_as (map (λ (d : DescribedItem). d.id) mid) (described_in c)
    → IsAppliedTo g (n + 1) old new (with_taken a t)
applied_one g n old mid new c a t h more stands taken = record {
  applied = subst (λ cs. HasApplied old new cs (with_taken a t)) (sym more)
      (applied_more old mid new (contents_to g n) c a t h.applied stands taken);
  few = omega (arith, h.few, ap length more, length_push (contents_to g n) c);
}

-- with one pointer more that is none
pub applied_same : (g : Group) (n : ℕ) (old new : List DescribedItem) (a : Applied) → IsAppliedTo g n old new a
    → contents_to g (n + 1) ≡ contents_to g n ++ [] → IsAppliedTo g (n + 1) old new a
applied_same g n old new a h more =
    let same = more ∙ append-nil (contents_to g n) in
    record {
      applied = subst (λ cs. HasApplied old new cs a) (sym same) h.applied;
      few = omega (arith, h.few, ap length same);
    }

-- with all of them
pub applied_all : (g : Group) (n : ℕ) (old new : List DescribedItem) (a : Applied) → IsAppliedTo g n old new a
    → length g.pointers ≤ n → HasApplied old new (descriptor_contents g) a
applied_all g n old new a h all =
    let whole : contents_to g n ≡ descriptor_contents g =
    ap (λ ps. map (own_content g) (filter is_descriptor ps))
    (take_all n (enumerate_from 0 g.pointers) (omega (arith, length-enumerate_from 0 g.pointers))) in
    subst (λ cs. HasApplied old new cs a) whole h.applied

-- the bad ones among them
pub bad_after : (old new : List DescribedItem) (cs : List (List ℕ)) (a : Applied) (plan : Plan) (before : List (List ℕ))
    → HasApplied old new cs a → TableStandsFor plan old before
    → bad_count plan (before ++ cs) ≡ bad_count plan before + (a.refused + a.full)
bad_after old new cs a plan before h s =
    bad_count_after plan before cs ∙ ap (λ n. bad_count plan before + (n + full_count plan before cs)) (sym h.refused) ∙
    ap (λ n. bad_count plan before + (a.refused + n)) (sym (h.full plan before s))
