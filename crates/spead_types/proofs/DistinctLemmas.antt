-- What stands among the distinct pointers is what stands among all.
use Rattle.std.proofs.Common.{◌≡◌, ℕ, ◌≤◌, min, Bool, true, false, not, ◌&&◌, ◌||◌, if◌then◌else◌, List, [], ◌∷◌, ◌++◌, map, filter, fold, cond, refl, sym, ap, ◌∙◌, inl, inr, arith, append-nil, append_assoc}
use Rattle.std.specs.List.{list_any}
use Rattle.std.proofs.lemmas.Bool.{and_parts, and_right, eqb-true, or_cases}
use Rattle.std.proofs.lemmas.List.Folds.{list_any-append}
use Rattle.corr_model.specs.declared.pointer.Pointer.{Pointer}
use Rattle.corr_model.specs.Assembly.{are_same}
use Rattle.corr_model.specs.Lists.{distinct}
use Rattle.spead_types.proofs.ItemLemmas.{is_above, least}

-- ---- pointers that are the same

same_modes : (a b : Bool) → (if a then b else not b) ≡ true → a ≡ b
same_modes true true h = refl
same_modes true false h = absurd cc
same_modes false true h = absurd cc
same_modes false false h = refl

-- pointers that are the same are one
pub same_is : (p q : Pointer) → are_same p q ≡ true → p ≡ q
same_is p q h =
    let parts = and_parts _ _ h in
    let front = and_parts _ _ parts.0 in
    let mode = same_modes p.immediate q.immediate front.0 in
    let id = eqb-true p.id q.id front.1 in
    let value = eqb-true p.value q.value parts.1 in
    λ i. record { immediate = mode i; id = id i; value = value i }

-- ---- what distinct pointers are made of

-- the pointers that are put behind those that stand there
abbrev pub news : List Pointer → List Pointer → List Pointer
news before [] = []
news before (p ∷ ps) = if list_any (are_same p) before then news before ps else p ∷ news (before ++ p ∷ []) ps

abbrev pub with_pointer : List Pointer → Pointer → List Pointer
with_pointer before p = if list_any (are_same p) before then before else before ++ p ∷ []

put_behind_by : (b : Bool) (before : List Pointer) (p : Pointer) (ps : List Pointer)
    → fold with_pointer before ps ≡ before ++ news before ps
    → fold with_pointer (before ++ p ∷ []) ps ≡ (before ++ p ∷ []) ++ news (before ++ p ∷ []) ps
    → fold with_pointer (if b then before else before ++ p ∷ []) ps
    ≡ before ++ (if b then news before ps else p ∷ news (before ++ p ∷ []) ps)
put_behind_by true before p ps stays grows = stays
put_behind_by false before p ps stays grows = grows ∙ append_assoc before (p ∷ []) (news (before ++ p ∷ []) ps)

-- pointers put in turn stand behind those that stood there
pub put_behind : (before ps : List Pointer) → fold with_pointer before ps ≡ before ++ news before ps
put_behind before [] = sym (append-nil before)
put_behind before (p ∷ ps) =
    put_behind_by (list_any (are_same p) before) before p ps (put_behind before ps) (put_behind (before ++ p ∷ []) ps)

-- ---- a test among the new pointers

or_false : (b : Bool) → (b || false) ≡ b
or_false true = refl
or_false false = refl

and_true : (b : Bool) → (b && true) ≡ b
and_true true = refl
and_true false = refl

left_out_by : (b : Bool) (t : Pointer → Bool) (q p : Pointer) (before : Bool) → are_same q p ≡ b → t p ≡ false
    → (t q && not (before || (b || false))) ≡ (t q && not before)
left_out_by true t q p before same fails =
    let none : t q ≡ false = ap t (same_is q p same) ∙ fails in
    ap (λ c. c && not (before || true)) none ∙ sym (ap (λ c. c && not before) none)
left_out_by false t q p before same fails = ap (λ c. t q && not c) (or_false before)

-- a pointer that fails a test hides none that passes it
left_out : (t : Pointer → Bool) (before : List Pointer) (p : Pointer) → t p ≡ false → (q : Pointer)
    → (t q && not (list_any (are_same q) (before ++ p ∷ []))) ≡ (t q && not (list_any (are_same q) before))
left_out t before p fails q =
    ap (λ c. t q && not c) (list_any-append (are_same q) before (p ∷ [])) ∙ left_out_by (are_same q p) t q p
    (list_any (are_same q) before) refl fails

abbrev is_new : (Pointer → Bool) → List Pointer → Pointer → Bool
is_new t before q = t q && not (list_any (are_same q) before)

passes_or_not : (c : Bool) (t : Pointer → Bool) (before : List Pointer) (p : Pointer) (ps : List Pointer) → t p ≡ c
    → list_any t (news (before ++ p ∷ []) ps) ≡ list_any (is_new t (before ++ p ∷ [])) ps
    → (c || list_any t (news (before ++ p ∷ []) ps)) ≡ ((c && true) || list_any (is_new t before) ps)
passes_or_not true t before p ps is rest = refl
passes_or_not false t before p ps is rest = rest ∙ (λ i. list_any (λ q. left_out t before p is q i) ps)

any_news_by : (b : Bool) (t : Pointer → Bool) (before : List Pointer) (p : Pointer) (ps : List Pointer)
    → list_any t (news before ps) ≡ list_any (is_new t before) ps
    → list_any t (news (before ++ p ∷ []) ps) ≡ list_any (is_new t (before ++ p ∷ [])) ps
    → list_any t (if b then news before ps else p ∷ news (before ++ p ∷ []) ps)
    ≡ ((t p && not b) || list_any (is_new t before) ps)
any_news_by true t before p ps stays grows =
    stays ∙ ap (λ c. c || list_any (is_new t before) ps) (sym (and_right (t p) false refl))
any_news_by false t before p ps stays grows = passes_or_not (t p) t before p ps refl grows

-- a new pointer passes a test where one of the pointers does that is not the same as one that stood there
pub any_news : (t : Pointer → Bool) (before ps : List Pointer)
    → list_any t (news before ps) ≡ list_any (λ q. t q && not (list_any (are_same q) before)) ps
any_news t before [] = refl
any_news t before (p ∷ ps) =
    any_news_by (list_any (are_same p) before) t before p ps (any_news t before ps) (any_news t (before ++ p ∷ []) ps)

-- a test passes among the distinct pointers as among all
pub any_distinct : (t : Pointer → Bool) (ps : List Pointer) → list_any t (distinct are_same ps) ≡ list_any t ps
any_distinct t ps =
    ap (list_any t) (put_behind [] ps) ∙ any_news t [] ps ∙ (λ i. list_any (λ q. and_true (t q) i) ps)

-- ---- the least offset above another

-- no pointer above the offset that stands there has a value below this
abbrev Covers : ℕ → ℕ → List Pointer → Type 0
Covers offset end before =
    (q : Pointer) → list_any (are_same q) before ≡ true → is_above offset q ≡ true → end ≤ q.value

covers_more : (offset end less : ℕ) (before : List Pointer) (p : Pointer) → Covers offset end before → less ≤ end
    → (is_above offset p ≡ true → less ≤ p.value) → Covers offset less (before ++ p ∷ [])
covers_more offset end less before p covers below own q stands above =
    elim (or_cases (list_any (are_same q) before) (are_same q p || false)
    (sym (list_any-append (are_same q) before (p ∷ [])) ∙ stands)) [
      | inl earlier ↦ omega (arith, covers q earlier above)
      | inr last ↦
          let same : q ≡ p = same_is q p (sym (or_false (are_same q p)) ∙ last) in
          omega (arith, own (sym (ap (is_above offset) same) ∙ above), ap (λ (x : Pointer). x.value) same)
    ]

abbrev least_by : Bool → ℕ → ℕ → Pointer → List Pointer → ℕ
least_by c offset end p ps =
    fold min end (map (λ (q : Pointer). q.value)
    (cond c (p ∷ filter (is_above offset) ps) (filter (is_above offset) ps)))

stays_least : (c : Bool) (offset end : ℕ) (p : Pointer) (ps news : List Pointer) → (c ≡ true → end ≤ p.value)
    → least offset end news ≡ least offset end ps → least offset end news ≡ least_by c offset end p ps
stays_least true offset end p ps news covered rest =
    let kept : end ≡ min end p.value = omega (arith, covered refl) in
    rest ∙ ap (λ e. least offset e ps) kept
stays_least false offset end p ps news covered rest = rest

grows_least : (c : Bool) (offset end : ℕ) (before ps news : List Pointer) (p : Pointer) → is_above offset p ≡ c
    → Covers offset end before
    → ((less : ℕ) → Covers offset less (before ++ p ∷ []) → least offset less news ≡ least offset less ps)
    → least_by c offset end p news ≡ least_by c offset end p ps
grows_least true offset end before ps news p is covers rest =
    rest (min end p.value)
    (covers_more offset end (min end p.value) before p covers (omega arith) (λ above. omega arith))
grows_least false offset end before ps news p is covers rest =
    rest end (covers_more offset end end before p covers (omega arith) (λ above. absurd cc))

least_news_by : (b : Bool) (offset end : ℕ) (before : List Pointer) (p : Pointer) (ps : List Pointer)
    → list_any (are_same p) before ≡ b → Covers offset end before
    → least offset end (news before ps) ≡ least offset end ps
    → ((less : ℕ) → Covers offset less (before ++ p ∷ [])
    → least offset less (news (before ++ p ∷ []) ps) ≡ least offset less ps)
    → least offset end (if b then news before ps else p ∷ news (before ++ p ∷ []) ps) ≡ least offset end (p ∷ ps)
least_news_by true offset end before p ps is covers stays grows =
    stays_least (is_above offset p) offset end p ps (news before ps) (λ above. covers p is above) stays
least_news_by false offset end before p ps is covers stays grows =
    grows_least (is_above offset p) offset end before ps (news (before ++ p ∷ []) ps) p refl covers grows

least_news : (offset end : ℕ) (before ps : List Pointer) → Covers offset end before
    → least offset end (news before ps) ≡ least offset end ps
least_news offset end before [] covers = refl
least_news offset end before (p ∷ ps) covers =
    least_news_by (list_any (are_same p) before) offset end before p ps refl covers
    (least_news offset end before ps covers) (λ less more. least_news offset less (before ++ p ∷ []) ps more)

-- the least offset above another is that among all pointers
pub least_distinct : (offset end : ℕ) (ps : List Pointer)
    → least offset end (distinct are_same ps) ≡ least offset end ps
least_distinct offset end ps =
    ap (least offset end) (put_behind [] ps) ∙ least_news offset end [] ps (λ q stands above. absurd cc)
