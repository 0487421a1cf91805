-- The columns of judged heaps, and what one heap more does to them.
use Rattle.std.proofs.Common.{◌≡◌, ◌≢◌, ℕ, zero, suc, ◌+◌, ◌*◌, ◌/◌, ◌%◌, ◌<◌, ◌≤◌, Bool, true, false, cond, eqb, ◌||◌, List, [], ◌∷◌, ◌++◌, map, get_or, slice_set, replicate, Option, Some, None, is_some, refl, sym, ap, ap₂, ◌∙◌, inl, inr, arith, add-zero, mul-le-mul_right}
use Rattle.std.specs.Prelude.{option_map, find}
use Rattle.std.specs.Option.{option_or}
use Rattle.std.specs.List.{list_any}
use Rattle.std.proofs.Math.Nat.{div-add-mod'}
use Rattle.std.proofs.lemmas.Bool.{cases_lt, and_left, and_right, and_from, ne_eqb, eq-eqb}
use Rattle.corr_model.specs.declared.plan.Plan.{Plan}
use Rattle.corr_model.specs.declared.verdict.Verdict.TheVariants.{Used}
use Rattle.corr_model.specs.Lists.{numbers}
use Rattle.corr_model.specs.Streams.{JudgedHeap, cell_in, is_used_at, samples_of}
use Rattle.corr_model.proofs.Pushes.{cell_in_push, cell_in_stays}
use Rattle.slot_column.specs.Columns.{cell_at, empty_column}
use Rattle.stream_feed.specs.Opening.{column_by}

pub get_or_mapped : {X : Type 0} (f : ℕ → X) (from n k : ℕ) (d : X) → k < n
    → get_or (map f (numbers from n)) k d ≡ f (from + k)
get_or_mapped f from zero k d h = absurd (omega arith)
get_or_mapped f from (suc n) zero d h = ap f (sym (add-zero from))
get_or_mapped f from (suc n) (suc k) d h =
    let next : from + 1 + k ≡ from + suc k = omega arith in
    get_or_mapped f (from + 1) n k d (omega arith) ∙ ap f next

-- two functions that are the same on some numbers
mapped_same : {X : Type 0} (f g : ℕ → X) (from n : ℕ) → ((k : ℕ) → k < n → g (from + k) ≡ f (from + k))
    → map g (numbers from n) ≡ map f (numbers from n)
mapped_same f g from zero each = refl
mapped_same f g from (suc n) each =
    let first : g from ≡ f from = ap g (sym (add-zero from)) ∙ each 0 (omega arith) ∙ ap f (add-zero from) in
    ap₂ (λ x xs. x ∷ xs) first
    (mapped_same f g (from + 1) n
    (λ k less. let later : from + suc k ≡ from + 1 + k =
    omega arith in ap g (sym later) ∙ each (suc k) (omega arith) ∙ ap f later))

-- a function of numbers that was changed at one of them
mapped_set : {X : Type 0} (f g : ℕ → X) (v : X) (from n t : ℕ) → t < n → g (from + t) ≡ v
    → ((k : ℕ) → k < n → k ≢ t → g (from + k) ≡ f (from + k))
    → map g (numbers from n) ≡ slice_set (map f (numbers from n)) t v
mapped_set f g v from zero t h at others = absurd (omega arith)
mapped_set f g v from (suc n) zero h at others =
    let here : g from ≡ v = ap g (sym (add-zero from)) ∙ at in
    ap₂ (λ x xs. x ∷ xs) here
    (mapped_same f g (from + 1) n
    (λ k less. let next : from + suc k ≡ from + 1 + k =
    omega arith in ap g (sym next) ∙ others (suc k) (omega arith) (omega arith) ∙ ap f next))
mapped_set f g v from (suc n) (suc t) h at others =
    let first : g from ≡ f from =
    ap g (sym (add-zero from)) ∙ others 0 (omega arith) (omega arith) ∙ ap f (add-zero from) in
    let next : from + suc t ≡ from + 1 + t = omega arith in
    ap₂ (λ x xs. x ∷ xs) first
    (mapped_set f g v (from + 1) n t (omega arith) (ap g (sym next) ∙ at)
    (λ k less apart. let later : from + suc k ≡ from + 1 + k =
    omega arith in ap g (sym later) ∙ others (suc k) (omega arith) (omega arith) ∙ ap f later))

mapped_none : {X : Type 0} (f : ℕ → X) (v : X) (from n : ℕ) → ((k : ℕ) → f k ≡ v)
    → map f (numbers from n) ≡ replicate n v
mapped_none f v from zero each = refl
mapped_none f v from (suc n) each = ap₂ (λ x xs. x ∷ xs) (each from) (mapped_none f v (from + 1) n each)

-- places modulo a number, within a window as long, are apart
pub same_place : (g lag m n : ℕ) → g ≤ m → m < g + lag → g ≤ n → n < g + lag → m % lag ≡ n % lag → m ≡ n
same_place g lag m n lm um ln un e =
    let pm : (m / lag) * lag + m % lag ≡ m = div-add-mod' m lag in
    let pn : (n / lag) * lag + n % lag ≡ n = div-add-mod' n lag in
    elim (cases_lt (m / lag) (n / lag)) [
      | inl less ↦
          let more : suc (m / lag) * lag ≤ (n / lag) * lag = mul-le-mul_right lag less in
          let grown : suc (m / lag) * lag ≡ (m / lag) * lag + lag = grind arith in
          absurd (omega (arith, pm, pn, more, grown, e, lm, un))
      | inr not_less ↦ elim (cases_lt (n / lag) (m / lag)) [
        | inl less ↦
            let more : suc (n / lag) * lag ≤ (m / lag) * lag = mul-le-mul_right lag less in
            let grown : suc (n / lag) * lag ≡ (n / lag) * lag + lag = grind arith in
            absurd (omega (arith, pm, pn, more, grown, e, ln, um))
        | inr also ↦
            let same : m / lag ≡ n / lag = omega arith in
            sym pm ∙ ap₂ (λ a b. a * lag + b) same e ∙ pn
      ]
    ]

module _ (plan : Plan) (antenna : ℕ) where
  -- the column of an accumulation by heaps that fill the same cells of it
  pub column_same : (js ks : List JudgedHeap) (n : ℕ) → ((t : ℕ) → cell_in ks n t ≡ cell_in js n t)
      → column_by plan antenna ks n ≡ column_by plan antenna js n
  column_same js ks n same =
      ap (λ cs. record { plan = plan; antenna = antenna; number = n; cells = cs })
      (mapped_same (cell_in js n) (cell_in ks n) 0 plan.heaps (λ t h. same (0 + t)))

  -- a cell of a column
  pub cell_of_column : (js : List JudgedHeap) (n t : ℕ) → t < plan.heaps
      → cell_at (column_by plan antenna js n) t ≡ cell_in js n t
  cell_of_column js n t h = let same : 0 + t ≡ t =
      omega arith in get_or_mapped (cell_in js n) 0 plan.heaps t None h ∙ ap (cell_in js n) same

  -- the column with a cell more
  pub column_put : (js ks : List JudgedHeap) (n t : ℕ) (samples : List ℕ) → t < plan.heaps
      → cell_in ks n t ≡ Some samples → ((u : ℕ) → u ≢ t → cell_in ks n u ≡ cell_in js n u)
      → record (column_by plan antenna js n) { cells = slice_set (column_by plan antenna js n).cells t (Some samples) }
      ≡ column_by plan antenna ks n
  column_put js ks n t samples low there others =
      let same : 0 + t ≡ t = omega arith in
      ap (λ cs. record { plan = plan; antenna = antenna; number = n; cells = cs })
      (sym (mapped_set (cell_in js n) (cell_in ks n) (Some samples) 0 plan.heaps t low (ap (cell_in ks n) same ∙ there)
      (λ k less apart. others (0 + k) (λ e. apart (omega arith)))))

  -- a column without a cell
  pub column_none : (js : List JudgedHeap) (n : ℕ) → ((t : ℕ) → cell_in js n t ≡ None)
      → empty_column plan antenna n ≡ column_by plan antenna js n
  column_none js n none =
      ap (λ cs. record { plan = plan; antenna = antenna; number = n; cells = cs })
      (sym (mapped_none (cell_in js n) None 0 plan.heaps none))

own_place : (m u : ℕ) → is_used_at m u (Used m u) ≡ true
own_place m u = and_from (eqb m m) (eqb u u) (eq-eqb m m refl) (eq-eqb u u refl)

-- the heap used at n, t fills that cell alone
module _ (js : List JudgedHeap) (j : JudgedHeap) (n t : ℕ) (used : j.verdict ≡ Used n t) where
  pub filled_here : cell_in js n t ≡ None → cell_in (js ++ j ∷ []) n t ≡ Some (samples_of j)
  filled_here none =
      cell_in_push js j n t
      ∙ ap (λ o. option_or o (cond (is_used_at n t j.verdict) (Some (samples_of j)) None)) none
      ∙ ap (λ b. cond b (Some (samples_of j)) None) (ap (is_used_at n t) used ∙ own_place n t)

  pub same_elsewhere : (m u : ℕ) → m ≢ n → cell_in (js ++ j ∷ []) m u ≡ cell_in js m u
  same_elsewhere m u apart =
      cell_in_stays js j m u (ap (is_used_at m u) used ∙ and_left (eqb n m) (eqb t u) (ne_eqb n m (λ e. apart (sym e))))

  pub same_beside : (u : ℕ) → u ≢ t → cell_in (js ++ j ∷ []) n u ≡ cell_in js n u
  same_beside u apart =
      cell_in_stays js j n u
      (ap (is_used_at n u) used ∙ and_right (eqb n n) (eqb t u) (ne_eqb t u (λ e. apart (sym e))))

some_or : {A : Type 0} (b : Bool) (x : A) (o : Option A) (later : Bool) → is_some o ≡ later
    → is_some (cond b (Some x) o) ≡ (b || later)
some_or true x o later h = refl
some_or false x o later h = h

-- whether one passes
some_found : {A : Type 0} (test : A → Bool) (xs : List A) → is_some (find test xs) ≡ list_any test xs
some_found test [] = refl
some_found test (x ∷ xs) = some_or (test x) x (find test xs) (list_any test xs) (some_found test xs)

some_mapped : {A B : Type 0} (f : A → B) (o : Option A) → is_some (option_map f o) ≡ is_some o
some_mapped f None = refl
some_mapped f (Some x) = refl

-- whether a heap was used at a place is whether its cell is there
pub used_if_there : (js : List JudgedHeap) (n t : ℕ)
    → list_any (λ j. is_used_at n t j.verdict) js ≡ is_some (cell_in js n t)
used_if_there js n t =
    sym (some_mapped samples_of (find (λ (j : JudgedHeap). is_used_at n t j.verdict) js) ∙ some_found
    (λ (j : JudgedHeap). is_used_at n t j.verdict) js)
