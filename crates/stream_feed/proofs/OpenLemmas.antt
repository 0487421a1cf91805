-- The open columns of a stream, by the heaps that were judged.
use Rattle.std.proofs.Common.{◌≡◌, ◌≢◌, ℕ, zero, suc, ◌+◌, ◌*◌, ◌%◌, ◌<◌, ◌≤◌, Bool, true, false, cond, eqb, List, [], ◌∷◌, ◌++◌, length, map, get_or, slice_set, Some, None, refl, sym, ap, ap₂, ◌∙◌, subst, inl, inr, arith}
use Rattle.std.proofs.Math.Nat.{add-mod_right}
use Rattle.std.proofs.lemmas.Bool.{cases_eq, eqb-true, eq-eqb, false≢true}
use Rattle.std.proofs.lemmas.Nat.{mod-mul-add}
use Rattle.std.proofs.lemmas.List.{get_or-set_same, get_or-set_other, map-append, length-map}
use Rattle.corr_model.specs.declared.plan.Plan.{Plan}
use Rattle.corr_model.specs.Plans.{Fits}
use Rattle.corr_model.specs.declared.verdict.Verdict.TheVariants.{Used}
use Rattle.corr_model.specs.Lists.{numbers}
use Rattle.corr_model.proofs.CountedLists.{length-numbers, numbers_push}
use Rattle.corr_model.specs.Streams.{JudgedHeap, cell_in, is_used_at, samples_of}
use Rattle.corr_model.proofs.Pushes.{cell_in_stays}
use Rattle.slot_column.specs.Columns.{Cells, empty_column}
use Rattle.stream_feed.specs.Opening.{OpenState, IsSoundOpen, AreOpen, column_by, no_columns, after_given}
use Rattle.stream_feed.proofs.ColumnLemmas.{get_or_mapped, same_place, column_same, column_put, column_none, filled_here, same_elsewhere, same_beside}

set_twice : {A : Type 0} (xs : List A) (k : ℕ) (x y : A) → slice_set (slice_set xs k x) k y ≡ slice_set xs k y
set_twice [] k x y = refl
set_twice (z ∷ zs) zero x y = refl
set_twice (z ∷ zs) (suc k) x y = ap (λ ws. z ∷ ws) (set_twice zs k x y)

with_columns : OpenState → List Cells → Cells → OpenState
with_columns o cs ahead =
    record { plan = o.plan; antenna = o.antenna; given = o.given + 1; columns = cs; ahead = ahead }

given_twice : (o : OpenState) (place next : ℕ) (x : Cells) (b : Bool)
    → ◌≡◌ {A = OpenState}
    (record (cond b
    (record o {
      columns = slice_set (slice_set o.columns place x) place o.ahead;
      ahead = empty_column o.plan o.antenna (next + 1);
    })
    (record o { columns = slice_set (slice_set o.columns place x) place (empty_column o.plan o.antenna next) }))
    { given = o.given + 1 })
    (record (cond b
    (record o { columns = slice_set o.columns place o.ahead; ahead = empty_column o.plan o.antenna (next + 1) })
    (record o { columns = slice_set o.columns place (empty_column o.plan o.antenna next) })) { given = o.given + 1 })
unfolding with_columns
given_twice o place next x true =
    ap (λ cs. with_columns o cs (empty_column o.plan o.antenna (next + 1))) (set_twice o.columns place x o.ahead)
given_twice o place next x false =
    ap (λ cs. with_columns o cs o.ahead) (set_twice o.columns place x (empty_column o.plan o.antenna next))

-- what lay at the place before does not count
pub given_over : (o : OpenState) (x : Cells)
    → after_given (record o { columns = slice_set o.columns (o.given % o.plan.lag) x }) ≡ after_given o
given_over o x = given_twice o (o.given % o.plan.lag) (o.given + o.plan.lag) x
    (eqb o.ahead.number (o.given + o.plan.lag))

-- so many empty columns are there
pub record ColumnsTo (plan : Plan) (antenna : ℕ) (cs : List Cells) (len room n : ℕ) : Type 0 where
  pub is : cs ≡ map (empty_column plan antenna) (numbers 0 n)
  pub counted : len ≡ n
  pub fits_in : plan.lag ≤ room

pub columns_more : (plan : Plan) (antenna : ℕ) (cs after : List Cells) (c : Cells) (len later room now n : ℕ)
    → ColumnsTo plan antenna cs len room n → c ≡ empty_column plan antenna n
    → after ≡ cs ++ c ∷ [] → later ≡ len + 1 → now ≡ room → ColumnsTo plan antenna after later now (n + 1)
columns_more plan antenna cs after c len later room now n i ec e el er =
    let f = empty_column plan antenna in
    let next : suc n ≡ n + 1 = omega arith in
    let same : 0 + n ≡ n = omega arith in
    record {
      is = e ∙ ap₂ (λ xs x. xs ++ x ∷ []) i.is (ec ∙ ap f (sym same)) ∙ sym (map-append f (numbers 0 n) ((0 + n) ∷ []))
          ∙ ap (map f) (sym (numbers_push 0 n)) ∙ ap (λ k. map f (numbers 0 k)) next;
      counted = let c = i.counted in omega arith;
      fits_in = let c = i.fits_in in omega arith;
    }

pub new_open : (plan : Plan) (antenna : ℕ) (cs : List Cells) → Fits plan → antenna < plan.antennas
    → cs ≡ map (empty_column plan antenna) (numbers 0 plan.lag)
    → IsSoundOpen (record {
      plan = plan;
      antenna = antenna;
      given = 0;
      columns = cs;
      ahead = empty_column plan antenna plan.lag;
    })
new_open plan antenna cs fits low e =
    let long : length cs ≡ plan.lag =
    ap length e ∙ length-map (numbers 0 plan.lag) (empty_column plan antenna) ∙ length-numbers 0 plan.lag in
    record {
      fits = fits;
      antenna = low;
      given = omega arith;
      as_many = long;
      of_plan = λ k d less.
          ap (λ xs. (get_or xs k d).plan) e ∙ ap (λ (c : Cells). c.plan)
          (get_or_mapped (empty_column plan antenna) 0 plan.lag k d (omega arith));
      ahead_plan = refl;
    }

pub new_open_with : (plan : Plan) (antenna : ℕ) (cs : List Cells) (ahead : Cells) → Fits plan → antenna < plan.antennas
    → cs ≡ map (empty_column plan antenna) (numbers 0 plan.lag)
    → ahead ≡ empty_column plan antenna plan.lag
    → IsSoundOpen (record { plan = plan; antenna = antenna; given = 0; columns = cs; ahead = ahead })
new_open_with plan antenna cs ahead fits low e is =
    subst (λ a. IsSoundOpen (record { plan = plan; antenna = antenna; given = 0; columns = cs; ahead = a })) (sym is)
    (new_open plan antenna cs fits low e)

-- ---- by the heaps that were judged

-- the columns of no heap
pub open_none : (plan : Plan) (antenna : ℕ) → 1 ≤ plan.lag → AreOpen (no_columns plan antenna) []
open_none plan antenna low = record {
  each = λ n d from to.
      let within : n < plan.lag = omega arith in
      let zero_on : 0 * plan.lag + n ≡ n = omega arith in
      let small : n % plan.lag ≡ n = ap (λ k. k % plan.lag) (sym zero_on) ∙ mod-mul-add 0 plan.lag n within in
      ap (λ k. get_or (map (empty_column plan antenna) (numbers 0 plan.lag)) k d) small
      ∙ get_or_mapped (empty_column plan antenna) 0 plan.lag n d within
      ∙ ap (empty_column plan antenna) (let same : 0 + n ≡ n = omega arith in same)
      ∙ column_none plan antenna [] n (λ t. refl);
  ahead_is = column_none plan antenna [] plan.lag (λ t. refl);
  past = omega arith;
  rest = λ n t far apart. refl;
}

-- a heap that is not used changes no column
pub open_stay : (o : OpenState) (js : List JudgedHeap) (j : JudgedHeap) → AreOpen o js
    → ((n t : ℕ) → is_used_at n t j.verdict ≡ false) → AreOpen o (js ++ j ∷ [])
open_stay o js j a unused =
    let stays = λ (n t : ℕ). cell_in_stays js j n t (unused n t) in
    record {
      each = λ n d from to. a.each n d from to ∙ sym (column_same o.plan o.antenna js (js ++ j ∷ []) n (stays n));
      ahead_is = a.ahead_is ∙ sym
          (column_same o.plan o.antenna js (js ++ j ∷ []) o.ahead.number (stays o.ahead.number));
      past = a.past;
      rest = λ n t far apart. stays n t ∙ a.rest n t far apart;
    }

module _ (o : OpenState) (js : List JudgedHeap) (j : JudgedHeap) (n t : ℕ) (samples : List ℕ) (a : AreOpen o js)
    (used : j.verdict ≡ Used n t) (own : samples_of j ≡ samples) (free : cell_in js n t ≡ None)
    (low : t < o.plan.heaps) where
  -- the column of a heap that is used
  column_now : record (column_by o.plan o.antenna js n)
      { cells = slice_set (column_by o.plan o.antenna js n).cells t (Some samples) }
      ≡ column_by o.plan o.antenna (js ++ j ∷ []) n
  column_now = column_put o.plan o.antenna js (js ++ j ∷ []) n t samples low
      (filled_here js j n t used free ∙ ap Some own) (λ u apart. same_beside js j n t used u apart)

  others_now : (m : ℕ) → m ≢ n → column_by o.plan o.antenna js m ≡ column_by o.plan o.antenna (js ++ j ∷ []) m
  others_now m apart =
      sym (column_same o.plan o.antenna js (js ++ j ∷ []) m (λ u. same_elsewhere js j n t used m u apart))

  -- a heap is used in an open column
  pub open_put : length o.columns ≡ o.plan.lag → 1 ≤ o.plan.lag → o.given ≤ n → n < o.given + o.plan.lag
      → (after : Cells)
      → after ≡ record (column_by o.plan o.antenna js n)
      { cells = slice_set (column_by o.plan o.antenna js n).cells t (Some samples) }
      → AreOpen (record o { columns = slice_set o.columns (n % o.plan.lag) after }) (js ++ j ∷ [])
  open_put long some from to after is = record {
    each = λ m d lm um. elim (cases_eq m n) [
      | inl same ↦
          ap (λ k. get_or (slice_set o.columns (n % o.plan.lag) after) (k % o.plan.lag) d) same
          ∙ get_or-set_same o.columns (n % o.plan.lag) after d (omega (arith, long, some))
          ∙ is ∙ column_now ∙ ap (column_by o.plan o.antenna (js ++ j ∷ [])) (sym same)
      | inr apart ↦
          get_or-set_other o.columns (n % o.plan.lag) (m % o.plan.lag) after d
          (λ e. apart (same_place o.given o.plan.lag m n lm um from to e))
          ∙ a.each m d lm um ∙ others_now m apart
    ];
    ahead_is = a.ahead_is ∙ others_now o.ahead.number (let p = a.past in λ e. omega arith);
    past = a.past;
    rest = λ m u far apart. same_elsewhere js j n t used m u (λ e. omega arith) ∙ a.rest m u far apart;
  }

  -- a heap is used further ahead than any before
  pub open_ahead : o.given + o.plan.lag ≤ n → ((m u : ℕ) → o.given + o.plan.lag ≤ m → cell_in js m u ≡ None)
      → (after : Cells)
      → after ≡ record (empty_column o.plan o.antenna n)
      { cells = slice_set (empty_column o.plan o.antenna n).cells t (Some samples) }
      → AreOpen (record o { ahead = after }) (js ++ j ∷ [])
  open_ahead far none after is =
      let empty = column_none o.plan o.antenna js n (λ u. none n u far) in
      let now : after ≡ column_by o.plan o.antenna (js ++ j ∷ []) n =
      is ∙ ap (λ (c : Cells). record c { cells = slice_set c.cells t (Some samples) }) empty ∙ column_now in
      let number : after.number ≡ n = ap (λ (c : Cells). c.number) is in
      record {
        each = λ m d lm um. a.each m d lm um ∙ others_now m (λ e. omega arith);
        ahead_is = now ∙ ap (column_by o.plan o.antenna (js ++ j ∷ [])) (sym number);
        past = omega (arith, number, far);
        rest = λ m u over apart. same_elsewhere js j n t used m u (λ e. apart (e ∙ sym number)) ∙ none m u over;
      }

-- the next column was given
module _ (o : OpenState) (js : List JudgedHeap) (a : AreOpen o js) (long : length o.columns ≡ o.plan.lag)
    (some : 1 ≤ o.plan.lag) where
  next_place : (o.given + o.plan.lag) % o.plan.lag ≡ o.given % o.plan.lag
  next_place = add-mod_right o.given o.plan.lag

  each_next : (after : Cells) → after ≡ column_by o.plan o.antenna js (o.given + o.plan.lag) → (m : ℕ) (d : Cells)
      → o.given + 1 ≤ m → m < o.given + 1 + o.plan.lag
      → get_or (slice_set o.columns (o.given % o.plan.lag) after) (m % o.plan.lag) d ≡ column_by o.plan o.antenna js m
  each_next after is m d lm um = elim (cases_eq m (o.given + o.plan.lag)) [
    | inl same ↦
        ap (λ k. get_or (slice_set o.columns (o.given % o.plan.lag) after) k d)
        (ap (λ k. k % o.plan.lag) same ∙ next_place)
        ∙ get_or-set_same o.columns (o.given % o.plan.lag) after d (omega (arith, long, some))
        ∙ is ∙ ap (column_by o.plan o.antenna js) (sym same)
    | inr apart ↦
        let within : m < o.given + o.plan.lag = omega arith in
        get_or-set_other o.columns (o.given % o.plan.lag) (m % o.plan.lag) after d
        (λ e. let same = same_place o.given o.plan.lag m o.given (omega arith) within (omega arith) (omega arith) e
        in omega arith)
        ∙ a.each m d (omega arith) within
  ]

  given_by : (b : Bool) → (b ≡ true → o.ahead.number ≡ o.given + o.plan.lag)
      → (b ≡ false → o.ahead.number ≢ o.given + o.plan.lag)
      → AreOpen (record (cond b
      (record o {
        columns = slice_set o.columns (o.given % o.plan.lag) o.ahead;
        ahead = empty_column o.plan o.antenna (o.given + o.plan.lag + 1);
      })
      (record o {
        columns =
            slice_set o.columns (o.given % o.plan.lag)
            (empty_column o.plan o.antenna (o.given + o.plan.lag));
      })) { given = o.given + 1 }) js
  given_by true is isnt =
      let here = is refl in
      record {
        each = each_next o.ahead (a.ahead_is ∙ ap (column_by o.plan o.antenna js) here);
        ahead_is = column_none o.plan o.antenna js (o.given + o.plan.lag + 1)
            (λ t. a.rest (o.given + o.plan.lag + 1) t (omega arith) (λ e. omega arith));
        past = omega arith;
        rest = λ m t far apart. a.rest m t (omega arith) (λ e. omega arith);
      }
  given_by false is isnt =
      let other = isnt refl in
      let p = a.past in
      record {
        each = each_next (empty_column o.plan o.antenna (o.given + o.plan.lag))
            (column_none o.plan o.antenna js (o.given + o.plan.lag)
            (λ t. a.rest (o.given + o.plan.lag) t (omega arith) (λ e. other (sym e))));
        ahead_is = a.ahead_is;
        past = omega (arith, p, other);
        rest = λ m t far apart. a.rest m t (omega arith) apart;
      }

  pub open_given : AreOpen (after_given o) js
  open_given = given_by (eqb o.ahead.number (o.given + o.plan.lag)) (eqb-true o.ahead.number (o.given + o.plan.lag))
      (λ e same. false≢true (sym e ∙ eq-eqb o.ahead.number (o.given + o.plan.lag) same))

  -- and it was the one of its number
  pub given_is : (d : Cells) → get_or o.columns (o.given % o.plan.lag) d ≡ column_by o.plan o.antenna js o.given
  given_is d = a.each o.given d (omega arith) (omega arith)
