-- Below the floor nothing changes: no later heap is used there, and the columns stay.
use Rattle.std.proofs.Common.{◌≡◌, ℕ, ◌<◌, ◌≤◌, Bool, true, false, List, [], ◌∷◌, ◌++◌, length, take, drop, map, Option, Some, None, refl, sym, ap, ◌∙◌, subst, arith, inl, inr}
use Rattle.std.specs.List.{list_any, find}
use Rattle.std.specs.Option.{is_some, option_map, option_or}
use Rattle.std.proofs.lemmas.List.{append-nil}
use Rattle.std.proofs.Math.Seq.{take-append_seam, drop-append_seam}
use Rattle.std.proofs.lemmas.List.Folds.{find-append}
use Rattle.std.proofs.lemmas.Bool.{cases_Bool, cond-true, cond-false, cond_both, or_parts}
use Rattle.corr_model.specs.declared.plan.Plan.{Plan}
use Rattle.corr_model.specs.Lists.{numbers}
use Rattle.corr_model.specs.Streams.{JudgedHeap, floor_of, is_used_at, heaps, ending, floor, samples_of, cell_in, cell, column, taken}
use Rattle.corr_model.proofs.StreamLawsTaken.{ending_stays, heaps_ended, same_after_end, heaps_of_taken}
use Rattle.corr_model.proofs.StreamLawsCells.{heaps_grow}

none_found : {A : Type 0} (test : A → Bool) (xs : List A) → list_any test xs ≡ false → find test xs ≡ None
none_found test [] none = refl
none_found test (x ∷ xs) none =
    let parts = or_parts (test x) (list_any test xs) none in
    cond-false (test x) (Some x) (find test xs) parts.0 ∙ none_found test xs parts.1

floor_ended : (plan : Plan) (antenna : ℕ) (l : List (List ℕ)) → is_some (ending plan l) ≡ true
    → floor plan antenna l false ≡ plan.accumulations
floor_ended plan antenna l h =
    cond-true (is_some (ending plan l)) plan.accumulations (floor_of plan (heaps plan antenna l)) h

floor_open : (plan : Plan) (antenna : ℕ) (l : List (List ℕ)) → is_some (ending plan l) ≡ false
    → floor plan antenna l false ≡ floor_of plan (heaps plan antenna l)
floor_open plan antenna l h =
    cond-false (is_some (ending plan l)) plan.accumulations (floor_of plan (heaps plan antenna l)) h

-- after the end the heaps stay
pub heaps_after_end : (plan : Plan) (antenna : ℕ) (l rest : List (List ℕ)) → is_some (ending plan l) ≡ true
    → heaps plan antenna (l ++ rest) ≡ heaps plan antenna l
heaps_after_end plan antenna l rest h = same_after_end plan (heaps plan antenna) (heaps_ended plan antenna) l rest h

-- these heaps, and more of which none is used below the bound
pub record AddsAbove (bound : ℕ) (before after : List JudgedHeap) : Type 0 where
  pub more : List JudgedHeap
  pub is : after ≡ before ++ more
  pub none : (n t : ℕ) → n < bound → list_any (λ j. is_used_at n t j.verdict) more ≡ false

-- a longer list has the same heaps, and more of which none is used below the floor
pub heaps_add : (plan : Plan) (antenna : ℕ) (l rest : List (List ℕ))
    → AddsAbove (floor plan antenna l false) (heaps plan antenna l) (heaps plan antenna (l ++ rest))
heaps_add plan antenna l rest =
    elim (cases_Bool (is_some (ending plan l))) [
      | inl ended ↦ record {
        more = [];
        is = heaps_after_end plan antenna l rest ended ∙ sym (append-nil (heaps plan antenna l));
        none = λ n t below. refl;
      }
      | inr still ↦
          let h = heaps_grow plan antenna l rest in
          let same = floor_open plan antenna l still in
          record { more = h.more; is = h.is; none = λ n t below. h.none n t (subst (λ b. n < b) same below) }
    ]

-- the heaps of a list begin those of a longer one
pub heaps_begin : (plan : Plan) (antenna : ℕ) (l rest : List (List ℕ))
    → take (length (heaps plan antenna l)) (heaps plan antenna (l ++ rest)) ≡ heaps plan antenna l
heaps_begin plan antenna l rest =
    let h = heaps_add plan antenna l rest in
    ap (take (length (heaps plan antenna l))) h.is ∙ take-append_seam (heaps plan antenna l) h.more

-- no later heap is used below the floor
pub none_later : (plan : Plan) (antenna : ℕ) (l rest : List (List ℕ)) (n t : ℕ) → n < floor plan antenna l false
    → list_any (λ j. is_used_at n t j.verdict) (drop (length (heaps plan antenna l)) (heaps plan antenna (l ++ rest)))
    ≡ false
none_later plan antenna l rest n t below =
    let h = heaps_add plan antenna l rest in
    ap (list_any (λ (j : JudgedHeap). is_used_at n t j.verdict))
    (ap (drop (length (heaps plan antenna l))) h.is ∙ drop-append_seam (heaps plan antenna l) h.more)
    ∙ h.none n t below

or_nothing : (o : Option JudgedHeap) → option_or o None ≡ o
or_nothing (Some j) = refl
or_nothing None = refl

cell_stays : (js more : List JudgedHeap) (n t : ℕ) → list_any (λ j. is_used_at n t j.verdict) more ≡ false
    → cell_in (js ++ more) n t ≡ cell_in js n t
cell_stays js more n t none =
    let test = λ (j : JudgedHeap). is_used_at n t j.verdict in
    ap (option_map samples_of)
    (find-append test js more ∙ ap (option_or (find test js)) (none_found test more none) ∙ or_nothing
    (find test js))

-- a closed cell stays
pub closed_cells_stay : (plan : Plan) (antenna : ℕ) (l rest : List (List ℕ)) (n t : ℕ) → n < floor plan antenna l false
    → cell plan antenna (l ++ rest) n t ≡ cell plan antenna l n t
closed_cells_stay plan antenna l rest n t below =
    let h = heaps_add plan antenna l rest in
    ap (λ js. cell_in js n t) h.is ∙ cell_stays (heaps plan antenna l) h.more n t (h.none n t below)

map_same : {A B : Type 0} (f g : A → B) → ((x : A) → f x ≡ g x) → (xs : List A) → map f xs ≡ map g xs
map_same f g h [] = refl
map_same f g h (x ∷ xs) = ap (λ y. y ∷ map f xs) (h x) ∙ ap (λ ys. g x ∷ ys) (map_same f g h xs)

-- a closed column stays
pub closed_columns_stay : (plan : Plan) (antenna : ℕ) (l rest : List (List ℕ)) (n : ℕ) → n < floor plan antenna l false
    → column plan antenna (l ++ rest) n ≡ column plan antenna l n
closed_columns_stay plan antenna l rest n below =
    map_same (cell plan antenna (l ++ rest) n) (cell plan antenna l n)
    (λ t. closed_cells_stay plan antenna l rest n t below) (numbers 0 plan.heaps)

floor_within : (plan : Plan) (js : List JudgedHeap) → floor_of plan js ≤ plan.accumulations
floor_within plan js = omega arith

-- the floor does not fall
pub floor_rises : (plan : Plan) (antenna : ℕ) (l rest : List (List ℕ))
    → floor plan antenna l false ≤ floor plan antenna (l ++ rest) false
floor_rises plan antenna l rest =
    elim (cases_Bool (is_some (ending plan (l ++ rest)))) [
      | inl ended ↦
          let top = floor_ended plan antenna (l ++ rest) ended in
          let within = floor_within plan (heaps plan antenna l) in
          let most : floor plan antenna l false ≤ plan.accumulations =
          cond_both (is_some (ending plan l)) plan.accumulations (floor_of plan (heaps plan antenna l))
          (λ f. f ≤ plan.accumulations) (λ e. omega arith) (λ e. within) in
          omega arith
      | inr still ↦ elim (cases_Bool (is_some (ending plan l))) [
        | inl before ↦ absurd
            (let same = same_after_end plan (ending plan) (ending_stays plan) l rest before in let later =
            ap is_some same ∙ before in cc)
        | inr open_yet ↦
            let h = (heaps_grow plan antenna l rest).floor_above in
            let first = floor_open plan antenna l open_yet in
            let second = floor_open plan antenna (l ++ rest) still in
            omega arith
      ]
    ]

-- what counts has the same cells and columns
pub column_of_taken : (plan : Plan) (antenna : ℕ) (l : List (List ℕ)) (n : ℕ)
    → column plan antenna (taken plan l) n ≡ column plan antenna l n
column_of_taken plan antenna l n = ap (λ js. map (cell_in js n) (numbers 0 plan.heaps)) (heaps_of_taken plan antenna l)

pub cell_of_taken : (plan : Plan) (antenna : ℕ) (l : List (List ℕ)) (n t : ℕ)
    → cell plan antenna (taken plan l) n t ≡ cell plan antenna l n t
cell_of_taken plan antenna l n t = ap (λ js. cell_in js n t) (heaps_of_taken plan antenna l)
