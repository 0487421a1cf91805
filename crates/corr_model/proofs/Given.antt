-- What the strings so far say of the whole list: the columns that are given, and the strings that count.
use Rattle.std.proofs.Common.{◌≡◌, ℕ, ◌<◌, Bool, true, false, List, [], ◌∷◌, ◌++◌, take, drop, None, refl, sym, ap, ◌∙◌}
use Rattle.std.specs.Option.{is_some}
use Rattle.std.proofs.lemmas.List.{append-nil, take-append-drop}
use Rattle.corr_model.specs.declared.plan.Plan.{Plan}
use Rattle.corr_model.specs.Streams.{column, ending, floor, taken}
use Rattle.corr_model.proofs.StreamLawsFloor.{closed_columns_stay}
use Rattle.corr_model.proofs.StreamLawsTaken.{taken_next, taken_past}

-- a column that a feed gives is the one of its whole list
pub given_is_final : (plan : Plan) (antenna : ℕ) (l rest : List (List ℕ)) (n : ℕ) (ended : Bool)
    → n < floor plan antenna l ended → (ended ≡ true → rest ≡ [])
    → column plan antenna (l ++ rest) n ≡ column plan antenna l n
given_is_final plan antenna l rest n false below none = closed_columns_stay plan antenna l rest n below
given_is_final plan antenna l rest n true below none =
    ap (λ r. column plan antenna (l ++ r) n) (none refl) ∙ ap (λ k. column plan antenna k n) (append-nil l)

-- what counts of a front that has ended is what counts of the whole
pub taken_of_front : (plan : Plan) (l : List (List ℕ)) (n : ℕ) → is_some (ending plan (take n l)) ≡ true
    → taken plan (take n l) ≡ taken plan l
taken_of_front plan l n ended =
    sym (taken_past plan (take n l) (drop n l) ended) ∙ ap (taken plan) (take-append-drop n l)

-- a list that ends at a string took all up to it, and no longer one takes more
pub taken_at_end : (plan : Plan) (l rest : List (List ℕ)) (b : List ℕ) → ending plan l ≡ None
    → is_some (ending plan (l ++ b ∷ [])) ≡ true
    → taken plan ((l ++ b ∷ []) ++ rest) ≡ l ++ b ∷ []
taken_at_end plan l rest b goes_on ended = taken_past plan (l ++ b ∷ []) rest ended ∙ taken_next plan l b goes_on
