-- The closed columns of the strings that a state took are those of each lists that it fits.
use Rattle.std.proofs.Common.{◌≡◌, ℕ, ◌<◌, List, ◌++◌, length, drop, sym, ap, ◌∙◌, subst, inl, inr}
use Rattle.std.proofs.lemmas.List.{take-append-drop}
use Rattle.std.proofs.lemmas.Bool.{cases_Bool}
use Rattle.corr_model.specs.declared.plan.Plan.{Plan}
use Rattle.corr_model.specs.Streams.{column, floor, taken}
use Rattle.corr_model.proofs.StreamLawsFloor.{closed_columns_stay, column_of_taken}
use Rattle.corr_machine.specs.Machines.{StreamState, stream_floor}
use Rattle.corr_machine.specs.Runs.{StreamFits}

pub column_fits : (plan : Plan) (a n : ℕ) (x : StreamState) (l : List (List ℕ)) → StreamFits plan x l
    → n < stream_floor plan a x → column plan a x.strings n ≡ column plan a l n
column_fits plan a n x l fits below =
    elim (cases_Bool x.ended) [
      | inl over ↦ ap (λ k. column plan a k n) (fits.all over) ∙ column_of_taken plan a l n
      | inr still ↦
          let rest = drop (length x.strings) (taken plan l) in
          let whole = ap (λ k. k ++ rest) fits.first ∙ take-append-drop (length x.strings) (taken plan l) in
          sym (closed_columns_stay plan a x.strings rest n (subst (λ e. n < floor plan a x.strings e) still below)) ∙ ap
          (λ k. column plan a k n) whole ∙ column_of_taken plan a l n
    ]
