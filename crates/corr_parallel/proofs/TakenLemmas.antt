-- The strings that count are the first of a list.
use Rattle.std.proofs.Common.{◌≡◌, ℕ, ◌≤◌, List, [], ◌∷◌, ◌++◌, length, take, sym, ap, ◌∙◌, subst, arith, inl, inr}
use Rattle.std.proofs.lemmas.List.{append-nil, append_assoc}
use Rattle.std.proofs.Math.Seq.{take-append_seam}
use Rattle.corr_model.specs.declared.plan.Plan.{Plan}
use Rattle.corr_model.specs.Streams.{taken}
use Rattle.corr_model.proofs.StreamLawsTaken.{never_stopped, taken_open, taken_push, taken_ended, cases_ended}
use Rattle.corr_model.proofs.Turns.{by_pushes}
use Rattle.corr_machine.specs.Runs.{IsFront}

taken_front : (plan : Plan) (l : List (List ℕ)) → IsFront (taken plan l) l
taken_front plan =
    let least : length {A = List ℕ} [] ≤ plan.packet_limit = omega arith in
    by_pushes (λ l. IsFront (taken plan l) l)
    (record { rest = []; is = sym (ap (λ k. k ++ []) (taken_open plan [] (never_stopped plan) least)) })
    (λ l b before. elim (cases_ended plan l) [
      | inl h ↦ record { rest = []; is = sym (append-nil (taken plan (l ++ b ∷ [])) ∙ taken_push plan l b h.0 h.1) }
      | inr h ↦ record {
        rest = before.rest ++ b ∷ [];
        is = ap (λ k. k ++ b ∷ []) before.is ∙ append_assoc (taken plan l) before.rest (b ∷ [])
            ∙ ap (λ k. k ++ (before.rest ++ b ∷ [])) (sym (taken_ended plan l b h));
      }
    ])

-- as many as count
pub take_counts : (plan : Plan) (l : List (List ℕ)) (given : ℕ) → given ≡ length (taken plan l)
    → take given l ≡ taken plan l
take_counts plan l given exactly =
    let front = taken_front plan l in
    ap (λ n. take n l) exactly ∙ ap (take (length (taken plan l))) front.is ∙ take-append_seam (taken plan l) front.rest
