-- What the count of works says: a slot is working exactly where a
-- work has its number, and no two works have one number.
use Rattle.std.proofs.Common.{◌≡◌, ◌≢◌, ℕ, ◌<◌, ◌≤◌, Bool, true, false, not, cond, eqb, length, set, Option, Some, None, refl, ap, ◌∙◌, inl, inr, arith}
use Rattle.std.proofs.lemmas.List.{get_or-set_other, length-set}
use Rattle.std.proofs.lemmas.Bool.{cases_eq, eq-eqb, eqb-true, and_from, not-true, not-false}
use Rattle.corr_model.specs.declared.plan.Plan.{Plan}
use Rattle.corr_machine.specs.Machines.{State, slot_at, slot_for, work_at, work_count, is_working, works_on, holds, IsProper}
use Rattle.corr_machine.proofs.Places.{count_set}
use Rattle.corr_machine.proofs.Counts.{count_zero, all_or_one}
use Rattle.corr_machine.proofs.Proper.{held_one}

holder : (n : ℕ) (o : Option ℕ) → not (holds n o) ≡ false → o ≡ Some n
holder n None h = absurd cc
holder n (Some m) h = ap Some (eqb-true m n (not-false (eqb m n) h))

-- a working slot's number is that of a work
pub working_is_held : (plan : Plan) (state : State) (s : ℕ) → IsProper plan state → s < plan.slots
    → is_working (slot_at state s).kind ≡ true
    → (w : ℕ) × (w < work_count plan) × (work_at state w ≡ Some (slot_at state s).number)
working_is_held plan state s h low working =
    let x = slot_at state s in
    let n = x.number in
    let here = ap (slot_at state) (h.slot s low).place in
    let on = ap (works_on n) here ∙ and_from (eqb n n) (is_working x.kind) (eq-eqb n n refl) working in
    let one = ap {B = ℕ} (λ b. cond b 1 0) on in
    elim (all_or_one (λ w. not (holds n (work_at state w))) (work_count plan)) [
      | inl none ↦ absurd (let zero' =
          count_zero (holds n) state.works None
          (λ w there. not-true (holds n (work_at state w)) (none w (omega (arith, there, h.works)))) in omega
          (arith, zero', one, h.held n))
      | inr found ↦ (found.0, found.1, holder n (work_at state found.0) found.2)
    ]

at_most : (b : Bool) → cond b 1 0 ≤ 1
at_most true = omega arith
at_most false = omega arith

-- no two works have one number
pub works_apart : (plan : Plan) (state : State) (v w n : ℕ) → IsProper plan state → v < work_count plan
    → w < work_count plan → work_at state v ≡ Some n → work_at state w ≡ Some n → v ≢ w → ⊥
works_apart plan state v w n h low few first second ne =
    let holds_n : holds n (Some n) ≡ true = eq-eqb n n refl in
    let inside : w < length state.works = omega (arith, few, h.works) in
    let counted = count_set (holds n) state.works w None None inside in
    let one = ap {B = ℕ} (λ b. cond b 1 0) (ap (holds n) second ∙ holds_n) in
    let still = held_one (holds n) (set state.works w None) v
    (omega (arith, low, h.works, length-set state.works w None))
    (ap (holds n) (get_or-set_other state.works w v None None ne ∙ first) ∙ holds_n) in
    let most = at_most (works_on n (slot_for plan state n)) in
    omega (arith, counted, one, still, h.held n, most)

pub one_work : (plan : Plan) (state : State) (v w n : ℕ) → IsProper plan state → v < work_count plan
    → w < work_count plan → work_at state v ≡ Some n → work_at state w ≡ Some n → v ≡ w
one_work plan state v w n h low few first second =
    elim (cases_eq v w) [
      | inl same ↦ same
      | inr ne ↦ absurd (works_apart plan state v w n h low few first second ne)
    ]
