use Rattle.std.proofs.Common.{◌∙◌, sym, inl, inr}
use Rattle.std.proofs.lemmas.Bool.{eqb-true, eqb-false, false≢true}
use Rattle.slot_ring.specs.declared.held.Kind.TheVariants.{Done}
use Rattle.slot_ring.specs.Slots.{held_of}
use Rattle.slot_ring.specs.Answers.{AcceptsSend}
use Rattle.slot_ring.proofs.ChangeLemmas.{matched, refused}
use Rattle.slot_ring.proofs.slot.Slot.has_value.Goals as goal
use Rattle.slot_ring.proofs.slot.Slot.has_value.Goals.{then-is, else-is}

pub returns-then-self-number : goal.returns-then-self-number
returns-then-self-number g c =
    elim c.if-is.branch [
      | then-is w ↦
          let same = eqb-true _ _ (sym w.value-is ∙ c.if-self-number.true) in
          matched Done (λ v. AcceptsSend (held_of v) c.args.plan.now c.args.number) _ _ c.args.plan.now c.args.number _
          c.self.view_is
          (λ right. record { same_plan = w.if-is.ensures; same_number = same; done = right }) c.is_done.ensures
      | else-is w ↦ absurd (false≢true (sym w.if-is.false ∙ sym w.value-is ∙ c.if-self-number.true))
    ]

pub returns-else-self-number : goal.returns-else-self-number
returns-else-self-number g c =
    let accepts = AcceptsSend (held_of c.args.self.now) c.args.plan.now c.args.number in
    elim c.if-is.branch [
      | then-is w ↦ refused Done accepts _ _ c.args.plan.now c.args.number _ c.self.view_is c.if-self-number.false
          (inr (eqb-false _ _ (sym w.value-is ∙ c.if-self-number.false)))
      | else-is w ↦ refused Done accepts _ _ c.args.plan.now c.args.number _ c.self.view_is c.if-self-number.false
          (inl w.if-is.ensures)
    ]
