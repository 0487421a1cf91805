use Rattle.std.proofs.Common.{◌≡◌, ◌∙◌, ap, sym, inl, inr}
use Rattle.std.proofs.lemmas.Bool.{eqb-true, eqb-false, false≢true}
use Rattle.corr_model.specs.declared.plan.Plan.{Plan}
use Rattle.slot_ring.specs.declared.held.Kind.TheVariants.{Filling}
use Rattle.slot_ring.specs.Slots.{held_of}
use Rattle.slot_ring.specs.Answers.{AcceptsPut}
use Rattle.slot_ring.proofs.ChangeLemmas.{matched, refused}
use Rattle.slot_ring.proofs.slot.Slot.accepts.Goals as goal
use Rattle.slot_ring.proofs.slot.Slot.accepts.Goals.{then-is, else-is}

pub returns-then-self-number : goal.returns-then-self-number
returns-then-self-number g c =
    let cells = c.args.hand.now.column in
    let plan : c.plan.result.now ≡ cells.plan =
    c.plan.ensures.value ∙ ap {B = Plan} (λ k. k.plan) c.column-column.ensures.value in
    elim c.if-is.branch [
      | then-is w ↦
          let number : w.number.result ≡ cells.number =
          w.number.ensures ∙ ap (λ k. k.number) c.column-column.ensures.value in
          let same = eqb-true _ _ (sym w.value-is ∙ c.if-self-number.true) ∙ number in
          matched Filling (λ v. AcceptsPut (held_of v) cells) _ _ cells.plan cells.number _ c.self.view_is
          (λ filling. record { same_plan = w.if-is.ensures ∙ plan; same_number = same; filling = filling })
          c.is_filling.ensures
      | else-is w ↦ absurd (false≢true (sym w.if-is.false ∙ sym w.value-is ∙ c.if-self-number.true))
    ]

pub returns-else-self-number : goal.returns-else-self-number
returns-else-self-number g c =
    let cells = c.args.hand.now.column in
    let plan : c.plan.result.now ≡ cells.plan =
    c.plan.ensures.value ∙ ap {B = Plan} (λ k. k.plan) c.column-column.ensures.value in
    let accepts = AcceptsPut (held_of c.args.self.now) cells in
    elim c.if-is.branch [
      | then-is w ↦
          let number : w.number.result ≡ cells.number =
          w.number.ensures ∙ ap (λ k. k.number) c.column-column.ensures.value in
          refused Filling accepts _ _ cells.plan cells.number _ c.self.view_is c.if-self-number.false
          (inr (λ same. eqb-false _ _ (sym w.value-is ∙ c.if-self-number.false) (same ∙ sym number)))
      | else-is w ↦ refused Filling accepts _ _ cells.plan cells.number _ c.self.view_is c.if-self-number.false
          (inl (λ same. w.if-is.ensures (same ∙ sym plan)))
    ]
