use Rattle.std.proofs.Common.{◌≡◌, ◌≢◌, ◌∙◌, sym, refl, subst, inl, inr, MatchBool}
use Rattle.std.proofs.lemmas.Bool.{false≢true}
use Rattle.slot_ring.specs.declared.held.Kind.TheVariants.{Filling}
use Rattle.slot_ring.specs.Slots.{held_of}
use Rattle.slot_ring.specs.Answers.{AcceptsTake}
use Rattle.slot_ring.proofs.ChangeLemmas.{take_matched, take_refused}
use Rattle.slot_ring.proofs.slot.Slot.can_be_taken.Goals as goal
use Rattle.slot_ring.proofs.slot.Slot.can_be_taken.Goals.{then-is, else-is}

pub returns-then-is_filling : goal.returns-then-is_filling
returns-then-is_filling g c =
    let kind = c.self.inside.kind in
    elim c.if-is.branch [
      | then-is w ↦
          let filling = subst (λ b. MatchBool b (kind ≡ Filling) (kind ≢ Filling))
          (sym w.value-is ∙ c.if-is_filling.true) w.is_filling.ensures in
          take_matched _ _ c.held-held.result c.args.plan.now _ refl c.self.view_is c.held-held.ensures
          c.self.invariant.held w.if-is.ensures filling
      | else-is w ↦ absurd (false≢true (sym w.if-is.false ∙ sym w.value-is ∙ c.if-is_filling.true))
    ]

pub returns-else-is_filling : goal.returns-else-is_filling
returns-else-is_filling g c =
    let kind = c.self.inside.kind in
    let accepts = AcceptsTake (held_of c.args.self.now) c.args.plan.now in
    elim c.if-is.branch [
      | then-is w ↦
          let other = subst (λ b. MatchBool b (kind ≡ Filling) (kind ≢ Filling))
          (sym w.value-is ∙ c.if-is_filling.false) w.is_filling.ensures in
          take_refused accepts _ _ c.args.plan.now _ c.self.view_is c.if-is_filling.false (inr other)
      | else-is w ↦ take_refused accepts _ _ c.args.plan.now _ c.self.view_is c.if-is_filling.false
          (inl w.if-is.ensures)
    ]
