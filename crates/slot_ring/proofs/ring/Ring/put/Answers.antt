use Rattle.std.proofs.Common.{◌∙◌, ap}
use Rattle.slot_ring.proofs.ChangeLemmas.{at_slot, kept_ring, put_plan}
use Rattle.slot_ring.proofs.ring.Ring.put.Goals as goal

pub invariant_of-self : goal.invariant_of-self
invariant_of-self g c =
    kept_ring _ c.number.result c.from.result _ _ _ c.self.invariant c.from.ensures c.index_mut-slot.ensures.value
    (put_plan _ _ _ _ _ c.put.ensures)

pub returns : goal.returns
returns g c =
    at_slot _ _ _ c.args.hand.now.column.number c.number.result c.from.result _ _ _ c.self.view_is c.self.invariant
    (c.number.ensures ∙ ap (λ k. k.number) c.column.ensures.value) c.from.ensures
    c.index_mut-slot.ensures.value c.put.ensures
