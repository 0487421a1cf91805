use Rattle.std.proofs.Common.{refl}
use Rattle.slot_ring.proofs.ChangeLemmas.{at_slot, kept_ring, send_plan}
use Rattle.slot_ring.proofs.ring.Ring.send.Goals as goal

pub invariant_of-self : goal.invariant_of-self
invariant_of-self g c =
    kept_ring _ c.args.number c.from.result _ _ _ c.self.invariant c.from.ensures c.index_mut-slot.ensures.value
    (send_plan _ _ _ _ _ _ c.send.ensures)

pub returns : goal.returns
returns g c =
    at_slot _ _ _ c.args.number c.args.number c.from.result _ _ _ c.self.view_is c.self.invariant refl c.from.ensures
    c.index_mut-slot.ensures.value c.send.ensures
