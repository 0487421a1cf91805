use Rattle.std.proofs.Common.{refl}
use Rattle.slot_ring.proofs.ChangeLemmas.{at_slot, kept_ring, take_plan}
use Rattle.slot_ring.proofs.ring.Ring.take.Goals as goal

pub invariant_of-self : goal.invariant_of-self
invariant_of-self g c =
    kept_ring _ c.args.slot c.self.inside.plan.slots _ _ _ c.self.invariant refl c.index_mut-slot.ensures.value
    (take_plan _ _ _ _ _ c.take.ensures)

pub returns : goal.returns
returns g c =
    at_slot _ _ _ c.args.slot c.args.slot c.self.inside.plan.slots _ _ _ c.self.view_is c.self.invariant refl refl
    c.index_mut-slot.ensures.value c.take.ensures
