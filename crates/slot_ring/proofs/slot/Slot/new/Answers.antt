use Rattle.slot_ring.proofs.ChangeLemmas.{new_slot, slot_is_empty}
use Rattle.slot_ring.proofs.slot.Slot.new.Goals as goal

pub invariant_of-result : goal.invariant_of-result
invariant_of-result g c =
    new_slot _ c.args.plan.now _ _ _ _ c.requires.fits c.in_ok-spare_columns.ensures c.in_ok-make.ensures

pub returns : goal.returns
returns g c = slot_is_empty c.args.plan.now _ _ _ _ c.in_ok-spare_columns.ensures c.in_ok-make.ensures
