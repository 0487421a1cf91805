use Rattle.slot_ring.proofs.ChangeLemmas.{new_outgoing, outgoing_is_none}
use Rattle.slot_ring.proofs.outgoing.Outgoing.new.Goals as goal

pub invariant_of-result : goal.invariant_of-result
invariant_of-result g c = new_outgoing _ c.args.plan.now _ _ c.requires.fits c.in_ok-make.ensures

pub returns : goal.returns
returns g c = outgoing_is_none c.args.plan.now _ _ c.in_ok-make.ensures
