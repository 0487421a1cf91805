use Rattle.slot_ring.proofs.ChangeLemmas.{new_work, work_is_free}
use Rattle.slot_ring.proofs.work.Work.new.Goals as goal

pub invariant_of-result : goal.invariant_of-result
invariant_of-result g c =
    new_work _ c.args.plan.now _ _ _ c.requires.fits c.in_ok-spare_columns.ensures c.in_ok-make.ensures

pub returns : goal.returns
returns g c = work_is_free c.args.plan.now _ _ _ c.in_ok-spare_columns.ensures c.in_ok-make.ensures
