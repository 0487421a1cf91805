use Rattle.std.proofs.Common.{◌≡◌}
use Rattle.slot_ring.specs.declared.work.Stage.TheVariants.{Computed}
use Rattle.corr_core.specs.Parts.{work_in}
use Rattle.corr_core.proofs.WorkLemmas.{store_happens}
use Rattle.std.proofs.Common.{ap}
use Rattle.corr_core.specs.Parts.{PartsView}
use Rattle.corr_core.proofs.EndLemmas.{same_ends}
use Rattle.corr_core.proofs.parts.Parts.store.Goals as goal

pub returns-clause-happens : goal.returns-clause-happens
returns-clause-happens g c = λ value state h.
    let p = c.args.self.now in
    let w = c.args.work in
    let computed : (work_in p w).stage ≡ Computed = c.if-is_free.ensures in
    store_happens value p c.store_result.new.self state w h c.requires.in_range computed c.store_result.ensures

pub returns-clause-ends : goal.returns-clause-ends
returns-clause-ends g c =
    same_ends c.args.self.now c.store_result.new.self (ap (λ (k : PartsView). k.feeds) c.store_result.ensures.parts)
    (ap (λ (k : PartsView). k.plan) c.store_result.ensures.parts)
