use Rattle.std.proofs.Common.{◌≡◌}
use Rattle.slot_ring.specs.declared.work.Stage.TheVariants.{Free}
use Rattle.corr_core.specs.Parts.{work_in}
use Rattle.corr_core.specs.Sends.{value_with}
use Rattle.corr_core.proofs.WorkLemmas.{take_happens}
use Rattle.std.proofs.Common.{ap}
use Rattle.corr_core.specs.Parts.{PartsView}
use Rattle.corr_core.proofs.EndLemmas.{same_ends}
use Rattle.corr_core.proofs.parts.Parts.take.Goals as goal

pub returns-clause-happens : goal.returns-clause-happens
returns-clause-happens g c = λ state h.
    let p = c.args.self.now in
    let w = c.args.work in
    let free : (work_in p w).stage ≡ Free = c.if-not-is_free.ensures in
    take_happens (value_with (g.B.Backend.value c.args.backend.now) p.plan) p c.take_slot.new.self state w c.args.slot
    c.take_slot.result h c.requires.in_range c.requires.slot free c.take_slot.ensures

pub returns-clause-ends : goal.returns-clause-ends
returns-clause-ends g c =
    same_ends c.args.self.now c.take_slot.new.self (ap (λ (k : PartsView). k.feeds) c.take_slot.ensures.parts)
    (ap (λ (k : PartsView). k.plan) c.take_slot.ensures.parts)
