use Rattle.std.proofs.Common.{rules, tests, arith}
use Rattle.std.proofs.lemmas.Grind.{common_steps}
use Rattle.corr_model.specs.Packets.{is_own}
use Rattle.spead_wire.proofs.FindLemmas.{first_passing}
use Rattle.spead_wire.proofs.pointers.PointersIterator.next.Goals as goal

pub returns-clause-steps : goal.returns-clause-steps
returns-clause-steps c =
    let ran = c.find.ensures.ran in
    rw (← c.self.view_is)
    (first_passing _ is_own (λ f x b q k. search (rules, tests)) ran.0 c.self.inside.words ran.2.0 c.find.new.self
    c.find.result _ ran.1 ran.2.1 ran.2.2 ran.3 ran.4)

pub returns-clause-goes : goal.returns-clause-goes
returns-clause-goes c =
    let steps = returns-clause-steps c in
    grind (arith, common_steps)
