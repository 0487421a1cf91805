use Rattle.std.proofs.Common.{sym, subst}
use Rattle.corr_machine.specs.Machines.{opening}
use Rattle.corr_core.specs.Standing.{StandFor}
use Rattle.corr_core.specs.Sends.{value_with}
use Rattle.corr_core.proofs.whole.CoreOf.new.Goals as goal

pub returns-clause-stands : goal.returns-clause-stands
returns-clause-stands g c =
    let parts = c.new-parts.result in
    let value = value_with (g.B.Backend.value c.args.prepared.backend) parts.plan in
    subst (λ p. StandFor value parts (opening p)) (sym c.new-parts.ensures.plan) (c.new-parts.ensures.stands value)
