use Rattle.corr_core.specs.Sends.{value_with}
use Rattle.corr_core.proofs.ChangeLemmas.{take_refused}
use Rattle.corr_core.proofs.works.take_and_compute.Goals as goal

pub returns-in-Not : goal.returns-in-Not
returns-in-Not g c =
    take_refused (value_with (g.B.Backend.value c.args.backend.now) c.args.work.now.plan) _ _ _ _ _ _ c.in-Not.ensures
