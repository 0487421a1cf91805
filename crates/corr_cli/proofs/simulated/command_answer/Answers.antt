use Rattle.corr_cli.proofs.SimulatedLemmas.{comes_same}
use Rattle.corr_cli.proofs.simulated.command_answer.Goals as goal

pub returns-in-Trial-clause-comes : goal.returns-in-Trial-clause-comes
returns-in-Trial-clause-comes g c = comes_same _ _ _ _ _ _ c.in-Trial.is (c.trial.ensures.comes c.in-Trial.field-2)
