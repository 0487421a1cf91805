use Rattle.corr_cli.proofs.SimulatedLemmas.{comes_same}
use Rattle.corr_cli.proofs.trial.run_trial.Goals as goal

pub trial-requires-clause-observed : goal.trial-requires-clause-observed
trial-requires-clause-observed g c =
    λ lifetimes outlives named run says. c.requires.observed named _ _ _ run c.in-Trial.is says

pub returns-clause-comes : goal.returns-clause-comes
returns-clause-comes g c = comes_same _ _ _ _ _ _ c.in-Trial.is (c.trial.ensures.comes c.in-Trial.field-2)
