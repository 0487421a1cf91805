use Rattle.std.proofs.Common.{refl}
use Rattle.corr_words.specs.declared.command.Command.TheVariants.{Trial}
use Rattle.corr_cli.proofs.SimulatedLemmas.{comes_of_answer, comes_of_asked}
use Rattle.corr_cli.proofs.simulated.trial.Goals as goal

pub returns-in-Ok-clause-comes : goal.returns-in-Ok-clause-comes
returns-in-Ok-clause-comes g c =
    λ serial. comes_of_asked _ (Trial c.args.config.now c.args.seed serial) _ _ c.in-Ok.asked c.in-Ok.ensures.says
    c.in-Ok.ensures.begun c.in-Ok.ensures.cause c.correlate_simulated.result
    (c.correlate_simulated.ensures.runs c.args.config.now serial)

pub returns-in-Err-clause-comes : goal.returns-in-Err-clause-comes
returns-in-Err-clause-comes g c =
    λ serial. comes_of_answer _ (Trial c.args.config.now c.args.seed serial) _ _ c.in-Err.answer
    c.in-Err.ensures.answers c.in-Err.ensures.says c.in-Err.ensures.cause
    (record { unused = record { unbegun = c.requires.sink; quiet = refl }; calm = refl })
