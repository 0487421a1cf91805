use Rattle.std.proofs.Common.{refl}
use Rattle.corr_words.specs.declared.command.Command.TheVariants.{Simulate}
use Rattle.corr_cli.proofs.SimulatedLemmas.{comes_of_answer, comes_of_asked}
use Rattle.corr_cli.proofs.simulated.simulate.Goals as goal

pub returns-in-Ok-clause-comes : goal.returns-in-Ok-clause-comes
returns-in-Ok-clause-comes g c =
    comes_of_asked _ (Simulate c.args.config.now c.args.seed c.args.antenna c.args.out.now) _ _ c.in-Ok.asked
    c.in-Ok.ensures.says c.in-Ok.ensures.begun c.in-Ok.ensures.cause c.send_antenna.result
    (c.send_antenna.ensures.runs c.args.config.now c.in-Ok.asked.settings refl)

pub returns-in-Err-clause-comes : goal.returns-in-Err-clause-comes
returns-in-Err-clause-comes g c =
    comes_of_answer _ (Simulate c.args.config.now c.args.seed c.args.antenna c.args.out.now) _ _ c.in-Err.answer
    c.in-Err.ensures.answers c.in-Err.ensures.says c.in-Err.ensures.cause
    (record { unused = record { unbegun = c.requires.sink; quiet = refl }; calm = refl })
