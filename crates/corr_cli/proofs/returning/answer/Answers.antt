use Rattle.std.proofs.Common.{map, string_bytes}
use Rattle.corr_cli.proofs.ComesLemmas.{comes_of_run}
use Rattle.corr_cli.proofs.returning.answer.Goals as goal

pub returns-in-Ok-clause-comes : goal.returns-in-Ok-clause-comes
returns-in-Ok-clause-comes g c =
    comes_of_run (map string_bytes c.args.words.now) _ _ _ c.in-Ok.asked c.run_asked.result c.in-Ok.ensures.says
    c.in-Ok.ensures.cause c.run_asked.ensures.runs
