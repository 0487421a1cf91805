use Rattle.std.proofs.Common.{map, string_bytes, subst}
use Rattle.corr_cli.specs.Placing.{AreAtOwn}
use Rattle.corr_cli.proofs.ComesLemmas.{comes_of_run}
use Rattle.corr_cli.proofs.SaidLemmas.{same_run}
use Rattle.corr_cli.proofs.in_threads.answer_in_threads.Goals as goal

pub returns-in-Ok-clause-comes : goal.returns-in-Ok-clause-comes
returns-in-Ok-clause-comes g c =
    comes_of_run (map string_bytes c.args.words.now) _ _ _ c.in-Ok.asked c.run_asked.result c.in-Ok.ensures.says
    c.in-Ok.ensures.cause c.run_asked.ensures.runs

pub run_asked-requires-clause-observed : goal.run_asked-requires-clause-observed
run_asked-requires-clause-observed g c =
    λ lifetimes outlives watched. c.requires.observed watched c.in-Ok.asked.settings c.in-Ok.ensures.says.said

pub returns-in-Ok-clause-at_sources : goal.returns-in-Ok-clause-at_sources
returns-in-Ok-clause-at_sources g c =
    λ run has.
    let S = g.S.PacketSource in
    subst (λ r. AreAtOwn (λ s. S.begun s.source) (λ s. S.at s.source) r.inputs c.run_asked.new.sources)
    (same_run (map string_bytes c.args.words.now) _ c.in-Ok.asked.settings run c.in-Ok.ensures.says.said has)
    c.run_asked.ensures.at_sources
