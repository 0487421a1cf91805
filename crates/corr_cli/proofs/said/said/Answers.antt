use Rattle.std.proofs.Common.{map, string_bytes, sym, ◌∙◌}
use Rattle.corr_cli.proofs.SaidLemmas.{other_words}
use Rattle.corr_cli.proofs.said.said.Goals as goal

pub returns-else-is_over_sources-clause-says : goal.returns-else-is_over_sources-clause-says
returns-else-is_over_sources-clause-says g c =
    other_words (map string_bytes c.args.words.now) (sym c.is_over_sources.ensures ∙ c.if-is_over_sources.false)
