use Rattle.std.proofs.Common.{◌∙◌, map, string_bytes, sym}
use Rattle.corr_words.proofs.PlainLemmas.{none_of_others}
use Rattle.corr_words.proofs.reading.numbers_after.Goals as goal

pub returns-else-eq : goal.returns-else-eq
returns-else-eq c = sym
    (none_of_others c.args.command.now (map string_bytes c.args.rest.now) (sym c.eq.ensures ∙ c.if-eq.false))
