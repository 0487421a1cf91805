use Rattle.std.proofs.Common.{map, string_bytes, ap, ◌∙◌}
use Rattle.std.specs.Prelude.{Some}
use Rattle.corr_cli.proofs.SaidLemmas.{may_go, none_of_memory}
use Rattle.corr_cli.proofs.SaysLemmas.{correlate_says, plain_cause, plain_says}
use Rattle.corr_cli.proofs.said.said_by.Goals as goal

pub returns-in-Ok-Plain-clause-says : goal.returns-in-Ok-Plain-clause-says
returns-in-Ok-Plain-clause-says g c =
    plain_says (map string_bytes c.args.words.now) _ _ c.said_plain.result
    (c.in-Ok-Plain.ensures.form ∙ ap Some c.in-Ok-Plain.field-0-is) c.said_plain.ensures.says
    c.said_plain.ensures.answers

pub returns-in-Ok-Plain-clause-cause : goal.returns-in-Ok-Plain-clause-cause
returns-in-Ok-Plain-clause-cause g c = plain_cause _ c.said_plain.result c.said_plain.ensures.answers

pub returns-in-Ok-Correlate-clause-says : goal.returns-in-Ok-Correlate-clause-says
returns-in-Ok-Correlate-clause-says g c =
    correlate_says (map string_bytes c.args.words.now) _ _ _ c.said_text.result
    (c.in-Ok-Correlate.ensures.form ∙ ap Some c.in-Ok-Correlate.field-0-is) c.said_text.ensures.says
    c.said_text.ensures.telling c.said_text.ensures.answers

pub returns-clause-says : goal.returns-clause-says
returns-clause-says g c =
    may_go (map string_bytes c.args.words.now) c.requires.named
    (none_of_memory _ _ c.in-Err-NoMemory.ensures.form c.in-Err-NoMemory.field-0-is) c.in_default.ensures.value
