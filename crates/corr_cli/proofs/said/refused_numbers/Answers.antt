use Rattle.std.proofs.Common.{sym, ap, ◌∙◌, map, string_bytes}
use Rattle.corr_settings.specs.Plain.{plain_settings}
use Rattle.corr_cli.proofs.SaidLemmas.{accepted_numbers, no_numbers, refused_plain}
use Rattle.corr_cli.proofs.said.refused_numbers.Goals as goal

pub returns-in_default-clause-value : goal.returns-in_default-clause-value
returns-in_default-clause-value c = no_numbers (map string_bytes c.args.words.now) (sym c.in_default.ensures)

pub returns-in-Ok-clause-value : goal.returns-in-Ok-clause-value
returns-in-Ok-clause-value c =
    accepted_numbers (map string_bytes c.args.words.now) c.in-Some.said c.in-Ok.field-0 (sym c.in-Some.ensures)
    (ap plain_settings (sym c.numbers_of.ensures) ∙ sym c.in-Ok.ensures.settings)

pub returns-in-Err-clause-value : goal.returns-in-Err-clause-value
returns-in-Err-clause-value c =
    refused_plain (map string_bytes c.args.words.now) c.in-Some.said c.in-Err.refusal (sym c.in-Some.ensures)
    (ap plain_settings (sym c.numbers_of.ensures) ∙ sym c.in-Err.ensures.settings)
