use Rattle.std.proofs.Common.{map, refl}
use Rattle.std.specs.Prelude.{string_bytes}
use Rattle.corr_words.specs.Forms.{form}
use Rattle.corr_cli.proofs.FormLemmas.{is_of_simulated}
use Rattle.corr_cli.proofs.SaidLemmas.{none_of_memory}
use Rattle.corr_cli.proofs.SimulatedLemmas.{words_out, words_some}
use Rattle.corr_cli.proofs.simulated.words_answer.Goals as goal

pub command_answer-requires-clause-simulated : goal.command_answer-requires-clause-simulated
command_answer-requires-clause-simulated g c =
    is_of_simulated (map string_bytes c.args.words.now) c.in-Ok.command c.requires.simulated c.in-Ok.ensures.form

pub returns-in-Ok-clause-comes : goal.returns-in-Ok-clause-comes
returns-in-Ok-clause-comes g c =
    words_some _ (form (map string_bytes c.args.words.now)) _ _ c.in-Ok.command c.command_answer.result
    c.in-Ok.ensures.form c.command_answer.ensures.comes c.command_answer.ensures.at

pub returns-in-Err-NoMemory-clause-comes : goal.returns-in-Err-NoMemory-clause-comes
returns-in-Err-NoMemory-clause-comes g c =
    words_out _ (form (map string_bytes c.args.words.now)) _ _
    (none_of_memory _ _ c.in-Err-NoMemory.ensures.form c.in-Err-NoMemory.field-0-is) c.requires.settings
    (record { idle = record { unused = record { unbegun = c.requires.sink; quiet = refl }; calm = refl }; calm = refl })
