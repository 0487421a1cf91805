use Rattle.std.proofs.Common.{map, refl}
use Rattle.std.specs.Prelude.{string_bytes}
use Rattle.corr_words.specs.Forms.{form}
use Rattle.corr_cli.specs.declared.answer.Answer.TheVariants as answers
use Rattle.corr_cli.proofs.SaidLemmas.{none_of_memory}
use Rattle.corr_cli.proofs.ToolLemmas.{is_of_tool, ran_out, told_text}
use Rattle.corr_cli.proofs.tools.run_tool.Goals as goal

pub run_command-requires-clause-tool : goal.run_command-requires-clause-tool
run_command-requires-clause-tool g c =
    is_of_tool (map string_bytes c.args.words.now) c.in-Ok.command c.requires.tool c.in-Ok.ensures.form

pub returns-in-Err-NoMemory : goal.returns-in-Err-NoMemory
returns-in-Err-NoMemory g c = record {
  tool = ran_out (form (map string_bytes c.args.words.now)) _ _ _ _ _ _
      (none_of_memory _ _ c.in-Err-NoMemory.ensures.form c.in-Err-NoMemory.field-0-is)
      (record {
        out = record { same = refl; told = told_text _ _ _ _ answers.NoMemory _ c.tell-in-Err-NoMemory.ensures };
        unused = record { unbegun = c.requires.sink; quiet = refl };
        sink_calm = refl;
      });
}
