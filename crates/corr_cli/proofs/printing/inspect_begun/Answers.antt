use Rattle.std.proofs.Common.{ap, ◌∙◌}
use Rattle.corr_cli.specs.Tools.{read_code}
use Rattle.corr_cli.proofs.printing.inspect_begun.Goals as goal

pub returns-clause-went : goal.returns-clause-went
returns-clause-went g c = record {
  how = c.inspect-how.result;
  begun = c.inspect-how.ensures.begun;
  prints = c.inspect-how.ensures.prints;
  source_cause = c.inspect-how.ensures.source_cause;
  print_cause = c.inspect-how.ensures.print_cause;
  code_is = c.read_code.ensures ∙ ap (λ own. read_code own c.inspect-how.result.print) c.inspect_code.ensures;
}
