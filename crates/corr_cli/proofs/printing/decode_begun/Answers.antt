use Rattle.std.proofs.Common.{ap, ◌∙◌}
use Rattle.corr_cli.specs.Tools.{read_code}
use Rattle.corr_cli.proofs.printing.decode_begun.Goals as goal

pub returns-clause-went : goal.returns-clause-went
returns-clause-went g c = record {
  how = c.decode-how.result;
  begun = c.decode-how.ensures.source_begun;
  prints = c.decode-how.ensures.prints;
  source_cause = c.decode-how.ensures.source_cause;
  print_cause = c.decode-how.ensures.print_cause;
  code_is = c.read_code.ensures ∙ ap (λ own. read_code own c.decode-how.result.print) c.decode_code.ensures;
}
