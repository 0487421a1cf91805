use Rattle.corr_cli.proofs.PrintLemmas.{front_of_more, written_then}
use Rattle.corr_report.specs.Texts.{status_text}
use Rattle.corr_report.specs.declared.status.StatusLine.TheVariants as status
use Rattle.corr_cli.specs.Texts.{later_text}
use Rattle.corr_cli.proofs.report.print_sent.Goals as goal

pub returns-in-Err-clause-written : goal.returns-in-Err-clause-written
returns-in-Err-clause-written g c =
    front_of_more _ _ (status_text (status.Sent c.args.packets)) (later_text c.args.fault) c.in-Err.ensures.written

pub returns-clause-written : goal.returns-clause-written
returns-clause-written g c =
    written_then _ _ _ c.print_fault.result (status_text (status.Sent c.args.packets)) (later_text c.args.fault)
    c.in_default.ensures.written c.print_fault.ensures.written
