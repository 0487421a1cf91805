use Rattle.corr_cli.proofs.PrintLemmas.{front_of_more, written_then}
use Rattle.corr_report.specs.Texts.{status_text}
use Rattle.corr_report.specs.declared.status.StatusLine.TheVariants as status
use Rattle.corr_cli.proofs.tools.print_cut.Goals as goal

pub returns-in-Err-clause-written : goal.returns-in-Err-clause-written
returns-in-Err-clause-written g c =
    front_of_more _ _ (status_text (status.Relayed c.args.packets)) (status_text (status.SourceFault 0))
    c.in-Err.ensures.written

pub returns-clause-written : goal.returns-clause-written
returns-clause-written g c =
    written_then _ _ _ c.print_status-2.result (status_text (status.Relayed c.args.packets))
    (status_text (status.SourceFault 0)) c.in_default.ensures.written c.print_status-2.ensures.written
