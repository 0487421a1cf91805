use Rattle.std.proofs.Common.{◌++◌}
use Rattle.corr_report.specs.Summaries.{summary_text}
use Rattle.corr_cli.specs.Texts.{later_text, streams_text}
use Rattle.corr_cli.proofs.PrintLemmas.{front_of_more, line_of_front, line_of_all, written_then}
use Rattle.corr_cli.proofs.report.print_summary.Goals as goal

pub returns-in-Err-clause-written : goal.returns-in-Err-clause-written
returns-in-Err-clause-written g c =
    front_of_more _ _ (summary_text c.args.sent.now) (streams_text 0 c.args.reports.now ++ later_text c.args.fault)
    (line_of_front _ _ _ _ _ _ _ c.summary_line-len.ensures.line c.front.ensures c.in-Err.ensures.written)

pub returns-clause-written : goal.returns-clause-written
returns-clause-written g c =
    written_then _ _ _ c.print_streams.result (summary_text c.args.sent.now)
    (streams_text 0 c.args.reports.now ++ later_text c.args.fault)
    (line_of_all _ _ _ _ _ _ _ c.summary_line-len.ensures.line c.front.ensures c.in_default.ensures.written)
    c.print_streams.ensures.written
