use Rattle.std.proofs.Common.{◌<◌, ◌≤◌, length, arith}
use Rattle.corr_cli.specs.Texts.{later_text}
use Rattle.corr_cli.proofs.PrintLemmas.{printed_all, printed_front, printed_more}
use Rattle.corr_cli.proofs.report.print_streams.Goals as goal

pub returns-in-Err-clause-written : goal.returns-in-Err-clause-written
returns-in-Err-clause-written g c =
    let lt : c.loop-antenna.antenna < length c.args.reports.now = omega arith in
    printed_front _ _ _ _ _ c.args.reports.now c.loop-antenna.antenna _ (later_text c.args.fault)
    c.loop-antenna.invariant lt c.in-Err.ensures.written

pub loop-antenna-preserved : goal.loop-antenna-preserved
loop-antenna-preserved g c =
    let lt : c.loop-antenna.antenna < length c.args.reports.now = omega arith in
    printed_more _ _ _ _ _ _ c.args.reports.now c.loop-antenna.antenna _ c.loop-antenna.invariant lt
    c.in_default.ensures.written c.in_default.ensures.cause.kept

pub returns-clause-written : goal.returns-clause-written
returns-clause-written g c =
    let past : length c.args.reports.now ≤ c.loop-antenna.antenna = omega arith in
    printed_all _ _ _ _ _ c.args.reports.now c.loop-antenna.antenna c.print_fault.result (later_text c.args.fault)
    c.loop-antenna.invariant past c.print_fault.ensures.written
