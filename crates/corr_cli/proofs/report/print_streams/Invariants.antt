use Rattle.corr_cli.proofs.PrintLemmas.{PrintedSo}
use Rattle.corr_cli.proofs.report.print_streams.Given as goal

abbrev pub invariant-loop-antenna : goal.invariant-loop-antenna
invariant-loop-antenna g l =
    let P = g.P.TextSink in
    PrintedSo (P.written l.initial.print) (P.written l.print) (P.faults l.initial.print) (P.faults l.print)
    l.reports l.antenna
