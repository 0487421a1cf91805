use Rattle.corr_tools.proofs.PacketLemmas.{IsPrinting}
use Rattle.corr_tools.proofs.lines.print_pointers.Given as goal

abbrev pub invariant-loop-pointer : goal.invariant-loop-pointer
invariant-loop-pointer g l =
    let P = g.P.TextSink in
    IsPrinting l.packet.pointers l.pointer-iterator (P.written l.fn.print) (P.written l.print) (P.faults l.fn.print)
    (P.faults l.print)
