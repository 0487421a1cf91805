use Rattle.corr_tools.proofs.DecodeLemmas.{DecodeLoop}
use Rattle.corr_tools.proofs.decoding.decode.Given as goal

abbrev pub invariant-loop-count : goal.invariant-loop-count
invariant-loop-count g l =
    let S = g.S.PacketSource in
    let P = g.P.TextSink in
    DecodeLoop S.begun S.at S.gives S.belongs S.given S.faults P.written P.faults l.fn.reader l.reader l.fn.source
    l.source l.fn.print l.print l.count l.printed
