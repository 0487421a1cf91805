use Rattle.corr_tools.proofs.RelayLemmas.{RelayLoop}
use Rattle.corr_tools.proofs.relaying.relay.Given as goal

abbrev pub invariant-loop-count : goal.invariant-loop-count
invariant-loop-count g l =
    let S = g.S.PacketSource in
    let K = g.K.PacketSink in
    RelayLoop S.begun S.at S.gives S.belongs S.given S.faults K.begun K.at K.sent K.faults l.fn.source l.source
    l.fn.sink l.sink l.count
