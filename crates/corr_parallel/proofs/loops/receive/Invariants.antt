use Rattle.corr_parallel.proofs.ReceiveLemmas.{Receiving}
use Rattle.corr_parallel.proofs.loops.receive.Given as goal

abbrev pub invariant-loop : goal.invariant-loop
invariant-loop g l =
    let S = g.S.PacketSource in
    Receiving g.O.Observation.names g.O.Observation.plan S.begun S.at S.gives S.belongs S.given S.faults l.fn.receiver
    l.receiver l.fn.source l.source
