use Rattle.corr_parallel.proofs.SentLemmas.{Sends}
use Rattle.corr_parallel.proofs.loops.send.Given as goal

abbrev pub invariant-loop : goal.invariant-loop
invariant-loop g l =
    let O = g.O.Observation in
    let K = g.K.PacketSink in
    Sends
    (record { names = O.names; plan = O.plan; list = O.list; shows = g.B.Backend.shows; fixed = g.B.Backend.fixed })
    (g.E.Emit.strings l.fn.dispatch.plan) K.begun K.at K.sent K.faults l.fn.dispatch l.dispatch l.fn.sink l.sink
