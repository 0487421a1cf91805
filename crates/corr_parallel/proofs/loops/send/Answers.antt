use Rattle.slot_ring.specs.Means.{Means}
use Rattle.corr_parallel.proofs.SentLemmas.{sends_none, sends_on}
use Rattle.corr_parallel.proofs.loops.send.Goals as goal

pub loop-init : goal.loop-init
loop-init g c =
    let O = g.O.Observation in
    let K = g.K.PacketSink in
    let m : Means = record {
      names = O.names;
      plan = O.plan;
      list = O.list;
      shows = g.B.Backend.shows;
      fixed = g.B.Backend.fixed;
    } in
    sends_none m (g.E.Emit.strings c.args.dispatch.now.plan) K.begun K.at K.sent K.faults c.args.dispatch.now
    c.args.sink.now c.requires.begun c.requires.new.0 c.requires.new.1

pub loop-preserved : goal.loop-preserved
loop-preserved g c =
    let O = g.O.Observation in
    let K = g.K.PacketSink in
    let m : Means = record {
      names = O.names;
      plan = O.plan;
      list = O.list;
      shows = g.B.Backend.shows;
      fixed = g.B.Backend.fixed;
    } in
    let turn = c.turn-turn in
    sends_on m g.E.Emit.strings K.begun K.at K.sent K.faults c.args.dispatch.now c.loop.dispatch turn.new.self
    c.args.sink.now c.loop.sink turn.new.sink turn.result c.loop.invariant turn.ensures.turn turn.ensures.begun
    turn.ensures.at
