use Rattle.std.proofs.Common.{refl, sym, arith}
use Rattle.corr_tools.proofs.RelayLemmas.{calm_by, keeps_on, relayed_front, relayed_more, sink_on}
use Rattle.corr_tools.proofs.relaying.relay.Goals as goal

pub returns-then-is_err-clause-relays : goal.returns-then-is_err-clause-relays
returns-then-is_err-clause-relays g c =
    let inv = c.loop-count.invariant in
    relayed_front _ _ _ _ _ c.loop-count.count c.args.limit _ _ _ _ _ _ c.send.result inv.relaying
    inv.source_keeps.same_gives c.in-Packet.ensures.given refl (sym c.if-is_err.ensures.value)
    c.send.ensures.sent (omega arith)

pub loop-count-preserved : goal.loop-count-preserved
loop-count-preserved g c =
    let S = g.S.PacketSource in
    let K = g.K.PacketSink in
    let inv = c.loop-count.invariant in
    let source = c.in-Packet.ensures in
    let works = sym c.if-is_err.ensures.value in
    record {
      source_keeps = keeps_on S.begun S.at S.gives S.belongs S.faults _ _ _ inv.source_keeps source.begun source.at
          source.gives source.belongs source.cause;
      sink_keeps = sink_on K.begun K.at K.faults _ _ _ inv.sink_keeps c.send.ensures.begun c.send.ensures.at
          (calm_by _ _ c.send.result works c.send.ensures.cause);
      relaying = relayed_more _ _ _ _ _ _ _ _ _ _ _ _ c.send.result inv.relaying inv.source_keeps.same_gives
          source.given refl works c.send.ensures.sent;
    }
