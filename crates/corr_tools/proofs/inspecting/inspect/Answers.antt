use Rattle.std.proofs.Common.{refl, arith}
use Rattle.corr_tools.proofs.TakenLemmas.{at_end, at_failure}
use Rattle.corr_tools.proofs.RelayLemmas.{keeps_on}
use Rattle.corr_tools.proofs.InspectLemmas.{inspected_more, inspects_all, inspects_limit}
use Rattle.corr_tools.proofs.inspecting.inspect.Goals as goal

pub returns-in-End-clause-prints : goal.returns-in-End-clause-prints
returns-in-End-clause-prints g c =
    let inv = c.loop-count.invariant in
    inspects_all _ _ _ _ _ _ _ _ _ _ _ _ _ c.end.result inv.inspecting inv.source_keeps.same_gives
    (at_end _ _ _ _ c.in-End.ensures.given) (omega arith) c.end.ensures.source c.end.ensures.written

pub returns-in-Failed-clause-prints : goal.returns-in-Failed-clause-prints
returns-in-Failed-clause-prints g c =
    let inv = c.loop-count.invariant in
    inspects_all _ _ _ _ _ _ _ _ _ _ _ _ _ c.end-in-Failed.result inv.inspecting inv.source_keeps.same_gives
    (at_failure _ _ _ _ c.in-Failed.ensures.given) (omega arith) c.end-in-Failed.ensures.source
    c.end-in-Failed.ensures.written

pub loop-count-preserved : goal.loop-count-preserved
loop-count-preserved g c =
    let S = g.S.PacketSource in
    let inv = c.loop-count.invariant in
    let source = c.in-Packet.ensures in
    record {
      source_keeps = keeps_on S.begun S.at S.gives S.belongs S.faults _ _ _ inv.source_keeps source.begun source.at
          source.gives source.belongs source.cause;
      inspecting = inspected_more _ _ _ _ _ _ _ _ _ _ _ _ _ _ _ _ _ inv.inspecting inv.source_keeps.same_gives
          source.given refl c.print_next-printed.ensures.written c.print_next-printed.ensures.cause;
    }

pub returns-clause-prints : goal.returns-clause-prints
returns-clause-prints g c =
    let inv = c.loop-count.invariant in
    inspects_limit _ _ _ c.loop-count.count _ _ _ _ _ _ _ c.end-2.result inv.inspecting (omega arith)
    c.end-2.ensures.source c.end-2.ensures.written
