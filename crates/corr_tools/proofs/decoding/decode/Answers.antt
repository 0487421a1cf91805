use Rattle.std.proofs.Common.{refl, ◌∙◌, arith}
use Rattle.corr_tools.specs.Taking.{string_limit}
use Rattle.corr_tools.proofs.TakenLemmas.{at_end, at_failure, took_all}
use Rattle.corr_tools.proofs.RelayLemmas.{keeps_on}
use Rattle.corr_tools.proofs.DecodeLemmas.{decoded_more, decodes_end, decodes_fault, decodes_limit, decodes_refused, none_decoded}
use Rattle.corr_tools.proofs.decoding.decode.Goals as goal

pub loop-count-init : goal.loop-count-init
loop-count-init g c = record {
  source_keeps = record {
    is_begun = c.requires.begun;
    same_at = refl;
    same_gives = refl;
    still_belongs = λ a h. h;
    calm = refl;
  };
  decoding = none_decoded _ _ _ _ _ _ c.requires.new;
}

pub returns-in-Some-clause-prints : goal.returns-in-Some-clause-prints
returns-in-Some-clause-prints g c =
    let inv = c.loop-count.invariant in
    decodes_refused _ _ _ _ _ _ c.loop-count.count _ _ _ _ _ _ _ _ _ _ c.show-shown.result _ _ c.in-Some.cause
    c.end.result inv.decoding inv.source_keeps.same_gives c.in-Packet.ensures.given refl c.show-shown.ensures.shows
    c.in-Some.is (omega arith)
    c.end.ensures.ended c.end.ensures.written

pub returns-in-End-clause-prints : goal.returns-in-End-clause-prints
returns-in-End-clause-prints g c =
    let inv = c.loop-count.invariant in
    let gave = at_end _ _ _ _ c.in-End.ensures.given in
    let takes = took_all _ _ _ _ c.loop-count.count string_limit inv.decoding.strings inv.decoding.taking
    (λ strings told. gave strings (inv.source_keeps.same_gives ∙ told)) (omega arith) in
    decodes_end _ _ _ _ _ _ _ _ _ _ _ _ _ c.end_of.result c.end-in-End.result inv.decoding takes c.end_of.ensures.ends
    c.end_of.ensures.own c.end-in-End.ensures.ended c.end-in-End.ensures.written

pub returns-in-Failed-clause-prints : goal.returns-in-Failed-clause-prints
returns-in-Failed-clause-prints g c =
    let inv = c.loop-count.invariant in
    let gave = at_failure _ _ _ _ c.in-Failed.ensures.given in
    let takes = took_all _ _ _ _ c.loop-count.count string_limit inv.decoding.strings inv.decoding.taking
    (λ strings told. gave strings (inv.source_keeps.same_gives ∙ told)) (omega arith) in
    decodes_fault _ _ _ _ _ _ _ _ _ _ _ _ _ c.end-in-Failed.result inv.decoding takes c.end-in-Failed.ensures.ended
    c.end-in-Failed.ensures.written

pub loop-count-preserved : goal.loop-count-preserved
loop-count-preserved g c =
    let S = g.S.PacketSource in
    let inv = c.loop-count.invariant in
    let source = c.in-Packet.ensures in
    record {
      source_keeps = keeps_on S.begun S.at S.gives S.belongs S.faults _ _ _ inv.source_keeps source.begun source.at
          source.gives source.belongs source.cause;
      decoding = decoded_more _ _ _ _ _ _ _ _ _ _ _ _ _ _ _ _ _ c.show-shown.result _ _ inv.decoding
          inv.source_keeps.same_gives source.given refl c.show-shown.ensures.shows
          c.show-shown.ensures.cause c.in-None.is;
    }

pub returns-clause-prints : goal.returns-clause-prints
returns-clause-prints g c =
    let inv = c.loop-count.invariant in
    decodes_limit _ _ _ _ c.loop-count.count _ _ _ _ _ _ _ c.end_of-2.result c.end-2.result inv.decoding (omega arith)
    c.end_of-2.ensures.ends c.end_of-2.ensures.own c.end-2.ensures.ended c.end-2.ensures.written
