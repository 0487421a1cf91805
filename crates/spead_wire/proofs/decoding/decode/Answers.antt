use Rattle.std.proofs.Common.{All, subst, sym, arith}
use Rattle.spead_wire.specs.Widths.{HasPointerWidths}
use Rattle.spead_wire.proofs.DecodeLemmas.{refused_front, read_of, spelled, only, few_words}
use Rattle.spead_wire.proofs.WireLemmas.{AreBytes, AreBytes-drop, words-widths}
use Rattle.spead_wire.proofs.decoding.decode.Goals as goal

pub returns-in_err-count-clause-only : goal.returns-in_err-count-clause-only
returns-in_err-count-clause-only c =
    λ p s. absurd (refused_front c.args.bytes.now c.in_err-count.field-0.0 p c.in_err-count.ensures.found s)

pub read_packet-requires-clause-widths : goal.read_packet-requires-clause-widths
read_packet-requires-clause-widths c =
    let rest = c.split_at.result.1.now in
    let behind = c.split_at.ensures.back in
    let bytes : AreBytes c.args.bytes.now = λ i. (let fits = c.type_inv.bytes i in omega arith) in
    let small : AreBytes rest = subst AreBytes (sym behind) (AreBytes-drop 8 c.args.bytes.now bytes) in
    let long = c.in_ok-count.ensures.long in
    let back = c.split_at.ensures.back_len in
    let widths = words-widths c.in_ok-count.count rest (omega arith) small in
    subst (λ ps. All HasPointerWidths ps) (sym c.new.ensures) widths

pub read_packet-requires-clause-few : goal.read_packet-requires-clause-few
read_packet-requires-clause-few c =
    few_words c.in_ok-count.count c.split_at.result.1.now c.new.result c.new.ensures c.in_ok-count.ensures.few

pub returns-clause-spelled : goal.returns-clause-spelled
returns-clause-spelled c =
    spelled c.args.bytes.now c.read_packet.result
    (read_of _ _ _ _ c.new.result c.read_packet.result c.in_ok-count.ensures.found c.in_ok-count.ensures.count
    c.split_at.ensures.back c.split_at-2.ensures.back c.new.ensures c.read_packet.ensures)

pub returns-clause-only : goal.returns-clause-only
returns-clause-only c = λ p s.
    only c.args.bytes.now c.read_packet.result p
    (read_of _ _ _ _ c.new.result c.read_packet.result c.in_ok-count.ensures.found c.in_ok-count.ensures.count
    c.split_at.ensures.back c.split_at-2.ensures.back c.new.ensures c.read_packet.ensures) s
