use Rattle.std.proofs.Common.{◌≡◌, ◌∙◌, arith}
use Rattle.corr_model.specs.Packets.{big}
use Rattle.spead_wire.proofs.NumberLemmas.{big_number-length, short_number-value}
use Rattle.spead_wire.proofs.numbers.short_number.Goals as goal

pub returns : goal.returns
returns c =
    let bytes = c.args.bytes.now in
    let value : c.read_uint.result ≡ big bytes = c.read_uint.ensures ∙ big_number-length bytes (omega arith) in
    short_number-value bytes c.read_uint.result (c.is_empty.ensures) c.if-is_empty.false (omega arith) value
