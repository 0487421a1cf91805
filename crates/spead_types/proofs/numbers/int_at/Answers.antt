use Rattle.std.proofs.Common.{FitsSigned, w64, rules, ◌∙◌}
use Rattle.std.proofs.lemmas.Int.{to_z-of_z}
use Rattle.spead_types.proofs.NumberLemmas.{signed_at}
use Rattle.spead_types.proofs.numbers.int_at.Goals as goal

pub returns-then-signed : goal.returns-then-signed
returns-then-signed c =
    let fits : FitsSigned w64 c.read_int.result = search rules in
    to_z-of_z w64 c.read_int.result fits
    ∙ signed_at c.args.bits c.args.place c.from-width.result c.args.bytes.now c.split_at.result.1.now c.read_int.result
    c.args.signed c.from-width.ensures c.requires.room c.split_at.ensures.back c.if-signed.true c.read_int.ensures
