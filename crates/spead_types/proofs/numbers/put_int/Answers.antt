use Rattle.std.proofs.Common.{FitsSigned, w64, rules}
use Rattle.std.proofs.lemmas.Int.{to_z-of_z}
use Rattle.spead_types.proofs.NumberLemmas.{put_bytes, signed_reads_back, unsigned_reads_back}
use Rattle.spead_types.proofs.numbers.put_int.Goals as goal

pub returns-clause-written : goal.returns-clause-written
returns-clause-written c =
    let fits : FitsSigned w64 c.args.value = search rules in
    put_bytes c.args.bits c.args.place c.from-width.result c.args.bytes.now c.to_be_bytes.result
    c.copy_from_slice.new.self c.args.value _ c.requires.width c.from-width.ensures
    (to_z-of_z w64 c.args.value fits) c.to_be_bytes.ensures c.copy_from_slice.ensures.after

pub returns-clause-signed : goal.returns-clause-signed
returns-clause-signed c =
    signed_reads_back c.args.bits c.args.place c.args.bytes.now _ c.args.value c.requires.width c.requires.room
    (returns-clause-written c) c.requires.low

pub returns-clause-unsigned : goal.returns-clause-unsigned
returns-clause-unsigned c =
    unsigned_reads_back c.args.bits c.args.place c.args.bytes.now _ c.args.value c.requires.width c.requires.room
    (returns-clause-written c) c.requires.high
