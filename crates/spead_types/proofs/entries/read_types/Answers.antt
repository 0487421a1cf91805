use Rattle.std.proofs.Common.{arith}
use Rattle.corr_model.specs.Descriptors.{types_of}
use Rattle.spead_types.proofs.EntryLemmas.{length-types_of, room_for}
use Rattle.spead_types.proofs.entries.read_types.Goals as goal

pub push-requires : goal.push-requires
push-requires c =
    room_for c.loop-entry.types c.loop-entry.entry-iterator c.next.new.self (types_of c.args.bytes.now) c.in-Some.entry
    c.loop-entry.invariant c.in-Some.ensures.steps (omega (arith, length-types_of c.args.bytes.now))
