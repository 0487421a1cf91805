use Rattle.std.proofs.Common.{arith}
use Rattle.corr_model.specs.Descriptors.{shape_of}
use Rattle.spead_types.proofs.EntryLemmas.{length-shape_of, room_for}
use Rattle.spead_types.proofs.entries.read_shape.Goals as goal

pub push-requires : goal.push-requires
push-requires c =
    room_for c.loop-dim.shape c.loop-dim.dim-iterator c.next.new.self (shape_of c.args.bytes.now) c.in-Some.dim
    c.loop-dim.invariant c.in-Some.ensures.steps (omega (arith, length-shape_of c.args.bytes.now))
