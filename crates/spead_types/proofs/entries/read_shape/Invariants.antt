use Rattle.std.proofs.Common.{◌≡◌, ◌++◌}
use Rattle.corr_model.specs.Descriptors.{shape_of}
use Rattle.spead_types.proofs.entries.read_shape.Given as goal

abbrev pub invariant-loop-dim : goal.invariant-loop-dim
invariant-loop-dim l = l.shape ++ l.dim-iterator ≡ shape_of l.bytes
