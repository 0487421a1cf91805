use Rattle.std.proofs.Common.{◌≡◌, ◌++◌}
use Rattle.corr_model.specs.Descriptors.{types_of}
use Rattle.spead_types.proofs.entries.read_types.Given as goal

abbrev pub invariant-loop-entry : goal.invariant-loop-entry
invariant-loop-entry l = l.types ++ l.entry-iterator ≡ types_of l.bytes
