use Rattle.std.proofs.Common.{◌≡◌, take}
use Rattle.spead_types.proofs.shape.Shape.new.Given as goal

abbrev pub invariant-loop-dim : goal.invariant-loop-dim
invariant-loop-dim l = l.all ≡ take l.dim-index l.dims
