use Rattle.corr_model.specs.Descriptors.{dimension_bytes}
use Rattle.spead_types.proofs.PutLemmas.{HasPut}
use Rattle.spead_types.proofs.writing.put_shape.Given as goal

abbrev pub invariant-loop-dim : goal.invariant-loop-dim
invariant-loop-dim l = HasPut dimension_bytes 7 144 l.shape l.dim-index l.initial.draft l.draft
