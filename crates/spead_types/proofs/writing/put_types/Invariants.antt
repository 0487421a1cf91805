use Rattle.corr_model.specs.Descriptors.{type_bytes}
use Rattle.spead_types.proofs.PutLemmas.{HasPut}
use Rattle.spead_types.proofs.writing.put_types.Given as goal

abbrev pub invariant-loop-entry : goal.invariant-loop-entry
invariant-loop-entry l = HasPut type_bytes 3 144 l.types l.entry-index l.initial.draft l.draft
