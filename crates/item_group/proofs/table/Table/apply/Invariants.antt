use Rattle.corr_model.specs.Streams.{group_of}
use Rattle.heap_assembly.specs.Heaps.{whole_of}
use Rattle.item_group.proofs.ApplyLemmas.{IsAppliedTo}
use Rattle.item_group.proofs.table.Table.apply.Given as goal

abbrev pub invariant-loop-place : goal.invariant-loop-place
invariant-loop-place l = IsAppliedTo (group_of (whole_of l.heap)) l.place l.initial.self l.self l.applied
