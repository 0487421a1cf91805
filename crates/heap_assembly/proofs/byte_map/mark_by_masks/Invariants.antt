use Rattle.heap_assembly.specs.Marks.{mark_at, Marks}
use Rattle.heap_assembly.proofs.MarkLemmas.{up_to}
use Rattle.heap_assembly.proofs.byte_map.mark_by_masks.Given as goal

abbrev pub invariant-loop-word : goal.invariant-loop-word
invariant-loop-word l = Marks (mark_at l.fn.words) (mark_at l.words) l.from (up_to l.from l.to l.word)
