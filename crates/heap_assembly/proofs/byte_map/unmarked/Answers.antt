use Rattle.heap_assembly.proofs.MarkLemmas.{none_in_zeros}
use Rattle.heap_assembly.proofs.byte_map.unmarked.Goals as goal

pub returns-clause-none : goal.returns-clause-none
returns-clause-none c = λ i. none_in_zeros _ _ i (c.in_ok-vec.ensures.items_if_clones_equal (λ y same. same))
