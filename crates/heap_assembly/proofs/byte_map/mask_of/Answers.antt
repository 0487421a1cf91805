use Rattle.std.proofs.Common.{arith}
use Rattle.heap_assembly.proofs.MarkLemmas.{mask_inside, mask_below, mask_above}
use Rattle.heap_assembly.proofs.byte_map.mask_of.Goals as goal

pub returns-clause-inside : goal.returns-clause-inside
returns-clause-inside c =
    λ i word from to. mask_inside c.saturating_sub-low.result c.min-high.result i (omega arith)
    (omega arith) (omega arith)

pub returns-clause-below : goal.returns-clause-below
returns-clause-below c =
    λ i word below. mask_below c.saturating_sub-low.result c.min-high.result i (omega arith) (omega arith)

pub returns-clause-above : goal.returns-clause-above
returns-clause-above c =
    λ i word above. mask_above c.saturating_sub-low.result c.min-high.result i (omega arith) (omega arith) (omega arith)
