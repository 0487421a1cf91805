use Rattle.std.proofs.Common.{sym, ◌∙◌}
use Rattle.item_group.proofs.StandingLemmas.{stands_read, stands_refused}
use Rattle.item_group.proofs.table.Table.take.Goals as goal

pub returns-in-Ok-clause-stands : goal.returns-in-Ok-clause-stands
returns-in-Ok-clause-stands c = λ plan before stands.
    stands_read plan _ _ before _ _ (sym c.read_descriptor.ensures ∙ c.in-Ok.is) c.put.ensures.holds stands

pub returns-in-Err-clause-stands : goal.returns-in-Err-clause-stands
returns-in-Err-clause-stands c =
    λ plan before stands. stands_refused plan _ before _ _ (sym c.read_descriptor.ensures ∙ c.in-Err.is) stands
