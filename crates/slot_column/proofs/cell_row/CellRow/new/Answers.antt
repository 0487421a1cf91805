use Rattle.std.proofs.Common.{◌≡◌, rules}
use Rattle.slot_column.proofs.RowLemmas.{row_none}
use Rattle.slot_column.proofs.cell_row.CellRow.new.Goals as goal

pub returns-clause-cells : goal.returns-clause-cells
returns-clause-cells c = row_none _ _ _ _ (search rules)
