use Rattle.corr_model.proofs.UsedCells.{used_cells}
use Rattle.corr_model.proofs.verdict_laws.each_used_heap_fills_a_cell.Goals as goal

pub returns : goal.returns
returns c = used_cells
