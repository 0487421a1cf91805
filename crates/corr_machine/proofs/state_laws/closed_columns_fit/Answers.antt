use Rattle.corr_machine.proofs.ColumnLaws.{column_fits}
use Rattle.corr_machine.proofs.SentLaws.{heap_fits}
use Rattle.corr_machine.proofs.state_laws.closed_columns_fit.Goals as goal

pub returns-clause-columns : goal.returns-clause-columns
returns-clause-columns c = column_fits

pub returns-clause-heap : goal.returns-clause-heap
returns-clause-heap c = heap_fits
