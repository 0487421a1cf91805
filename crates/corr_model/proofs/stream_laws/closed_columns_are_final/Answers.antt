use Rattle.corr_model.proofs.StreamLawsFloor.{closed_columns_stay, closed_cells_stay}
use Rattle.corr_model.proofs.stream_laws.closed_columns_are_final.Goals as goal

pub returns-clause-columns : goal.returns-clause-columns
returns-clause-columns c = closed_columns_stay

pub returns-clause-cells : goal.returns-clause-cells
returns-clause-cells c = closed_cells_stay
