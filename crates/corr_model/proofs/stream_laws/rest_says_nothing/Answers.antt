use Rattle.corr_model.proofs.StreamLawsTaken.{heaps_of_taken, taken_of_taken, ending_of_taken}
use Rattle.corr_model.proofs.StreamLawsFloor.{cell_of_taken, column_of_taken}
use Rattle.corr_model.proofs.stream_laws.rest_says_nothing.Goals as goal

pub returns-clause-heaps : goal.returns-clause-heaps
returns-clause-heaps c = heaps_of_taken

pub returns-clause-cells : goal.returns-clause-cells
returns-clause-cells c = cell_of_taken

pub returns-clause-columns : goal.returns-clause-columns
returns-clause-columns c = column_of_taken

pub returns-clause-taken : goal.returns-clause-taken
returns-clause-taken c = taken_of_taken

pub returns-clause-ending : goal.returns-clause-ending
returns-clause-ending c = ending_of_taken
