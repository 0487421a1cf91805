use Rattle.corr_model.proofs.StreamLawsTaken.{taken_all, taken_next, taken_past, ending_past}
use Rattle.corr_model.proofs.stream_laws.strings_that_count.Goals as goal

pub returns-clause-all : goal.returns-clause-all
returns-clause-all c = taken_all

pub returns-clause-next : goal.returns-clause-next
returns-clause-next c = taken_next

pub returns-clause-ended : goal.returns-clause-ended
returns-clause-ended c = taken_past

pub returns-clause-ending : goal.returns-clause-ending
returns-clause-ending c = ending_past
