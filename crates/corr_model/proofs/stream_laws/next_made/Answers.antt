use Rattle.corr_model.proofs.StreamMakes.{whole_now_made, whole_in_made, whole_in_refused}
use Rattle.corr_model.proofs.stream_laws.next_made.Goals as goal

pub returns-clause-now : goal.returns-clause-now
returns-clause-now c = whole_now_made

pub returns-clause-whole : goal.returns-clause-whole
returns-clause-whole c = whole_in_made

pub returns-clause-refused : goal.returns-clause-refused
returns-clause-refused c = whole_in_refused
