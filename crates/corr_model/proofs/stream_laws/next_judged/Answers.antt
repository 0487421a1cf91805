use Rattle.corr_model.proofs.StreamPushes.{heaps_push}
use Rattle.corr_model.proofs.StreamLawsTaken.{heaps_same}
use Rattle.corr_model.proofs.StreamLawsFloor.{heaps_after_end}
use Rattle.corr_model.proofs.stream_laws.next_judged.Goals as goal

pub returns-clause-whole : goal.returns-clause-whole
returns-clause-whole c = heaps_push

pub returns-clause-none : goal.returns-clause-none
returns-clause-none c = heaps_same

pub returns-clause-ended : goal.returns-clause-ended
returns-clause-ended c = heaps_after_end
