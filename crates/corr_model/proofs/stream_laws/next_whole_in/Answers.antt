use Rattle.corr_model.proofs.StreamPushes.{whole_in_push, whole_in_stays, whole_in_past}
use Rattle.corr_model.proofs.stream_laws.next_whole_in.Goals as goal

pub returns-clause-heard : goal.returns-clause-heard
returns-clause-heard c = whole_in_push

pub returns-clause-unheard : goal.returns-clause-unheard
returns-clause-unheard c = whole_in_stays

pub returns-clause-past : goal.returns-clause-past
returns-clause-past c = whole_in_past
