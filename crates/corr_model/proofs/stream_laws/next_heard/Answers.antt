use Rattle.corr_model.proofs.StreamPushes.{heard_push, heard_past}
use Rattle.corr_model.proofs.stream_laws.next_heard.Goals as goal

pub returns-clause-next : goal.returns-clause-next
returns-clause-next c = heard_push

pub returns-clause-past : goal.returns-clause-past
returns-clause-past c = heard_past
