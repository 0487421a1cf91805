use Rattle.corr_model.proofs.Pushes.{members_push}
use Rattle.corr_model.proofs.stream_laws.next_member.Goals as goal

pub returns : goal.returns
returns c = members_push
