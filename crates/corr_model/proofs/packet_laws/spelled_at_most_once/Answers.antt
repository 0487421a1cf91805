use Rattle.corr_model.proofs.PacketLaws.{spelled_once}
use Rattle.corr_model.proofs.packet_laws.spelled_at_most_once.Goals as goal

pub returns : goal.returns
returns c = spelled_once
