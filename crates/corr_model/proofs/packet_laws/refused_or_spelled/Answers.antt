use Rattle.corr_model.proofs.PacketLaws.{found, refused_unspelled}
use Rattle.corr_model.proofs.packet_laws.refused_or_spelled.Goals as goal

pub returns : goal.returns
returns c = record { spelled = found; refused = refused_unspelled }
