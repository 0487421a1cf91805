use Rattle.corr_model.proofs.PacketLaws.{Spells-packet_in, packet_in-spelled}
use Rattle.corr_model.proofs.packet_laws.read_as_spelled.Goals as goal

pub returns : goal.returns
returns c = record { found = Spells-packet_in; again = packet_in-spelled }
