use Rattle.corr_model.proofs.SpelledPackets.{written_packet}
use Rattle.corr_model.proofs.output_laws.written_packet_is_read_back.Goals as goal

pub returns : goal.returns
returns c = written_packet
