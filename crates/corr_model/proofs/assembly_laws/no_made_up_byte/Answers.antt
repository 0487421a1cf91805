use Rattle.corr_model.proofs.AssemblyLawsWhole.{byte_of_a_packet}
use Rattle.corr_model.proofs.assembly_laws.no_made_up_byte.Goals as goal

pub returns : goal.returns
returns c = byte_of_a_packet
