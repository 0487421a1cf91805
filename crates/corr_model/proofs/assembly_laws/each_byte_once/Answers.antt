use Rattle.corr_model.proofs.AssemblyLawsWhole.{byte_held_once}
use Rattle.corr_model.proofs.assembly_laws.each_byte_once.Goals as goal

pub returns : goal.returns
returns c = byte_held_once
