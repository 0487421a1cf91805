use Rattle.corr_model.proofs.AssemblyLaws.{length-joined}
use Rattle.corr_model.proofs.AssemblyLawsWhole.{size_of_whole}
use Rattle.corr_model.proofs.assembly_laws.whole_payload_has_its_size.Goals as goal

pub returns-clause-brought : goal.returns-clause-brought
returns-clause-brought c = length-joined

pub returns-clause-size : goal.returns-clause-size
returns-clause-size c = size_of_whole
