use Rattle.corr_model.proofs.SumLawsBytes.{part_of_bytes_small}
use Rattle.corr_model.proofs.sum_laws.parts_are_small.Goals as goal

pub returns : goal.returns
returns c = part_of_bytes_small
