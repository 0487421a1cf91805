use Rattle.corr_model.proofs.VerdictLaws.{made_whole}
use Rattle.corr_model.proofs.verdict_laws.packet_makes_the_whole_heap.Goals as goal

pub returns : goal.returns
returns c = made_whole
