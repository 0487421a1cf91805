use Rattle.corr_model.proofs.WindowLawsHeaps.{opens}
use Rattle.corr_model.proofs.window_laws.packet_opens_a_heap.Goals as goal

pub returns : goal.returns
returns c = λ window hs h p low stands unknown. opens window hs h p low stands unknown
