use Rattle.corr_model.proofs.WindowLawsHeaps.{joins}
use Rattle.corr_model.proofs.window_laws.packet_joins_its_heap.Goals as goal

pub returns : goal.returns
returns c = λ window hs h p i e stands is same. joins window hs h p i e stands is same
