use Rattle.corr_model.proofs.WindowLawsHeaps.{evicts_first}
use Rattle.corr_model.proofs.window_laws.first_heap_is_evicted.Goals as goal

pub returns : goal.returns
returns c = λ window hs h low stands. evicts_first window hs h low stands
