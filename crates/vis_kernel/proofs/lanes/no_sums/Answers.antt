use Rattle.std.proofs.Common.{refl}
use Rattle.vis_kernel.proofs.PairLemmas.{no_pairs}
use Rattle.vis_kernel.proofs.lanes.no_sums.Goals as goal

pub returns : goal.returns
returns c = λ plan x y k. no_pairs plan x y k _ refl refl refl refl
