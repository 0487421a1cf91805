use Rattle.std.proofs.Common.{refl}
use Rattle.corr_model.proofs.output_laws.slots_and_workers_change_nothing.Goals as goal

pub returns : goal.returns
returns c = λ plan lists k w. refl
