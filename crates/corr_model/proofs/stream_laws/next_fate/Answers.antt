use Rattle.corr_model.proofs.Pushes.{fates_push}
use Rattle.corr_model.proofs.stream_laws.next_fate.Goals as goal

pub returns : goal.returns
returns c = fates_push
