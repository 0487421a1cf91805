use Rattle.corr_model.proofs.Pushes.{placed_push}
use Rattle.corr_model.proofs.stream_laws.next_placed.Goals as goal

pub returns : goal.returns
returns c = placed_push
