use Rattle.corr_core.proofs.ChangeLemmas.{put_refused}
use Rattle.corr_core.proofs.streams.put_hand.Goals as goal

pub returns-in-Waits : goal.returns-in-Waits
returns-in-Waits g c = put_refused _ _ _ _ _ c.in-Waits.ensures
