use Rattle.corr_model.proofs.VerdictLaws.{evicted_push}
use Rattle.corr_model.proofs.verdict_laws.next_eviction.Goals as goal

pub returns : goal.returns
returns c = evicted_push
