use Rattle.corr_model.proofs.VerdictCounts.{of_heaps, used_heaps}
use Rattle.corr_model.proofs.verdict_laws.each_heap_is_judged_at_one_packet.Goals as goal

pub returns-clause-verdicts : goal.returns-clause-verdicts
returns-clause-verdicts c = of_heaps

pub returns-clause-used : goal.returns-clause-used
returns-clause-used c = used_heaps
