use Rattle.corr_model.proofs.OutputPackets.{head_counters, heap_counters, stop_counters}
use Rattle.corr_model.proofs.output_laws.counters_in_order.Goals as goal

pub returns-clause-head : goal.returns-clause-head
returns-clause-head c = head_counters

pub returns-clause-heaps : goal.returns-clause-heaps
returns-clause-heaps c = heap_counters

pub returns-clause-stop : goal.returns-clause-stop
returns-clause-stop c = stop_counters
