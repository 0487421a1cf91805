use Rattle.corr_model.proofs.OutputPackets.{heaps_in_output}
use Rattle.corr_model.proofs.output_laws.a_heap_for_each_accumulation.Goals as goal

pub returns : goal.returns
returns c = heaps_in_output
