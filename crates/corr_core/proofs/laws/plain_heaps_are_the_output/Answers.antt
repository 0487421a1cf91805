use Rattle.std.proofs.Common.{ap}
use Rattle.std.proofs.Math.Path.{fun_ext}
use Rattle.corr_model.specs.Outputs.{head_packets, stop_packets}
use Rattle.corr_machine.specs.Runs.{OutputHeaps}
use Rattle.vis_value.proofs.OutputOfCross.{heap_of_cross}
use Rattle.corr_core.proofs.laws.plain_heaps_are_the_output.Goals as goal

pub returns : goal.returns
returns c = λ plan lists.
    ap {B = OutputHeaps} (λ heap. record { head = head_packets plan; heap = heap; stop = stop_packets plan })
    (fun_ext (heap_of_cross plan lists))
