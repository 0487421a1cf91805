use Rattle.corr_model.proofs.Pushes.{whole_heaps_push}
use Rattle.corr_model.proofs.stream_laws.next_whole_heap.Goals as goal

pub returns : goal.returns
returns c = whole_heaps_push
