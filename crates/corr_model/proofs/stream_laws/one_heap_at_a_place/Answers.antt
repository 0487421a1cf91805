use Rattle.corr_model.proofs.StreamLawsCells.{one_cell}
use Rattle.corr_model.proofs.stream_laws.one_heap_at_a_place.Goals as goal

pub returns : goal.returns
returns c = one_cell
