use Rattle.spead_types.proofs.WrittenLemmas.{read_back}
use Rattle.spead_types.proofs.laws.written_descriptor_is_read_back.Goals as goal

pub returns : goal.returns
returns c = read_back
