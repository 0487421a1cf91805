use Rattle.std.proofs.Common.{refl}
use Rattle.corr_model.proofs.examples.tables.sixty_fifth_id_of_a_stream.Goals as goal

pub returns : goal.returns
returns c = refl
