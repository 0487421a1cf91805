use Rattle.ant_sim.proofs.LengthLemmas.{list_few}
use Rattle.ant_sim.proofs.laws.a_list_can_be_counted.Goals as goal

pub returns : goal.returns
returns c = list_few
