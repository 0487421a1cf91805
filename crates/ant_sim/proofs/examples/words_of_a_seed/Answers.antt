use Rattle.std.proofs.Common.{refl}
use Rattle.rand_core.specs.Steps.{first_words}
use Rattle.ant_sim.proofs.examples.words_of_a_seed.Goals as goal

pub returns-clause-words : goal.returns-clause-words
unfolding first_words
returns-clause-words c = refl
