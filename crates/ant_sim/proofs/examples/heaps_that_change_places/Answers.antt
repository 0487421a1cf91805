use Rattle.std.proofs.Common.{refl}
use Rattle.rand_core.specs.Steps.{first_words}
use Rattle.ant_sim.proofs.examples.heaps_that_change_places.Goals as goal

pub returns-clause-pair : goal.returns-clause-pair
unfolding first_words
returns-clause-pair c = refl

pub returns-clause-kept : goal.returns-clause-kept
unfolding first_words
returns-clause-kept c = refl

pub returns-clause-later : goal.returns-clause-later
unfolding first_words
returns-clause-later c = refl

pub returns-clause-alone : goal.returns-clause-alone
unfolding first_words
returns-clause-alone c = refl
