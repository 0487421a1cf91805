use Rattle.std.proofs.Common.{refl}
use Rattle.rand_core.specs.Steps.{first_words}
use Rattle.ant_sim.proofs.examples.orders_of_heaps.Goals as goal

pub returns-clause-lost : goal.returns-clause-lost
unfolding first_words
returns-clause-lost c = refl

pub returns-clause-turned : goal.returns-clause-turned
unfolding first_words
returns-clause-turned c = refl

pub returns-clause-twice : goal.returns-clause-twice
unfolding first_words
returns-clause-twice c = refl
