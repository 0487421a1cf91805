use Rattle.std.proofs.Common.{refl}
use Rattle.rand_core.specs.Steps.{stream_of, word_bytes}
use Rattle.rand_core.specs.Stream.{fill_bytes}
use Rattle.ant_sim.proofs.examples.samples_of_a_heap.Goals as goal

pub returns-clause-own : goal.returns-clause-own
unfolding fill_bytes stream_of word_bytes
returns-clause-own c = refl

pub returns-clause-sky : goal.returns-clause-sky
unfolding fill_bytes stream_of word_bytes
returns-clause-sky c = refl

pub returns-clause-samples : goal.returns-clause-samples
unfolding fill_bytes stream_of word_bytes
returns-clause-samples c = refl
