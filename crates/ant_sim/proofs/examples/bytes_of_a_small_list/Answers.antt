use Rattle.std.proofs.Common.{refl}
use Rattle.rand_core.specs.Steps.{first_words, stream_of, word_bytes}
use Rattle.rand_core.specs.Stream.{fill_bytes}
use Rattle.ant_sim.proofs.examples.bytes_of_a_small_list.Goals as goal

pub returns : goal.returns
unfolding first_words fill_bytes stream_of word_bytes
returns c = refl
