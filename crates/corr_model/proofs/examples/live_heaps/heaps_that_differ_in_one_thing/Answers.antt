use Rattle.corr_model.proofs.examples.live_heaps.heaps_that_differ_in_one_thing.Goals as goal

pub returns-clause-bytes : goal.returns-clause-bytes
returns-clause-bytes c = λ h. let first = h.0.members.bytes 0 in cc
