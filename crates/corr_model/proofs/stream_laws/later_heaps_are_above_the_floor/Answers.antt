use Rattle.corr_model.proofs.StreamLawsFloor.{heaps_begin, none_later, floor_rises}
use Rattle.corr_model.proofs.stream_laws.later_heaps_are_above_the_floor.Goals as goal

pub returns-clause-first : goal.returns-clause-first
returns-clause-first c = heaps_begin

pub returns-clause-above : goal.returns-clause-above
returns-clause-above c = none_later

pub returns-clause-floor : goal.returns-clause-floor
returns-clause-floor c = floor_rises
