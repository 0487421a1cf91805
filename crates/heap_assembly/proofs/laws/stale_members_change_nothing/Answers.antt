use Rattle.heap_assembly.proofs.FrontLemmas.{stale_stands, stale_outcome}
use Rattle.heap_assembly.proofs.laws.stale_members_change_nothing.Goals as goal

pub returns-clause-stands : goal.returns-clause-stands
returns-clause-stands c = stale_stands

pub returns-clause-outcome : goal.returns-clause-outcome
returns-clause-outcome c = stale_outcome
