use Rattle.corr_machine.proofs.Proper.{work_has_slot}
use Rattle.corr_machine.proofs.WorkLaws.{working_is_held, one_work}
use Rattle.corr_machine.proofs.state_laws.works_and_slots_agree.Goals as goal

pub returns-clause-slot : goal.returns-clause-slot
returns-clause-slot c = work_has_slot

pub returns-clause-work : goal.returns-clause-work
returns-clause-work c = working_is_held

pub returns-clause-apart : goal.returns-clause-apart
returns-clause-apart c = one_work
