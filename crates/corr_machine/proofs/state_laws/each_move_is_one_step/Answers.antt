use Rattle.corr_machine.proofs.Reaching.{done_within}
use Rattle.corr_machine.proofs.RunLaws.{step_done}
use Rattle.corr_machine.proofs.state_laws.each_move_is_one_step.Goals as goal

pub returns-clause-rises : goal.returns-clause-rises
returns-clause-rises c = step_done

pub returns-clause-within : goal.returns-clause-within
returns-clause-within c = done_within
