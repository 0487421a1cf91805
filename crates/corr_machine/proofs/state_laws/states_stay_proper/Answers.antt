use Rattle.corr_machine.proofs.Proper.{opening_proper, step_proper}
use Rattle.corr_machine.proofs.RunLaws.{reached_proper}
use Rattle.corr_machine.proofs.state_laws.states_stay_proper.Goals as goal

pub returns-clause-opening : goal.returns-clause-opening
returns-clause-opening c = opening_proper

pub returns-clause-step : goal.returns-clause-step
returns-clause-step c = step_proper

pub returns-clause-reached : goal.returns-clause-reached
returns-clause-reached c = reached_proper
