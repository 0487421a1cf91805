use Rattle.corr_machine.proofs.RunLaws.{opening_fits, step_fits}
use Rattle.corr_machine.proofs.SentLaws.{step_before}
use Rattle.corr_machine.proofs.state_laws.next_events_fit.Goals as goal

pub returns-clause-opening : goal.returns-clause-opening
returns-clause-opening c = opening_fits

pub returns-clause-step : goal.returns-clause-step
returns-clause-step c = step_fits

pub returns-clause-before : goal.returns-clause-before
returns-clause-before c = step_before
