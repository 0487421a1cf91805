use Rattle.corr_machine.proofs.Sending.{step_appends, output_is}
use Rattle.corr_machine.proofs.RunLaws.{run_front, appended_front}
use Rattle.corr_machine.proofs.run_laws.a_front_of_the_output_is_appended.Goals as goal

pub returns-clause-step : goal.returns-clause-step
returns-clause-step c = step_appends

pub returns-clause-run : goal.returns-clause-run
returns-clause-run c = run_front

pub returns-clause-front : goal.returns-clause-front
returns-clause-front c = appended_front

pub returns-clause-output : goal.returns-clause-output
returns-clause-output c = output_is
