use Rattle.corr_machine.proofs.Moving.{short_moves, stuck_is_over}
use Rattle.corr_machine.proofs.run_laws.no_state_is_stuck.Goals as goal

pub returns-clause-moves : goal.returns-clause-moves
returns-clause-moves c = short_moves

pub returns-clause-over : goal.returns-clause-over
returns-clause-over c = stuck_is_over
