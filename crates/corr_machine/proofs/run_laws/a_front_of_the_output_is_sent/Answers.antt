use Rattle.corr_machine.proofs.SentLaws.{reached_sent, sent_front}
use Rattle.corr_machine.proofs.run_laws.a_front_of_the_output_is_sent.Goals as goal

pub returns-clause-same : goal.returns-clause-same
returns-clause-same c = reached_sent

pub returns-clause-front : goal.returns-clause-front
returns-clause-front c = sent_front
