use Rattle.corr_machine.proofs.SentLaws.{whole_appended, whole_sent}
use Rattle.corr_machine.proofs.run_laws.the_whole_output_is_sent.Goals as goal

pub returns-clause-heaps : goal.returns-clause-heaps
returns-clause-heaps c = whole_appended

pub returns-clause-output : goal.returns-clause-output
returns-clause-output c = whole_sent
