use Rattle.corr_model.proofs.NextReport.{report_packet, report_refused}
use Rattle.corr_model.proofs.feed_laws.next_report.Goals as goal

pub returns-clause-packet : goal.returns-clause-packet
returns-clause-packet c = report_packet

pub returns-clause-refused : goal.returns-clause-refused
returns-clause-refused c = report_refused
