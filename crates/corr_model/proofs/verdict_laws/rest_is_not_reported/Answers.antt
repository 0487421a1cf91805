use Rattle.corr_model.proofs.VerdictLaws.{packet_verdicts_of_taken, report_of_taken, packet_verdicts_past, report_past}
use Rattle.corr_model.proofs.verdict_laws.rest_is_not_reported.Goals as goal

pub returns-clause-verdicts : goal.returns-clause-verdicts
returns-clause-verdicts c = packet_verdicts_of_taken

pub returns-clause-report : goal.returns-clause-report
returns-clause-report c = report_of_taken

pub returns-clause-no_verdict : goal.returns-clause-no_verdict
returns-clause-no_verdict c = packet_verdicts_past

pub returns-clause-same_report : goal.returns-clause-same_report
returns-clause-same_report c = report_past
