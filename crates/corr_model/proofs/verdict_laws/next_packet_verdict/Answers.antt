use Rattle.corr_model.proofs.VerdictLaws.{packet_verdicts_push, packet_verdict_refused, packet_verdict_packet}
use Rattle.corr_model.proofs.verdict_laws.next_packet_verdict.Goals as goal

pub returns-clause-next : goal.returns-clause-next
returns-clause-next c = packet_verdicts_push

pub returns-clause-refused : goal.returns-clause-refused
returns-clause-refused c = packet_verdict_refused

pub returns-clause-packet : goal.returns-clause-packet
returns-clause-packet c = packet_verdict_packet
