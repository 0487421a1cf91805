use Rattle.corr_model.specs.PacketVerdicts.{packet_verdicts}
use Rattle.corr_model.proofs.VerdictCounts.{each_counted, length-packet_verdicts}
use Rattle.corr_model.proofs.verdict_laws.each_string_is_counted_once.Goals as goal

pub returns-clause-verdicts : goal.returns-clause-verdicts
returns-clause-verdicts c = length-packet_verdicts

pub returns-clause-taken : goal.returns-clause-taken
returns-clause-taken c = length-packet_verdicts

pub returns-clause-counts : goal.returns-clause-counts
returns-clause-counts c = λ plan antenna l. each_counted (packet_verdicts plan antenna l)
