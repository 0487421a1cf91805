use Rattle.vis_send.proofs.CountLemmas.{packets_sent, bytes_sent, mark_sent}
use Rattle.vis_send.proofs.laws.all_strings_are_counted.Goals as goal

pub returns-clause-packets : goal.returns-clause-packets
returns-clause-packets c = packets_sent

pub returns-clause-bytes : goal.returns-clause-bytes
returns-clause-bytes c = bytes_sent

pub returns-clause-mark : goal.returns-clause-mark
returns-clause-mark c = mark_sent
