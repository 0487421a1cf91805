use Rattle.std.proofs.Common.{sym, ◌∙◌}
use Rattle.corr_core.proofs.FeedLemmas.{took_happens, packet_waits}
use Rattle.corr_core.proofs.EndLemmas.{took_ends}
use Rattle.corr_core.proofs.parts.Parts.packet.Goals as goal

pub returns-then-not-takes_strings-clause-happens : goal.returns-then-not-takes_strings-clause-happens
returns-then-not-takes_strings-clause-happens g c = λ value state h.
    packet_waits value c.args.self.now state c.args.antenna c.args.bytes.now h c.requires.in_range
    (sym c.takes_strings.ensures ∙ c.if-not-takes_strings.true)

pub returns-clause-happens : goal.returns-clause-happens
returns-clause-happens g c = λ value state h.
    took_happens value c.args.self.now c.take_string.new.self state c.args.antenna c.args.bytes.now h
    c.requires.in_range (sym c.takes_strings.ensures ∙ c.if-not-takes_strings.false) c.take_string.ensures

pub returns-clause-ends : goal.returns-clause-ends
returns-clause-ends g c =
    took_ends c.args.self.now c.take_string.new.self c.args.antenna c.args.bytes.now c.take_string.ensures
