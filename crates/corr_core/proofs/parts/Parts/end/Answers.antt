use Rattle.std.proofs.Common.{sym, ◌∙◌}
use Rattle.corr_core.proofs.FeedLemmas.{ended_happens, end_waits}
use Rattle.corr_core.proofs.EndLemmas.{ended_ends}
use Rattle.corr_core.proofs.parts.Parts.end.Goals as goal

pub returns-then-not-takes_strings-clause-happens : goal.returns-then-not-takes_strings-clause-happens
returns-then-not-takes_strings-clause-happens g c = λ value state h.
    end_waits value c.args.self.now state c.args.antenna h c.requires.in_range
    (sym c.takes_strings.ensures ∙ c.if-not-takes_strings.true)

pub returns-clause-happens : goal.returns-clause-happens
returns-clause-happens g c = λ value state h.
    ended_happens value c.args.self.now c.take_end.new.self state c.args.antenna c.args.how h c.requires.in_range
    (sym c.takes_strings.ensures ∙ c.if-not-takes_strings.false) c.take_end.ensures

pub returns-clause-ends : goal.returns-clause-ends
returns-clause-ends g c = ended_ends c.args.self.now c.take_end.new.self c.args.antenna c.args.how c.take_end.ensures
