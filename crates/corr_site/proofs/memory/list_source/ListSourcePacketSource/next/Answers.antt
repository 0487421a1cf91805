use Rattle.corr_site.proofs.SourceLemmas.{answers_give}
use Rattle.corr_site.proofs.memory.list_source.ListSourcePacketSource.next.Goals as goal

pub returns-clause-given : goal.returns-clause-given
returns-clause-given g c = answers_give _ _ _ _ c.advance.ensures.exact c.advance.ensures.answer c.advance.ensures.small
