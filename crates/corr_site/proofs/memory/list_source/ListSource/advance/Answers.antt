use Rattle.std.proofs.Common.{◌<◌, arith}
use Rattle.corr_site.proofs.SourceLemmas.{packet_answers}
use Rattle.corr_site.proofs.memory.list_source.ListSource.advance.Goals as goal

pub returns-clause-answer : goal.returns-clause-answer
returns-clause-answer g c =
    let below : c.calls-call.result < c.self.inside.cut = omega arith in
    packet_answers _ _ _ _ _ _ _ _ _ _ _ c.self.view_is c.self.invariant.cut_is c.call.ensures.fails c.if-call.false
    c.calls-call.ensures below c.index.ensures c.as_slice-string.ensures.value c.copy_from_slice.ensures.after
