use Rattle.corr_model.proofs.BaselineLemmas.{only_pair}
use Rattle.corr_model.proofs.numbering.pair.Goals as goal

pub returns-then-b-start-clause-only : goal.returns-then-b-start-clause-only
returns-then-b-start-clause-only c =
    λ i j order number.
    only_pair i j c.loop-j.j c.loop-j.start c.args.b c.loop-j.invariant.0 c.loop-j.invariant.1
    c.if-b-start.true order number
