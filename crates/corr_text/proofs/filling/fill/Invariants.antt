use Rattle.std.proofs.Common.{◌-◌, length}
use Rattle.corr_text.proofs.FillLemmas.{Filling}
use Rattle.corr_text.proofs.filling.fill.Given as goal

abbrev pub invariant-loop-at : goal.invariant-loop-at
invariant-loop-at g l =
    let D = g.D.TextSource in
    Filling (D.left l.fn.source) (D.left l.source) (D.at l.fn.source) (D.at l.source) (D.faults l.fn.source)
    (D.faults l.source) (D.begun l.source) l.buf l.at (length l.fn.buf)

abbrev pub decreases-loop-at : goal.decreases-loop-at
decreases-loop-at g l = length l.fn.buf - l.at
