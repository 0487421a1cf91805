use Rattle.std.proofs.Common.{arith}
use Rattle.heap_assembly.proofs.MarkLemmas.{marks_more_words, marks_none, marks_up_to}
use Rattle.heap_assembly.proofs.byte_map.mark_by_masks.Goals as goal

pub loop-word-init : goal.loop-word-init
loop-word-init c = marks_none _ _ _ (omega arith)

pub loop-word-preserved : goal.loop-word-preserved
loop-word-preserved c =
    marks_more_words _ c.loop-word.words c.loop-word.word c.mask_of.result c.args.from c.args.to c.loop-word.invariant
    (record { inside = c.mask_of.ensures.inside; below = c.mask_of.ensures.below; above = c.mask_of.ensures.above })
    (omega arith)

pub returns : goal.returns
returns c = marks_up_to _ _ c.args.from _ c.args.to (omega arith) c.loop-word.invariant
