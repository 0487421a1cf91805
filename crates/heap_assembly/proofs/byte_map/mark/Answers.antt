use Rattle.std.proofs.Common.{◌*◌, ◌/◌, arith}
use Rattle.heap_assembly.specs.Marks.{mark_at}
use Rattle.heap_assembly.proofs.MarkLemmas.{marks_then}
use Rattle.heap_assembly.proofs.byte_map.mark.Goals as goal

pub returns : goal.returns
returns c =
    let first = 64 * c.div_ceil-first.result in
    let last = 64 * (c.args.to / 64) in
    let front = marks_then (mark_at c.args.words.now) (mark_at c.mark_by_masks-2.new.words)
    (mark_at c.mark_words.new.words) c.args.from first last (omega arith) (omega arith) c.mark_by_masks-2.ensures
    c.mark_words.ensures in
    marks_then (mark_at c.args.words.now) (mark_at c.mark_words.new.words) (mark_at c.mark_by_masks-3.new.words)
    c.args.from last c.args.to (omega arith) (omega arith) front c.mark_by_masks-3.ensures
