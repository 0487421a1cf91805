use Rattle.std.proofs.Common.{◌*◌, ◌/◌, sym, ◌∙◌, arith}
use Rattle.heap_assembly.specs.Marks.{mark_at}
use Rattle.heap_assembly.proofs.MarkLemmas.{any_in_front, any_between, any_at_end}
use Rattle.heap_assembly.proofs.byte_map.any_in.Goals as goal

pub returns-then-any_by_masks : goal.returns-then-any_by_masks
returns-then-any_by_masks c =
    sym (any_in_front (mark_at c.args.words.now) c.args.from (64 * c.div_ceil-first.result) (64 * (c.args.to / 64))
    c.args.to (omega arith) (omega arith) (omega arith) (sym c.any_by_masks-2.ensures ∙ c.if-any_by_masks.true))

pub returns-then-any_in_words : goal.returns-then-any_in_words
returns-then-any_in_words c =
    sym (any_between (mark_at c.args.words.now) c.args.from (64 * c.div_ceil-first.result) (64 * (c.args.to / 64))
    c.args.to (omega arith) (omega arith) (omega arith) (sym c.any_in_words.ensures ∙ c.if-any_in_words.true))

pub returns : goal.returns
returns c =
    c.any_by_masks-3.ensures
    ∙ sym (any_at_end (mark_at c.args.words.now) c.args.from (64 * c.div_ceil-first.result) (64 * (c.args.to / 64))
    c.args.to (omega arith) (omega arith) (omega arith) (sym c.any_by_masks-2.ensures ∙ c.if-any_by_masks.false)
    (sym c.any_in_words.ensures ∙ c.if-any_in_words.false))
