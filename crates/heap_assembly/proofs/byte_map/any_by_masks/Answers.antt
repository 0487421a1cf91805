use Rattle.std.proofs.Common.{◌*◌, sym, inl, inr, arith}
use Rattle.std.proofs.lemmas.Bool.{cases_lt}
use Rattle.heap_assembly.proofs.MarkLemmas.{any_from_none, none_seen, some_seen}
use Rattle.heap_assembly.proofs.byte_map.any_by_masks.Goals as goal

pub returns-then-words-word-ne0 : goal.returns-then-words-word-ne0
returns-then-words-word-ne0 c =
    sym (some_seen c.args.words.now c.loop-word.word c.mask_of.result c.args.from c.args.to c.if-words-word-ne0.true
    (omega (arith, c.type_inv.words c.loop-word.word)) c.mask_of.ensures.below c.mask_of.ensures.above)

pub loop-word-preserved : goal.loop-word-preserved
loop-word-preserved c =
    λ i from to below. elim (cases_lt i (64 * c.loop-word.word)) [
      | inl before ↦ c.loop-word.invariant i from to before
      | inr here ↦ none_seen c.args.words.now c.loop-word.word c.mask_of.result c.args.from c.args.to i
          c.if-words-word-ne0.false c.mask_of.ensures.inside from to here below
    ]

pub returns : goal.returns
returns c =
    sym (any_from_none _ c.args.from _ (λ i low high. c.loop-word.invariant i low (omega arith) (omega arith)))
