use Rattle.std.proofs.Common.{◌*◌, sym, inl, inr, arith}
use Rattle.std.proofs.lemmas.Bool.{cases_lt}
use Rattle.heap_assembly.proofs.MarkLemmas.{any_from_none, none_in_word, word_seen}
use Rattle.heap_assembly.proofs.byte_map.any_in_words.Goals as goal

pub returns-then-words-word-ne0 : goal.returns-then-words-word-ne0
returns-then-words-word-ne0 c =
    sym (word_seen c.args.words.now c.loop-word.word c.args.first c.args.last c.if-words-word-ne0.true
    (omega (arith, c.type_inv.words c.loop-word.word)) (omega arith) (omega arith))

pub loop-word-preserved : goal.loop-word-preserved
loop-word-preserved c =
    λ i from below. elim (cases_lt i (64 * c.loop-word.word)) [
      | inl before ↦ c.loop-word.invariant i from before
      | inr here ↦ none_in_word c.args.words.now c.loop-word.word i c.if-words-word-ne0.false here below
    ]

pub returns : goal.returns
returns c =
    sym (any_from_none _ _ _ (λ i low high. c.loop-word.invariant i low (omega arith)))
