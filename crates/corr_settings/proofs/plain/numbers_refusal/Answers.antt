use Rattle.std.proofs.Common.{◌≡◌, Option, Some, None, IfNone, sym}
use Rattle.corr_settings.specs.declared.plain.PlainNumbers.{PlainNumbers}
use Rattle.corr_settings.specs.declared.refusal.SetRefusal.{SetRefusal}
use Rattle.corr_settings.specs.Plain.{HasNumberRanges, numbers_refusal}
use Rattle.corr_settings.proofs.WithinLemmas.{numbers_within}
use Rattle.corr_settings.proofs.plain.numbers_refusal.Goals as goal

-- where nothing is refused, all numbers are in their ranges
within_then : (n : PlainNumbers) (o : Option SetRefusal) → o ≡ numbers_refusal n → IfNone o (HasNumberRanges n)
within_then n None h = numbers_within n (sym h)
within_then n (Some e) h = tt

pub returns-clause-within : goal.returns-clause-within
returns-clause-within c = within_then _ _ c.first_refusal.ensures.value
