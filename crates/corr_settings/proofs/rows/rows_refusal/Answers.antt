use Rattle.std.proofs.Common.{◌≡◌, Option, Some, None, IfNone, sym}
use Rattle.toml.specs.Data.{Members}
use Rattle.corr_settings.specs.declared.refusal.SetRefusal.{SetRefusal}
use Rattle.corr_settings.specs.Values.{rows_refusal}
use Rattle.corr_settings.specs.Within.{AreWithin}
use Rattle.corr_settings.proofs.WithinLemmas.{within}
use Rattle.corr_settings.proofs.rows.rows_refusal.Goals as goal

-- where nothing is refused, all are in their ranges
within_then : (ms : Members) (o : Option SetRefusal) → o ≡ rows_refusal ms → IfNone o (AreWithin ms)
within_then ms None h = within ms (sym h)
within_then ms (Some e) h = tt

pub returns-clause-within : goal.returns-clause-within
returns-clause-within c = within_then _ _ c.first_failed.ensures.value
