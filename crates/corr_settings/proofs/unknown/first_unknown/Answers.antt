use Rattle.std.proofs.Common.{map, string_bytes, filter, not, ap, sym, ◌∙◌}
use Rattle.corr_settings.specs.Values.{first_of, is_known, least_of}
use Rattle.corr_settings.specs.Unknown.{unknown_key}
use Rattle.corr_settings.proofs.UnknownLemmas.{first_is_least}
use Rattle.corr_settings.proofs.ValueLemmas.{keys_in-members_view}
use Rattle.corr_settings.proofs.unknown.first_unknown.Goals as goal

pub loop-name-init : goal.loop-name-init
loop-name-init c = (
  tt,
  tt,
  ap (first_of unknown_key)
      (ap (map string_bytes) (c.into_iter-name-iterator.ensures.into_iter_gives ∙ c.keys-name-items.ensures.rest))
      ∙ first_is_least _ c.keys-name-items.ensures.ordered
      ∙ ap (λ names. least_of (filter (λ name. not (is_known name)) names))
      (sym (keys_in-members_view c.args.table.now.entries)),
)
