use Rattle.std.proofs.Common.{◌≡◌, map, string_bytes}
use Rattle.toml.specs.View.{table_view}
use Rattle.corr_settings.specs.Values.{first_of, first_unknown}
use Rattle.corr_settings.specs.Unknown.{unknown_key}
use Rattle.corr_settings.proofs.unknown.first_unknown.Given as goal

abbrev pub invariant-loop-name : goal.invariant-loop-name
invariant-loop-name l =
    (goal.iterator-loop-name).can_next l.name-iterator ×
    (goal.iterator-loop-name).is_finite l.name-iterator ×
    (first_of unknown_key (map string_bytes l.name-iterator) ≡ first_unknown (table_view l.table))
