-- A key that may be no setting, as the code goes over the keys. This project's own.
use Rattle.std.specs.Prelude.{ℕ, List, Option, Some, None, if◌then◌else◌}
use Rattle.corr_settings.specs.Values.{is_known}

-- the key, where it is no setting
abbrev pub unknown_key : List ℕ → Option (List ℕ)
unknown_key name = if is_known name then None else Some name
