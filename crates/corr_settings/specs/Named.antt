-- A refusal whose line is short enough to be printed. This project's own.
use Rattle.std.specs.Prelude.{◌≤◌, length}
use Rattle.corr_settings.specs.declared.refusal.SetRefusal.{SetRefusal}
use Rattle.corr_settings.specs.declared.refusal.SetRefusal.TheVariants.{Unknown}

-- the name of a key that is no setting has at most 64 bytes
abbrev pub HasShortName : SetRefusal → Type 0
HasShortName (Unknown name) = length name ≤ 64
HasShortName _ = Unit {0}
