-- Text that is printed piece by piece, until a write fails. This project's own.
use Rattle.std.specs.Prelude.{◌≡◌, ℕ, List, Option, Result, Ok, Err}
use Rattle.corr_site.specs.Outside.{HasCause, Writes}

-- a piece more is printed where nothing failed before, and nothing is written else
abbrev pub GoesOn : {T E : Type 0} → Result T E → Option (List ℕ) → Option (List ℕ) → Result T E → List ℕ → Type 0
GoesOn (Ok x) before now result text = Writes before now result text
GoesOn (Err e) before now result text = (now ≡ before) × (result ≡ Err e)

-- the count of faults rises where a write fails now, and stays where nothing is written
abbrev pub GoesOnCause : {T E : Type 0} → Result T E → ℕ → ℕ → Result T E → Type 0
GoesOnCause (Ok x) before now result = HasCause before now result
GoesOnCause (Err e) before now result = now ≡ before
