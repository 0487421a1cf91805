-- Where the sources and the sink of a run are begun, if they tell it. This project's own.
use Rattle.std.specs.Prelude.{◌≡◌, ℕ, ◌<◌, ◌≤◌, Bool, true, false, List, length, slice_index_or, Option, Some}
use Rattle.corr_site.specs.declared.place.Place.{Place}

-- where an object is begun, and tells where, it is at its own place
abbrev pub IsAtOwn : {P : Type 0} → Bool → Option (Option P) → P → Type 0
IsAtOwn {P} begun at own = begun ≡ true → (told : Option P) → at ≡ Some told → told ≡ Some own

-- each source that is begun, and tells where, was begun for its antenna at
-- the place of its number, and none past the last place is begun
pub record AreAtOwn {S : Type 0} (begun : S → Bool) (at : S → Option (Option (ℕ × Place))) (places : List Place)
    (now : List S) : Type 0 where
  pub each : (a : ℕ) (d : S) (p : Place) → a < length places → a < length now
      → IsAtOwn (begun (slice_index_or now a d)) (at (slice_index_or now a d)) (a, slice_index_or places a p)
  pub others : (a : ℕ) (d : S) → length places ≤ a → a < length now → begun (slice_index_or now a d) ≡ false
