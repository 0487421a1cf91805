-- How the first of a run's sources are begun, one for each antenna.
-- This project's own.
use Rattle.std.specs.Prelude.{◌≡◌, ◌≢◌, ℕ, ◌+◌, ◌<◌, Bool, false, List, length, slice_index_or, Option, Some, None, Result, Ok, Err}
use Rattle.corr_site.specs.declared.place.Place.{Place}
use Rattle.corr_site.specs.Outside.{Rises}
use Rattle.corr_serial.specs.Sources.{AreBegun, KeepsEach}

-- where it is begun, if that is told: at this place, or at none
abbrev pub IsNowAt : {P : Type 0} → Option (Option P) → Option (Option P) → Option P → Type 0
IsNowAt None now place = now ≡ None
IsNowAt (Some before) now place = now ≡ Some place

-- the first so many sources are begun for their antennas, each at the place of its number
pub record ArePlaced {S : Type 0} (at : S → Option (Option (ℕ × Place))) (places : List Place) (count : ℕ)
    (old now : List S) : Type 0 where
  pub each : (a : ℕ) (d : S) (p : Place) → a < count
      → IsNowAt (at (slice_index_or old a d)) (at (slice_index_or now a d)) (Some (a, slice_index_or places a p))

-- how many sources a begin reached: all, or those up to the one that failed
abbrev pub reached : {T : Type 0} → ℕ → Result T ℕ → ℕ
reached count (Ok x) = count
reached count (Err failed) = failed + 1

-- the sources before one are begun, and that one is not
pub record AreBegunBefore {S : Type 0} (begun : S → Bool) (failed : ℕ) (now : List S) : Type 0 where
  pub before : AreBegun begun failed now
  pub not_begun : (d : S) → begun (slice_index_or now failed d) ≡ false

-- all sources are begun, or those before the one that failed
abbrev pub BeginsEach : {S T : Type 0} → (S → Bool) → ℕ → List S → Result T ℕ → Type 0
BeginsEach begun count now (Ok x) = AreBegun begun count now
BeginsEach begun count now (Err failed) = AreBegunBefore begun failed now

-- the sources before one are begun at their places, and that one at none
pub record ArePlacedBefore {S : Type 0} (at : S → Option (Option (ℕ × Place))) (places : List Place) (failed : ℕ)
    (old now : List S) : Type 0 where
  pub before : ArePlaced at places failed old now
  pub not_placed : (d : S) → IsNowAt (at (slice_index_or old failed d)) (at (slice_index_or now failed d)) None

-- all sources are begun at their places, or those before the one that failed
abbrev pub PlacesEach : {S T : Type 0} → (S → Option (Option (ℕ × Place))) → List Place → List S → List S
    → Result T ℕ → Type 0
PlacesEach at places old now (Ok x) = ArePlaced at places (length places) old now
PlacesEach at places old now (Err failed) = ArePlacedBefore at places failed old now

-- one source is among the first so many, and its count of faults alone rose
pub record AloneRose {S : Type 0} (faults : S → ℕ) (count failed : ℕ) (old now : List S) : Type 0 where
  pub within : failed < count
  pub rose : (d : S) → Rises (faults (slice_index_or old failed d)) (faults (slice_index_or now failed d))
  pub others : (a : ℕ) (d : S) → a ≢ failed → faults (slice_index_or now a d) ≡ faults (slice_index_or old a d)

-- no count of faults rose, or that of the source that failed alone
abbrev pub BeginHasCause : {S T : Type 0} → (S → ℕ) → ℕ → List S → List S → Result T ℕ → Type 0
BeginHasCause faults count old now (Ok x) = KeepsEach faults old now
BeginHasCause faults count old now (Err failed) = AloneRose faults count failed old now
