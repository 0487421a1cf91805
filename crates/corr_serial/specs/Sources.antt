-- What is said of the sources of a run, one for each antenna. This project's own.
use Rattle.std.specs.Prelude.{◌≡◌, ℕ, ◌<◌, ◌≤◌, Bool, true, false, List, slice_index_or, Option, Some, None}
use Rattle.corr_site.specs.declared.place.Place.{Place}
use Rattle.corr_site.specs.Outside.{Rises}

-- the first so many sources are begun
pub record AreBegun {S : Type 0} (begun : S → Bool) (count : ℕ) (sources : List S) : Type 0 where
  pub each : (a : ℕ) (d : S) → a < count → begun (slice_index_or sources a d) ≡ true

-- what is said of each source stays
pub record KeepsEach {S A : Type 0} (said : S → A) (old now : List S) : Type 0 where
  pub each : (a : ℕ) (d : S) → said (slice_index_or now a d) ≡ said (slice_index_or old a d)

-- each source still belongs to the antennas to which it belonged
pub record KeepsBelonging {S : Type 0} (belongs : S → ℕ → Type 0) (old now : List S) : Type 0 where
  pub each : (a : ℕ) (d : S) (antenna : ℕ) → belongs (slice_index_or old a d) antenna
      → belongs (slice_index_or now a d) antenna

-- the sources from this number on are as they were
pub record AreSameFrom {S : Type 0} (count : ℕ) (old now : List S) : Type 0 where
  pub each : (a : ℕ) (d : S) → count ≤ a → slice_index_or now a d ≡ slice_index_or old a d

-- the count of faults rose where the source failed, and is as it was else
abbrev pub RisesIf : Bool → ℕ → ℕ → Type 0
RisesIf true before now = Rises before now
RisesIf false before now = now ≡ before

-- no count of faults fell
pub record NoneFell {S : Type 0} (faults : S → ℕ) (old now : List S) : Type 0 where
  pub each : (a : ℕ) (d : S) → faults (slice_index_or old a d) ≤ faults (slice_index_or now a d)

-- one source is among the first so many, and is the least whose count of faults rose
pub record IsLeastRise {S : Type 0} (faults : S → ℕ) (count least : ℕ) (old now : List S) : Type 0 where
  pub within : least < count
  pub rose : (d : S) → Rises (faults (slice_index_or old least d)) (faults (slice_index_or now least d))
  pub before : (a : ℕ) (d : S) → a < least → faults (slice_index_or now a d) ≡ faults (slice_index_or old a d)
  pub later : NoneFell faults old now

-- no count of faults rose, or this source is the least whose count did
abbrev pub HasLeastRise : {S : Type 0} → (S → ℕ) → ℕ → List S → List S → Option ℕ → Type 0
HasLeastRise faults count old now None = KeepsEach faults old now
HasLeastRise faults count old now (Some least) = IsLeastRise faults count least old now

-- what stays of a source that is read: it is begun where it was, gives what it gave and belongs to whom it belonged
pub record KeepsSource {S A B : Type 0} (begun : S → Bool) (at : S → A) (gives : S → B) (belongs : S → ℕ → Type 0)
    (old now : S) : Type 0 where
  pub is_begun : begun now ≡ true
  pub same_at : at now ≡ at old
  pub same_gives : gives now ≡ gives old
  pub still_belongs : (a : ℕ) → belongs old a → belongs now a

-- what stays of the sources of a run
pub record KeepsSources {S A B : Type 0} (begun : S → Bool) (at : S → A) (gives : S → B) (belongs : S → ℕ → Type 0)
    (count : ℕ) (old now : List S) : Type 0 where
  pub later : AreSameFrom count old now
  pub are_begun : AreBegun begun count now
  pub same_at : KeepsEach at old now
  pub same_gives : KeepsEach gives old now
  pub still_belong : KeepsBelonging belongs old now
