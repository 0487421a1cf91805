-- What a list of entries has to do with the descriptors that made it. This project's own.
use Rattle.std.specs.Prelude.{◌≡◌, ℕ, ◌==◌, List, map, find}
use Rattle.corr_model.specs.Descriptors.{DescribedItem}
use Rattle.corr_model.specs.Tables.{table_ids, table_entry}

-- the entries are those of the table of these descriptors: one for each of its ids, in order
pub record HoldsDescriptors (entries ds : List DescribedItem) : Type 0 where
  pub ids : map (λ d. d.id) entries ≡ table_ids ds
  pub each : (id : ℕ) → find (λ d. d.id == id) entries ≡ table_entry ds id
