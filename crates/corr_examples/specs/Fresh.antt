-- What a run may be handed: objects in memory that were not used yet. This project's own.
use Rattle.std.specs.Prelude.{◌≡◌, None}
use Rattle.corr_site.specs.Memory.{Source}

-- a source that is not begun, of which nothing was asked
pub record IsFresh (source : Source) : Type 0 where
  pub not_begun : source.at ≡ None
  pub not_called : source.faults.calls ≡ 0
