-- The parts of a core before its first event. This project's own.
use Rattle.std.specs.Prelude.{◌≡◌, ℕ, ◌<◌, List, [], length, slice_index_or, None}
use Rattle.corr_model.specs.declared.plan.Plan.{Plan}
use Rattle.stream_feed.specs.Feeding.{FeedState, StandsFor}

-- so many, and each is as said of its place
pub record Built {X : Type 0} (P : ℕ → X → Type 0) (count : ℕ) (xs : List X) : Type 0 where
  pub as_many : length xs ≡ count
  pub each : (i : ℕ) (d : X) → i < count → P i (slice_index_or xs i d)

-- a feed of an antenna of the plan that took nothing
pub record IsNewFeed (plan : Plan) (antenna : ℕ) (f : FeedState) : Type 0 where
  pub stands : StandsFor f []
  pub same_plan : f.columns.plan ≡ plan
  pub same_antenna : f.columns.antenna ≡ antenna
  pub given : f.columns.given ≡ 0
  pub goes_on : f.report.ended ≡ None
