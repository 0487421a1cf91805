-- The streams of all antennas, and what they took of their sources. This project's own.
use Rattle.std.specs.Prelude.{◌≡◌, ℕ, ◌<◌, true, List, length, slice_index_or, Option}
use Rattle.corr_model.specs.declared.plan.Plan.{Plan}
use Rattle.corr_model.specs.Visibilities.{Lists}
use Rattle.stream_feed.specs.Feeding.{FeedState}
use Rattle.corr_serial.specs.Sources.{KeepsEach}
use Rattle.corr_serial.specs.Hearing.{Hears, GoesOn, is_over}

-- each stream heard these strings of its source
pub record AreHeard {S : Type 0} (plan : Plan) (gives : S → Option (List (List ℕ))) (given faults : S → ℕ)
    (start now : List S) (feeds : List FeedState) (heard : Lists) : Type 0 where
  pub as_many : length start ≡ length now
  pub same_gives : KeepsEach gives start now
  pub each : (a : ℕ) (s : S) (f : FeedState) → a < plan.antennas
      → Hears plan a (gives (slice_index_or start a s)) (given (slice_index_or start a s))
      (given (slice_index_or now a s)) (faults (slice_index_or start a s)) (faults (slice_index_or now a s))
      (slice_index_or feeds a f) (heard a)

-- the list of each antenna goes on from what its stream heard
pub record AllGoOn (plan : Plan) (feeds : List FeedState) (heard all : Lists) : Type 0 where
  pub each : (a : ℕ) (f : FeedState) → a < plan.antennas
      → GoesOn plan (heard a) (is_over (slice_index_or feeds a f)) (all a)

-- each stream has ended
pub record AreOver (plan : Plan) (feeds : List FeedState) : Type 0 where
  pub each : (a : ℕ) (f : FeedState) → a < plan.antennas → is_over (slice_index_or feeds a f) ≡ true
