-- What a run in threads asks of its sources, and what it comes to. This project's own.
use Rattle.std.specs.Prelude.{◌≡◌, ℕ, ◌<◌, List, slice_index_or}
use Rattle.corr_model.specs.declared.plan.Plan.{Plan}

-- each of the plan's sources belongs to its antenna, and gave nothing yet
pub record AreObserved {S : Type 0} (plan : Plan) (belongs : S → ℕ → Type 0) (given : S → ℕ)
    (sources : List S) : Type 0 where
  pub belong : (a : ℕ) (d : S) → a < plan.antennas → belongs (slice_index_or sources a d) a
  pub none_given : (a : ℕ) (d : S) → a < plan.antennas → given (slice_index_or sources a d) ≡ 0
