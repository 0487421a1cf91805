-- How far a stream has come. This project's own.
use Rattle.std.specs.Prelude.{◌≡◌, ℕ, ◌+◌, ◌-◌, min, Bool, ◌&&◌, ◌||◌, nat_lt, nat_le, if◌then◌else◌, List, is_some}
use Rattle.corr_model.specs.declared.plan.Plan.{Plan}
use Rattle.corr_model.specs.Streams.{above_top, ending, heaps}

-- one more than the greatest accumulation that was reached, or 0 before any, and whether the stream has ended
pub record MarksState : Type 0 where
  pub above : ℕ
  pub finished : Bool

-- the floor of a stream that goes on and has reached so far: so much less the lag, and at most all accumulations
abbrev pub open_floor : Plan → ℕ → ℕ
open_floor plan above = min plan.accumulations (above - plan.lag)

-- the floor: all accumulations where the stream has ended
abbrev pub floor_by : Plan → MarksState → ℕ
floor_by plan m = if m.finished then plan.accumulations else open_floor plan m.above

-- the plan has a guard, and the accumulation is past it
abbrev pub is_wild_at : Plan → ℕ → ℕ → Bool
is_wild_at plan above n = nat_lt 0 plan.leap && nat_le (above + plan.leap) n

-- the marks are those of a list of byte strings that ended or did not: they reached what its heaps reached
pub record AreMarksOf (plan : Plan) (antenna : ℕ) (l : List (List ℕ)) (ended : Bool) (m : MarksState) : Type 0 where
  pub reached : m.above ≡ above_top plan (heaps plan antenna l)
  pub ends : m.finished ≡ (ended || is_some (ending plan l))
