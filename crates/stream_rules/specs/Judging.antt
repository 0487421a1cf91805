-- What the answer on a whole heap says of its verdict. This project's own.
use Rattle.std.specs.Prelude.{◌≡◌, ℕ, ◌/◌, ◌%◌, ◌<◌, ◌≤◌, if◌then◌else◌, List, Option, Some}
use Rattle.std.specs.List.{list_any}
use Rattle.corr_model.specs.declared.plan.Plan.{Plan}
use Rattle.corr_model.specs.declared.verdict.Verdict.{Verdict}
use Rattle.corr_model.specs.declared.verdict.Verdict.TheVariants as verdicts
use Rattle.corr_model.specs.Tables.{Sight}
use Rattle.corr_model.specs.Streams.{JudgedHeap, grid, is_used_at}
use Rattle.stream_rules.specs.declared.judged.Judged.{Judged}
use Rattle.stream_rules.specs.declared.judged.Judged.TheVariants.{Stop, Undescribed, Foreign, BeforeStart, OffGrid, Wild, Beyond, Late, At}
use Rattle.stream_rules.specs.Marking.{open_floor}

-- the timestamp and the antenna number that a heap says
abbrev pub told : Sight → ℕ × ℕ
told s = (s.timestamp, s.antenna)

-- the verdict that the answer stands for, after these heaps: at a place, Twice where one of them was used there
abbrev pub verdict_of : List JudgedHeap → Judged → Verdict
verdict_of js Stop = verdicts.Stop
verdict_of js Undescribed = verdicts.Undescribed
verdict_of js (Foreign antenna) = verdicts.Foreign antenna
verdict_of js BeforeStart = verdicts.BeforeStart
verdict_of js OffGrid = verdicts.OffGrid
verdict_of js Wild = verdicts.Wild
verdict_of js (Beyond n) = verdicts.Beyond
verdict_of js Late = verdicts.Late
verdict_of js (At n t) = if list_any (λ j. is_used_at n t j.verdict) js then verdicts.Twice else verdicts.Used n t

-- the place m, u is answered, and it is open
pub record IsOpenAt (plan : Plan) (above m u n t : ℕ) : Type 0 where
  pub accumulation : n ≡ m
  pub place : t ≡ u
  pub low : open_floor plan above ≤ n
  pub high : n < plan.accumulations

-- an answer with a number is about the accumulation m and place u
abbrev pub IsPlacedAt : Plan → ℕ → ℕ → ℕ → Judged → Type 0
IsPlacedAt plan above m u (Beyond n) = n ≡ m
IsPlacedAt plan above m u Late = m < open_floor plan above
IsPlacedAt plan above m u (At n t) = IsOpenAt plan above m u n t
IsPlacedAt plan above m u other = Unit {0}

-- the timestamp that was said
pub record IsOfSight (plan : Plan) (above : ℕ) (sight : Option (ℕ × ℕ)) (answer : Judged) : Type 0 where
  pub timestamp : ℕ
  pub antenna : ℕ
  pub said : sight ≡ Some (timestamp, antenna)
  pub at : IsPlacedAt plan above (grid plan timestamp / plan.heaps) (grid plan timestamp % plan.heaps) answer

-- an answer with a number is about the place on the grid that the heap's timestamp has
abbrev pub IsPlaced : Plan → ℕ → Option (ℕ × ℕ) → Judged → Type 0
IsPlaced plan above sight (Beyond n) = IsOfSight plan above sight (Beyond n)
IsPlaced plan above sight Late = IsOfSight plan above sight Late
IsPlaced plan above sight (At n t) = IsOfSight plan above sight (At n t)
IsPlaced plan above sight other = Unit {0}
