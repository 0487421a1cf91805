-- An accumulation cut into parts, and how a value is made of them. This project's own.
use Rattle.std.specs.Prelude.{◌≡◌, ℕ, ◌+◌, ◌-◌, ◌<◌, ◌≤◌, ℤ, Bool, ◌&&◌, nat_le, nat_lt, List, [], ◌∷◌, ◌++◌, All, count_by}
use Rattle.corr_model.specs.declared.plan.Plan.{Plan}
use Rattle.vis_shape.specs.Sums.{Sums, no_sums, with_sums}

-- the timestamps from `from` up to, and not including, `to`
pub record Part : Type 0 where
  pub from : ℕ
  pub to : ℕ

-- the timestamp is one of the part
abbrev pub is_in : ℕ → Part → Bool
is_in t part = nat_le part.from t && nat_lt t part.to

-- the parts are disjoint and make up the timestamps below `total`, in whatever order they stand: each of these is in
-- exactly one
pub record MakeUp (parts : List Part) (total : ℕ) : Type 0 where
  pub ordered : All (λ part. part.from ≤ part.to) parts
  pub within : All (λ part. part.to ≤ total) parts
  pub once : (t : ℕ) → t < total → count_by (is_in t) parts ≡ 1

-- how a value was made: cleared, or another one with a part added to it, or one with another merged into it
pub data Making : Type 0 where
  Cleared : Making
  Added : (before : Making) (part : Part) → Making
  Merged : (before : Making) (other : Making) → Making

-- the parts that were added to it and to what was merged
abbrev pub parts_of : Making → List Part
parts_of Cleared = []
parts_of (Added before part) = part ∷ parts_of before
parts_of (Merged before other) = parts_of before ++ parts_of other

-- what a value that was made so shows, by the value of a range of timestamps
abbrev pub made_so : Plan → ℕ → (ℕ → ℕ → List ℤ) → Making → Sums
made_so plan size value Cleared = no_sums plan size
made_so plan size value (Added before part) =
    with_sums (made_so plan size value before) (value part.from part.to) (part.to - part.from)
made_so plan size value (Merged before other) =
    with_sums (made_so plan size value before) (made_so plan size value other).sums
    (made_so plan size value other).added
