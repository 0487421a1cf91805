-- What a value of all baselines holds, and what its type keeps. This project's own.
use Rattle.std.specs.Prelude.{◌≡◌, ℕ, ◌+◌, ◌*◌, ◌^◌, ◌≤◌, ℤ, pos, List, ◌++◌, length, map, replicate, All}
use Rattle.corr_model.specs.declared.plan.Plan.{Plan}
use Rattle.corr_model.specs.Plans.{Fits, baselines}
use Rattle.vis_shape.specs.Sums.{AreUpTo, Sums}

-- by baseline, channel and product the two parts of each value; by baseline the missing count
pub record Vis : Type 0 where
  pub plan : Plan
  pub values : List ℤ
  pub missing : List ℕ
  pub added : ℕ

-- how many numbers the values of one baseline have
abbrev pub block : Plan → ℕ
block plan = 8 * plan.channels

-- how many sums a value has
abbrev pub cross_size : Plan → ℕ
cross_size plan = baselines plan * block plan + baselines plan

-- its sums are its values and its missing counts
abbrev pub sums_of : List ℤ → List ℕ → List ℤ
sums_of values missing = values ++ map pos missing

-- what it shows
abbrev pub shown_of : Vis → Sums
shown_of v = record { plan = v.plan; sums = sums_of v.values v.missing; added = v.added }

-- how far from zero a part of a value can be once so many timestamps were added
abbrev pub largest : Plan → ℕ → ℕ
largest plan added = added * (plan.spectra * 2 ^ 31)

-- what its type keeps
pub record IsVis (v : Vis) : Type 0 where
  pub fits : Fits v.plan
  pub within : v.added ≤ v.plan.heaps
  pub as_many : length v.values ≡ baselines v.plan * block v.plan
  pub counts : length v.missing ≡ baselines v.plan
  pub small : AreUpTo v.values (largest v.plan v.added)
  pub few : All (λ m. m ≤ v.added) v.missing

-- a value to which nothing was added
abbrev pub none_of : Plan → Vis
none_of plan = record {
  plan = plan;
  values = replicate (baselines plan * block plan) (pos 0);
  missing = replicate (baselines plan) 0;
  added = 0;
}
