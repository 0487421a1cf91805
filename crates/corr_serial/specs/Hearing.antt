-- What a stream took of its source, and the lists that go on from there. This project's own.
use Rattle.std.specs.Prelude.{◌≡◌, ℕ, ◌-◌, ◌≤◌, Bool, true, false, if◌then◌else◌, List, [], ◌++◌, length, take, Option, Some, None, is_some}
use Rattle.corr_model.specs.declared.plan.Plan.{Plan}
use Rattle.corr_model.specs.declared.verdict.Ending.{Ending}
use Rattle.corr_model.specs.declared.verdict.Ending.TheVariants as endings
use Rattle.corr_model.specs.Streams.{taken}
use Rattle.stream_feed.specs.Feeding.{FeedState, StandsFor, is_said}
use Rattle.corr_serial.specs.Sources.{RisesIf}

-- the stream has ended
abbrev pub is_over : FeedState → Bool
is_over f = is_some f.report.ended

-- it ended by a fault of its source
abbrev pub is_fault : Option Ending → Bool
is_fault (Some endings.Fault) = true
is_fault (Some endings.End) = false
is_fault (Some endings.Stop) = false
is_fault (Some endings.Limit) = false
is_fault None = false

-- how many strings it takes at most before it ends
abbrev pub left : FeedState → ℕ
left f = if is_over f then 0 else f.columns.plan.packet_limit - f.report.taken

-- the feed is one of an antenna of the plan, and stands for these strings, which all count
pub record HasHeard (plan : Plan) (antenna : ℕ) (f : FeedState) (strings : List (List ℕ)) : Type 0 where
  pub same_plan : f.columns.plan ≡ plan
  pub same_antenna : f.columns.antenna ≡ antenna
  pub stands : StandsFor f strings
  pub counts : taken plan strings ≡ strings

-- the strings are the first of those that a source gives: so many of them, and all where their end was said
pub record IsFront (all : List (List ℕ)) (given : ℕ) (ended : Option Ending) (strings : List (List ℕ)) : Type 0 where
  pub front : strings ≡ take given all
  pub within : given ≤ length all
  pub whole : is_said ended ≡ true → given ≡ length all

-- the feed heard these strings of its source: the first that it gives, where that is told and nothing was given before;
-- and the source's count of faults rose where the stream ended so
pub record Hears (plan : Plan) (antenna : ℕ) (gives : Option (List (List ℕ)))
    (given_before given faults_before faults : ℕ) (f : FeedState) (strings : List (List ℕ)) : Type 0 where
  pub heard : HasHeard plan antenna f strings
  pub told : (all : List (List ℕ)) → gives ≡ Some all → given_before ≡ 0 → IsFront all given f.report.ended strings
  pub cause : RisesIf (is_fault f.report.ended) faults_before faults

-- the list goes on from these strings: where the stream has ended, by none that counts
pub record GoesOn (plan : Plan) (strings : List (List ℕ)) (over : Bool) (all : List (List ℕ)) : Type 0 where
  pub rest : List (List ℕ)
  pub is : all ≡ strings ++ rest
  pub whole : over ≡ true → taken plan all ≡ strings
