-- The byte strings that a tool takes of a source. This project's own.
use Rattle.std.specs.Prelude.{◌≡◌, ℕ, ◌+◌, ◌^◌, ◌≤◌, List, ◌++◌, length, take, drop, Option, Some}

-- how many strings `inspect` and `decode` take at most: a longer input counts as its first so many
abbrev pub string_limit : ℕ
string_limit = 2 ^ 40

-- the strings that are to come of a source that gave so many of these, and no more than the limit
abbrev pub coming : List (List ℕ) → ℕ → ℕ → List (List ℕ)
coming strings given limit = take limit (drop given strings)

-- these strings were taken: all that were to come up to the limit, where the source tells what it gives
pub record TakesAll (gives : Option (List (List ℕ))) (given now limit : ℕ) (taken : List (List ℕ)) : Type 0 where
  pub few : length taken ≤ limit
  pub counted : (strings : List (List ℕ)) → gives ≡ Some strings → now ≡ given + length taken
  pub all : (strings : List (List ℕ)) → gives ≡ Some strings → taken ≡ coming strings given limit

-- some strings stand in front of others
pub record IsFront (front whole : List (List ℕ)) : Type 0 where
  pub rest : List (List ℕ)
  pub splits : whole ≡ front ++ rest

-- these strings were taken: the first that were to come, where the source tells what it gives
pub record TakesFirst (gives : Option (List (List ℕ))) (given now limit : ℕ) (taken : List (List ℕ)) : Type 0 where
  pub few : length taken ≤ limit
  pub counted : (strings : List (List ℕ)) → gives ≡ Some strings → now ≡ given + length taken
  pub first : (strings : List (List ℕ)) → gives ≡ Some strings → IsFront taken (coming strings given limit)
