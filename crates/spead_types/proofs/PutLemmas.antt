-- Pieces of one width, put one after another.
use Rattle.std.proofs.Common.{◌≡◌, ℕ, ◌+◌, ◌-◌, ◌*◌, ◌≤◌, List, ◌++◌, length, take, flat_map}

-- the pieces of the first elements were put, and there is room for the others
pub record HasPut {X : Type 0} (f : X → List ℕ) (width room : ℕ) (xs : List X) (i : ℕ)
    (before now : List ℕ) : Type 0 where
  pub is : now ≡ before ++ flat_map f (take i xs)
  pub fits : length now + width * (length xs - i) ≤ room
