-- A list at the front of an array. This project's own.
use Rattle.std.specs.Prelude.{◌≡◌, ℕ, ◌-◌, ◌≤◌, List, ◌++◌, length, take, replicate}
use Rattle.std.proofs.Common.{sym, subst, length-take-le}
use Rattle.corr_model.specs.declared.item.ItemType.{ItemType}

-- the list, filled up to the room with an element that says nothing
abbrev pub filled : {X : Type 0} → ℕ → X → List X → List X
filled room unused xs = xs ++ replicate (room - length xs) unused

-- the first few elements count, and the others say nothing
pub record IsFilled {X : Type 0} (room : ℕ) (unused : X) (all : List X) (count : ℕ) : Type 0 where
  pub within : count ≤ room
  pub long : length all ≡ room
  pub rest : filled room unused (take count all) ≡ all

-- as many elements count as are taken
pub length-counted : {X : Type 0} (room : ℕ) (unused : X) (all : List X) (count : ℕ) → IsFilled room unused all count
    → length (take count all) ≡ count
length-counted room unused all count h = length-take-le count all (subst (λ n. count ≤ n) (sym h.long) h.within)

-- the type entry that stands where there is none
abbrev pub no_type : ItemType
no_type = record { letter = 0; bits = 0 }
