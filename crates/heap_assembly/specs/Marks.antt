-- Marks of places, one bit each, 64 to a word. This project's own.
use Rattle.std.specs.Prelude.{◌≡◌, ℕ, zero, suc, ◌+◌, ◌/◌, ◌%◌, ◌<◌, ◌≤◌, Bool, false, ◌||◌, nat_eq, List, slice_index}
use Rattle.std.specs.Int.{bit_at}

-- 1 where the place is marked, else 0
unfoldable pub mark_at : List ℕ → ℕ → ℕ
mark_at words place = bit_at (slice_index words (place / 64)) (place % 64)

-- one of so many places from `from` on is marked, where the marks are these
abbrev pub any_marked : (ℕ → ℕ) → ℕ → ℕ → Bool
any_marked marks from zero = false
any_marked marks from (suc n) = nat_eq (marks (from + n)) 1 || any_marked marks from n

-- how many of the first n places are marked, where the marks are these
abbrev pub marked : (ℕ → ℕ) → ℕ → ℕ
marked marks zero = 0
marked marks (suc n) = marked marks n + marks n

-- the places from `from` up to `to` are marked, and the others as before
pub record Marks (old new : ℕ → ℕ) (from to : ℕ) : Type 0 where
  pub inside : (i : ℕ) → from ≤ i → i < to → new i ≡ 1
  pub below : (i : ℕ) → i < from → new i ≡ old i
  pub above : (i : ℕ) → to ≤ i → new i ≡ old i
