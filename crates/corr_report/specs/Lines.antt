-- A line that was written at the front of a buffer. This project's own.
use Rattle.std.specs.Prelude.{◌≡◌, ℕ, List, ◌++◌, length, drop}

-- the buffer has the line at its front and else what it had, and the answer is the line's length
pub record IsLine (before now : List ℕ) (len : ℕ) (line : List ℕ) : Type 0 where
  pub length_is : len ≡ length line
  pub text : now ≡ line ++ drop (length line) before
