-- What a buffer holds of a text that was read into it. This project's own.
use Rattle.std.specs.Prelude.{◌≡◌, ℕ, ◌<◌, List, [], length, drop, Option, Some, None, Result, Ok, Err}
use Rattle.corr_site.specs.Outside.{TakesFront}

-- so many bytes of the text stand in front, and they are all of it where the buffer is not full
pub record HoldsText (left : List ℕ) (now : Option (List ℕ)) (buf : List ℕ) (n : ℕ) : Type 0 where
  pub taken : TakesFront left now buf n
  pub all : n < length buf → drop n left ≡ []

-- some bytes of the text stand in front, and the rest is left
pub record HoldsFront (left : List ℕ) (now : Option (List ℕ)) (buf : List ℕ) : Type 0 where
  pub count : ℕ
  pub taken : TakesFront left now buf count

-- of the text that a source tells, the buffer holds the front; what is not told stays so
abbrev pub Fills : {E : Type 0} → Option (List ℕ) → Option (List ℕ) → List ℕ → Result ℕ E → Type 0
Fills None now buf result = now ≡ None
Fills (Some left) now buf (Ok n) = HoldsText left now buf n
Fills (Some left) now buf (Err e) = HoldsFront left now buf

-- what the buffer holds while it is being filled
abbrev pub FilledSo : Option (List ℕ) → Option (List ℕ) → List ℕ → ℕ → Type 0
FilledSo None now buf n = now ≡ None
FilledSo (Some left) now buf n = TakesFront left now buf n
