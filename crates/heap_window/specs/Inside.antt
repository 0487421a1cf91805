-- What the fields of a window show, and what always holds of them. This project's own.
use Rattle.std.specs.Prelude.{◌≡◌, ◌+◌, ◌≤◌, length, All, vec_len}
use Rattle.heap_window.specs.declared.window.Window.TheInside.{Inside}
use Rattle.heap_window.specs.WindowStates.{WindowState}

-- the state that the fields are
abbrev pub state_of : Inside → WindowState
state_of s = record { window = s.window; limit = s.limit; heaps = s.live.items }

-- there are as many heaps as openings are kept, kept or spare, and each has room for the limit
pub record IsSoundInside (s : Inside) : Type 0 where
  pub least : 1 ≤ s.window
  pub most : s.window ≤ 64
  pub capacity : s.live.capacity ≡ s.window
  pub room : length s.live.items + vec_len s.spare ≡ s.live.capacity
  pub limits : All (λ e. e.limit ≡ s.limit) s.live.items
  pub spares : All (λ e. e.limit ≡ s.limit) s.spare.items
