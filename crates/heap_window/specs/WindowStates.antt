-- A window as its state shows it, against the window of the definitions. This project's own.
use Rattle.std.specs.Prelude.{ℕ, List, map}
use Rattle.corr_model.specs.Packets.{Parts}
use Rattle.corr_model.specs.LiveHeaps.{LiveHeap, WindowStandsFor}
use Rattle.heap_assembly.specs.LiveStates.{LiveState, live_of}

-- a window: how many openings it keeps, the most bytes of a heap, and the heaps of the last openings, oldest first
pub record WindowState : Type 0 where
  pub window : ℕ
  pub limit : ℕ
  pub heaps : List LiveState

-- the live heaps that the window keeps
abbrev pub lives : WindowState → List LiveHeap
lives s = map live_of s.heaps

-- the window stands for these heard packets
abbrev pub StandsFor : WindowState → List Parts → Type 0
StandsFor s h = WindowStandsFor s.window (lives s) h
