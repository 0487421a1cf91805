-- What a window makes of one packet more, and what it answers. This project's own.
use Rattle.std.specs.Prelude.{◌≡◌, ℕ, Bool, true, false, ◌&&◌, if◌then◌else◌, List, [], ◌∷◌, ◌++◌, Option, None}
use Rattle.corr_model.specs.Lists.{last_few}
use Rattle.corr_model.specs.Packets.{Parts}
use Rattle.corr_model.specs.Windows.{is_within, is_opening, placed}
use Rattle.corr_model.specs.LiveHeaps.{HeapStandsFor}
use Rattle.corr_model.specs.PacketVerdicts.{Outcome, Part, Makes, Stale, Dropped, next_outcome, next_evicted}
use Rattle.heap_assembly.specs.LiveStates.{LiveState, live_of}
use Rattle.heap_assembly.specs.Heaps.{whole_of}
use Rattle.heap_window.specs.declared.take.Taken.{Taken}
use Rattle.heap_window.specs.declared.take.Taken.TheVariants as taken
use Rattle.heap_window.specs.declared.take.Take.{Take}
use Rattle.heap_window.specs.WindowStates.{WindowState, StandsFor}

-- the heard packets with this one, where it is within the limit
abbrev pub heard_with : ℕ → List Parts → Parts → List Parts
heard_with limit h p = if is_within limit p then h ++ p ∷ [] else h

-- the packet is within the limit and opens a heap after these heard packets
abbrev pub opens_next : ℕ → ℕ → List Parts → Parts → Bool
opens_next limit window h p = is_within limit p && is_opening window (placed window h) p

-- the counter of the heap that the packet evicts, if it is within the limit and evicts one
abbrev pub evicts_next : ℕ → ℕ → List Parts → Parts → Option ℕ
evicts_next limit window h p = if is_within limit p then next_evicted window (placed window h) p else None

-- the outcome that is answered
abbrev pub outcome_of : Taken → Outcome
outcome_of taken.Part = Part
outcome_of (taken.Whole heap) = Makes (whole_of heap)
outcome_of taken.Stale = Stale
outcome_of (taken.Dropped cause) = Dropped cause

-- the packet is not kept
abbrev pub is_left : Taken → Bool
is_left taken.Part = false
is_left (taken.Whole heap) = false
is_left taken.Stale = true
is_left (taken.Dropped cause) = true

-- the last opening's heap has this counter and stands for no member, and the other heaps are as they were
pub record HasOpenedEmpty (old : WindowState) (counter : ℕ) (new : WindowState) : Type 0 where
  pub heap : LiveState
  pub counter_is : heap.counter ≡ counter
  pub empty : HeapStandsFor (live_of heap) []
  pub heaps : new.heaps ≡ last_few old.window (old.heaps ++ heap ∷ [])

-- the window takes the packet: what it stands for, and the answer
pub record Takes (old : WindowState) (p : Parts) (new : WindowState) (take : Take) : Type 0 where
  pub window : new.window ≡ old.window
  pub limit : new.limit ≡ old.limit
  pub stands : (h : List Parts) → StandsFor old h → StandsFor new (heard_with old.limit h p)
  pub what : (h : List Parts) → StandsFor old h → outcome_of take.what ≡ next_outcome old.limit old.window h p
  pub opened : (h : List Parts) → StandsFor old h → take.opened ≡ opens_next old.limit old.window h p
  pub evicted : (h : List Parts) → StandsFor old h → take.evicted ≡ evicts_next old.limit old.window h p
  pub same : take.opened ≡ false → is_left take.what ≡ true → new ≡ old
  pub empty : take.opened ≡ true → is_left take.what ≡ true → HasOpenedEmpty old p.counter new
