-- What one more packet is to the heaps that a window keeps.
-- This project's own.
use Rattle.std.specs.Prelude.{◌≡◌, ℕ, ◌==◌, if◌then◌else◌, List, [], ◌∷◌, ◌++◌, length, map, slice_get, slice_set, Option, Some, None, option_and_then}
use Rattle.std.specs.List.{position}
use Rattle.corr_model.specs.Lists.{last_few}
use Rattle.corr_model.specs.Packets.{Parts}
use Rattle.corr_model.specs.Windows.{PlacedPacket, openings, placed, place_next}
use Rattle.corr_model.specs.Assembly.{members_with}
use Rattle.corr_model.specs.LiveHeaps.{LiveHeap, HeapStandsFor, WindowStandsFor}

-- the heap counters of the last W openings
abbrev pub last_counters : ℕ → List PlacedPacket → List ℕ
last_counters window ps = map (λ o. o.packet.counter) (last_few window (openings ps))

-- the place of the first heap with this counter, if one has it
abbrev pub place_of : ℕ → List LiveHeap → Option ℕ
place_of counter hs = position (λ e. e.counter == counter) hs

-- the counter of a heap that is not whole
abbrev pub unfinished : LiveHeap → Option ℕ
unfinished e = if e.whole then None else Some e.counter

-- the counter of the heap that the next opening evicts: the first, where there are W heaps and it is not whole
abbrev pub first_unfinished : ℕ → List LiveHeap → Option ℕ
first_unfinished window hs = if length hs == window then option_and_then unfinished (slice_get hs 0) else None

-- the packet, placed after these
abbrev pub placed_next : ℕ → List Parts → Parts → PlacedPacket
placed_next window h p = place_next window (placed window h) p

-- the members of the packet's heap up to and including the packet
abbrev pub members_now : ℕ → List Parts → Parts → List PlacedPacket
members_now window h p = members_with window (placed window (h ++ p ∷ [])) (placed_next window h p)

-- the packet is one member more of the heap at place i, and of no other heap that is kept
pub record Joins (window : ℕ) (hs : List LiveHeap) (h : List Parts) (p : Parts) (i : ℕ) (e : LiveHeap) : Type 0 where
  pub before : List PlacedPacket
  pub stood : HeapStandsFor e before
  pub members : members_now window h p ≡ before ++ placed_next window h p ∷ []
  pub stands : (now : LiveHeap) → now.counter ≡ p.counter → HeapStandsFor now (members_now window h p)
      → WindowStandsFor window (slice_set hs i now) (h ++ p ∷ [])

-- the packet is the first member of a new heap, for which the first leaves where there are W
pub record Opens (window : ℕ) (hs : List LiveHeap) (h : List Parts) (p : Parts) : Type 0 where
  pub members : members_now window h p ≡ placed_next window h p ∷ []
  pub stands : (now : LiveHeap) → now.counter ≡ p.counter → HeapStandsFor now (members_now window h p)
      → WindowStandsFor window (last_few window (hs ++ now ∷ [])) (h ++ p ∷ [])
