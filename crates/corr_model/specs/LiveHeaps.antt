-- The heaps that a window keeps, and what they stand for.
-- SPEAD protocol definition, version 4: a heap is put together from its packets. That the heaps of the last openings
-- are kept, whole or not, and nothing of a packet that is dropped or stale, is this project's own.
use Rattle.std.specs.Prelude.{◌≡◌, ℕ, ◌-◌, max, Bool, List, [], ◌∷◌, map, find, fold, slice_index, Option, is_some, option_map, unwrap_or}
use Rattle.corr_model.specs.declared.pointer.Pointer.{Pointer}
use Rattle.corr_model.specs.Lists.{last_few}
use Rattle.corr_model.specs.Packets.{Parts}
use Rattle.corr_model.specs.Windows.{PlacedPacket, end_of, openings, members, placed}
use Rattle.corr_model.specs.Assembly.{Fate, kept, fates, whole_front, holds_byte, said_size, pointers_of}

-- a heap that is being put together, as it is kept: its counter, the size that was said, the greatest end, the byte at
-- each place where one was kept, the distinct pointers in order, and whether it is whole
pub record LiveHeap : Type 0 where
  pub counter : ℕ
  pub size : Option ℕ
  pub ending : ℕ
  pub byte : ℕ → Option ℕ
  pub pointers : List Pointer
  pub whole : Bool

-- the greatest end of these packets, or 0 where there is none
abbrev pub greatest_end : List Parts → ℕ
greatest_end ps = fold max 0 (map end_of ps)

-- the byte that the first of these packets that holds place k brings there, if one does
abbrev pub byte_brought : List Parts → ℕ → Option ℕ
byte_brought ps k = option_map (λ p. slice_index p.payload (k - p.offset)) (find (holds_byte k) ps)

-- the members up to and including the one at which the heap is whole, or all of them where it is not
abbrev pub fates_shown : List PlacedPacket → List Fate
fates_shown ms = unwrap_or (whole_front ms) (fates ms)

-- the packets that a heap of these members keeps
abbrev pub kept_shown : List PlacedPacket → List Parts
kept_shown ms = kept (fates_shown ms)

-- the heap stands for these members: what it shows is that of the packets that are kept
pub record HeapStandsFor (h : LiveHeap) (ms : List PlacedPacket) : Type 0 where
  pub size : h.size ≡ said_size (kept_shown ms)
  pub ending : h.ending ≡ greatest_end (kept_shown ms)
  pub bytes : (k : ℕ) → h.byte k ≡ byte_brought (kept_shown ms) k
  pub pointers : h.pointers ≡ pointers_of (kept_shown ms)
  pub whole : h.whole ≡ is_some (whole_front ms)

-- the heap has the counter of the packet that opened it, and stands for that heap's members
pub record IsHeapOf (window : ℕ) (ps : List PlacedPacket) (h : LiveHeap) (o : PlacedPacket) : Type 0 where
  pub counter : h.counter ≡ o.packet.counter
  pub members : HeapStandsFor h (members window ps o)

-- a heap for each of these openings, in their order
abbrev pub AreHeapsOf : ℕ → List PlacedPacket → List LiveHeap → List PlacedPacket → Type 0
AreHeapsOf window ps [] [] = Unit {0}
AreHeapsOf window ps [] (o ∷ os) = ⊥
AreHeapsOf window ps (h ∷ hs) [] = ⊥
AreHeapsOf window ps (h ∷ hs) (o ∷ os) = IsHeapOf window ps h o × AreHeapsOf window ps hs os

-- the window stands for these heard packets: it keeps a heap for each of the last W openings, oldest first
abbrev pub WindowStandsFor : ℕ → List LiveHeap → List Parts → Type 0
WindowStandsFor window hs heard =
    AreHeapsOf window (placed window heard) hs (last_few window (openings (placed window heard)))
