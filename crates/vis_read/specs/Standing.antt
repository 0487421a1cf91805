-- What a reader keeps, and what it stands for.
-- This project's own.
use Rattle.std.specs.Prelude.{◌≡◌, ◌≤◌, ℕ, Bool, true, false, ◌==◌, if◌then◌else◌, List, [], ◌∷◌, ◌++◌, Some, None, Result, Ok, Err}
use Rattle.corr_model.specs.Packets.{Parts, parts_in}
use Rattle.corr_model.specs.Windows.{PlacedPacket}
use Rattle.corr_model.specs.Assembly.{heap_of, adds_up, said_size, payload_bytes}
use Rattle.corr_model.specs.LiveHeaps.{HeapStandsFor, kept_shown}
use Rattle.heap_assembly.specs.LiveStates.{LiveState, live_of}
use Rattle.vis_read.specs.declared.cause.ReadCause.{ReadCause}
use Rattle.vis_read.specs.declared.cause.ReadCause.TheVariants as causes
use Rattle.vis_read.specs.declared.turn.Sizes.{Sizes}
use Rattle.vis_read.specs.declared.turn.Turn.{Turn}
use Rattle.vis_read.specs.declared.turn.Turn.TheVariants.{First, Later, Over, Broken}
use Rattle.vis_read.specs.Readings.{Reading, Nothing, first_some, unfinished_row, drop_row, broken, next_read, whole_read, reading}

-- the fields of a reader: its turn, whether a heap is begun and not whole, and the heap that is put together
pub record ReaderState : Type 0 where
  pub turn : Turn
  pub begun : Bool
  pub live : LiveState

-- at most 4096 channels and 2080 baselines
pub record AreFew (s : Sizes) : Type 0 where
  pub channels : s.channels ≤ 4096
  pub baselines : s.baselines ≤ 2080

-- the sizes of the turn are such
abbrev pub HasFew : Turn → Type 0
HasFew First = Unit {0}
HasFew (Later s counter) = AreFew s
HasFew Over = Unit {0}
HasFew (Broken cause) = Unit {0}

-- the heap stands for members of which just these packets are kept
pub record Shows (live : LiveState) (ps : List Parts) : Type 0 where
  pub members : List PlacedPacket
  pub stands : HeapStandsFor (live_of live) members
  pub kept : kept_shown members ≡ ps

-- these packets do not make their heap whole
abbrev pub IsPart : List Parts → Type 0
IsPart ps = adds_up (said_size ps) (payload_bytes ps) ≡ false

-- the heap is begun with these packets, and another one's packet has another counter
pub record IsBegun (live : LiveState) (ps : List Parts) : Type 0 where
  pub shows : Shows live ps
  pub part : IsPart ps
  pub other : (counter : ℕ)
      → unfinished_row ps counter ≡ (if live.counter == counter then None else Some (causes.Unfinished live.counter))

-- no heap is begun, or this one is
abbrev pub Begun : Bool → LiveState → List Parts → Type 0
Begun false live ps = ps ≡ []
Begun true live ps = IsBegun live ps

-- the reader knows just this
pub record Knows (s : ReaderState) (r : Reading) : Type 0 where
  pub turn : s.turn ≡ r.turn
  pub begun : Begun s.begun s.live r.begun

-- the reader stands for these datagrams
abbrev pub StandsFor : ReaderState → List (List ℕ) → Type 0
StandsFor s l = Knows s (reading s.live.limit l)

-- ---- steps

-- the packet's heap is entered, or refused: it goes on with these packets
abbrev pub Enters : List Parts → ℕ → LiveState → Result Unit ReadCause → Type 0
Enters ps counter new (Ok u) = (unfinished_row ps counter ≡ None) × Shows new ps × IsPart ps
Enters ps counter new (Err cause) = unfinished_row ps counter ≡ Some cause

-- a packet is added behind these: kept, the heap whole by it or not, or refused
abbrev pub Adds : ℕ → List Parts → Parts → LiveState → Result Bool ReadCause → Type 0
Adds limit ps p new (Ok whole) =
    (drop_row limit ps p ≡ None) × Shows new (ps ++ p ∷ [])
    × (adds_up (said_size (ps ++ p ∷ [])) (payload_bytes (ps ++ p ∷ [])) ≡ whole)
Adds limit ps p new (Err cause) = drop_row limit ps p ≡ Some cause

-- a packet comes to the heap of these: kept, the heap whole by it or not, or refused
abbrev pub Accepts : ℕ → List Parts → Parts → LiveState → Result Bool ReadCause → Type 0
Accepts limit ps p new (Ok false) =
    (first_some (unfinished_row ps p.counter ∷ drop_row limit ps p ∷ []) ≡ None) × IsBegun new (ps ++ p ∷ [])
Accepts limit ps p new (Ok true) =
    (first_some (unfinished_row ps p.counter ∷ drop_row limit ps p ∷ []) ≡ None) × Shows new (ps ++ p ∷ [])
    × (adds_up (said_size (ps ++ p ∷ [])) (payload_bytes (ps ++ p ∷ [])) ≡ true)
Accepts limit ps p new (Err cause) = first_some (unfinished_row ps p.counter ∷ drop_row limit ps p ∷ []) ≡ Some cause

-- a datagram is kept, its heap whole by it or not, or refused
abbrev pub Keeps : ℕ → Reading → List ℕ → LiveState → Result Bool ReadCause → Type 0
Keeps limit r bytes new (Ok false) =
    (next_read limit r bytes
    ≡ record { answer = Nothing; after = record { turn = r.turn; begun = r.begun ++ parts_in bytes ∷ [] } })
    × IsBegun new (r.begun ++ parts_in bytes ∷ [])
Keeps limit r bytes new (Ok true) =
    Shows new (r.begun ++ parts_in bytes ∷ [])
    × (next_read limit r bytes ≡ whole_read r.turn (heap_of new.counter (r.begun ++ parts_in bytes ∷ [])))
Keeps limit r bytes new (Err cause) = next_read limit r bytes ≡ broken cause

-- the heap is whole by the packet
abbrev pub is_whole_result : Result Bool ReadCause → Bool
is_whole_result (Ok whole) = whole
is_whole_result (Err cause) = false
