-- What the fields of a heap that is being put together show, and what always holds of it. This project's own.
use Rattle.std.specs.Prelude.{◌≡◌, ℕ, ◌+◌, ◌*◌, ◌^◌, ◌<◌, ◌≤◌, false, length}
use Rattle.corr_model.specs.Assembly.{is_past, adds_up}
use Rattle.heap_assembly.specs.declared.live.Live.TheInside.{Inside}
use Rattle.heap_assembly.specs.Marks.{mark_at, marked}
use Rattle.heap_assembly.specs.LiveStates.{LiveState}

-- the state that the fields are
abbrev pub state_of : Inside → LiveState
state_of s = record {
  counter = s.counter;
  limit = s.limit;
  size = s.size;
  ending = s.ending;
  have = s.have;
  words = s.words.items;
  bytes = s.bytes.items;
  pointers = s.pointers;
  whole = s.whole;
}

-- the map and the buffer have room for the limit, the marks are counted and end at the greatest end, which no said size
-- is below, and the heap is whole where as many bytes are there as a size that was said
pub record IsSound (e : LiveState) : Type 0 where
  pub small : e.limit < 2 ^ 32
  pub room : e.limit ≤ 64 * length e.words
  pub few : 64 * length e.words < e.limit + 64
  pub bytes : length e.bytes ≡ e.limit
  pub have : e.have ≡ marked (mark_at e.words) e.limit
  pub ending : e.ending ≤ e.limit
  pub above : (i : ℕ) → e.ending ≤ i → mark_at e.words i ≡ 0
  pub within : is_past e.size e.ending ≡ false
  pub told : e.whole ≡ adds_up e.size e.have

-- the fields are those of such a state
abbrev pub IsSoundInside : Inside → Type 0
IsSoundInside s = IsSound (state_of s)
