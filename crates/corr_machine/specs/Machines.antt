-- The correlator as a machine: its states, its events, where each is enabled and what it does.
-- A state holds no sample, sum or datagram. This project's own.
use Rattle.std.specs.Prelude.{◌≡◌, ℕ, ◌+◌, ◌%◌, ◌<◌, ◌≤◌, max, Bool, true, false, not, ◌&&◌, ◌==◌, nat_lt, if◌then◌else◌, List, [], ◌∷◌, ◌++◌, length, map, replicate, count_by, slice_index_or, slice_set, Option, Some, None, is_some, unwrap_or}
use Rattle.std.specs.List.{list_all}
use Rattle.corr_model.specs.declared.plan.Plan.{Plan}
use Rattle.corr_model.specs.Lists.{numbers, passes}
use Rattle.corr_model.specs.Streams.{ending, floor}

-- what a slot of the ring is at: it waits for columns; a work has them; its result lies there
pub data Kind : Type 0 where
  Filling : Kind
  Working : Kind
  Done : Kind

-- one stream: the byte strings taken, whether it has ended, and the number of its columns in the ring or past it
pub record StreamState : Type 0 where
  pub strings : List (List ℕ)
  pub ended : Bool
  pub put : ℕ

-- one slot of the ring: its number, its kind, and for each antenna whether its column stands
pub record SlotState : Type 0 where
  pub number : ℕ
  pub kind : Kind
  pub columns : List Bool

-- the streams by antenna, the slots, for each work its number where it is not free, and how many results were sent
pub record State : Type 0 where
  pub streams : List StreamState
  pub slots : List SlotState
  pub works : List (Option ℕ)
  pub sent : ℕ

-- what can happen: a byte string or the end of a stream, a closed column put into its slot, a full slot taken by a
-- work, a work's result stored, the next result sent
pub data Event : Type 0 where
  Packet : ℕ → List ℕ → Event
  End : ℕ → Event
  Put : ℕ → Event
  Take : ℕ → ℕ → Event
  Store : ℕ → Event
  Send : Event

-- a stream of which nothing was taken
abbrev pub new_stream : StreamState
new_stream = record { strings = []; ended = false; put = 0 }

-- a slot that waits for the columns of a number, with none yet
abbrev pub empty_slot : Plan → ℕ → SlotState
empty_slot plan n = record { number = n; kind = Filling; columns = replicate plan.antennas false }

-- as many works as workers, and at least one
abbrev pub work_count : Plan → ℕ
work_count plan = max 1 plan.workers

-- the state before any event
abbrev pub opening : Plan → State
opening plan = record {
  streams = replicate plan.antennas new_stream;
  slots = map (empty_slot plan) (numbers 0 plan.slots);
  works = replicate (work_count plan) None;
  sent = 0;
}

-- the stream of antenna a
abbrev pub stream_at : State → ℕ → StreamState
stream_at state a = slice_index_or state.streams a new_stream

-- a slot that is none of the ring's
abbrev pub no_slot : SlotState
no_slot = record { number = 0; kind = Filling; columns = [] }

-- slot s
abbrev pub slot_at : State → ℕ → SlotState
slot_at state s = slice_index_or state.slots s no_slot

-- the slot for number n
abbrev pub slot_for : Plan → State → ℕ → SlotState
slot_for plan state n = slot_at state (n % plan.slots)

-- the number of work w, or none where it is free
abbrev pub work_at : State → ℕ → Option ℕ
work_at state w = slice_index_or state.works w None

-- the accumulations below this are closed in the stream of antenna a
abbrev pub stream_floor : Plan → ℕ → StreamState → ℕ
stream_floor plan a x = floor plan a x.strings x.ended

abbrev pub is_filling : Kind → Bool
is_filling Filling = true
is_filling other = false

abbrev pub is_working : Kind → Bool
is_working Working = true
is_working other = false

abbrev pub is_done : Kind → Bool
is_done Done = true
is_done other = false

-- the columns of all antennas stand in the slot
abbrev pub is_full : SlotState → Bool
is_full x = list_all (λ stands. stands) x.columns

-- the column of antenna a stands in the slot
abbrev pub stands_in : SlotState → ℕ → Bool
stands_in x a = slice_index_or x.columns a false

-- the stream takes strings, or its end: it has not ended, and its closed columns were all put
abbrev pub is_ready : Plan → ℕ → StreamState → Bool
is_ready plan a x = not x.ended && (x.put == stream_floor plan a x)

-- the slot waits for the columns of number n
abbrev pub fills : ℕ → SlotState → Bool
fills n x = (x.number == n) && is_filling x.kind

-- a work has the columns of number n from this slot
abbrev pub works_on : ℕ → SlotState → Bool
works_on n x = (x.number == n) && is_working x.kind

-- the slot has the result of number n
abbrev pub has_result : ℕ → SlotState → Bool
has_result n x = (x.number == n) && is_done x.kind

-- where an event can happen
abbrev pub enabled : Plan → State → Event → Bool
enabled plan state (Packet a b) = nat_lt a plan.antennas && is_ready plan a (stream_at state a)
enabled plan state (End a) = nat_lt a plan.antennas && is_ready plan a (stream_at state a)
enabled plan state (Put a) =
    nat_lt a plan.antennas && (nat_lt (stream_at state a).put (stream_floor plan a (stream_at state a))
    && fills (stream_at state a).put (slot_for plan state (stream_at state a).put))
enabled plan state (Take w s) =
    nat_lt w (work_count plan) && (nat_lt s plan.slots && (not (is_some (work_at state w))
    && (is_filling (slot_at state s).kind && is_full (slot_at state s))))
enabled plan state (Store w) = nat_lt w (work_count plan) && is_some (work_at state w)
enabled plan state Send = has_result state.sent (slot_for plan state state.sent)

-- the state with the stream of antenna a as said
abbrev pub with_stream : State → ℕ → StreamState → State
with_stream state a x = record state { streams = slice_set state.streams a x }

-- the state with slot s as said
abbrev pub with_slot : State → ℕ → SlotState → State
with_slot state s x = record state { slots = slice_set state.slots s x }

-- the state with work w as said
abbrev pub with_work : State → ℕ → Option ℕ → State
with_work state w o = record state { works = slice_set state.works w o }

-- the stream with a string more: it ends where a stop heap is whole or the limit is reached
abbrev pub with_string : Plan → List ℕ → StreamState → StreamState
with_string plan b x = record x { strings = x.strings ++ b ∷ []; ended = is_some (ending plan (x.strings ++ b ∷ [])) }

-- the slot with the column of antenna a
abbrev pub with_column : ℕ → SlotState → SlotState
with_column a x = record x { columns = slice_set x.columns a true }

-- antenna a's column of number n goes into the slot for it
abbrev pub column_put : Plan → State → ℕ → ℕ → State
column_put plan state a n =
    with_slot (with_stream state a (record (stream_at state a) { put = n + 1 })) (n % plan.slots)
    (with_column a (slot_for plan state n))

-- work w has stored number n
abbrev pub result_stored : Plan → State → ℕ → ℕ → State
result_stored plan state w n =
    with_work (with_slot state (n % plan.slots) (record (slot_for plan state n) { kind = Done })) w None

-- what an event does where it is enabled
abbrev pub effect : Plan → State → Event → State
effect plan state (Packet a b) = with_stream state a (with_string plan b (stream_at state a))
effect plan state (End a) = with_stream state a (record (stream_at state a) { ended = true })
effect plan state (Put a) = column_put plan state a (stream_at state a).put
effect plan state (Take w s) =
    with_work (with_slot state s (record (slot_at state s) { kind = Working })) w (Some (slot_at state s).number)
effect plan state (Store w) = result_stored plan state w (unwrap_or (work_at state w) 0)
effect plan state Send =
    record (with_slot state (state.sent % plan.slots) (empty_slot plan (state.sent + plan.slots)))
    { sent = state.sent + 1 }

-- the state after an event: an event that is not enabled changes nothing
abbrev pub step : Plan → State → Event → State
step plan state e = if enabled plan state e then effect plan state e else state

-- a work has number n
abbrev pub holds : ℕ → Option ℕ → Bool
holds n o = passes (λ m. m == n) o

-- a stream whose columns put are below its floor and not past what the ring can hold, and which has ended where its
-- strings end by themselves
pub record IsProperStream (plan : Plan) (sent a : ℕ) (x : StreamState) : Type 0 where
  pub closed : x.put ≤ stream_floor plan a x
  pub not_behind : sent ≤ x.put
  pub not_ahead : x.put ≤ sent + plan.slots
  pub ended : is_some (ending plan x.strings) ≡ true → x.ended ≡ true

-- a slot whose number is the one of those now in the ring that is s modulo their count, and which is full where it is
-- not filling
pub record IsProperSlot (plan : Plan) (sent s : ℕ) (x : SlotState) : Type 0 where
  pub place : x.number % plan.slots ≡ s
  pub not_sent : sent ≤ x.number
  pub within : x.number < sent + plan.slots
  pub columns : length x.columns ≡ plan.antennas
  pub full : is_filling x.kind ≡ false → is_full x ≡ true

-- a state that a run can have: streams and slots as above; a column stands in a slot exactly where the antenna's count
-- of columns put is greater than the slot's number; and for each number as many works have it as slots are working on
-- it, which is one or none
pub record IsProper (plan : Plan) (state : State) : Type 0 where
  pub stream_count : length state.streams ≡ plan.antennas
  pub slot_count : length state.slots ≡ plan.slots
  pub works : length state.works ≡ work_count plan
  pub stream : (a : ℕ) → a < plan.antennas → IsProperStream plan state.sent a (stream_at state a)
  pub slot : (s : ℕ) → s < plan.slots → IsProperSlot plan state.sent s (slot_at state s)
  pub stands : (s a : ℕ) → s < plan.slots → a < plan.antennas
      → stands_in (slot_at state s) a ≡ nat_lt (slot_at state s).number (stream_at state a).put
  pub held : (n : ℕ) → count_by (holds n) state.works ≡ (if works_on n (slot_for plan state n) then 1 else 0)
