-- One accumulation of a run on one thread, in states of the machine. This project's own.
use Rattle.std.specs.Prelude.{◌≡◌, ◌<◌, ◌+◌, ◌-◌, ◌%◌, ℕ, if◌then◌else◌, List, length, Option, None}
use Rattle.corr_model.specs.declared.plan.Plan.{Plan}
use Rattle.corr_machine.specs.Machines.{StreamState, State, Take, Store, Send, work_count, stream_at, work_at, step}

-- no work has a number
abbrev pub AllFree : Plan → State → Type 0
AllFree plan state = (w : ℕ) → w < work_count plan → work_at state w ≡ None

-- each stream has put the number that is sent next
abbrev pub AllPut : Plan → State → Type 0
AllPut plan state = (a : ℕ) → a < plan.antennas → state.sent < (stream_at state a).put

-- before the result of the next number is sent: the first work took its slot and stored its result
abbrev pub before_send : Plan → State → State
before_send plan state = step plan (step plan state (Take 0 (state.sent % plan.slots))) (Store 0)

-- and after that was sent
abbrev pub passed : Plan → State → State
passed plan state = step plan (before_send plan state) Send

-- one number more was sent, the streams are as they were, and the works are free again
pub record Passes (plan : Plan) (state : State) : Type 0 where
  pub sent : (passed plan state).sent ≡ state.sent + 1
  pub streams : (passed plan state).streams ≡ state.streams
  pub free : AllFree plan (passed plan state)

-- how many strings a stream takes at most before it ends
abbrev pub stream_left : Plan → StreamState → ℕ
stream_left plan x = if x.ended then 0 else plan.packet_limit - length x.strings
