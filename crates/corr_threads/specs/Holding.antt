-- What a turn leaves of what refused last. This project's own.
use Rattle.std.specs.Prelude.{◌≡◌, Option}
use Rattle.slot_ring.specs.declared.held.Held.{Held}
use Rattle.corr_threads.specs.declared.turn.Turn.{Turn}
use Rattle.corr_threads.specs.declared.turn.Turn.TheVariants as turns

-- a turn that does not wait keeps what refused last
abbrev pub KeepsHeld : Turn → Option Held → Option Held → Type 0
KeepsHeld turns.Moved old new = new ≡ old
KeepsHeld turns.Waits old new = Unit {0}
KeepsHeld turns.Done old new = new ≡ old
