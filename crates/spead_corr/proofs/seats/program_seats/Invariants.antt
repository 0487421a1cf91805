use Rattle.std.proofs.Common.{◌≡◌, false, vec_len}
use Rattle.std.specs.Prelude.{All, is_some}
use Rattle.spead_corr.proofs.seats.program_seats.Given as goal

abbrev pub invariant-loop-number : goal.invariant-loop-number
invariant-loop-number g l =
    record { count : vec_len l.seats ≡ l.number; unbegun : All (λ s. is_some s.source.input ≡ false) l.seats.items }
