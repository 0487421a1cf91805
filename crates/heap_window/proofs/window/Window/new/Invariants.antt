use Rattle.std.proofs.Common.{◌≡◌, All, vec_len}
use Rattle.heap_window.proofs.window.Window.new.Given as goal

-- so many spare heaps so far, each with room for the limit
abbrev pub invariant-loop : goal.invariant-loop
invariant-loop l = (vec_len l.spare ≡ l.counter) × All (λ e. e.limit ≡ l.limit) l.spare.items
