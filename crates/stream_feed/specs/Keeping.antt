-- What a verdict keeps of the window. This project's own.
use Rattle.std.specs.Prelude.{◌≡◌, ℕ, Bool, true, false, ◌&&◌, List}
use Rattle.corr_model.specs.declared.plan.Plan.{Plan}
use Rattle.corr_model.specs.declared.heap.DropCause.TheVariants.{TooManyPointers}
use Rattle.corr_model.specs.declared.verdict.Verdict.{Verdict}
use Rattle.corr_model.specs.declared.verdict.Verdict.TheVariants as verdicts
use Rattle.corr_model.specs.Lists.{passes}
use Rattle.corr_model.specs.Packets.{packet_in}
use Rattle.corr_model.specs.Windows.{is_opening, is_within, placed_in}
use Rattle.heap_window.specs.WindowStates.{WindowState}

-- the string spells a packet that is within the heap limit and opens a heap after these strings
abbrev pub opens_after : Plan → List (List ℕ) → List ℕ → Bool
opens_after plan l b =
    passes (λ p. is_within plan.heap_limit p && is_opening plan.window (placed_in plan l) p) (packet_in b)

-- what a verdict keeps of the window, on a string that opens a heap or does not: Refused and Stale keep it, and so does
-- Dropped of one that opens none. One that opens a heap is dropped for its pointers alone
abbrev pub KeepsWindow : Verdict → Bool → WindowState → WindowState → Type 0
KeepsWindow (verdicts.Refused refusal) opens old new = new ≡ old
KeepsWindow verdicts.Stale opens old new = new ≡ old
KeepsWindow (verdicts.Dropped cause) false old new = new ≡ old
KeepsWindow (verdicts.Dropped cause) true old new = cause ≡ TooManyPointers
KeepsWindow other opens old new = Unit {0}
