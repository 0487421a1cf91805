use Rattle.std.proofs.Common.{◌≡◌, ℕ, ◌*◌, ◌<◌, ◌≤◌}
use Rattle.heap_assembly.specs.Marks.{mark_at}
use Rattle.heap_assembly.proofs.byte_map.any_by_masks.Given as goal

abbrev pub invariant-loop-word : goal.invariant-loop-word
invariant-loop-word l = (i : ℕ) → l.from ≤ i → i < l.to → i < 64 * l.word → mark_at l.words i ≡ 0
