use Rattle.std.proofs.Common.{◌≡◌, ◌≤◌, length, take}
use Rattle.heap_assembly.specs.Steps.{with_pointers}
use Rattle.heap_assembly.proofs.pointer_set.PointerSet.add.Given as goal

abbrev pub invariant-loop-pointer : goal.invariant-loop-pointer
invariant-loop-pointer l =
    (with_pointers l.self l.pointer-iterator ≡ with_pointers l.fn.self l.packet.pointers)
    × (take l.before l.self ≡ l.fn.self)
    × (l.before ≤ length l.self)
    × (length l.self ≤ 64)
