-- A whole heap as it is lent out, against the whole heap of the definitions. This project's own.
use Rattle.std.specs.Prelude.{ℕ, Bool, not, ◌&&◌, ◌==◌}
use Rattle.corr_model.specs.declared.pointer.Pointer.{Pointer}
use Rattle.corr_model.specs.Assembly.{WholeHeap}
use Rattle.heap_assembly.specs.declared.heap.Heap.{Heap}

-- the whole heap that is lent: its counter, its pointers and its payload
abbrev pub whole_of : Heap → WholeHeap
whole_of h = record { counter = h.counter; pointers = h.pointers.now; payload = h.payload.now }

-- the pointer is addressed at this offset
abbrev pub is_addressed_at : ℕ → Pointer → Bool
is_addressed_at offset p = not p.immediate && (p.value == offset)
