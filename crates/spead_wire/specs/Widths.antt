-- What the widths of a packet's fields say of the numbers in them.
-- SPEAD protocol definition, version 4: packet header and item pointers, in flavour SPEAD-64-48. That pointers with
-- ids 0 to 4 are not of the heap is this project's own.
use Rattle.std.specs.Prelude.{◌<◌, ◌≤◌, ◌+◌, ◌^◌, length, IfSome, All}
use Rattle.corr_model.specs.declared.pointer.Pointer.{Pointer}
use Rattle.corr_model.specs.Packets.{Parts}

-- a pointer whose id has 15 bits and whose value has 48
pub record HasPointerWidths (p : Pointer) : Type 0 where
  pub id : p.id < 2 ^ 15
  pub value : p.value < 2 ^ 48

-- a pointer of the heap, within these widths
pub record IsHeapPointer (p : Pointer) : Type 0 where
  pub own : 4 < p.id
  pub id : p.id < 2 ^ 15
  pub value : p.value < 2 ^ 48

-- a packet whose numbers have 48 bits, whose pointers are counted by 16, and whose payload ends within the heap
pub record HasWidths (p : Parts) : Type 0 where
  pub counter : p.counter < 2 ^ 48
  pub size : IfSome p.size (λ size. size < 2 ^ 48)
  pub offset : p.offset < 2 ^ 48
  pub few : length p.pointers < 2 ^ 16
  pub pointers : All IsHeapPointer p.pointers
  pub payload : length p.payload < 2 ^ 48
  pub within : IfSome p.size (λ size. p.offset + length p.payload ≤ size)
