-- The packet of a head, pointers and a payload: what it says, and its bytes.
-- SPEAD protocol definition, version 4: packet header and item pointers, in flavour SPEAD-64-48. That counter, size,
-- offset and length stand before the heap's pointers, in this order, is this project's own.
use Rattle.std.specs.Prelude.{◌≡◌, ℕ, ◌+◌, ◌*◌, List, ◌++◌, length, take, drop}
use Rattle.corr_model.specs.declared.pointer.Pointer.{Pointer}
use Rattle.corr_model.specs.Packets.{Parts}
use Rattle.corr_model.specs.Descriptors.{special_pointers, packet_bytes}
use Rattle.spead_wire.specs.declared.packet_head.PacketHead.{PacketHead}

-- what a packet with this head, these pointers and this payload says
abbrev pub parts_of_head : PacketHead → List Pointer → List ℕ → Parts
parts_of_head head pointers payload = record {
  counter = head.counter;
  size = head.size;
  offset = head.offset;
  pointers = pointers;
  payload = payload;
}

-- counter, size if said, offset, and how many bytes the payload has, as pointers
abbrev pub special_of_head : PacketHead → ℕ → List Pointer
special_of_head head bytes = special_pointers head.counter head.size head.offset bytes

-- all its pointers in order: the special ones, and then the heap's own
abbrev pub all_pointers : PacketHead → List Pointer → List ℕ → List Pointer
all_pointers head pointers payload = special_of_head head (length payload) ++ pointers

-- its bytes
abbrev pub bytes_of_head : PacketHead → List Pointer → List ℕ → List ℕ
bytes_of_head head pointers payload = packet_bytes (all_pointers head pointers payload) payload

-- how many bytes it has
abbrev pub encoded_len : PacketHead → List Pointer → List ℕ → ℕ
encoded_len head pointers payload = 8 + 8 * length (all_pointers head pointers payload) + length payload

-- the bytes stand in the buffer from a place on, and those before and behind them are as they were
pub record PutsAt (old new : List ℕ) (at : ℕ) (bytes : List ℕ) : Type 0 where
  pub is : new ≡ take at old ++ (bytes ++ drop (at + length bytes) old)
