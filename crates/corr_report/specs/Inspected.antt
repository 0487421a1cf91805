-- The lines of `inspect`. Each ends with a line feed. This project's own.
use Rattle.std.specs.Prelude.{ℕ, List, ◌++◌, length, drop, Option, Some, None, codes, if◌then◌else◌}
use Rattle.std.specs.Fmt.{decimal}
use Rattle.std.specs.Int.{w16, w64, to_be_bytes}
use Rattle.hex.specs.Hex.{encode_lower}
use Rattle.corr_model.specs.declared.pointer.Pointer.{Pointer}
use Rattle.corr_model.specs.declared.pointer.Refusal.{Refusal}
use Rattle.corr_model.specs.declared.pointer.Refusal.TheVariants.{Short, Magic, Version, Flavour, Pointers, NoCounter, NoOffset, NoLength, Length, PastHeap}
use Rattle.corr_model.specs.Packets.{Parts}

-- the size of the heap, or a minus where the packet does not say it
abbrev pub size_text : Option ℕ → List ℕ
size_text None = codes " size -"
size_text (Some size) = codes " size " ++ decimal size

-- the number of a packet, and its place: its heap's counter, its offset in the heap and its length
abbrev pub place_text : ℕ → Parts → List ℕ
place_text place p =
    decimal place
    ++ codes " counter " ++ decimal p.counter
    ++ codes " offset " ++ decimal p.offset
    ++ codes " length " ++ decimal (length p.payload)

-- the line on a packet: its number and place, the size of its heap, and how many pointers of the heap it has
abbrev pub packet_text : ℕ → Parts → List ℕ
packet_text place p =
    place_text place p ++ size_text p.size ++ codes " pointers " ++ decimal (length p.pointers) ++ codes "\n"

-- what stands before the id: `i` where the pointer is immediate, `a` where it is addressed
abbrev pub mode_text : Pointer → List ℕ
mode_text p = if p.immediate then codes "  i " else codes "  a "

-- the id in 4 hexadecimal digits
abbrev pub id_text : ℕ → List ℕ
id_text id = encode_lower (to_be_bytes w16 id)

-- the 48 bits of a value in 12 hexadecimal digits
abbrev pub value_text : ℕ → List ℕ
value_text value = encode_lower (drop 2 (to_be_bytes w64 value))

-- the line on a pointer: its mode, its id without the mode's bit, its value
abbrev pub pointer_text : Pointer → List ℕ
pointer_text p = mode_text p ++ id_text p.id ++ codes " " ++ value_text p.value ++ codes "\n"

-- the name of a refusal
abbrev pub refusal_name : Refusal → List ℕ
refusal_name Short = codes "Short"
refusal_name Magic = codes "Magic"
refusal_name Version = codes "Version"
refusal_name Flavour = codes "Flavour"
refusal_name Pointers = codes "Pointers"
refusal_name NoCounter = codes "NoCounter"
refusal_name NoOffset = codes "NoOffset"
refusal_name NoLength = codes "NoLength"
refusal_name (Length claimed found) = codes "Length"
refusal_name PastHeap = codes "PastHeap"

-- the line on a datagram that is no packet, with its number
abbrev pub refusal_text : ℕ → Refusal → List ℕ
refusal_text place refusal = decimal place ++ codes " refused " ++ refusal_name refusal ++ codes "\n"

-- the line on how many datagrams there were
abbrev pub datagrams_text : ℕ → List ℕ
datagrams_text count = codes "datagrams " ++ decimal count ++ codes "\n"
