-- Packets: what a byte string spells, and why one spells none.
-- SPEAD protocol definition, version 4: packet header and item pointers, in flavour SPEAD-64-48. That a repeated
-- special pointer counts where it stands last, that pointers with ids 0 to 4 are not of the heap, and the refusals and
-- their order, are this project's own.
use Rattle.std.specs.Prelude.{◌≡◌, ℕ, zero, suc, ◌+◌, ◌*◌, ◌%◌, ◌≤◌, Bool, not, ◌&&◌, ◌||◌, ◌==◌, nat_lt, nat_le, if◌then◌else◌, List, [], ◌∷◌, ◌++◌, length, take, drop, slice_index, map, filter, fold, Option, Some, None, IfSome, unwrap_or, is_none}
use Rattle.std.specs.List.{flat_map, AllByRecursion}
use Rattle.corr_model.specs.declared.pointer.Pointer.{Pointer}
use Rattle.corr_model.specs.declared.pointer.Refusal.{Refusal}
use Rattle.corr_model.specs.declared.pointer.Refusal.TheVariants.{Short, Magic, Version, Flavour, Pointers, NoCounter, NoOffset, NoLength, Length, PastHeap}

-- bytes read as a big-endian number
abbrev pub big : List ℕ → ℕ
big bytes = fold (λ n b. 256 * n + b) 0 bytes

-- eight bytes as a pointer: a mode bit, an id of 15 bits and a value of 48 bits
abbrev pub pointer_of : List ℕ → Pointer
pointer_of word = record {
  immediate = nat_le 32768 (big (take 2 word));
  id = big (take 2 word) % 32768;
  value = big (drop 2 word);
}

-- the pointer's value where it is immediate and has this id, else the value found before
abbrev pub later_value : ℕ → Option ℕ → Pointer → Option ℕ
later_value id before p = if p.immediate && (p.id == id) then Some p.value else before

-- the value of the last immediate pointer with this id, if there is one
abbrev pub last_value : ℕ → List Pointer → Option ℕ
last_value id ps = fold (later_value id) None ps

-- a pointer of the heap: neither null nor of an id from 1 to 4
abbrev pub is_own : Pointer → Bool
is_own p = nat_lt 4 p.id

-- what a packet says: counter, size if any, offset, the heap's pointers in order, and payload
pub record Parts : Type 0 where
  pub counter : ℕ
  pub size : Option ℕ
  pub offset : ℕ
  pub pointers : List Pointer
  pub payload : List ℕ

-- the bytes are those of a packet that says this
pub record Spells (bytes : List ℕ) (p : Parts) : Type 0 where
  pub reserved : List ℕ
  pub count : List ℕ
  pub words : List (List ℕ)
  pub whole : bytes ≡ (0x53 ∷ 0x04 ∷ 0x02 ∷ 0x06 ∷ [])
      ++ (reserved ++ (count ++ (flat_map (λ w. w) words ++ p.payload)))
  pub reserved_two : length reserved ≡ 2
  pub count_two : length count ≡ 2
  pub as_many : big count ≡ length words
  pub eights : AllByRecursion (λ w. length w ≡ 8) words
  pub counter : last_value 1 (map pointer_of words) ≡ Some p.counter
  pub size : last_value 2 (map pointer_of words) ≡ p.size
  pub offset : last_value 3 (map pointer_of words) ≡ Some p.offset
  pub length_said : last_value 4 (map pointer_of words) ≡ Some (length p.payload)
  pub within : IfSome p.size (λ size. p.offset + length p.payload ≤ size)
  pub own : p.pointers ≡ filter is_own (map pointer_of words)

-- so many words of eight bytes from the front
abbrev pub words_in : ℕ → List ℕ → List (List ℕ)
words_in zero bytes = []
words_in (suc n) bytes = take 8 bytes ∷ words_in n (drop 8 bytes)

-- the number of item pointers that the header says
abbrev pub pointer_count : List ℕ → ℕ
pointer_count bytes = big (take 2 (drop 6 bytes))

-- the item pointers, those that are not of the heap included
abbrev pub pointers_in : List ℕ → List Pointer
pointers_in bytes = map pointer_of (words_in (pointer_count bytes) (drop 8 bytes))

-- the bytes after the item pointers
abbrev pub payload_in : List ℕ → List ℕ
payload_in bytes = drop (8 + 8 * pointer_count bytes) bytes

-- the refusals by the header, in their order: Short, Magic, Version, Flavour, Pointers
abbrev pub front_refusal : List ℕ → Option Refusal
front_refusal bytes =
    if nat_lt (length bytes) 8 then Some Short
    else (if not (slice_index bytes 0 == 0x53) then Some Magic
    else (if not (slice_index bytes 1 == 0x04) then Some Version
    else (if not (slice_index bytes 2 == 0x02) || not (slice_index bytes 3 == 0x06) then Some Flavour
    else (if nat_lt (length bytes) (8 + 8 * pointer_count bytes) then Some Pointers
    else None))))

-- the refusals by the length: Length where the length that is claimed is not the one found, then PastHeap where the end
-- is past the size that is said
abbrev pub length_refusal : Option ℕ → ℕ → ℕ → ℕ → Option Refusal
length_refusal size offset claimed found =
    if not (claimed == found) then Some (Length claimed found)
    else (if nat_lt (unwrap_or size (offset + claimed)) (offset + claimed) then Some PastHeap
    else None)

-- the refusals by what the special pointers say, in their order: NoCounter, NoOffset, NoLength, Length, PastHeap
abbrev pub said_refusal : List Pointer → ℕ → Option Refusal
said_refusal ps found =
    if is_none (last_value 1 ps) then Some NoCounter
    else (if is_none (last_value 3 ps) then Some NoOffset
    else (if is_none (last_value 4 ps) then Some NoLength
    else length_refusal (last_value 2 ps) (unwrap_or (last_value 3 ps) 0) (unwrap_or (last_value 4 ps) 0) found))

-- the first refusal, or else the later one
abbrev pub either_row : Option Refusal → Option Refusal → Option Refusal
either_row (Some e) later = Some e
either_row None later = later

-- why the bytes spell no packet: the first refusal that applies, or none
abbrev pub refusal_of : List ℕ → Option Refusal
refusal_of bytes = either_row (front_refusal bytes) (said_refusal (pointers_in bytes) (length (payload_in bytes)))

-- what the bytes say, read at their places
abbrev pub parts_in : List ℕ → Parts
parts_in bytes = record {
  counter = unwrap_or (last_value 1 (pointers_in bytes)) 0;
  size = last_value 2 (pointers_in bytes);
  offset = unwrap_or (last_value 3 (pointers_in bytes)) 0;
  pointers = filter is_own (pointers_in bytes);
  payload = payload_in bytes;
}

-- the packet that the bytes spell, if they spell one
abbrev pub packet_in : List ℕ → Option Parts
packet_in bytes = if is_none (refusal_of bytes) then Some (parts_in bytes) else None
