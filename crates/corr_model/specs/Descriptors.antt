-- Item descriptors, read and written.
-- SPEAD protocol definition, version 4: an item descriptor is a packet with items for name, shape, type and id. The
-- letters, the widths, the entry sizes and the limits are this project's own profile.
use Rattle.std.specs.Prelude.{ℕ, zero, suc, ◌+◌, ◌/◌, ◌%◌, Bool, true, false, not, ◌&&◌, ◌||◌, ◌==◌, nat_lt, nat_le, if◌then◌else◌, List, [], ◌∷◌, ◌++◌, length, take, drop, map, slice_index, Option, Some, None, unwrap_or, Result, Ok, Err}
use Rattle.std.specs.Int.{bytes_high_first}
use Rattle.std.specs.List.{flat_map, list_all}
use Rattle.corr_model.specs.declared.pointer.Pointer.{Pointer}
use Rattle.corr_model.specs.declared.pointer.Refusal.{Refusal}
use Rattle.corr_model.specs.declared.item.ItemType.{ItemType}
use Rattle.corr_model.specs.declared.item.Dim.{Dim}
use Rattle.corr_model.specs.declared.item.Dim.TheVariants.{Fixed, Variable}
use Rattle.corr_model.specs.declared.item.DescRefusal.{DescRefusal}
use Rattle.corr_model.specs.declared.item.DescRefusal.TheVariants.{NoId, ShapeBytes, TypeBytes, NoType, Letter, Bits, TooMany, Packet}
use Rattle.corr_model.specs.Lists.{distinct}
use Rattle.corr_model.specs.Packets.{Parts, big, parts_in, refusal_of}
use Rattle.corr_model.specs.Assembly.{are_same}
use Rattle.corr_model.specs.Items.{Group, addressed_content, number_item}

-- what a descriptor says of an item: its id, its shape, its types and its name
pub record DescribedItem : Type 0 where
  pub id : ℕ
  pub shape : List Dim
  pub types : List ItemType
  pub name : List ℕ

-- so many pieces of so many bytes
abbrev pub pieces : ℕ → ℕ → List ℕ → List (List ℕ)
pieces width zero bytes = []
pieces width (suc n) bytes = take width bytes ∷ pieces width n (drop width bytes)

-- seven bytes as a dimension: bit 0 of the first says variable, else the length follows
abbrev pub dimension : List ℕ → Dim
dimension entry = if slice_index entry 0 % 2 == 1 then Variable else Fixed (big (drop 1 entry))

-- three bytes as a type: a letter and a width in bits
abbrev pub item_type : List ℕ → ItemType
item_type entry = record { letter = slice_index entry 0; bits = big (drop 1 entry) }

-- u, i or c
abbrev pub is_letter : ℕ → Bool
is_letter c = (c == 117) || (c == 105) || (c == 99)

-- the refusals after that of the packet, the first that applies: NoId, ShapeBytes, TypeBytes, NoType, Letter, Bits,
-- TooMany
abbrev pub form_refusal : Option ℕ → ℕ → ℕ → List ItemType → Option DescRefusal
form_refusal id shape_bytes type_bytes types =
    if not (nat_le 1 (unwrap_or id 0) && nat_le (unwrap_or id 0) 0x7fffff) then Some NoId
    else (if not (shape_bytes % 7 == 0) then Some ShapeBytes
    else (if not (type_bytes % 3 == 0) then Some TypeBytes
    else (if type_bytes == 0 then Some NoType
    else (if not (list_all (λ t. is_letter t.letter) types) then Some Letter
    else (if not (list_all (λ t. nat_le 1 t.bits && nat_le t.bits 64) types) then Some Bits
    else (if nat_lt 56 shape_bytes || nat_lt 24 type_bytes then Some TooMany
    else None))))))

-- the refusal, if there is one, else the described item
abbrev pub or_refused : Option DescRefusal → DescribedItem → Result DescribedItem DescRefusal
or_refused None d = Ok d
or_refused (Some e) d = Err e

-- the types that bytes of three each are
abbrev pub types_of : List ℕ → List ItemType
types_of bytes = map item_type (pieces 3 (length bytes / 3) bytes)

-- the dimensions that bytes of seven each are
abbrev pub shape_of : List ℕ → List Dim
shape_of bytes = map dimension (pieces 7 (length bytes / 7) bytes)

-- a descriptor's own items: the distinct pointers of its packet over its payload
abbrev pub own_group : Parts → Group
own_group p = record { pointers = distinct are_same p.pointers; payload = p.payload }

-- the content of an id's addressed item, or nothing
abbrev pub bytes_of : Group → ℕ → List ℕ
bytes_of g id = unwrap_or (addressed_content g id) []

-- id, shape, types and the first 64 bytes of the name, or why they are none
abbrev pub read_group : Group → Result DescribedItem DescRefusal
read_group g =
    or_refused (form_refusal (number_item g 0x14) (length (bytes_of g 0x12)) (length (bytes_of g 0x13))
    (types_of (bytes_of g 0x13)))
    (record {
      id = unwrap_or (number_item g 0x14) 0;
      shape = shape_of (bytes_of g 0x12);
      types = types_of (bytes_of g 0x13);
      name = take 64 (bytes_of g 0x10);
    })

-- refused as a packet where that has a refusal, else what the packet says of an item
abbrev pub read_unless : Option Refusal → List ℕ → Result DescribedItem DescRefusal
read_unless (Some e) bytes = Err (Packet e)
read_unless None bytes = read_group (own_group (parts_in bytes))

-- the descriptor that a content is, or why it is none
abbrev pub described_in : List ℕ → Result DescribedItem DescRefusal
described_in bytes = read_unless (refusal_of bytes) bytes

-- a pointer as eight bytes
abbrev pub word_of : Pointer → List ℕ
word_of p = bytes_high_first 2 ((if p.immediate then 32768 else 0) + p.id) ++ bytes_high_first 6 p.value

-- an immediate pointer
abbrev pub immediate : ℕ → ℕ → Pointer
immediate id value = record { immediate = true; id = id; value = value }

-- an addressed pointer
abbrev pub addressed : ℕ → ℕ → Pointer
addressed id offset = record { immediate = false; id = id; value = offset }

-- the packet of these pointers and this payload, with reserved bytes of 0
abbrev pub packet_bytes : List Pointer → List ℕ → List ℕ
packet_bytes pointers payload =
    (0x53 ∷ 0x04 ∷ 0x02 ∷ 0x06 ∷ 0 ∷ 0 ∷ [])
    ++ (bytes_high_first 2 (length pointers) ++ (flat_map word_of pointers ++ payload))

-- a heap size as a pointer, where one is said
abbrev pub size_pointers : Option ℕ → List Pointer
size_pointers None = []
size_pointers (Some size) = immediate 2 size ∷ []

-- the pointers that say where a packet's payload belongs: counter, size if said, offset, and how many bytes it has
abbrev pub special_pointers : ℕ → Option ℕ → ℕ → ℕ → List Pointer
special_pointers counter size offset bytes =
    immediate 1 counter ∷ (size_pointers size ++ (immediate 3 offset ∷ immediate 4 bytes ∷ []))

-- a type as three bytes
abbrev pub type_bytes : ItemType → List ℕ
type_bytes t = t.letter ∷ bytes_high_first 2 t.bits

-- a dimension as seven bytes; a variable one has length 0
abbrev pub dimension_bytes : Dim → List ℕ
dimension_bytes (Fixed n) = 0 ∷ bytes_high_first 6 n
dimension_bytes Variable = 1 ∷ bytes_high_first 6 0

-- a packet with this id as an immediate item, and with name, types and shape as addressed items
abbrev pub descriptor_packet : ℕ → List ℕ → List ℕ → List ℕ → List ℕ
descriptor_packet id name types shape =
    let size = length name + length types + length shape in
    packet_bytes
    (immediate 1 1 ∷ immediate 2 size ∷ immediate 3 0 ∷ immediate 4 size ∷ immediate 0x14 id ∷ addressed 0x10 0
    ∷ addressed 0x13 (length name)
    ∷ addressed 0x12 (length name + length types) ∷ [])
    (name ++ (types ++ shape))

-- a descriptor as a packet: name, types and shape as addressed items, the id as an immediate one
abbrev pub descriptor_bytes : DescribedItem → List ℕ
descriptor_bytes d = descriptor_packet d.id d.name (flat_map type_bytes d.types) (flat_map dimension_bytes d.shape)
