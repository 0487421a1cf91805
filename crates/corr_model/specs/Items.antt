-- The items of a heap.
-- SPEAD protocol definition, version 4: immediate and addressed items; an addressed item reaches to the next item's
-- offset. The rule for two items at one offset, that the first pointer of an id counts, that a number is an immediate
-- value of all its bits or one to eight addressed bytes, and that a descriptor content that is none counts as empty, is
-- this project's own.
use Rattle.std.specs.Prelude.{ℕ, ◌+◌, min, not, ◌&&◌, ◌==◌, nat_lt, nat_le, if◌then◌else◌, List, [], length, drop, map, filter, find, fold, slice_range, Option, Some, None, option_and_then, unwrap_or}
use Rattle.std.specs.List.{list_any, enumerate_from}
use Rattle.corr_model.specs.declared.pointer.Pointer.{Pointer}
use Rattle.corr_model.specs.Packets.{big}

-- pointers over a payload: what the items of a heap are read from
pub record Group : Type 0 where
  pub pointers : List Pointer
  pub payload : List ℕ

-- the least offset above this one of an addressed pointer, or the payload's end where that comes first
abbrev pub content_end : Group → ℕ → ℕ
content_end g offset =
    fold min (length g.payload) (map (λ p. p.value) (filter (λ p. not p.immediate && nat_lt offset p.value) g.pointers))

-- the content of the pointer at a place, addressed at this offset: none past the payload's end, empty where a later
-- pointer is addressed at the same offset, else the bytes up to the next addressed offset
abbrev pub content_at : Group → ℕ → ℕ → Option (List ℕ)
content_at g place offset =
    if nat_lt (length g.payload) offset then None
    else (if list_any (λ p. not p.immediate && (p.value == offset)) (drop (place + 1) g.pointers) then Some []
    else Some (slice_range g.payload offset (content_end g offset)))

-- the content of an addressed pointer that stands at a place
abbrev pub content : Group → ℕ × Pointer → Option (List ℕ)
content g placed = content_at g placed.0 placed.1.value

-- the item of an id: the first pointer with it, and its place
abbrev pub item : ℕ → Group → Option (ℕ × Pointer)
item id g = find (λ placed. placed.1.id == id) (enumerate_from 0 g.pointers)

-- the content of an id's item, where that is addressed and has content
abbrev pub addressed_content : Group → ℕ → Option (List ℕ)
addressed_content g id = option_and_then (λ placed. if placed.1.immediate then None else content g placed) (item id g)

-- one to eight bytes as an unsigned number
abbrev pub short_number : List ℕ → Option ℕ
short_number bytes = if nat_le 1 (length bytes) && nat_le (length bytes) 8 then Some (big bytes) else None

-- the number of an id: an immediate item's value, or an addressed item's content of one to eight bytes
abbrev pub number_item : Group → ℕ → Option ℕ
number_item g id = option_and_then
    (λ placed. if placed.1.immediate then Some placed.1.value else option_and_then short_number (content g placed))
    (item id g)

-- the contents of the item descriptors, in order; one that is none counts as empty
abbrev pub descriptor_contents : Group → List (List ℕ)
descriptor_contents g =
    map (λ placed. unwrap_or (content g placed) [])
    (filter (λ placed. not placed.1.immediate && (placed.1.id == 5)) (enumerate_from 0 g.pointers))
