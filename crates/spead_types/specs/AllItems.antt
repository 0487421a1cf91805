-- The items of a packet, said of all its pointers, those that stand there again included. This project's own.
use Rattle.std.specs.Prelude.{ℕ, ◌+◌, Bool, not, ◌&&◌, ◌==◌, nat_lt, if◌then◌else◌, List, [], length, take, drop, slice_range, Option, Some, None, option_and_then}
use Rattle.std.specs.List.{list_any}
use Rattle.corr_model.specs.declared.pointer.Pointer.{Pointer}
use Rattle.corr_model.specs.Packets.{Parts}
use Rattle.corr_model.specs.Assembly.{are_same}
use Rattle.corr_model.specs.Items.{Group, content_end, item, short_number}

-- all pointers of a packet over its payload
abbrev pub all_group : Parts → Group
all_group p = record { pointers = p.pointers; payload = p.payload }

-- the pointer is addressed at this offset
abbrev pub is_addressed_at : ℕ → Pointer → Bool
is_addressed_at offset q = not q.immediate && (q.value == offset)

-- one of the pointers up to this place is the same
abbrev pub stands_by : List Pointer → ℕ → Pointer → Bool
stands_by ps place q = list_any (are_same q) (take (place + 1) ps)

-- the pointer is addressed at this offset, and none up to this place is the same
abbrev pub is_new_at : List Pointer → ℕ → ℕ → Pointer → Bool
is_new_at ps place offset q = is_addressed_at offset q && not (stands_by ps place q)

-- a pointer behind this place is addressed at the offset, and none up to the place is the same
abbrev pub is_shared : List Pointer → ℕ → ℕ → Bool
is_shared ps place offset = list_any (is_new_at ps place offset) (drop (place + 1) ps)

-- the content of the pointer at a place, addressed at this offset: none past the payload's end, empty where a new
-- pointer behind it is addressed at the same offset, else the bytes up to the next addressed offset
abbrev pub all_content_at : Group → ℕ → ℕ → Option (List ℕ)
all_content_at g place offset =
    if nat_lt (length g.payload) offset then None
    else (if is_shared g.pointers place offset then Some []
    else Some (slice_range g.payload offset (content_end g offset)))

-- the content of an id's item, where that is addressed and has content
abbrev pub all_addressed : Group → ℕ → Option (List ℕ)
all_addressed g id =
    option_and_then (λ placed. if placed.1.immediate then None else all_content_at g placed.0 placed.1.value)
    (item id g)

-- the number of an id: an immediate item's value, or an addressed item's content of one to eight bytes
abbrev pub all_number : Group → ℕ → Option ℕ
all_number g id =
    option_and_then (λ placed. if placed.1.immediate then Some placed.1.value
    else option_and_then short_number (all_content_at g placed.0 placed.1.value)) (item id g)
