-- What a heap's descriptors do to a table, one by one. This project's own.
use Rattle.std.specs.Prelude.{ℕ, ◌+◌, Bool, not, ◌&&◌, ◌==◌, if◌then◌else◌, List, [], Option, Some, None, Result, Ok, Err, unwrap_or}
use Rattle.corr_model.specs.declared.pointer.Pointer.{Pointer}
use Rattle.corr_model.specs.declared.item.DescRefusal.{DescRefusal}
use Rattle.corr_model.specs.Descriptors.{DescribedItem}
use Rattle.corr_model.specs.Items.{Group, content}
use Rattle.corr_model.specs.Tables.{is_full_for}
use Rattle.item_group.specs.declared.applied.Applied.{Applied}
use Rattle.item_group.specs.declared.applied.Taken.{Taken}
use Rattle.item_group.specs.declared.applied.Taken.TheVariants.{Changed, Refused, Full}

-- the counts with one descriptor more
abbrev pub with_taken : Applied → Taken → Applied
with_taken a Changed = record { changed = a.changed + 1; refused = a.refused; full = a.full }
with_taken a Refused = record { changed = a.changed; refused = a.refused + 1; full = a.full }
with_taken a Full = record { changed = a.changed; refused = a.refused; full = a.full + 1 }

-- what becomes of a content, read so, in a table with these ids
abbrev pub taken_as : List ℕ → Result DescribedItem DescRefusal → Taken
taken_as ids (Err e) = Refused
taken_as ids (Ok d) = if is_full_for ids d.id then Full else Changed

-- an addressed pointer with id 5
abbrev pub is_descriptor : ℕ × Pointer → Bool
is_descriptor placed = not placed.1.immediate && (placed.1.id == 5)

-- the content of a descriptor at its place, or nothing
abbrev pub own_content : Group → ℕ × Pointer → List ℕ
own_content g placed = unwrap_or (content g placed) []

-- the content of the pointer at a place, where that is a descriptor's
abbrev pub descriptor_at : Group → ℕ × Pointer → Option (List ℕ)
descriptor_at g placed = if is_descriptor placed then Some (own_content g placed) else None
