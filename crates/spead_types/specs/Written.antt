-- The payload and the own item pointers of a descriptor that is written. This project's own.
use Rattle.std.specs.Prelude.{ℕ, ◌+◌, ◌*◌, List, [], ◌∷◌, ◌++◌, length}
use Rattle.std.specs.List.{flat_map}
use Rattle.corr_model.specs.declared.pointer.Pointer.{Pointer}
use Rattle.corr_model.specs.Descriptors.{DescribedItem, immediate, addressed, type_bytes, dimension_bytes}

-- name, types and shape, one after another
abbrev pub payload_bytes : DescribedItem → List ℕ
payload_bytes d = d.name ++ (flat_map type_bytes d.types ++ flat_map dimension_bytes d.shape)

-- the id, and where name, types and shape stand in the payload
abbrev pub own_pointers : DescribedItem → List Pointer
own_pointers d =
    immediate 0x14 d.id ∷ addressed 0x10 0 ∷ addressed 0x13 (length d.name)
    ∷ addressed 0x12 (length d.name + 3 * length d.types) ∷ []
