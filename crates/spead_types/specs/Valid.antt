-- Descriptors that can be written.
-- SPEAD protocol definition, version 4: item descriptors. The letters, the widths and the limits are this project's
-- own profile.
use Rattle.std.specs.Prelude.{◌≡◌, ℕ, ◌+◌, ◌*◌, ◌^◌, ◌<◌, ◌≤◌, true, length}
use Rattle.std.specs.List.{AllByRecursion}
use Rattle.corr_model.specs.declared.item.ItemType.{ItemType}
use Rattle.corr_model.specs.declared.item.Dim.{Dim}
use Rattle.corr_model.specs.declared.item.Dim.TheVariants.{Fixed, Variable}
use Rattle.corr_model.specs.Descriptors.{DescribedItem, is_letter}

-- a dimension that may vary, or one of a length of 48 bits
abbrev pub IsDimension : Dim → Type 0
IsDimension (Fixed n) = n < 2 ^ 48
IsDimension Variable = Unit {0}

-- a letter u, i or c, and from 1 to 64 bits
pub record IsEntry (t : ItemType) : Type 0 where
  pub letter : is_letter t.letter ≡ true
  pub some : 1 ≤ t.bits
  pub most : t.bits ≤ 64

-- a descriptor that can be written: its numbers fit, and it has at most 8 dimensions, 1 to 8 types and 64 bytes of name
pub record IsValid (d : DescribedItem) : Type 0 where
  pub id_least : 1 ≤ d.id
  pub id_most : d.id ≤ 0x7fffff
  pub few_dimensions : length d.shape ≤ 8
  pub dimensions : AllByRecursion IsDimension d.shape
  pub some_types : 1 ≤ length d.types
  pub few_types : length d.types ≤ 8
  pub types : AllByRecursion IsEntry d.types
  pub name : length d.name ≤ 64

-- the number of bytes of a descriptor that is written
abbrev pub written_bytes : DescribedItem → ℕ
written_bytes d = 72 + length d.name + 3 * length d.types + 7 * length d.shape
