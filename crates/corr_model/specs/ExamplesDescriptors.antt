-- Descriptors and groups of the worked examples. This project's own.
use Rattle.std.specs.Prelude.{ℕ, List, [], ◌∷◌, ◌++◌, drop, map, replicate, Some, None}
use Rattle.corr_model.specs.declared.pointer.Pointer.{Pointer}
use Rattle.corr_model.specs.declared.item.ItemType.{ItemType}
use Rattle.corr_model.specs.declared.item.Dim.{Dim}
use Rattle.corr_model.specs.declared.item.Dim.TheVariants.{Fixed, Variable}
use Rattle.corr_model.specs.Items.{Group}
use Rattle.corr_model.specs.Descriptors.{DescribedItem, immediate, addressed, word_of, descriptor_bytes}
use Rattle.corr_model.specs.Tables.{item_type_of, scalar, voltages}
use Rattle.corr_model.specs.Examples.{small_plan, example_packet, first_packet, second_samples, voltage_heap, with_bytes}
use Rattle.corr_model.specs.ExamplesOutput.{missing_bytes, timestamp_bytes}
use Rattle.corr_model.specs.ExamplesVerdicts.{descriptor_heap, self_described}

-- the name `missing`
abbrev pub missing_name : List ℕ
missing_name = 109 ∷ 105 ∷ 115 ∷ 115 ∷ 105 ∷ 110 ∷ 103 ∷ []

-- `missing` as an item of these dimensions and types
abbrev pub missing_with : List Dim → List ItemType → DescribedItem
missing_with shape types = record { id = 0x1801; shape = shape; types = types; name = missing_name }

-- `missing` with three baselines: one dimension of 3, numbers of 32 bits
abbrev pub missing_three : DescribedItem
missing_three = missing_with (Fixed 3 ∷ []) (item_type_of 117 32 ∷ [])

-- `missing` with another id
abbrev pub missing_as : ℕ → DescribedItem
missing_as id = record missing_three { id = id }

-- `missing` with another type
abbrev pub missing_of_type : ℕ → ℕ → DescribedItem
missing_of_type letter bits = missing_with (Fixed 3 ∷ []) (item_type_of letter bits ∷ [])

-- `missing` with a name of so many letters a
abbrev pub named : ℕ → DescribedItem
named count = record missing_three { name = replicate count 97 }

-- the descriptor of `missing` with the offset of its shape, the last byte of its last pointer, set
abbrev pub shape_at : ℕ → List ℕ
shape_at offset = with_bytes 71 (offset ∷ []) missing_bytes

-- the descriptor of `missing` with the offset of its types, the last byte of the pointer before, set
abbrev pub types_at : ℕ → List ℕ
types_at offset = with_bytes 63 (offset ∷ []) missing_bytes

-- the descriptor of `timestamp` with the pointer of its shape before that of its types, both at offset 9
abbrev pub shape_before_types : List ℕ
shape_before_types = with_bytes 56 (word_of (addressed 0x12 9) ++ word_of (addressed 0x13 9)) timestamp_bytes

-- the own pointers of that descriptor: its id, name, types and shape
abbrev pub missing_own : List Pointer
missing_own = immediate 0x14 0x1801 ∷ addressed 0x10 0 ∷ addressed 0x13 7 ∷ addressed 0x12 10 ∷ []

-- the payload of that descriptor under these pointers, with another counter and offset and no size
abbrev pub missing_under : List Pointer → List ℕ
missing_under pointers = example_packet 9 None 5 pointers (drop 72 missing_bytes)

-- `missing` with one variable dimension
abbrev pub missing_variable : DescribedItem
missing_variable = missing_with (Variable ∷ []) (item_type_of 117 32 ∷ [])

-- `missing` with so many dimensions and types
abbrev pub missing_many : ℕ → ℕ → DescribedItem
missing_many dimensions types = missing_with (replicate dimensions (Fixed 5)) (replicate types (item_type_of 105 16))

-- a descriptor of voltages with id, name and a description in numpy's form alone
abbrev pub unreadable_voltages : List ℕ
unreadable_voltages =
    example_packet 1 (Some 3) 0 (immediate 0x14 0x4300 ∷ addressed 0x10 0 ∷ addressed 0x15 1 ∷ [])
    (118 ∷ 123 ∷ 125 ∷ [])

-- 'an unreadable redescription': its heap, and then a voltage heap
abbrev pub redescribed : List (List ℕ)
redescribed = descriptor_heap 1 (unreadable_voltages ∷ []) ∷ voltage_heap 2 0 1 second_samples ∷ []

-- voltages of these lengths and types
abbrev pub voltages_with : List ℕ → List ItemType → DescribedItem
voltages_with lengths types = record { id = 0x4300; shape = map Fixed lengths; types = types; name = [] }

-- voltages with two channels
abbrev pub wider_voltages : DescribedItem
wider_voltages = voltages_with (2 ∷ 1 ∷ 2 ∷ 2 ∷ []) (item_type_of 105 8 ∷ [])

-- the voltages described with two channels, and then again with one
abbrev pub wider_and_back : List (List ℕ)
wider_and_back = descriptor_bytes wider_voltages ∷ descriptor_bytes (voltages small_plan) ∷ []

-- the table that describes timestamp, antenna and voltages
abbrev pub voltage_table : List DescribedItem
voltage_table = scalar 0x1600 ∷ scalar 0x4101 ∷ voltages small_plan ∷ []

-- the same table with voltages of two channels
abbrev pub wider_table : List DescribedItem
wider_table = scalar 0x1600 ∷ scalar 0x4101 ∷ wider_voltages ∷ []

-- the voltages described with two channels, then `missing`, and then the voltages with one channel
abbrev pub wider_missing_and_back : List (List ℕ)
wider_missing_and_back = descriptor_bytes wider_voltages ∷ missing_bytes ∷ descriptor_bytes (voltages small_plan) ∷ []

-- pointers of id 6 in both modes, the first of them immediate
abbrev pub twice_six : Group
twice_six = record {
  pointers = immediate 5 1 ∷ immediate 6 7 ∷ addressed 6 0 ∷ immediate 6 8 ∷ [];
  payload = 9 ∷ [];
}

-- pointers of id 6 in both modes, the first of them addressed
abbrev pub six_addressed : Group
six_addressed = record { pointers = addressed 6 0 ∷ immediate 6 8 ∷ []; payload = 9 ∷ [] }

-- three addressed descriptor pointers, the last of them past the end, and an immediate one
abbrev pub four_descriptors : Group
four_descriptors = record {
  pointers = addressed 5 0 ∷ immediate 5 1 ∷ addressed 5 2 ∷ addressed 5 9 ∷ [];
  payload = 1 ∷ 2 ∷ 3 ∷ [];
}

-- the voltages described with two channels, and then a voltage heap of one
abbrev pub wider_then_one : List (List ℕ)
wider_then_one = descriptor_heap 7 (descriptor_bytes wider_voltages ∷ []) ∷ first_packet ∷ []

-- four bytes under two items at offset 0 and one at offset 2, with others at the end and past it, and immediate values
-- that are no offsets
abbrev pub shared_offsets : Group
shared_offsets = record {
  pointers =
      addressed 0x2000 0
      ∷ immediate 0x2001 1
      ∷ addressed 0x2002 0
      ∷ addressed 0x2003 2
      ∷ addressed 0x2004 4
      ∷ addressed 0x2005 5
      ∷ immediate 0x2006 2
      ∷ [];
  payload = 10 ∷ 11 ∷ 12 ∷ 13 ∷ [];
}

-- the voltages described with two channels, and then a heap that brings its own three descriptors with its samples
abbrev pub wider_then_own : List (List ℕ)
wider_then_own = descriptor_heap 7 (descriptor_bytes wider_voltages ∷ []) ∷ self_described ∷ []

-- `missing` with no dimension and no name
abbrev pub missing_bare : DescribedItem
missing_bare = record missing_three { shape = []; name = [] }

-- a dimension of six bytes, all different
abbrev pub long_dimension : List ℕ
long_dimension = 0 ∷ 1 ∷ 2 ∷ 3 ∷ 4 ∷ 5 ∷ 6 ∷ []
