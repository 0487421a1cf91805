-- The descriptor table of a stream, and what a readable heap says.
-- SPEAD protocol definition, version 4: items are described in the stream itself, and a later descriptor counts from
-- then on. The item ids of voltages, their shape, the preset, the limit of 64 ids, and that a heap's own descriptors
-- count for it, are this project's own.
use Rattle.std.specs.Prelude.{◌≡◌, ℕ, ◌-◌, Bool, true, false, not, ◌&&◌, ◌==◌, nat_le, if◌then◌else◌, List, [], ◌∷◌, ◌++◌, length, take, map, filter, find, count_by, Option, Some, None, option_and_then, IsSome, Result, Ok, Err}
use Rattle.std.specs.Result.{result_ok}
use Rattle.std.specs.List.{filter_map, list_any, list_all}
use Rattle.corr_model.specs.declared.plan.Plan.{Plan}
use Rattle.corr_model.specs.declared.item.ItemType.{ItemType}
use Rattle.corr_model.specs.declared.item.Dim.{Dim}
use Rattle.corr_model.specs.declared.item.Dim.TheVariants.{Fixed, Variable}
use Rattle.corr_model.specs.Plans.{sample_bytes}
use Rattle.corr_model.specs.declared.item.DescRefusal.{DescRefusal}
use Rattle.corr_model.specs.Lists.{fronts, distinct, last_one, passes}
use Rattle.corr_model.specs.Items.{Group, number_item, addressed_content}
use Rattle.corr_model.specs.Descriptors.{DescribedItem, described_in}

-- a type of a letter and a width
abbrev pub item_type_of : ℕ → ℕ → ItemType
item_type_of letter bits = record { letter = letter; bits = bits }

-- an unsigned number of 48 bits, with no dimension
abbrev pub scalar : ℕ → DescribedItem
scalar id = record { id = id; shape = []; types = item_type_of 117 48 ∷ []; name = [] }

-- voltages: signed bytes by channel, spectrum, polarisation, real and imaginary part
abbrev pub voltages : Plan → DescribedItem
voltages plan = record {
  id = 0x4300;
  shape = Fixed plan.channels ∷ Fixed plan.spectra ∷ Fixed 2 ∷ Fixed 2 ∷ [];
  types = item_type_of 105 8 ∷ [];
  name = [];
}

-- what a plan describes beforehand: timestamp, antenna and voltages, or nothing
abbrev pub preset : Plan → List DescribedItem
preset plan = if plan.preset then scalar 0x1600 ∷ scalar 0x4101 ∷ voltages plan ∷ [] else []

-- the descriptors that count, the preset's first and then the readable ones among these contents
abbrev pub readable_descriptors : Plan → List (List ℕ) → List DescribedItem
readable_descriptors plan contents = preset plan ++ filter_map (λ c. result_ok (described_in c)) contents

-- the ids of the table: the first 64 distinct ones
abbrev pub table_ids : List DescribedItem → List ℕ
table_ids ds = take 64 (distinct (λ x y. x == y) (map (λ d. d.id) ds))

-- the entry of an id in the table, if it has one: the last descriptor of it
abbrev pub table_entry : List DescribedItem → ℕ → Option DescribedItem
table_entry ds id = if list_any (λ x. x == id) (table_ids ds) then last_one (filter (λ d. d.id == id) ds) else None

-- no dimension, and exactly one type, an unsigned one
abbrev pub is_unsigned_scalar : DescribedItem → Bool
is_unsigned_scalar d = (length d.shape == 0) && (length d.types == 1) && list_all (λ t. t.letter == 117) d.types

-- a fixed dimension of this length
abbrev pub is_fixed : ℕ → Dim → Bool
is_fixed n Variable = false
is_fixed n (Fixed m) = n == m

-- these lengths, all fixed
abbrev pub has_shape : List ℕ → List Dim → Bool
has_shape [] [] = true
has_shape [] (d ∷ ds) = false
has_shape (n ∷ ns) [] = false
has_shape (n ∷ ns) (d ∷ ds) = is_fixed n d && has_shape ns ds

-- the shape [F, S, 2, 2], all fixed, and exactly one type, i8
abbrev pub is_voltages : Plan → DescribedItem → Bool
is_voltages plan d =
    has_shape (plan.channels ∷ plan.spectra ∷ 2 ∷ 2 ∷ []) d.shape && (length d.types == 1)
    && list_all (λ t. (t.letter == 105) && (t.bits == 8)) d.types

-- what a readable heap says: timestamp, antenna number and samples
pub record Sight : Type 0 where
  pub timestamp : ℕ
  pub antenna : ℕ
  pub samples : List ℕ

-- the first n bytes, where there are so many
abbrev pub long_enough : ℕ → List ℕ → Option (List ℕ)
long_enough n bytes = if nat_le n (length bytes) then Some (take n bytes) else None

-- the number of an id that is described as an unsigned number
abbrev pub described_number : List DescribedItem → Group → ℕ → Option ℕ
described_number ds g id = if passes is_unsigned_scalar (table_entry ds id) then number_item g id else None

-- the samples: the first bytes of the voltages, where these are described and long enough
abbrev pub samples : Plan → List DescribedItem → Group → Option (List ℕ)
samples plan ds g =
    if passes (is_voltages plan) (table_entry ds 0x4300)
    then option_and_then (long_enough (sample_bytes plan)) (addressed_content g 0x4300)
    else None

-- all three, or none where one is none
abbrev pub sight_of : Option ℕ → Option ℕ → Option (List ℕ) → Option Sight
sight_of (Some timestamp) (Some antenna) (Some samples) =
    Some (record { timestamp = timestamp; antenna = antenna; samples = samples })
sight_of (Some timestamp) (Some antenna) None = None
sight_of (Some timestamp) None samples = None
sight_of None antenna samples = None

-- what a heap says by these descriptors, where it is readable
abbrev pub sight : Plan → List DescribedItem → Group → Option Sight
sight plan ds g = sight_of (described_number ds g 0x1600) (described_number ds g 0x4101) (samples plan ds g)

-- the heap is described so that its samples can be read
abbrev pub Readable : Plan → List DescribedItem → Group → Type 0
Readable plan ds g = IsSome (sight plan ds g)

-- with these ids a table has no room for this one: it would be the 65th
abbrev pub is_full_for : List ℕ → ℕ → Bool
is_full_for ids id = nat_le 64 (length ids) && not (list_any (λ x. x == id) ids)

-- what is read of a content changes nothing in a table with these ids: it is refused, or its id would be the 65th
abbrev pub is_bad_among : List ℕ → Result DescribedItem DescRefusal → Bool
is_bad_among ids (Err refusal) = true
is_bad_among ids (Ok d) = is_full_for ids d.id

-- the content that follows these is bad
abbrev pub is_bad_after : Plan → List (List ℕ) → List ℕ → Bool
is_bad_after plan before c = is_bad_among (table_ids (readable_descriptors plan before)) (described_in c)

-- the last of these contents is bad
abbrev pub ends_bad : Plan → List (List ℕ) → Bool
ends_bad plan front = passes (is_bad_after plan (take (length front - 1) front)) (last_one front)

-- the number of bad descriptors among these contents
abbrev pub bad_count : Plan → List (List ℕ) → ℕ
bad_count plan contents = count_by (ends_bad plan) (fronts contents)

-- the table stands for these contents: it has an entry for each id that counts, in order, and it is the last of that id
pub record TableStandsFor (plan : Plan) (entries : List DescribedItem) (contents : List (List ℕ)) : Type 0 where
  pub ids : map (λ d. d.id) entries ≡ table_ids (readable_descriptors plan contents)
  pub each : (id : ℕ) → find (λ d. d.id == id) entries ≡ table_entry (readable_descriptors plan contents) id
