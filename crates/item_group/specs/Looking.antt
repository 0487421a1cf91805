-- What a heap says by the entries of a table. This project's own.
use Rattle.std.specs.Prelude.{ℕ, Bool, ◌&&◌, ◌==◌, length, if◌then◌else◌, List, find, Option, None, option_and_then}
use Rattle.std.specs.List.{list_all}
use Rattle.corr_model.specs.declared.item.ItemType.{ItemType}
use Rattle.corr_model.specs.declared.plan.Plan.{Plan}
use Rattle.corr_model.specs.Plans.{sample_bytes}
use Rattle.corr_model.specs.Lists.{passes}
use Rattle.corr_model.specs.Descriptors.{DescribedItem}
use Rattle.corr_model.specs.Items.{Group, number_item, addressed_content}
use Rattle.corr_model.specs.Tables.{Sight, sight_of, is_unsigned_scalar, is_voltages, long_enough}
use Rattle.item_group.specs.declared.look.Sight.{Sight as SightHeld}

-- timestamp, antenna number and the bytes of the samples
abbrev pub said : SightHeld → Sight
said s = record { timestamp = s.timestamp; antenna = s.antenna; samples = s.samples.now }

-- the entry of an id
abbrev pub entry_of : List DescribedItem → ℕ → Option DescribedItem
entry_of es id = find (λ d. d.id == id) es

-- the number of an id whose entry is an unsigned number
abbrev pub number_by : List DescribedItem → Group → ℕ → Option ℕ
number_by es g id = if passes is_unsigned_scalar (entry_of es id) then number_item g id else None

-- the samples, where their entry is that of voltages
abbrev pub samples_by : Plan → List DescribedItem → Group → Option (List ℕ)
samples_by plan es g =
    if passes (is_voltages plan) (entry_of es 0x4300)
    then option_and_then (long_enough (sample_bytes plan)) (addressed_content g 0x4300)
    else None

-- what the heap says by these entries, whatever list they stand for
abbrev pub sight_by : Plan → List DescribedItem → Group → Option Sight
sight_by plan es g = sight_of (number_by es g 0x1600) (number_by es g 0x4101) (samples_by plan es g)

-- exactly one type, signed bytes
abbrev pub is_bytes : List ItemType → Bool
is_bytes types = (length types == 1) && list_all (λ t. (t.letter == 105) && (t.bits == 8)) types
