-- What a table of TOML says of a setting, and the first reason why it is refused. This project's own.
use Rattle.std.specs.Prelude.{ℕ, ◌-◌, ◌+◌, ◌*◌, ◌^◌, ◌%◌, ◌==◌, ℤ, pos, Bool, false, ◌&&◌, not, nat_le, nat_lt, int_le, List, [], ◌∷◌, map, filter, length, Option, Some, None, is_some, unsigned_abs, option_map, option_and_then, unwrap_or, bytes_eq, if◌then◌else◌}
use Rattle.std.specs.List.{list_all, list_any}
use Rattle.std.specs.Option.{option_or}
use Rattle.std.specs.Ordering.{nat_cmp, is_lt}
use Rattle.std.specs.Cmp.Lexicographic.{slice_cmp}
use Rattle.toml.specs.Data.{Data, Items, no_items, item, Members, no_members, member, get_member, as_str, as_integer, as_bool, as_array}
use Rattle.corr_model.specs.declared.plan.Plan.{Plan}
use Rattle.corr_model.specs.Plans.{reserved, sample_bytes}
use Rattle.corr_settings.specs.declared.key.Key.{Key}
use Rattle.corr_settings.specs.declared.key.Key.TheVariants.{Antennas, Channels, Spectra, Heaps, Step, Start, Accumulations, Lag, Leap, Window, Slots, Workers, Packet, HeapLimit, PacketLimit, Preset, Inputs}
use Rattle.corr_settings.specs.declared.key.Rule.{Rule}
use Rattle.corr_settings.specs.declared.key.Rule.TheVariants.{Integer, Eights, Boolean, Strings, OneString}
use Rattle.corr_settings.specs.declared.key.Need.{Need}
use Rattle.corr_settings.specs.declared.key.Need.TheVariants.{Required, Optional}
use Rattle.corr_settings.specs.declared.refusal.SetRefusal.{SetRefusal}
use Rattle.corr_settings.specs.declared.refusal.SetRefusal.TheVariants.{Missing, Kind, Range, TooLarge}
use Rattle.corr_settings.specs.declared.rows.Test.{Test}
use Rattle.corr_settings.specs.declared.rows.Test.TheVariants.{IsGiven, HasKind, IsInRange}
use Rattle.corr_settings.specs.Table.{Row, key_name, settings_rows}

-- the first refusal of some rows
abbrev pub first_of : {R E : Type 0} → (R → Option E) → List R → Option E
first_of f [] = None
first_of f (r ∷ rs) = option_or (f r) (first_of f rs)

-- the value at a key
abbrev pub value_at : Members → Key → Option Data
value_at ms key = get_member (key_name key) ms

-- the items of an array as a list
abbrev pub list_of : Items → List Data
list_of no_items = []
list_of (item d ds) = d ∷ list_of ds

-- the value is a string
abbrev pub is_string : Data → Bool
is_string d = is_some (as_str d)

-- the values of an array; none of what is no array
abbrev pub values_in : Data → List Data
values_in d = unwrap_or (option_map list_of (as_array d)) []

-- the value is of the kind that the rule asks
abbrev pub has_kind : Rule → Data → Bool
has_kind (Integer least most) d = is_some (as_integer d)
has_kind (Eights least most) d = is_some (as_integer d)
has_kind Boolean d = is_some (as_bool d)
has_kind Strings d = is_some (as_array d) && list_all is_string (values_in d)
has_kind OneString d = is_string d

-- an integer that is not in the range
abbrev pub out_of : ℕ → ℕ → ℤ → Option ℤ
out_of least most z = if int_le (pos least) z && int_le z (pos most) then None else Some z

-- an integer that is not in the range or no multiple of 8
abbrev pub out_of_eights : ℕ → ℕ → ℤ → Option ℤ
out_of_eights least most z =
    if int_le (pos least) z && int_le z (pos most) && (unsigned_abs z % 8 == 0) then None else Some z

-- the length of a string that has not 1 to 4,096 bytes
abbrev pub bad_length : Data → Option ℤ
bad_length d = option_and_then
    (λ s. if nat_le 1 (length s) && nat_le (length s) 4096 then None else Some (pos (length s))) (as_str d)

-- the value, or its length, where it is not in the range that the rule allows
abbrev pub out_of_range : Rule → Data → Option ℤ
out_of_range (Integer least most) d = option_and_then (out_of least most) (as_integer d)
out_of_range (Eights least most) d = option_and_then (out_of_eights least most) (as_integer d)
out_of_range Boolean d = None
out_of_range Strings d = first_of bad_length (values_in d)
out_of_range OneString d = bad_length d

-- the refusal of a setting that must be given
abbrev pub if_required : {E : Type 0} → Need → E → Option E
if_required Required e = Some e
if_required Optional e = None

-- why a setting with this value, or with none, fails a test, if it does
abbrev pub value_refusal : Test → Row → Option Data → Option SetRefusal
value_refusal IsGiven r None = if_required r.2 (Missing r.0)
value_refusal IsGiven r (Some d) = None
value_refusal HasKind r None = None
value_refusal HasKind r (Some d) = if has_kind r.1 d then None else Some (Kind r.0)
value_refusal IsInRange r None = None
value_refusal IsInRange r (Some d) = option_map (λ z. Range r.0 z) (out_of_range r.1 d)

-- why a setting fails a test, if it does
abbrev pub row_refusal : Test → Members → Row → Option SetRefusal
row_refusal test ms r = value_refusal test r (value_at ms r.0)

-- the first refusal of a setting by itself: all must be given, then of their kinds, then in their ranges
abbrev pub rows_refusal : Members → Option SetRefusal
rows_refusal ms =
    option_or (first_of (row_refusal IsGiven ms) settings_rows)
    (option_or (first_of (row_refusal HasKind ms) settings_rows)
    (first_of (row_refusal IsInRange ms) settings_rows))

-- the key is one of the table
abbrev pub is_known : List ℕ → Bool
is_known name = list_any (λ r. bytes_eq name (key_name r.0)) settings_rows

-- the keys of a table
abbrev pub keys_in : Members → List (List ℕ)
keys_in no_members = []
keys_in (member name d ms) = name ∷ keys_in ms

-- of a key and another one, if that is there, the one that comes first by its bytes
abbrev pub earlier : List ℕ → Option (List ℕ) → Option (List ℕ)
earlier name None = Some name
earlier name (Some other) = if is_lt (slice_cmp nat_cmp name other) then Some name else Some other

-- the least of some keys by their bytes, if there are any
abbrev pub least_of : List (List ℕ) → Option (List ℕ)
least_of [] = None
least_of (name ∷ names) = earlier name (least_of names)

-- the least key that is no setting, if there is one
abbrev pub first_unknown : Members → Option (List ℕ)
first_unknown ms = least_of (filter (λ name. not (is_known name)) (keys_in ms))

-- the number that an integer is, or the default where there is none
abbrev pub number_or : Option ℤ → ℕ → ℕ
number_or None default = default
number_or (Some (pos n)) default = n
number_or (Some z) default = default

-- the number at a key, or its default
abbrev pub number_at : Members → Key → ℕ → ℕ
number_at ms key default = number_or (option_and_then as_integer (value_at ms key)) default

-- the boolean at a key; false is the default
abbrev pub boolean_at : Members → Key → Bool
boolean_at ms key = unwrap_or (option_and_then as_bool (value_at ms key)) false

-- the string at a key
abbrev pub string_at : Members → Key → List ℕ
string_at ms key = unwrap_or (option_and_then as_str (value_at ms key)) []

-- the string that a value is
abbrev pub string_of : Data → List ℕ
string_of d = unwrap_or (as_str d) []

-- the values of the array at a key
abbrev pub values_at : Members → Key → List Data
values_at ms key = unwrap_or (option_map values_in (value_at ms key)) []

-- the strings of the array at a key
abbrev pub strings_at : Members → Key → List (List ℕ)
strings_at ms key = map string_of (values_at ms key)

-- the default of the heap limit: the bytes of a heap's samples and 4,096
abbrev pub default_limit : Members → ℕ
default_limit ms = 4 * number_at ms Channels 0 * number_at ms Spectra 0 + 4096

-- the plan of the settings, with the defaults of those that are not given
abbrev pub plan_of : Members → Plan
plan_of ms = record {
  antennas = number_at ms Antennas 0;
  channels = number_at ms Channels 0;
  spectra = number_at ms Spectra 0;
  heaps = number_at ms Heaps 0;
  step = number_at ms Step 0;
  start = number_at ms Start 0;
  accumulations = number_at ms Accumulations 0;
  lag = number_at ms Lag 2;
  leap = number_at ms Leap 0;
  window = number_at ms Window 8;
  slots = number_at ms Slots 4;
  workers = number_at ms Workers 1;
  packet = number_at ms Packet 1024;
  heap_limit = number_at ms HeapLimit (default_limit ms);
  packet_limit = number_at ms PacketLimit (2 ^ 40);
  preset = boolean_at ms Preset;
  beams = 0;
}

-- the first joint rule that a plan and its number of inputs break
abbrev pub joint_refusal : Plan → ℕ → Option SetRefusal
joint_refusal p inputs =
    if nat_lt 1048576 (sample_bytes p) then Some (Range Spectra (pos p.spectra))
    else (if nat_lt (2 ^ 48 - 1) (p.start + p.accumulations * p.heaps * p.step) then Some (Range Step (pos p.step))
    else (if nat_lt p.heap_limit (sample_bytes p) then Some (Range HeapLimit (pos p.heap_limit))
    else (if not (inputs == p.antennas) then Some (Range Inputs (pos inputs))
    else None)))

-- a plan that reserves more than 2^30 bytes
abbrev pub memory_refusal : Plan → Option SetRefusal
memory_refusal p = if nat_lt (2 ^ 30) (reserved p) then Some (TooLarge (reserved p)) else None
