-- The lines of `decode`. Each ends with a line feed. This project's own.
use Rattle.std.specs.Prelude.{ℕ, List, ◌++◌, get_or, codes}
use Rattle.std.specs.Fmt.{decimal, signed_decimal}
use Rattle.corr_model.specs.Outputs.{pairs}
use Rattle.corr_model.specs.Visibilities.{Complex}
use Rattle.vis_read.specs.declared.cause.ReadCause.{ReadCause}
use Rattle.vis_read.specs.declared.cause.ReadCause.TheVariants.{Packet, AfterStop, Unfinished, Dropped, Descriptor, Form, NoStop}
use Rattle.vis_read.specs.Readings.{View, value_at, missing_at}

-- the line on a visibility heap: the number of its accumulation and its timestamp
abbrev pub heap_text : View → List ℕ
heap_text v = codes "heap " ++ decimal v.number ++ codes " timestamp " ++ decimal v.timestamp ++ codes "\n"

-- the antennas of a baseline: of all pairs in the order of their numbers, the one at that place
abbrev pub pair_of : ℕ → ℕ × ℕ
pair_of baseline = get_or (pairs 64) baseline (0, 0)

-- the line on a baseline of these antennas, with a missing count
abbrev pub antennas_text : ℕ × ℕ → ℕ → List ℕ
antennas_text pair missing =
    codes "baseline " ++ decimal pair.0 ++ codes " " ++ decimal pair.1 ++ codes " missing "
    ++ decimal missing ++ codes "\n"

-- the line on a baseline: its two antennas and its missing count
abbrev pub baseline_text : View → ℕ → List ℕ
baseline_text v baseline = antennas_text (pair_of baseline) (missing_at v baseline)

-- a value: its real and its imaginary part, each behind a blank
abbrev pub value_text : Complex → List ℕ
value_text z = codes " " ++ signed_decimal z.real ++ codes " " ++ signed_decimal z.imaginary

-- the values of the four products
abbrev pub products_text : View → ℕ → ℕ → List ℕ
products_text v channel baseline =
    value_text (value_at v channel baseline 0)
    ++ value_text (value_at v channel baseline 1)
    ++ value_text (value_at v channel baseline 2)
    ++ value_text (value_at v channel baseline 3)

-- the line on a channel of a baseline: its number, and the values of the four products
abbrev pub channel_text : View → ℕ → ℕ → List ℕ
channel_text v channel baseline = decimal channel ++ products_text v channel baseline ++ codes "\n"

-- the line on the stop heap
abbrev pub stop_text : List ℕ
stop_text = codes "stop\n"

-- the name of a cause, without what it carries
abbrev pub cause_name : ReadCause → List ℕ
cause_name (Packet refusal) = codes "Packet"
cause_name AfterStop = codes "AfterStop"
cause_name (Unfinished counter) = codes "Unfinished"
cause_name (Dropped cause) = codes "Dropped"
cause_name (Descriptor refusal) = codes "Descriptor"
cause_name (Form counter) = codes "Form"
cause_name NoStop = codes "NoStop"
