-- The settings that the numbers of a command line give, and the first reason why they are refused. This project's own.
use Rattle.std.specs.Prelude.{ℕ, ◌+◌, ◌-◌, ◌*◌, ◌^◌, pos, min, true, nat_lt, Option, Some, None, Result, if◌then◌else◌}
use Rattle.std.specs.Option.{option_or}
use Rattle.toml.specs.Data.{Data, integer}
use Rattle.corr_model.specs.declared.plan.Plan.{Plan}
use Rattle.corr_model.specs.Plans.{IsWithin}
use Rattle.corr_settings.specs.declared.key.Key.{Key}
use Rattle.corr_settings.specs.declared.key.Key.TheVariants.{Antennas, Channels, Spectra, Heaps, Accumulations}
use Rattle.corr_settings.specs.declared.plain.PlainNumbers.{PlainNumbers}
use Rattle.corr_settings.specs.declared.refusal.SetRefusal.{SetRefusal}
use Rattle.corr_settings.specs.declared.refusal.SetRefusal.TheVariants.{Range}
use Rattle.corr_settings.specs.declared.rows.Test.TheVariants.{IsInRange}
use Rattle.corr_settings.specs.Table.{Row, settings_rows}
use Rattle.corr_settings.specs.Values.{first_of, value_refusal, joint_refusal, memory_refusal}
use Rattle.corr_settings.specs.Read.{unless_refused}

-- a number as it is printed: one above 2^63 - 1 is printed as 2^63 - 1
abbrev pub printed : ℕ → ℕ
printed number = min number (2 ^ 63 - 1)

-- the number that is given for a key, as a value of the settings
abbrev pub number_given : PlainNumbers → Key → Option Data
number_given n Antennas = Some (integer (pos (printed n.antennas)))
number_given n Channels = Some (integer (pos (printed n.channels)))
number_given n Spectra = Some (integer (pos (printed n.spectra)))
number_given n Heaps = Some (integer (pos (printed n.heaps)))
number_given n Accumulations = Some (integer (pos (printed n.accumulations)))
number_given n _ = None

-- why the number that is given for a row is refused, if it is
abbrev pub number_refusal : PlainNumbers → Row → Option SetRefusal
number_refusal n r = value_refusal IsInRange r (number_given n r.0)

-- the first number that is refused by itself, in the order of the table
abbrev pub numbers_refusal : PlainNumbers → Option SetRefusal
numbers_refusal n = first_of (number_refusal n) settings_rows

-- the five numbers are in their ranges
pub record HasNumberRanges (n : PlainNumbers) : Type 0 where
  pub antennas : IsWithin n.antennas 1 64
  pub channels : IsWithin n.channels 1 4096
  pub spectra : IsWithin n.spectra 1 4096
  pub heaps : IsWithin n.heaps 1 4096
  pub accumulations : IsWithin n.accumulations 1 1048576

-- the plan of these numbers: timestamps count from 0 in steps of 1, one accumulation is open, the voltage items are
-- described from the start, and heaps have 4,096 bytes beside their samples
abbrev pub plain_plan : PlainNumbers → Plan
plain_plan n = record {
  antennas = n.antennas;
  channels = n.channels;
  spectra = n.spectra;
  heaps = n.heaps;
  step = 1;
  start = 0;
  accumulations = n.accumulations;
  lag = 1;
  leap = 0;
  window = 8;
  slots = 1;
  workers = 0;
  packet = 1024;
  heap_limit = 4 * n.channels * n.spectra + 4096;
  packet_limit = 2 ^ 40;
  preset = true;
  beams = 0;
}

-- why the numbers are refused, if they are: the first that applies. Each antenna has an input
abbrev pub plain_refusal : PlainNumbers → Option SetRefusal
plain_refusal n =
    option_or (numbers_refusal n)
    (option_or (joint_refusal (plain_plan n) n.antennas)
    (memory_refusal (plain_plan n)))

-- the plan of the numbers, or why they have none
abbrev pub plain_settings : PlainNumbers → Result Plan SetRefusal
plain_settings n = unless_refused (plain_refusal n) (plain_plan n)

-- an antenna that a command line names is refused where the plan has fewer
abbrev pub antenna_refusal : Plan → ℕ → Option SetRefusal
antenna_refusal p antenna = if nat_lt antenna p.antennas then None else Some (Range Antennas (pos (printed antenna)))
