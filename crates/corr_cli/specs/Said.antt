-- What a command line and the text of its settings say. This project's own.
use Rattle.std.specs.Prelude.{◌≡◌, ℕ, Bool, true, false, List, Option, Some, None, Result, Ok, Err, option_map, option_and_then, ◌||◌, bytes_eq, codes, if◌then◌else◌}
use Rattle.corr_model.specs.declared.plan.Plan.{Plan}
use Rattle.corr_words.specs.declared.command.PlainWords.{PlainWords}
use Rattle.corr_words.specs.declared.reading.Numbers.{Numbers}
use Rattle.corr_words.specs.declared.command.Command.{Command}
use Rattle.corr_words.specs.declared.command.Command.TheVariants.{Plain, Correlate}
use Rattle.corr_words.specs.Words.{word_at}
use Rattle.corr_words.specs.Forms.{form}
use Rattle.corr_settings.specs.declared.plain.PlainNumbers.{PlainNumbers}
use Rattle.corr_settings.specs.declared.settings.Settings.{Settings}
use Rattle.corr_settings.specs.declared.refusal.SetRefusal.{SetRefusal}
use Rattle.corr_settings.specs.Plain.{plain_settings}
use Rattle.corr_settings.specs.Read.{settings}

-- the command correlates what the sources give
abbrev pub is_over_sources : Command → Bool
is_over_sources (Plain p) = true
is_over_sources (Correlate config serial) = true
is_over_sources other = false

abbrev pub if_over_sources : Command → Option Command
if_over_sources command = if is_over_sources command then Some command else None

-- the command that the words say, where they have the form of such a one
abbrev pub form_of : List (List ℕ) → Option Command
form_of words = option_and_then if_over_sources (form words)

-- the second word is the name of such a command
abbrev pub names_over_sources : List (List ℕ) → Bool
names_over_sources words = bytes_eq (word_at words 1) (codes "plain") || bytes_eq (word_at words 1) (codes "correlate")

-- the five numbers of `plain`
abbrev pub numbers : Numbers → PlainNumbers
numbers n = record {
  antennas = n.antennas;
  channels = n.channels;
  spectra = n.spectra;
  heaps = n.heaps;
  accumulations = n.accumulations;
}

abbrev pub numbers_of_plain : PlainWords → Numbers
numbers_of_plain p = record {
  antennas = p.antennas;
  channels = p.channels;
  spectra = p.spectra;
  heaps = p.heaps;
  accumulations = p.accumulations;
}

-- a plan with these places
abbrev pub placed : PlainWords → Result Plan SetRefusal → Result Settings SetRefusal
placed p (Ok plan) = Ok record { plan = plan; inputs = p.inputs; output = p.output }
placed p (Err refusal) = Err refusal

-- the settings of `plain`, or why its numbers are refused
abbrev pub of_plain : PlainWords → Result Settings SetRefusal
of_plain p = placed p (plain_settings (numbers (numbers_of_plain p)))

-- the settings of a command, or why they are refused: those of its numbers, or those of a text that is told
abbrev pub said_by : Command → Option (List ℕ) → Option (Result Settings SetRefusal)
said_by (Plain p) text = Some (of_plain p)
said_by (Correlate config serial) text = option_map settings text
said_by other text = None

-- the settings that the words and the text say, or why they are
-- refused; none where there is no form, or the text is not told
abbrev pub said : List (List ℕ) → Option (List ℕ) → Option (Result Settings SetRefusal)
said words text = option_and_then (λ command. said_by command text) (form_of words)

-- the words and the text give this run
abbrev pub HasRun : List (List ℕ) → Option (List ℕ) → Settings → Type 0
HasRun words text run = said words text ≡ Some (Ok run)

-- the settings of the words and the text are refused
pub record AreRefused (words : List (List ℕ)) (text : Option (List ℕ)) : Type 0 where
  pub refusal : SetRefusal
  pub refused : said words text ≡ Some (Err refusal)

-- the command reads its settings from a text
abbrev pub reads_text : Command → Bool
reads_text (Correlate config serial) = true
reads_text other = false

-- the words have a form, and their settings are read from a text
abbrev pub needs_text : List (List ℕ) → Bool
needs_text words = has_one (form_of words)
  where
    has_one : Option Command → Bool
    has_one None = false
    has_one (Some command) = reads_text command
