-- What the words of a command line say. This project's own.
use Rattle.std.specs.Prelude.{◌≡◌, ◌⊎◌, ◌<◌, ◌≤◌, ℕ, ◌+◌, ◌^◌, ◌==◌, Bool, ◌&&◌, not, true, false, nat_le, List, [], ◌∷◌, map, filter, take, drop, length, Option, Some, None, Result, MatchResult, option_and_then, option_map, is_some, codes, bytes_eq, if◌then◌else◌}
use Rattle.std.specs.List.{list_all, list_any}
use Rattle.corr_site.specs.Places.{place_of}
use Rattle.corr_words.specs.declared.command.PlainWords.{PlainWords}
use Rattle.corr_words.specs.declared.reading.Numbers.{Numbers}
use Rattle.corr_words.specs.declared.command.Command.{Command}
use Rattle.corr_words.specs.declared.command.Command.TheVariants.{Plain, Correlate, Trial, Simulate, Relay, Inspect, Decode}
use Rattle.corr_words.specs.declared.command.WordRefusal.{WordRefusal}
use Rattle.corr_words.specs.declared.command.WordRefusal.TheVariants.{Usage, NoMemory}
use Rattle.corr_words.specs.Words.{number, is_operand, is_flag, takes_flag, word_at}

-- a number from 1 to the most
abbrev pub number_to : ℕ → List ℕ → Option ℕ
number_to most word = option_and_then (λ n. if nat_le 1 n && nat_le n most then Some n else None) (number word)

-- A F S T N
abbrev pub numbers_form : List (List ℕ) → Option Numbers
numbers_form (a ∷ f ∷ s ∷ t ∷ n ∷ _) =
    option_and_then (λ antennas.
    option_and_then (λ channels.
    option_and_then (λ spectra.
    option_and_then (λ heaps.
    option_and_then (λ accumulations. Some record {
      antennas = antennas;
      channels = channels;
      spectra = spectra;
      heaps = heaps;
      accumulations = accumulations;
    })
    (number n)) (number t)) (number s)) (number f)) (number a)
numbers_form _ = None

-- what the operands say with these numbers: the inputs stand after them, and the output after the inputs
abbrev pub plain_words : List (List ℕ) → Numbers → PlainWords
plain_words operands n = record {
  antennas = n.antennas;
  channels = n.channels;
  spectra = n.spectra;
  heaps = n.heaps;
  accumulations = n.accumulations;
  inputs = map place_of (take n.antennas (drop 5 operands));
  output = place_of (word_at operands (n.antennas + 5));
}

-- A F S T N, then A inputs, then one output
abbrev pub plain_form : List (List ℕ) → Option Command
plain_form operands =
    option_and_then (λ n. if length operands == n.antennas + 6 then Some (Plain (plain_words operands n)) else None)
    (numbers_form operands)

-- the numbers of the command, where it has them
abbrev pub numbers_of : Command → Option Numbers
numbers_of (Plain p) = Some record {
  antennas = p.antennas;
  channels = p.channels;
  spectra = p.spectra;
  heaps = p.heaps;
  accumulations = p.accumulations;
}
numbers_of other = None

-- CONFIG
abbrev pub correlate_form : Bool → List (List ℕ) → Option Command
correlate_form serial (config ∷ []) = Some (Correlate config serial)
correlate_form serial _ = None

-- CONFIG SEED
abbrev pub trial_form : Bool → List (List ℕ) → Option Command
trial_form serial (config ∷ seed ∷ []) = option_map (λ n. Trial config n serial) (number seed)
trial_form serial _ = None

-- CONFIG SEED ANTENNA OUT
abbrev pub simulate_form : List (List ℕ) → Option Command
simulate_form (config ∷ seed ∷ antenna ∷ out ∷ []) =
    option_and_then (λ n. option_map (λ a. Simulate config n a (place_of out)) (number antenna)) (number seed)
simulate_form _ = None

-- FROM TO LIMIT
abbrev pub relay_form : List (List ℕ) → Option Command
relay_form (from ∷ to ∷ limit ∷ []) = option_map (λ n. Relay (place_of from) (place_of to) n) (number_to (2 ^ 40) limit)
relay_form _ = None

-- IN
abbrev pub inspect_form : List (List ℕ) → Option Command
inspect_form (from ∷ []) = Some (Inspect (place_of from))
inspect_form _ = None

-- IN LIMIT
abbrev pub decode_form : List (List ℕ) → Option Command
decode_form (from ∷ limit ∷ []) = option_map (λ n. Decode (place_of from) n) (number_to (2 ^ 30) limit)
decode_form _ = None

-- what a command says with these operands, with the flag or without
abbrev pub command_form : List ℕ → Bool → List (List ℕ) → Option Command
command_form command serial operands =
    if bytes_eq command (codes "plain") then plain_form operands
    else (if bytes_eq command (codes "correlate") then correlate_form serial operands
    else (if bytes_eq command (codes "trial") then trial_form serial operands
    else (if bytes_eq command (codes "simulate") then simulate_form operands
    else (if bytes_eq command (codes "relay") then relay_form operands
    else (if bytes_eq command (codes "inspect") then inspect_form operands
    else (if bytes_eq command (codes "decode") then decode_form operands
    else None))))))

-- the operands, where each is one
abbrev pub sound_form : List ℕ → Bool → List (List ℕ) → Option Command
sound_form command serial operands = if list_all is_operand operands then command_form command serial operands else None

-- what the words after a command say: the flag may stand anywhere among them, once, where the command takes it
abbrev pub rest_form : List ℕ → List (List ℕ) → Option Command
rest_form command rest =
    if takes_flag command && nat_le (length (filter is_flag rest)) 1
    then sound_form command (list_any is_flag rest) (filter (λ word. not (is_flag word)) rest)
    else sound_form command false rest

-- what the words say, where they have a form: the program's name, a command, and the words after it
abbrev pub form : List (List ℕ) → Option Command
form words = if nat_le 2 (length words) then rest_form (word_at words 1) (drop 2 words) else None

-- the command is the form's; usage comes exactly where there is no form
abbrev pub Reads : Option Command → Result Command WordRefusal → Type 0
Reads told result = MatchResult result (λ c. told ≡ Some c)
    (λ e. ((e ≡ NoMemory) × (is_some told ≡ true)) ⊎ ((e ≡ Usage) × (told ≡ None)))

-- each antenna of `plain` has an input, and each limit is from 1 to its most
abbrev pub IsInLimits : Command → Type 0
IsInLimits (Plain p) = length p.inputs ≡ p.antennas
IsInLimits (Relay from to limit) = (1 ≤ limit) × (limit ≤ 2 ^ 40)
IsInLimits (Decode from limit) = (1 ≤ limit) × (limit ≤ 2 ^ 30)
IsInLimits _ = Unit {0}

-- a command that runs on threads: one that takes the flag, where no word after it is the flag
abbrev pub needs_threads : List (List ℕ) → Bool
needs_threads words = takes_flag (word_at words 1) && not (list_any is_flag (drop 2 words))

-- the place of the first flag, or none where there is none
abbrev pub IsFirstFlag : List (List ℕ) → Option ℕ → Type 0
IsFirstFlag words None = list_any is_flag words ≡ false
IsFirstFlag words (Some place) =
    (place < length words) × (is_flag (word_at words place) ≡ true) × (list_any is_flag (take place words) ≡ false)
