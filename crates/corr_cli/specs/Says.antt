-- What was read of a command line and of the text of its settings. This project's own.
use Rattle.std.specs.Prelude.{◌≡◌, ℕ, true, List, Option, Some, None, Result, Ok, Err}
use Rattle.corr_site.specs.Outside.{Rises}
use Rattle.corr_words.specs.declared.command.PlainWords.{PlainWords}
use Rattle.corr_words.specs.declared.command.Command.{Command}
use Rattle.corr_words.specs.declared.command.Command.TheVariants.{Plain, Correlate}
use Rattle.corr_settings.specs.declared.settings.Settings.{Settings}
use Rattle.corr_settings.specs.declared.refusal.SetRefusal.{SetRefusal}
use Rattle.corr_settings.specs.Read.{settings}
use Rattle.corr_cli.specs.declared.said.Telling.{Telling}
use Rattle.corr_cli.specs.declared.said.Telling.TheVariants.{Packets, Summary}
use Rattle.corr_cli.specs.declared.said.Asked.{Asked}
use Rattle.corr_cli.specs.declared.answer.Answer.{Answer}
use Rattle.corr_cli.specs.declared.answer.Answer.TheVariants as answers
use Rattle.corr_cli.specs.Said.{form_of, needs_text, of_plain}

-- what a run of the command prints at its end
abbrev pub telling_of : Command → Telling
telling_of (Correlate config serial) = Summary
telling_of other = Packets

-- the command, and a text that may be told, say these settings, or why they are refused
abbrev pub IsSaidBy : Command → Option (List ℕ) → Result Settings SetRefusal → Type 0
IsSaidBy (Plain p) text r = of_plain p ≡ r
IsSaidBy (Correlate config serial) None r = Unit {0}
IsSaidBy (Correlate config serial) (Some bytes) r = settings bytes ≡ r
IsSaidBy other text r = ⊥

-- the words have a form that is said so
pub record HasSaid (words : List (List ℕ)) (text : Option (List ℕ)) (r : Result Settings SetRefusal) : Type 0 where
  pub command : Command
  pub is_form : form_of words ≡ Some command
  pub says : IsSaidBy command text r

-- the words have a form, and their numbers are not refused
pub record MayGoOn (words : List (List ℕ)) : Type 0 where
  pub command : Command
  pub is_form : form_of words ≡ Some command
  pub accepted : (p : PlainWords) (refusal : SetRefusal) → command ≡ Plain p → of_plain p ≡ Err refusal → ⊥

-- what is asked for is what the words and the text say
pub record IsAsked (words : List (List ℕ)) (text : Option (List ℕ)) (asked : Asked) : Type 0 where
  pub said : HasSaid words text (Ok asked.settings)
  pub tells : telling_of said.command ≡ asked.telling

-- what the words and the text say, or the answer where there is nothing to run
abbrev pub Says : List (List ℕ) → Option (List ℕ) → Result Asked Answer → Type 0
Says words text (Ok asked) = IsAsked words text asked
Says words text (Err answers.Usage) = form_of words ≡ None
Says words text (Err answers.SettingsFault) = needs_text words ≡ true
Says words text (Err (answers.Settings refusal)) = HasSaid words text (Err refusal)
Says words text (Err answers.NoMemory) = MayGoOn words
Says words text (Err other) = ⊥

-- the count of faults of the text rises where its source failed, and stays else
abbrev pub SaysCause : ℕ → ℕ → Result Asked Answer → Type 0
SaysCause before now (Err answers.SettingsFault) = Rises before now
SaysCause before now other = now ≡ before

-- the settings that are said, printed so, or why they are refused; a fault and want of memory say nothing of them
abbrev pub SaysText : Result Settings SetRefusal → Telling → Result Asked Answer → Type 0
SaysText r telling (Ok asked) = (r ≡ Ok asked.settings) × (asked.telling ≡ telling)
SaysText r telling (Err (answers.Settings refusal)) = r ≡ Err refusal
SaysText r telling (Err other) = Unit {0}

-- an answer that numbers may have: refused settings
abbrev pub IsOfNumbers : Answer → Type 0
IsOfNumbers (answers.Settings refusal) = Unit {0}
IsOfNumbers other = ⊥

-- an answer that bytes may have: refused settings, or want of memory
abbrev pub IsOfBytes : Answer → Type 0
IsOfBytes (answers.Settings refusal) = Unit {0}
IsOfBytes answers.NoMemory = Unit {0}
IsOfBytes other = ⊥

-- an answer that a text may have: a fault of its source too
abbrev pub IsOfText : Answer → Type 0
IsOfText (answers.Settings refusal) = Unit {0}
IsOfText answers.NoMemory = Unit {0}
IsOfText answers.SettingsFault = Unit {0}
IsOfText other = ⊥

-- the words are those of `plain`, and their numbers are refused so
pub record IsPlainRefused (words : List (List ℕ)) (refusal : SetRefusal) : Type 0 where
  pub plain : PlainWords
  pub is_form : form_of words ≡ Some (Plain plain)
  pub refused : of_plain plain ≡ Err refusal

-- the numbers of the words are refused so; or they are not, where the words are those of `plain`
abbrev pub RefusesNumbers : List (List ℕ) → Option SetRefusal → Type 0
RefusesNumbers words (Some refusal) = IsPlainRefused words refusal
RefusesNumbers words None =
    (p : PlainWords) (refusal : SetRefusal) → form_of words ≡ Some (Plain p) → of_plain p ≡ Err refusal → ⊥
