-- What `decode` prints. This project's own.
use Rattle.std.specs.Prelude.{◌≡◌, ℕ, ◌+◌, true, false, List, [], ◌∷◌, ◌++◌, length, Option, Some, None, option_map, Result}
use Rattle.std.specs.Option.{option_or}
use Rattle.std.specs.List.{flat_map, list_any}
use Rattle.corr_model.specs.Lists.{numbers}
use Rattle.corr_site.specs.Outside.{Rises, Writes}
use Rattle.corr_report.specs.declared.status.StatusLine.TheVariants as lines
use Rattle.corr_report.specs.Decoded.{baseline_text, cause_name, channel_text, heap_text, stop_text}
use Rattle.corr_report.specs.Texts.{refused_text, status_text}
use Rattle.vis_read.specs.declared.cause.ReadCause.{ReadCause}
use Rattle.vis_read.specs.declared.cause.ReadCause.TheVariants as causes
use Rattle.vis_read.specs.Readings.{Answer, Nothing, Head, Heap, Stop, Refused, View, seen}
use Rattle.vis_read.specs.Endings.{cause_in, is_stop}
use Rattle.vis_read.specs.Standing.{ReaderState, StandsFor}
use Rattle.corr_site.specs.declared.answers.Failed.{Failed}
use Rattle.corr_tools.specs.declared.decoding.Ended.{Ended}
use Rattle.corr_tools.specs.declared.decoding.Ended.TheVariants as ended
use Rattle.corr_tools.specs.declared.decoding.Decoded.{Decoded}
use Rattle.corr_tools.specs.declared.decoding.Shown.{Shown}
use Rattle.corr_tools.specs.Printing.{GoesOn}
use Rattle.corr_tools.specs.Taking.{TakesAll, TakesFirst, coming, string_limit}

-- a line for each channel of a baseline, in order
abbrev pub values_text : View → ℕ → List ℕ
values_text v baseline = flat_map (λ channel. channel_text v channel baseline) (numbers 0 v.sizes.channels)

-- the lines on a baseline: its own, and one for each channel
abbrev pub channels_text : View → ℕ → List ℕ
channels_text v baseline = baseline_text v baseline ++ values_text v baseline

-- the lines on each baseline, in order
abbrev pub baselines_text : View → List ℕ
baselines_text v = flat_map (channels_text v) (numbers 0 v.sizes.baselines)

-- the lines on a visibility heap: its own, and those on each baseline
abbrev pub view_text : View → List ℕ
view_text v = heap_text v ++ baselines_text v

-- the lines on the answer to a datagram; one that is refused has none here
abbrev pub answer_text : Answer → List ℕ
answer_text Nothing = []
answer_text (Head sizes) = []
answer_text (Heap view) = view_text view
answer_text Stop = stop_text
answer_text (Refused cause) = []

-- the lines on answers, in order
abbrev pub answers_text : List Answer → List ℕ
answers_text answers = flat_map answer_text answers

-- a datagram that is refused: its number and the cause
pub record RefusedAt : Type 0 where
  pub place : ℕ
  pub cause : ReadCause

-- refused at a place for a cause, if there is one
abbrev pub refused_at : ℕ → Option ReadCause → Option RefusedAt
refused_at place cause = option_map (λ c. record { place = place; cause = c }) cause

-- the first datagram that is refused, where the first of these answers is to the one of this number
abbrev pub first_refused : ℕ → List Answer → Option RefusedAt
first_refused place [] = None
first_refused place (answer ∷ rest) = option_or (refused_at place (cause_in answer)) (first_refused (place + 1) rest)

-- how the reading of datagrams ends, by the answers to them
abbrev pub EndsAs : List Answer → Ended → Type 0
EndsAs answers ended.Whole = (first_refused 0 answers ≡ None) × (list_any is_stop answers ≡ true)
EndsAs answers (ended.NoStop count) =
    (first_refused 0 answers ≡ None) × (list_any is_stop answers ≡ false) × (count ≡ length answers)
EndsAs answers (ended.Refused place cause) = first_refused 0 answers ≡ Some (record { place = place; cause = cause })
EndsAs answers ended.SourceFault = first_refused 0 answers ≡ None

-- the line on how reading ended, if there is one
abbrev pub ended_text : Ended → List ℕ
ended_text ended.Whole = []
ended_text (ended.NoStop count) = refused_text count (cause_name causes.NoStop)
ended_text (ended.Refused place cause) = refused_text place (cause_name cause)
ended_text ended.SourceFault = status_text (lines.SourceFault 0)

-- all lines on these datagrams, where a heap has at most `limit` bytes, and on how their reading ended
abbrev pub decode_text : ℕ → List (List ℕ) → Ended → List ℕ
decode_text limit strings how = answers_text (seen limit strings) ++ ended_text how

-- datagrams were read to this end, and the lines on them are written, or a front where a write failed
pub record Reads (limit : ℕ) (strings : List (List ℕ)) (before now : Option (List ℕ)) (result : Decoded) : Type 0 where
  pub ends : EndsAs (seen limit strings) result.ended
  pub written : Writes before now result.print (decode_text limit strings result.ended)

-- what was taken: all that was to come, but where a datagram is refused nothing after it
abbrev pub TakesTo : Option (List (List ℕ)) → ℕ → ℕ → List (List ℕ) → Ended → Type 0
TakesTo gives given now taken ended.Whole = TakesAll gives given now string_limit taken
TakesTo gives given now taken (ended.NoStop count) = TakesAll gives given now string_limit taken
TakesTo gives given now taken (ended.Refused place cause) =
    TakesFirst gives given now string_limit taken × (length taken ≡ place + 1)
TakesTo gives given now taken ended.SourceFault = TakesAll gives given now string_limit taken

-- the datagrams taken were read so, and so are all that were to come, where the source tells what it gives
pub record Decodes (limit : ℕ) (gives : Option (List (List ℕ))) (given given_now : ℕ) (before now : Option (List ℕ))
    (result : Decoded) : Type 0 where
  pub taken : List (List ℕ)
  pub takes : TakesTo gives given given_now taken result.ended
  pub reads : Reads limit taken before now result
  pub told : (strings : List (List ℕ)) → gives ≡ Some strings
      → Reads limit (coming strings given string_limit) before now result

-- the count of faults of the source rises where it failed, and stays else
abbrev pub DecodeCause : ℕ → ℕ → Ended → Type 0
DecodeCause before now ended.Whole = now ≡ before
DecodeCause before now (ended.NoStop count) = now ≡ before
DecodeCause before now (ended.Refused place cause) = now ≡ before
DecodeCause before now ended.SourceFault = Rises before now

-- a datagram is read: what the reader stands for, the answer, and the lines on it
pub record Shows (old : ReaderState) (bytes : List ℕ) (new : ReaderState) (printed : Result Unit Failed)
    (before now : Option (List ℕ)) (result : Shown) : Type 0 where
  pub limit : new.live.limit ≡ old.live.limit
  pub stands : (l : List (List ℕ)) → StandsFor old l → StandsFor new (l ++ bytes ∷ [])
  pub answer : Answer
  pub answered : (l : List (List ℕ)) → StandsFor old l
      → seen old.live.limit (l ++ bytes ∷ []) ≡ seen old.live.limit l ++ answer ∷ []
  pub cause : cause_in answer ≡ result.cause
  pub written : GoesOn printed before now result.print (answer_text answer)

-- so many datagrams that the reader stands for, of which none is refused, end so
abbrev pub EndsSo : ReaderState → ℕ → Ended → Type 0
EndsSo reader count how =
    (l : List (List ℕ)) → StandsFor reader l → first_refused 0 (seen reader.live.limit l) ≡ None → count ≡ length l
    → EndsAs (seen reader.live.limit l) how

-- the input ended: no datagram was refused, and the source did not fail
abbrev pub IsOfEnd : Ended → Type 0
IsOfEnd ended.Whole = Unit {0}
IsOfEnd (ended.NoStop count) = Unit {0}
IsOfEnd (ended.Refused place cause) = ⊥
IsOfEnd ended.SourceFault = ⊥
