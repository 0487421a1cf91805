-- Objects in memory that stand for the outside of a run. Each has the numbers, from 0, of the calls that are
-- to fail, and what it holds is told in full. This project's own.
use Rattle.std.specs.Prelude.{ℕ, ◌≡◌, ◌+◌, ◌-◌, ◌^◌, ◌<◌, ◌≤◌, min, Bool, true, false, not, ◌&&◌, if◌then◌else◌, nat_lt, nat_le, ◌==◌, Option, Some, None, option_map, List, [], ◌∷◌, ◌++◌, length, sum, take, drop, fold, map, slice_get, All}
use Rattle.std.specs.Global.{Vec}
use Rattle.std.specs.List.{list_any}
use Rattle.std.specs.Vec.{vec_len, vec_capacity}
use Rattle.corr_site.specs.declared.place.Place.{Place}
use Rattle.corr_site.specs.declared.answers.Next.{Next}
use Rattle.corr_site.specs.declared.answers.Next.TheVariants as next
use Rattle.corr_site.specs.declared.answers.Got.{Got}
use Rattle.corr_site.specs.declared.answers.Got.TheVariants as got

-- which calls are to fail, and how many calls and faults there were so far
pub record Faults : Type 0 where
  pub fails : List ℕ
  pub begin_fails : Bool
  pub calls : ℕ
  pub count : ℕ

-- one more, up to the greatest number of 64 bits
abbrev pub one_more : ℕ → ℕ
one_more n = min (n + 1) (2 ^ 64 - 1)

-- no call was made yet
abbrev pub unused : List ℕ → Bool → Faults
unused fails begin_fails = record { fails = fails; begin_fails = begin_fails; calls = 0; count = 0 }

-- whether the next call is to fail
abbrev pub is_failing : Faults → Bool
is_failing f = list_any (λ k. k == f.calls) f.fails

-- after one call more
abbrev pub called : Faults → Faults
called f = record f { calls = one_more f.calls }

-- after one fault more
abbrev pub raised : Faults → Faults
raised f = record f { count = one_more f.count }

-- after one call more, which is a fault if it is to fail
abbrev pub called_or_raised : Bool → Faults → Faults
called_or_raised fails f = if fails then raised (called f) else called f

-- after a begin, which is a fault if it is to fail
abbrev pub begun_faults : Faults → Faults
begun_faults f = if f.begin_fails then raised f else f

-- where an object is begun after a begin at this place
abbrev pub begun_at : {P : Type 0} → Faults → P → Option P
begun_at f place = if f.begin_fails then None else Some place

-- the least number of a call that is to fail, or the number of strings if that is less
abbrev pub least_call : ℕ → List ℕ → ℕ
least_call count fails = fold min count fails

-- the strings that vectors of bytes hold
abbrev pub strings_of : List (Vec ℕ) → List (List ℕ)
strings_of list = map (λ v. v.items) list

-- the place with the antenna, if there is a place
abbrev pub with_antenna : ℕ → Option Place → Option (ℕ × Place)
with_antenna antenna place = option_map (λ p. (antenna, p)) place

-- a source of byte strings: all its strings, and where it is begun
pub record Source : Type 0 where
  pub strings : List (List ℕ)
  pub faults : Faults
  pub at : Option (ℕ × Place)

-- how many strings it gives before the first end or failure
abbrev pub source_cut : Source → ℕ
source_cut s = least_call (length s.strings) s.faults.fails

-- the strings that it gives before the first end or failure
abbrev pub source_gives : Source → List (List ℕ)
source_gives s = take (source_cut s) s.strings

-- how many it gave
abbrev pub source_given : Source → ℕ
source_given s = min s.faults.calls (source_cut s)

-- a source after a begin
abbrev pub source_begun : Source → ℕ × Place → Source
source_begun s place = record s { faults = begun_faults s.faults; at = begun_at s.faults place }

-- a source after a call of next
abbrev pub source_called : Source → Source
source_called s = record s { faults = called_or_raised (is_failing s.faults) s.faults }

-- a call that is not to fail gives the string of its number
pub record Gives (s : Source) (bytes : List ℕ) : Type 0 where
  pub works : is_failing s.faults ≡ false
  pub below : s.faults.calls < source_cut s
  pub string : slice_get s.strings s.faults.calls ≡ Some bytes

-- it answers a failure where the call is to fail, and else the string of the call's number while it gives strings
abbrev pub SourceAnswers : Source → List ℕ → Next → Type 0
SourceAnswers s buf (next.Packet n) = Gives s (take n buf)
SourceAnswers s buf next.End = (is_failing s.faults ≡ false) × (source_cut s ≤ s.faults.calls)
SourceAnswers s buf next.Failed = is_failing s.faults ≡ true

-- what a source in memory keeps of its list: each string fits a packet, and the cut is that of the plan
pub record IsSource (list : Vec (Vec ℕ)) (faults : Faults) (cut : ℕ) : Type 0 where
  pub short : All (λ v. vec_len v ≤ 65535) list.items
  pub cut_is : cut ≡ least_call (length list.items) faults.fails
  pub within : cut ≤ vec_len list

-- a sink of byte strings: those that were sent, how many more
-- strings and bytes there is room for, and where it is begun
pub record Sink : Type 0 where
  pub sent : List (List ℕ)
  pub strings : ℕ
  pub room : ℕ
  pub faults : Faults
  pub at : Option Place

-- a sink after a begin
abbrev pub sink_begun : Sink → Place → Sink
sink_begun s place = record s { faults = begun_faults s.faults; at = begun_at s.faults place }

-- whether it takes a string of so many bytes: the call is not to fail, and there is room
abbrev pub sink_takes : Sink → ℕ → Bool
sink_takes s len = not (is_failing s.faults) && (nat_lt 0 s.strings && nat_le len s.room)

-- a sink after a call of send
abbrev pub sink_sent : Sink → List ℕ → Sink
sink_sent s bytes =
    if sink_takes s (length bytes)
    then record s {
      sent = s.sent ++ bytes ∷ [];
      strings = s.strings - 1;
      room = s.room - length bytes;
      faults = called s.faults;
    }
    else record s { faults = raised (called s.faults) }

-- the strings of these lengths, of which the bytes are made up
abbrev pub cut_up : List ℕ → List ℕ → List (List ℕ)
cut_up [] bytes = []
cut_up (n ∷ lens) bytes = take n bytes ∷ cut_up lens (drop n bytes)

-- what a sink in memory keeps of its vectors: they are one long, and the room is reserved
pub record IsSink (lens bytes : Vec ℕ) (strings room : ℕ) : Type 0 where
  pub whole : sum lens.items ≡ length bytes.items
  pub strings_fit : vec_len lens + strings ≤ vec_capacity lens
  pub bytes_fit : vec_len bytes + room ≤ vec_capacity bytes

-- a source of text: the bytes that are left, and where it is begun
pub record Reading : Type 0 where
  pub left : List ℕ
  pub faults : Faults
  pub at : Option (List ℕ)

-- a source of text after a begin
abbrev pub reading_begun : Reading → List ℕ → Reading
reading_begun s path = record s { faults = begun_faults s.faults; at = begun_at s.faults path }

-- how many bytes a call gives that is not to fail: what is left, and no more than the buffer takes
abbrev pub reading_len : Reading → ℕ → ℕ
reading_len s room = min (length s.left) room

-- a source of text after a call of read with a buffer of so many bytes
abbrev pub reading_read : Reading → ℕ → Reading
reading_read s room =
    if is_failing s.faults
    then record s { faults = raised (called s.faults) }
    else record s { left = drop (reading_len s room) s.left; faults = called s.faults }

-- a call that is not to fail gives the first bytes that are left
pub record ReadsBytes (s : Reading) (buf : List ℕ) (n : ℕ) : Type 0 where
  pub works : is_failing s.faults ≡ false
  pub some : 0 < n
  pub len : n ≡ reading_len s (length buf)
  pub bytes : take n buf ≡ take n s.left

-- it answers a failure where the call is to fail, and else bytes where there are any and they fit
abbrev pub ReadingAnswers : Reading → List ℕ → Got → Type 0
ReadingAnswers s buf (got.Bytes n) = ReadsBytes s buf n
ReadingAnswers s buf got.End = (is_failing s.faults ≡ false) × (reading_len s (length buf) ≡ 0)
ReadingAnswers s buf got.Failed = is_failing s.faults ≡ true

-- a sink of text: what was written, and how many more bytes there is room for
pub record Printing : Type 0 where
  pub written : List ℕ
  pub room : ℕ
  pub faults : Faults

-- whether it takes so many bytes: the call is not to fail, and there is room
abbrev pub printing_takes : Printing → ℕ → Bool
printing_takes s len = not (is_failing s.faults) && nat_le len s.room

-- a sink of text after a call of write
abbrev pub printing_written : Printing → List ℕ → Printing
printing_written s bytes =
    if printing_takes s (length bytes)
    then record s { written = s.written ++ bytes; room = s.room - length bytes; faults = called s.faults }
    else record s { faults = raised (called s.faults) }
