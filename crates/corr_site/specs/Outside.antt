-- What a run may rely on of its outside: sources and sinks of byte strings, sources and sinks of text,
-- and the counts of faults that every failure raises. This project's own.
use Rattle.std.specs.Prelude.{ℕ, ◌≡◌, ◌+◌, ◌-◌, ◌^◌, ◌<◌, ◌≤◌, min, Bool, true, false, Option, Some, None, Result, Ok, Err, OnOk, OnErr, List, [], ◌∷◌, ◌++◌, length, take, drop, slice_get}
use Rattle.corr_site.specs.declared.answers.Next.{Next}
use Rattle.corr_site.specs.declared.answers.Next.TheVariants as next
use Rattle.corr_site.specs.declared.answers.Got.{Got}
use Rattle.corr_site.specs.declared.answers.Got.TheVariants as got

-- a count is greater afterwards, or stands at its end
abbrev pub Rose : ℕ → ℕ → Type 0
Rose before now = min (before + 1) (2 ^ 64 - 1) ≤ now

-- a count of faults never falls, rises with a failure, and stays where the call does not fail
pub record HasCause {T E : Type 0} (before now : ℕ) (result : Result T E) : Type 0 where
  pub later : before ≤ now
  pub failed : OnErr result (Rose before now)
  pub kept : OnOk result (now ≡ before)

-- a failure raises the count of faults, which never falls
pub record Rises (before now : ℕ) : Type 0 where
  pub later : before ≤ now
  pub rose : Rose before now

-- the count of faults rises where a source of byte strings fails, and stays else
abbrev pub NextHasCause : ℕ → ℕ → Next → Type 0
NextHasCause before now (next.Packet n) = now ≡ before
NextHasCause before now next.End = now ≡ before
NextHasCause before now next.Failed = Rises before now

-- the count of faults rises where a source of text fails, and stays else
abbrev pub GotHasCause : ℕ → ℕ → Got → Type 0
GotHasCause before now (got.Bytes n) = now ≡ before
GotHasCause before now got.End = now ≡ before
GotHasCause before now got.Failed = Rises before now

-- a begin that answers Ok makes the object begun, and one that fails makes it not begun
abbrev pub Begins : {T E : Type 0} → Result T E → Bool → Type 0
Begins (Ok x) begun = begun ≡ true
Begins (Err e) begun = begun ≡ false

-- where it is begun, if that is told: the place of the last begin, if that answered Ok
abbrev pub IsPlaced : {P T E : Type 0} → Option (Option P) → Option (Option P) → Result T E → P → Type 0
IsPlaced None now result place = now ≡ None
IsPlaced (Some before) now (Ok x) place = now ≡ Some (Some place)
IsPlaced (Some before) now (Err e) place = now ≡ Some None

-- a byte string has at most 65,535 bytes
abbrev pub NextFits : Next → Type 0
NextFits (next.Packet n) = n ≤ 65535
NextFits next.End = Unit {0}
NextFits next.Failed = Unit {0}

-- the string at the place was given: the bytes at the front of the buffer
pub record GivesString (strings : List (List ℕ)) (given now : ℕ) (bytes : List ℕ) : Type 0 where
  pub string : slice_get strings given ≡ Some bytes
  pub one_more : now ≡ given + 1

-- all strings were given before, and none is given now
pub record GaveAll (strings : List (List ℕ)) (given now : ℕ) : Type 0 where
  pub all : given ≡ length strings
  pub kept : now ≡ given

-- of the strings that a source tells, a packet is the one at the place; nothing else comes before the last was given
abbrev pub NextGives : Option (List (List ℕ)) → ℕ → ℕ → List ℕ → Next → Type 0
NextGives None given now buf result = Unit {0}
NextGives (Some strings) given now buf (next.Packet n) = GivesString strings given now (take n buf)
NextGives (Some strings) given now buf next.End = GaveAll strings given now
NextGives (Some strings) given now buf next.Failed = GaveAll strings given now

-- what is told of a list after more was put at its end; what is not told stays so
abbrev pub appended : {X : Type 0} → Option (List X) → List X → Option (List X)
appended None more = None
appended (Some before) more = Some (before ++ more)

-- a list that is told or not goes on by these elements
abbrev pub Appended : {X : Type 0} → Option (List X) → List X → Option (List X) → Type 0
Appended before more now = now ≡ appended before more

-- a send that answers Ok appends the string, and one that fails appends nothing
abbrev pub Sends : {T E : Type 0} → Option (List (List ℕ)) → Option (List (List ℕ)) → Result T E → List ℕ → Type 0
Sends before now (Ok x) bytes = Appended before (bytes ∷ []) now
Sends before now (Err e) bytes = now ≡ before

-- a front of the bytes was appended
pub record AppendsFront (before now : Option (List ℕ)) (bytes : List ℕ) : Type 0 where
  pub front : List ℕ
  pub rest : List ℕ
  pub whole : bytes ≡ front ++ rest
  pub appends : Appended before front now

-- a write that answers Ok appends all bytes, and one that fails a front of them
abbrev pub Writes : {T E : Type 0} → Option (List ℕ) → Option (List ℕ) → Result T E → List ℕ → Type 0
Writes before now (Ok x) bytes = Appended before bytes now
Writes before now (Err e) bytes = AppendsFront before now bytes

-- from 1 to as many bytes as the buffer has
pub record IsRead (room n : ℕ) : Type 0 where
  pub some : 0 < n
  pub within : n ≤ room

-- what was read is not empty and fits the buffer
abbrev pub GotFits : ℕ → Got → Type 0
GotFits room (got.Bytes n) = IsRead room n
GotFits room got.End = Unit {0}
GotFits room got.Failed = Unit {0}

-- the first n bytes that were left stand at the front of the buffer, and the rest is left
pub record TakesFront (left : List ℕ) (now : Option (List ℕ)) (buf : List ℕ) (n : ℕ) : Type 0 where
  pub front : take n buf ≡ take n left
  pub within : n ≤ length left
  pub rest : now ≡ Some (drop n left)

-- nothing is left if the buffer has room, and what is left stays
pub record HasEnded (left : List ℕ) (now : Option (List ℕ)) (buf : List ℕ) : Type 0 where
  pub empty : 0 < length buf → left ≡ []
  pub kept : now ≡ Some left

-- of the text that a source tells, bytes are the first that are left, and an end comes only where none is left
abbrev pub Reads : Option (List ℕ) → Option (List ℕ) → List ℕ → Got → Type 0
Reads None now buf result = now ≡ None
Reads (Some left) now buf (got.Bytes n) = TakesFront left now buf n
Reads (Some left) now buf got.End = HasEnded left now buf
Reads (Some left) now buf got.Failed = now ≡ Some left
