-- A capture file that is read or written record by record. This project's own.
use Rattle.std.specs.Prelude.{ℕ, ◌≡◌, ◌≤◌, ◌∷◌, Bool, true, false, Option, Some, None, option_map, List, ◌++◌, take, Result, Ok, Err}
use Rattle.corr_site.specs.Outside.{Rises}
use Rattle.capture_file.specs.declared.refusal.CaptureRefusal.{CaptureRefusal}
use Rattle.capture_file.specs.declared.refusal.Captured.{Captured}
use Rattle.capture_file.specs.declared.refusal.Captured.TheVariants as captured
use Rattle.capture_file.specs.declared.parsing.Found.{Found}
use Rattle.capture_file.specs.declared.parsing.Found.TheVariants as found
use Rattle.capture_file.specs.declared.parsing.Stage.{Stage}
use Rattle.capture_file.specs.declared.parsing.Stage.TheVariants as stage
use Rattle.capture_file.specs.Records.{Records, Ending, End, Refused, Over, Record, ends, standing, records, records_behind, capture_bytes}

-- a reader of a capture file: the records and the end that are still to come, where they are told, what it refused,
-- whether a read failed, and what its source tells
pub record Capture : Type 0 where
  pub coming : Option Records
  pub refused : Option CaptureRefusal
  pub broken : Bool
  pub begun : Bool
  pub at : Option (Option (List ℕ))
  pub faults : ℕ

-- the first record to come stands at the front of the buffer, and the others are to come
pub record GivesRecord (before : Records) (now : Option Records) (bytes : List ℕ) : Type 0 where
  pub others : List (List ℕ)
  pub first : before.list ≡ bytes ∷ others
  pub rest : now ≡ Some (record { list = others; ending = before.ending })

-- no record was to come but this end, which stays
pub record IsOver (before : Records) (now : Option Records) (ending : Ending) : Type 0 where
  pub over : before ≡ ends ending
  pub kept : now ≡ Some before

-- of the records that are told, a packet is the next, and an end or a refusal comes where none is left before it;
-- after a failure nothing is told, and what is not told stays so
abbrev pub Gives : Option Records → Option Records → List ℕ → Captured → Type 0
Gives None now buf result = now ≡ None
Gives (Some before) now buf (captured.Packet n) = GivesRecord before now (take n buf)
Gives (Some before) now buf captured.End = IsOver before now End
Gives (Some before) now buf (captured.Refused cause) = IsOver before now (Refused cause)
Gives (Some before) now buf captured.Failed = now ≡ None

-- a record has at most 65,535 bytes
abbrev pub CapturedFits : Captured → Type 0
CapturedFits (captured.Packet n) = n ≤ 65535
CapturedFits captured.End = Unit {0}
CapturedFits (captured.Refused cause) = Unit {0}
CapturedFits captured.Failed = Unit {0}

-- the count of faults rises where a read fails, and stays else
abbrev pub CapturedHasCause : ℕ → ℕ → Captured → Type 0
CapturedHasCause before now (captured.Packet n) = now ≡ before
CapturedHasCause before now captured.End = now ≡ before
CapturedHasCause before now (captured.Refused cause) = now ≡ before
CapturedHasCause before now captured.Failed = Rises before now

-- what an answer refuses
abbrev pub refused_by : Captured → Option CaptureRefusal
refused_by (captured.Packet n) = None
refused_by captured.End = None
refused_by (captured.Refused cause) = Some cause
refused_by captured.Failed = None

-- whether an answer says that a read failed
abbrev pub is_failure : Captured → Bool
is_failure (captured.Packet n) = false
is_failure captured.End = false
is_failure (captured.Refused cause) = false
is_failure captured.Failed = true

-- what was refused before is refused again
abbrev pub Repeats : Option CaptureRefusal → Captured → Type 0
Repeats None result = Unit {0}
Repeats (Some cause) result = result ≡ captured.Refused cause

-- the records to come at a stage, where the bytes that are left are told
abbrev pub coming_at : Stage → Option (List ℕ) → Option Records
coming_at stage.Head left = option_map records left
coming_at stage.Body left = option_map records_behind left
coming_at (stage.Refused cause) left = option_map (λ l. ends (Refused cause)) left
coming_at stage.Broken left = None

-- what a stage refuses
abbrev pub refused_at : Stage → Option CaptureRefusal
refused_at stage.Head = None
refused_at stage.Body = None
refused_at (stage.Refused cause) = Some cause
refused_at stage.Broken = None

-- whether a read failed
abbrev pub is_broken : Stage → Bool
is_broken stage.Head = false
is_broken stage.Body = false
is_broken (stage.Refused cause) = false
is_broken stage.Broken = true

-- the magic was read: the records are those of the bytes behind it
pub record PassesHead (left : List ℕ) (now : Option (List ℕ)) : Type 0 where
  pub rest : List ℕ
  pub same : records left ≡ records_behind rest
  pub behind : now ≡ Some rest

-- the file is refused, and it is still told what is left
pub record IsRefused (left : List ℕ) (now : Option (List ℕ)) (cause : CaptureRefusal) : Type 0 where
  pub rest : List ℕ
  pub same : records left ≡ ends (Refused cause)
  pub behind : now ≡ Some rest

-- what stands in front is refused, and it is still told what is left
pub record RefusesIn (left : List ℕ) (now : Option (List ℕ)) (cause : CaptureRefusal) : Type 0 where
  pub rest : List ℕ
  pub stands : standing left ≡ Over (Refused cause)
  pub behind : now ≡ Some rest

-- what is read of the magic, where the bytes that are left are told
abbrev pub ReadsHead : {E : Type 0} → Option (List ℕ) → Option (List ℕ) → Result (Option CaptureRefusal) E → Type 0
ReadsHead None now result = now ≡ None
ReadsHead (Some left) now (Ok None) = PassesHead left now
ReadsHead (Some left) now (Ok (Some cause)) = IsRefused left now cause
ReadsHead (Some left) now (Err e) = Unit {0}

-- a record stands in front, and the bytes behind it are left
pub record StandsIn (left : List ℕ) (now : Option (List ℕ)) (bytes : List ℕ) : Type 0 where
  pub rest : List ℕ
  pub stands : standing left ≡ Record bytes rest
  pub behind : now ≡ Some rest

-- the end stands in front, and stays
pub record EndsIn (left : List ℕ) (now : Option (List ℕ)) : Type 0 where
  pub stands : standing left ≡ Over End
  pub kept : now ≡ Some left

-- what stands in front, where the bytes that are left are told
abbrev pub Finds : {E : Type 0} → Option (List ℕ) → Option (List ℕ) → List ℕ → Result Found E → Type 0
Finds None now buf result = now ≡ None
Finds (Some left) now buf (Ok (found.Record n)) = StandsIn left now (take n buf)
Finds (Some left) now buf (Ok found.End) = EndsIn left now
Finds (Some left) now buf (Ok (found.Refused cause)) = RefusesIn left now cause
Finds (Some left) now buf (Err e) = Unit {0}

-- a record that stands next has at most 65,535 bytes
abbrev pub FoundFits : Found → Type 0
FoundFits (found.Record n) = n ≤ 65535
FoundFits found.End = Unit {0}
FoundFits (found.Refused cause) = Unit {0}

-- a stage of the reader, where a read that did not fail comes to it from another: by what was to come, and by what is
abbrev pub Advances : {E : Type 0} → Stage → Option (List ℕ) → Stage → Option (List ℕ) → List ℕ
    → Result Found E → Type 0
Advances before left after now buf (Ok (found.Record n)) =
    (after ≡ stage.Body) × Gives (coming_at before left) (coming_at after now) buf (captured.Packet n)
Advances before left after now buf (Ok found.End) =
    (after ≡ stage.Body) × Gives (coming_at before left) (coming_at after now) buf captured.End
Advances before left after now buf (Ok (found.Refused cause)) =
    Gives (coming_at before left) (coming_at (stage.Refused cause) now) buf (captured.Refused cause)
Advances before left after now buf (Err e) = Unit {0}

-- a writer of a capture file: what its sink was given, where that
-- is told, whether a write failed, and the sink's faults
pub record Capturing : Type 0 where
  pub written : Option (List ℕ)
  pub broken : Bool
  pub faults : ℕ

-- behind these bytes the capture file of these strings was written
abbrev pub HoldsCapture : List ℕ → List (List ℕ) → Option (List ℕ) → Type 0
HoldsCapture before strings written = written ≡ Some (before ++ capture_bytes strings)
