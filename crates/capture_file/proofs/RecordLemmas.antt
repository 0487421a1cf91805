-- The records of a capture file, one after another.
use Rattle.std.proofs.Common.{◌≡◌, ◌≤◌, ℕ, zero, suc, Bool, true, false, nat_lt, ◌==◌, if◌then◌else◌, ◌⊎◌, inl, inr, List, [], ◌∷◌, length, Option, Some, None, option_map, Result, Ok, Err, take, drop, refl, sym, ap, subst, ◌∙◌, arith}
use Rattle.std.proofs.lemmas.Bool.{ltb-false}
use Rattle.std.proofs.lemmas.List.{length-drop}
use Rattle.corr_model.specs.Packets.{big}
use Rattle.capture_file.specs.declared.parsing.Found.{Found}
use Rattle.capture_file.specs.declared.parsing.Found.TheVariants as found
use Rattle.capture_file.specs.declared.parsing.Stage.{Stage}
use Rattle.capture_file.specs.declared.parsing.Stage.TheVariants as stage
use Rattle.capture_file.specs.declared.refusal.CaptureRefusal.{CaptureRefusal}
use Rattle.capture_file.specs.declared.refusal.CaptureRefusal.TheVariants.{Cut, TooLong}
use Rattle.capture_file.specs.Records.{Ending, End, Refused, Stands, Over, Record, ends, followed, cut_record, standing, records_by, records_within, records_behind, records}
use Rattle.capture_file.specs.Capturing.{ReadsHead, Finds, Advances, refused_at, is_broken}

abbrev rest_of : Stands → List ℕ
rest_of (Over ending) = []
rest_of (Record bytes rest) = rest

abbrev ending_of : Stands → Ending
ending_of (Over ending) = ending
ending_of (Record bytes rest) = End

-- a record is there where neither test ends the file
stands_else : (a b : Bool) (x : Stands) (y z : Ending) (bytes rest : List ℕ)
    → (if a then Over y else (if b then Over z else x)) ≡ Record bytes rest → (b ≡ false) × (x ≡ Record bytes rest)
stands_else true b x y z bytes rest h = absurd cc
stands_else false true x y z bytes rest h = absurd cc
stands_else false false x y z bytes rest h = (refl, h)

-- what follows a record is shorter
rest_short : (left bytes rest : List ℕ) → standing left ≡ Record bytes rest → suc (length rest) ≤ length left
rest_short left bytes rest h =
    let len = big (take 4 left) in
    let front = stands_else (length left == 0) (nat_lt (length left) 4) (cut_record len (drop 4 left)) End (Refused Cut)
    bytes rest h in
    let back = stands_else (nat_lt 65535 len) (nat_lt (length (drop 4 left)) len)
    (Record (take len (drop 4 left)) (drop len (drop 4 left))) (Refused (TooLong len)) (Refused Cut) bytes
    rest front.1 in
    omega (
      arith,
      ltb-false (length left) 4 front.0,
      ap (λ s. length (rest_of s)) back.1,
      length-drop len (drop 4 left),
      length-drop 4 left,
    )

same_by : (n m : ℕ) (left : List ℕ) (s : Stands)
    → ((bytes rest : List ℕ) → s ≡ Record bytes rest → records_within n rest ≡ records_within m rest)
    → records_by s (λ rest. records_within n rest) ≡ records_by s (λ rest. records_within m rest)
same_by n m left (Over ending) h = refl
same_by n m left (Record bytes rest) h = ap (followed bytes) (h bytes rest refl)

-- any number of records at most, if it is no less than that of the bytes, gives the same
records_enough : (n m : ℕ) (left : List ℕ) → length left ≤ n → length left ≤ m
    → records_within n left ≡ records_within m left
records_enough zero zero left h k = refl
records_enough zero (suc m) [] h k = refl
records_enough zero (suc m) (x ∷ left) h k = absurd (omega arith)
records_enough (suc n) zero [] h k = refl
records_enough (suc n) zero (x ∷ left) h k = absurd (omega arith)
records_enough (suc n) (suc m) left h k =
    same_by n m left (standing left)
    (λ bytes rest e. records_enough n m rest (omega (arith, rest_short left bytes rest e))
    (omega (arith, rest_short left bytes rest e)))

-- a record in front is the first, and the others are those of the bytes behind it
pub records_first : (left bytes rest : List ℕ) → standing left ≡ Record bytes rest
    → records_behind left ≡ followed bytes (records_behind rest)
records_first [] bytes rest h = absurd cc
records_first (x ∷ left) bytes rest h =
    ap (λ s. records_by s (λ r. records_within (length left) r)) h
    ∙ ap (followed bytes)
    (records_enough (length left) (length rest) rest (omega (arith, rest_short (x ∷ left) bytes rest h))
    (omega arith))

-- an end in front is all
pub records_over : (left : List ℕ) (ending : Ending) → standing left ≡ Over ending → records_behind left ≡ ends ending
records_over [] ending h = ap (λ s. ends (ending_of s)) h
records_over (x ∷ left) ending h = ap (λ s. records_by s (λ r. records_within (length left) r)) h

-- ---- what a read finds

pub body_advances : (E : Type 0) (left now : Option (List ℕ)) (buf : List ℕ) (r : Result Found E)
    → Finds {E = E} left now buf r → Advances {E = E} stage.Body left stage.Body now buf r
body_advances E None now buf (Ok (found.Record n)) h = (refl, ap (option_map records_behind) h)
body_advances E None now buf (Ok found.End) h = (refl, ap (option_map records_behind) h)
body_advances E None now buf (Ok (found.Refused cause)) h = ap (option_map (λ l. ends (Refused cause))) h
body_advances E None now buf (Err e) h = tt
body_advances E (Some left) now buf (Ok (found.Record n)) h = (
  refl,
  record {
    others = (records_behind h.rest).list;
    first = ap (λ r. r.list) (records_first left (take n buf) h.rest h.stands);
    rest = rw h.behind (ap (λ e. Some (record { list = (records_behind h.rest).list; ending = e }))
        (sym (ap (λ r. r.ending) (records_first left (take n buf) h.rest h.stands))));
  },
)
body_advances E (Some left) now buf (Ok found.End) h = (
  refl,
  record {
    over = records_over left End h.stands;
    kept = rw h.kept refl;
  },
)
body_advances E (Some left) now buf (Ok (found.Refused cause)) h = record {
  over = records_over left (Refused cause) h.stands;
  kept = rw h.behind (ap Some (sym (records_over left (Refused cause) h.stands)));
}
body_advances E (Some left) now buf (Err e) h = tt

-- the same of stages that are these
pub stages_same : (E : Type 0) (at before after to : Stage) (left now : Option (List ℕ)) (buf : List ℕ)
    (r : Result Found E) → at ≡ before → to ≡ after → Advances {E = E} before left after now buf r
    → Advances {E = E} at left to now buf r
stages_same E at before after to left now buf r first last h =
    subst (λ x. Advances {E = E} x left to now buf r) (sym first)
    (subst (λ y. Advances {E = E} before left y now buf r) (sym last) h)

-- a stage before the end of the file that is not the first
pub is_body : (at : Stage) → (at ≡ stage.Body) ⊎ (((x : CaptureRefusal) × (at ≡ stage.Refused x)) ⊎ (at ≡ stage.Broken))
    → refused_at at ≡ None → is_broken at ≡ false → at ≡ stage.Body
is_body at (inl e) goes whole = e
is_body at (inr (inl (x, e))) goes whole = let no : Some x ≡ None = sym (ap refused_at e) ∙ goes in absurd cc
is_body at (inr (inr e)) goes whole = let no : true ≡ false = sym (ap is_broken e) ∙ whole in absurd cc

from_told : (E : Type 0) (left rest : List ℕ) (now : Option (List ℕ)) (buf : List ℕ) (r : Result Found E)
    → records left ≡ records_behind rest → Advances {E = E} stage.Body (Some rest) stage.Body now buf r
    → Advances {E = E} stage.Head (Some left) stage.Body now buf r
from_told E left rest now buf (Ok (found.Record n)) same h = (refl, rw same h.1)
from_told E left rest now buf (Ok found.End) same h = (refl, rw same h.1)
from_told E left rest now buf (Ok (found.Refused cause)) same h = rw same h
from_told E left rest now buf (Err e) same h = tt

-- what is not told stays so behind the magic
from_none : (E : Type 0) (middle now : Option (List ℕ)) (buf : List ℕ) (r : Result Found E) → middle ≡ None
    → Finds {E = E} middle now buf r → Advances {E = E} stage.Head None stage.Body now buf r
from_none E middle now buf (Ok (found.Record n)) h k =
    (refl, ap (option_map records_behind) (subst (λ m. Finds {E = E} m now buf (Ok (found.Record n))) h k))
from_none E middle now buf (Ok found.End) h k =
    (refl, ap (option_map records_behind) (subst (λ m. Finds {E = E} m now buf (Ok found.End)) h k))
from_none E middle now buf (Ok (found.Refused cause)) h k =
    ap (option_map (λ l. ends (Refused cause))) (subst (λ m. Finds {E = E} m now buf (Ok (found.Refused cause))) h k)
from_none E middle now buf (Err e) h k = tt

pub head_advances : (E F : Type 0) (left middle now : Option (List ℕ)) (buf : List ℕ) (r : Result Found E)
    → ReadsHead {E = F} left middle (Ok None) → Finds {E = E} middle now buf r
    → Advances {E = E} stage.Head left stage.Body now buf r
head_advances E F None middle now buf (Ok (found.Record n)) h k = from_none E middle now buf (Ok (found.Record n)) h k
head_advances E F None middle now buf (Ok found.End) h k = from_none E middle now buf (Ok found.End) h k
head_advances E F None middle now buf (Ok (found.Refused cause)) h k =
    from_none E middle now buf (Ok (found.Refused cause)) h k
head_advances E F None middle now buf (Err e) h k = tt
head_advances E F (Some left) middle now buf r h k =
    from_told E left h.rest now buf r h.same
    (body_advances E (Some h.rest) now buf r (subst (λ m. Finds {E = E} m now buf r) h.behind k))
