-- Texts that are written one after another.
use Rattle.std.proofs.Common.{◌≡◌, ℕ, suc, ◌+◌, ◌-◌, ◌<◌, ◌≤◌, List, [], ◌∷◌, ◌++◌, Option, refl, sym, ap, subst, ◌∙◌, arith}
use Rattle.std.specs.Prelude.{Result, Ok, Err}
use Rattle.std.specs.List.{flat_map}
use Rattle.std.proofs.lemmas.List.{append_assoc, append-nil}
use Rattle.std.proofs.lemmas.Grind.{flat_map-append}
use Rattle.corr_model.specs.Lists.{numbers}
use Rattle.corr_model.proofs.CountedLists.{numbers_push}
use Rattle.corr_site.specs.Outside.{Appended, AppendsFront, HasCause, Writes}
use Rattle.corr_site.proofs.Laws.{Appended-then}
use Rattle.corr_tools.specs.Printing.{GoesOn, GoesOnCause}

-- a front of a text is one of any longer text
pub front_of_more : (before now : Option (List ℕ)) (x y : List ℕ) → AppendsFront before now x
    → AppendsFront before now (x ++ y)
front_of_more before now x y h = record {
  front = h.front;
  rest = h.rest ++ y;
  whole = ap (λ t. t ++ y) h.whole ∙ append_assoc h.front h.rest y;
  appends = h.appends;
}

-- a front of a text behind another
pub front_behind : (before mid now : Option (List ℕ)) (x y : List ℕ) → Appended before x mid → AppendsFront mid now y
    → AppendsFront before now (x ++ y)
front_behind before mid now x y h k = record {
  front = x ++ k.front;
  rest = k.rest;
  whole = ap (λ t. x ++ t) k.whole ∙ sym (append_assoc x k.front k.rest);
  appends = Appended-then before mid now x k.front h k.appends;
}

-- what was written after a text
pub written_then : {T E : Type 0} (before mid now : Option (List ℕ)) (r : Result T E) (x y : List ℕ)
    → Appended before x mid → Writes mid now r y → Writes before now r (x ++ y)
written_then before mid now (Ok t) x y h k = Appended-then before mid now x y h k
written_then before mid now (Err e) x y h k = front_behind before mid now x y h k

-- a piece more, where no write failed before
pub written_more : {T E : Type 0} (before mid now : Option (List ℕ)) (printed r : Result T E) (x y : List ℕ)
    → Writes before mid printed x → GoesOn printed mid now r y → Writes before now r (x ++ y)
written_more before mid now (Ok t) r x y h k = written_then before mid now r x y h k
written_more before mid now (Err e) r x y h k =
    subst (λ q. Writes before now q (x ++ y)) (sym k.1)
    (subst (λ o. AppendsFront before o (x ++ y)) (sym k.0) (front_of_more before mid x y h))

-- and its cause
pub caused_more : {T E : Type 0} (before mid now : ℕ) (mid_text now_text : Option (List ℕ)) (printed r : Result T E)
    (y : List ℕ) → HasCause before mid printed → GoesOn printed mid_text now_text r y → GoesOnCause printed mid now r
    → HasCause before now r
caused_more {T} {E} before mid now mid_text now_text (Ok t) r y h k cause =
    subst (λ n. HasCause {T = T} {E = E} n now r) h.kept cause
caused_more {T} {E} before mid now mid_text now_text (Err e) r y h k cause =
    subst (λ q. HasCause {T = T} {E = E} before now q) (sym k.1)
    (subst (λ n. HasCause {T = T} {E = E} before n (Err e)) (sym cause) h)

-- ---- one line for each element

-- the lines on those that are done were written behind a head
pub record Lines {A : Type 0} (line : A → List ℕ) (head : List ℕ) (all done rest : List A)
    (before now : Option (List ℕ)) (faults_before faults : ℕ) : Type 0 where
  pub splits : all ≡ done ++ rest
  pub written : Appended before (head ++ flat_map line done) now
  pub calm : faults ≡ faults_before

pub lines_none : {A : Type 0} (line : A → List ℕ) (head : List ℕ) (all : List A) (before now : Option (List ℕ))
    (faults_before faults : ℕ) → Appended before head now → faults ≡ faults_before
    → Lines line head all [] all before now faults_before faults
lines_none line head all before now faults_before faults h calm = record {
  splits = refl;
  written = subst (λ t. Appended before t now) (sym (append-nil head)) h;
  calm = calm;
}

line_last : {A : Type 0} (line : A → List ℕ) (done : List A) (x : A)
    → flat_map line (done ++ x ∷ []) ≡ flat_map line done ++ line x
line_last line done x = flat_map-append line done (x ∷ []) ∙ ap (λ t. flat_map line done ++ t) (append-nil (line x))

pub lines_next : {A : Type 0} (line : A → List ℕ) (head : List ℕ) (all done rest : List A) (x : A)
    (before mid now : Option (List ℕ)) (faults_before faults_mid faults : ℕ)
    → Lines line head all done (x ∷ rest) before mid faults_before faults_mid → Appended mid (line x) now
    → faults ≡ faults_mid → Lines line head all (done ++ x ∷ []) rest before now faults_before faults
lines_next line head all done rest x before mid now faults_before faults_mid faults h k calm = record {
  splits = h.splits ∙ sym (append_assoc done (x ∷ []) rest);
  written = subst (λ t. Appended before t now)
      (append_assoc head (flat_map line done) (line x) ∙ ap (λ t. head ++ t) (sym (line_last line done x)))
      (Appended-then before mid now (head ++ flat_map line done) (line x) h.written k);
  calm = calm ∙ h.calm;
}

pub lines_front : {A : Type 0} (line : A → List ℕ) (head : List ℕ) (all done rest : List A) (x : A)
    (before mid now : Option (List ℕ)) (faults_before faults_mid : ℕ)
    → Lines line head all done (x ∷ rest) before mid faults_before faults_mid → AppendsFront mid now (line x)
    → AppendsFront before now (head ++ flat_map line all)
lines_front line head all done rest x before mid now faults_before faults_mid h k =
    let here = front_of_more before now ((head ++ flat_map line done) ++ line x) (flat_map line rest)
    (front_behind before mid now (head ++ flat_map line done) (line x) h.written k) in
    let whole : flat_map line all ≡ flat_map line done ++ (line x ++ flat_map line rest) =
    ap (flat_map line) h.splits ∙ flat_map-append line done (x ∷ rest) in
    subst (λ t. AppendsFront before now t)
    (append_assoc (head ++ flat_map line done) (line x) (flat_map line rest) ∙ append_assoc head (flat_map line done)
    (line x ++ flat_map line rest) ∙ ap (λ t. head ++ t) (sym whole))
    here

pub lines_all : {A : Type 0} (line : A → List ℕ) (head : List ℕ) (all done : List A) (before now : Option (List ℕ))
    (faults_before faults : ℕ) → Lines line head all done [] before now faults_before faults
    → Appended before (head ++ flat_map line all) now
lines_all line head all done before now faults_before faults h =
    subst (λ xs. Appended before (head ++ flat_map line xs) now) (sym (append-nil done) ∙ sym h.splits) h.written

-- ---- numbers in order

next_number : (count done : ℕ) → done < count
    → numbers done (count - done) ≡ done ∷ numbers (done + 1) (count - (done + 1))
next_number count done h = let more : count - done ≡ suc (count - (done + 1)) = omega arith in ap (numbers done) more

from_next : (line : ℕ → List ℕ) (head : List ℕ) (count done : ℕ) (before now : Option (List ℕ))
    (faults_before faults : ℕ) → done < count
    → Lines line head (numbers 0 count) (numbers 0 done) (numbers done (count - done)) before now
    faults_before faults
    → Lines line head (numbers 0 count) (numbers 0 done) (done ∷ numbers (done + 1) (count - (done + 1))) before now
    faults_before faults
from_next line head count done before now faults_before faults low h =
    subst (λ rest. Lines line head (numbers 0 count) (numbers 0 done) rest before now faults_before faults)
    (next_number count done low) h

pub numbered_next : (line : ℕ → List ℕ) (head : List ℕ) (count done : ℕ) (before mid now : Option (List ℕ))
    (faults_before faults_mid faults : ℕ) → done < count
    → Lines line head (numbers 0 count) (numbers 0 done) (numbers done (count - done)) before mid
    faults_before faults_mid
    → Appended mid (line done) now → faults ≡ faults_mid
    → Lines line head (numbers 0 count) (numbers 0 (done + 1)) (numbers (done + 1) (count - (done + 1))) before now
    faults_before faults
numbered_next line head count done before mid now faults_before faults_mid faults low h k calm =
    let one : done + 1 ≡ suc done = omega arith in
    let place : 0 + done ≡ done = omega arith in
    let push : numbers 0 (done + 1) ≡ numbers 0 done ++ done ∷ [] =
    ap (numbers 0) one ∙ numbers_push 0 done ∙ ap (λ d. numbers 0 done ++ d ∷ []) place in
    subst (λ ks. Lines line head (numbers 0 count) ks (numbers (done + 1) (count - (done + 1))) before now faults_before
    faults) (sym push)
    (lines_next line head (numbers 0 count) (numbers 0 done) (numbers (done + 1) (count - (done + 1))) done before mid
    now faults_before faults_mid faults
    (from_next line head count done before mid faults_before faults_mid low h) k calm)

pub numbered_front : (line : ℕ → List ℕ) (head : List ℕ) (count done : ℕ) (before mid now : Option (List ℕ))
    (faults_before faults_mid : ℕ) → done < count
    → Lines line head (numbers 0 count) (numbers 0 done) (numbers done (count - done)) before mid
    faults_before faults_mid
    → AppendsFront mid now (line done) → AppendsFront before now (head ++ flat_map line (numbers 0 count))
numbered_front line head count done before mid now faults_before faults_mid low h k =
    lines_front line head (numbers 0 count) (numbers 0 done) (numbers (done + 1) (count - (done + 1))) done before mid
    now faults_before faults_mid (from_next line head count done before mid faults_before faults_mid low h) k

pub numbered_all : (line : ℕ → List ℕ) (head : List ℕ) (count done : ℕ) (before now : Option (List ℕ))
    (faults_before faults : ℕ) → count ≤ done
    → Lines line head (numbers 0 count) (numbers 0 done) (numbers done (count - done)) before now
    faults_before faults
    → Appended before (head ++ flat_map line (numbers 0 count)) now
numbered_all line head count done before now faults_before faults past h =
    let none : count - done ≡ 0 = omega arith in
    lines_all line head (numbers 0 count) (numbers 0 done) before now faults_before faults
    (subst (λ n. Lines line head (numbers 0 count) (numbers 0 done) (numbers done n) before now faults_before faults)
    none h)
