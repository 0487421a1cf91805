-- Lines that are printed one after another.
use Rattle.std.proofs.Common.{◌≡◌, ◌<◌, ◌≤◌, ◌+◌, ℕ, List, [], ◌∷◌, ◌++◌, take, drop, length, get_or, Option, refl, sym, ap, ◌∙◌, subst, arith}
use Rattle.std.specs.Prelude.{Result, Ok, Err}
use Rattle.std.proofs.lemmas.List.{append_assoc, append-nil, length-take-le, take-append-drop, take_all, take_more}
use Rattle.std.proofs.Math.Seq.{take-append_seam}
use Rattle.corr_site.specs.Outside.{Appended, AppendsFront, HasCause, Writes, appended}
use Rattle.corr_site.proofs.Laws.{appended_nothing, appended_twice}
use Rattle.stream_feed.specs.declared.report.StreamReport.{StreamReport}
use Rattle.corr_report.specs.Lines.{IsLine}
use Rattle.corr_report.specs.Summaries.{stream_text}
use Rattle.corr_cli.specs.Texts.{streams_text}

-- a front of a text is one of any longer text
pub front_of_more : (before now : Option (List ℕ)) (x y : List ℕ) → AppendsFront before now x
    → AppendsFront before now (x ++ y)
front_of_more before now x y h = record {
  front = h.front;
  rest = h.rest ++ y;
  whole = ap (λ t. t ++ y) h.whole ∙ append_assoc h.front h.rest y;
  appends = h.appends;
}

both_appended : (before mid now : Option (List ℕ)) (x y : List ℕ) → Appended before x mid → Appended mid y now
    → Appended before (x ++ y) now
both_appended before mid now x y h k = k ∙ (ap (λ o. appended o y) h ∙ appended_twice before x y)

-- what was written after a text
pub written_then : {T E : Type 0} (before mid now : Option (List ℕ)) (r : Result T E) (x y : List ℕ)
    → Appended before x mid → Writes mid now r y → Writes before now r (x ++ y)
written_then before mid now (Ok t) x y h k = both_appended before mid now x y h k
written_then before mid now (Err e) x y h k = record {
  front = x ++ k.front;
  rest = k.rest;
  whole = ap (λ t. x ++ t) k.whole ∙ sym (append_assoc x k.front k.rest);
  appends = both_appended before mid now x k.front h k.appends;
}

-- no fault before what may fail
pub cause_then : {T E : Type 0} (before mid now : ℕ) (r : Result T E) → mid ≡ before → HasCause mid now r
    → HasCause before now r
cause_then before mid now r same h = subst (λ n. HasCause n now r) same h

-- one line more
streams_more : (antenna : ℕ) (rs : List StreamReport) (r : StreamReport)
    → streams_text antenna (rs ++ r ∷ []) ≡ streams_text antenna rs ++ stream_text (antenna + length rs) r
streams_more antenna [] r =
    let place : antenna ≡ antenna + 0 = omega arith in
    append-nil (stream_text antenna r) ∙ ap (λ n. stream_text n r) place
streams_more antenna (x ∷ xs) r =
    let place : antenna + 1 + length xs ≡ antenna + length (x ∷ xs) = omega arith in
    ap (λ t. stream_text antenna x ++ t)
    (streams_more (antenna + 1) xs r ∙ ap (λ n. streams_text (antenna + 1) xs ++ stream_text n r) place)
    ∙ sym (append_assoc (stream_text antenna x) (streams_text (antenna + 1) xs)
    (stream_text (antenna + length (x ∷ xs)) r))

-- the lines of the first so many streams were printed, and nothing failed
pub record PrintedSo (before now : Option (List ℕ)) (faults_before faults : ℕ) (reports : List StreamReport)
    (count : ℕ) : Type 0 where
  pub written : Appended before (streams_text 0 (take count reports)) now
  pub calm : faults ≡ faults_before

pub none_printed : (before : Option (List ℕ)) (faults : ℕ) (reports : List StreamReport)
    → PrintedSo before before faults faults reports 0
none_printed before faults reports = record { written = appended_nothing before; calm = refl }

-- the line of the next one
next_line : (reports : List StreamReport) (count : ℕ) (d : StreamReport) → count < length reports
    → streams_text 0 (take (count + 1) reports)
    ≡ streams_text 0 (take count reports) ++ stream_text count (get_or reports count d)
next_line reports count d within =
    let r = get_or reports count d in
    let long : length (take count reports) ≡ count = length-take-le count reports (omega (arith, within)) in
    let place : 0 + length (take count reports) ≡ count = omega (arith, long) in
    ap (streams_text 0) (take_more reports count d within)
    ∙ (streams_more 0 (take count reports) r ∙ ap (λ n. streams_text 0 (take count reports) ++ stream_text n r) place)

pub printed_more : (before mid now : Option (List ℕ)) (faults_before faults_mid faults : ℕ)
    (reports : List StreamReport) (count : ℕ) (d : StreamReport)
    → PrintedSo before mid faults_before faults_mid reports count
    → count < length reports → Appended mid (stream_text count (get_or reports count d)) now → faults ≡ faults_mid
    → PrintedSo before now faults_before faults reports (count + 1)
printed_more before mid now faults_before faults_mid faults reports count d so within line calm = record {
  written = subst (λ t. Appended before t now) (sym (next_line reports count d within))
      (both_appended before mid now _ _ so.written line);
  calm = calm ∙ so.calm;
}

-- the rest of the lines
rest_lines : (antenna : ℕ) (xs ys : List StreamReport)
    → streams_text antenna (xs ++ ys) ≡ streams_text antenna xs ++ streams_text (antenna + length xs) ys
rest_lines antenna [] ys =
    let place : antenna ≡ antenna + 0 = omega arith in
    ap (λ n. streams_text n ys) place
rest_lines antenna (x ∷ xs) ys =
    let place : antenna + 1 + length xs ≡ antenna + length (x ∷ xs) = omega arith in
    ap (λ t. stream_text antenna x ++ t)
    (rest_lines (antenna + 1) xs ys ∙ ap (λ n. streams_text (antenna + 1) xs ++ streams_text n ys) place)
    ∙ sym (append_assoc (stream_text antenna x) (streams_text (antenna + 1) xs)
    (streams_text (antenna + length (x ∷ xs)) ys))

-- the line of one that failed is in the whole text
pub printed_front : (before mid now : Option (List ℕ)) (faults_before faults_mid : ℕ) (reports : List StreamReport)
    (count : ℕ) (d : StreamReport) (last : List ℕ) → PrintedSo before mid faults_before faults_mid reports count
    → count < length reports → AppendsFront mid now (stream_text count (get_or reports count d))
    → AppendsFront before now (streams_text 0 reports ++ last)
printed_front before mid now faults_before faults_mid reports count d last so within line =
    let r = get_or reports count d in
    let first = streams_text 0 (take count reports) in
    let here : AppendsFront before now (first ++ stream_text count r) = record {
      front = first ++ line.front;
      rest = line.rest;
      whole = ap (λ t. first ++ t) line.whole ∙ sym (append_assoc first line.front line.rest);
      appends = both_appended before mid now first line.front so.written line.appends;
    } in
    let up_to = subst (λ t. AppendsFront before now t) (sym (next_line reports count d within)) here in
    let n : ℕ = count + 1 in
    let all : streams_text 0 reports
    ≡ streams_text 0 (take n reports) ++ streams_text (0 + length (take n reports)) (drop n reports)
    = ap (streams_text 0) (sym (take-append-drop n reports)) ∙ rest_lines 0 (take n reports) (drop n reports) in
    subst (λ t. AppendsFront before now (t ++ last)) (sym all)
    (front_of_more before now
    (streams_text 0 (take n reports) ++ streams_text (0 + length (take n reports)) (drop n reports)) last
    (front_of_more before now (streams_text 0 (take n reports))
    (streams_text (0 + length (take n reports)) (drop n reports)) up_to))

-- all lines, and what comes after them
pub printed_all : {T E : Type 0} (before mid now : Option (List ℕ)) (faults_before faults_mid : ℕ)
    (reports : List StreamReport) (count : ℕ) (r : Result T E) (last : List ℕ)
    → PrintedSo before mid faults_before faults_mid reports count → length reports ≤ count → Writes mid now r last
    → Writes before now r (streams_text 0 reports ++ last)
printed_all before mid now faults_before faults_mid reports count r last so past line =
    subst (λ xs. Writes before now r (streams_text 0 xs ++ last)) (take_all count reports past)
    (written_then before mid now r (streams_text 0 (take count reports)) last so.written line)

-- the front of a buffer that has a line is the line
front_is : (room now line bytes : List ℕ) (len : ℕ) → IsLine room now len line → bytes ≡ take len now → bytes ≡ line
front_is room now line bytes len is e =
    e ∙ (ap (λ n. take n now) is.length_is ∙
    (ap (take (length line)) is.text ∙ take-append_seam line (drop (length line) room)))

pub line_of_all : (room now line bytes : List ℕ) (len : ℕ) (before after : Option (List ℕ)) → IsLine room now len line
    → bytes ≡ take len now → Appended before bytes after → Appended before line after
line_of_all room now line bytes len before after is e h =
    subst (λ t. Appended before t after) (front_is room now line bytes len is e) h

pub line_of_front : (room now line bytes : List ℕ) (len : ℕ) (before after : Option (List ℕ)) → IsLine room now len line
    → bytes ≡ take len now → AppendsFront before after bytes → AppendsFront before after line
line_of_front room now line bytes len before after is e h =
    subst (λ t. AppendsFront before after t) (front_is room now line bytes len is e) h
