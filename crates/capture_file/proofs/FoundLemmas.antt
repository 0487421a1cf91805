-- What stands in a capture file, by the bytes that could be read.
use Rattle.std.proofs.Common.{◌≡◌, ◌≢◌, ◌<◌, ◌≤◌, ℕ, Bool, nat_lt, ◌==◌, if◌then◌else◌, List, [], ◌∷◌, ◌++◌, length, Option, Some, None, Ok, take, drop, w32, sym, ap, subst, ◌∙◌, arith}
use Rattle.std.specs.Int.{from_be_bytes}
use Rattle.std.specs.Str.{bytes_eq}
use Rattle.std.proofs.lemmas.Bool.{cond-true, cond-false, lt-ltb, le-ltb, eq-eqb, ne_eqb}
use Rattle.std.proofs.lemmas.List.{length-drop, take_all, take-append-le}
use Rattle.corr_model.specs.Packets.{big}
use Rattle.corr_text.specs.Filling.{Fills, HoldsText}
use Rattle.capture_file.specs.declared.refusal.CaptureRefusal.TheVariants.{Magic, Cut, TooLong}
use Rattle.capture_file.specs.declared.parsing.Found.TheVariants as found
use Rattle.capture_file.specs.Records.{magic, Over, Record, End, Refused, ends, cut_record, standing, records, records_behind}
use Rattle.capture_file.specs.Capturing.{ReadsHead, Finds}

-- where the buffer is not full, the text had no more bytes
pub short_text : (left : List ℕ) (now : Option (List ℕ)) (buf : List ℕ) (n : ℕ) → n < length buf
    → HoldsText left now buf n → length left ≡ n
short_text left now buf n few h = omega (arith, h.taken.within, length-drop n left, ap length (h.all few))

-- four bytes as a number
pub number_of_four : (bytes : List ℕ) → length bytes ≡ 4 → from_be_bytes w32 bytes ≡ big bytes
number_of_four (a ∷ b ∷ c ∷ d ∷ []) h = omega arith
number_of_four [] h = absurd (omega arith)
number_of_four (a ∷ []) h = absurd (omega arith)
number_of_four (a ∷ b ∷ []) h = absurd (omega arith)
number_of_four (a ∷ b ∷ c ∷ []) h = absurd (omega arith)
number_of_four (a ∷ b ∷ c ∷ d ∷ e ∷ rest) h = absurd (omega arith)

-- ---- the magic

cut_front : (left : List ℕ) → length left < 8 → records left ≡ ends (Refused Cut)
cut_front left few = cond-true (nat_lt (length left) 8) (ends (Refused Cut)) _ (lt-ltb (length left) 8 few)

pub head_cut : (E : Type 0) (before now : Option (List ℕ)) (buf : List ℕ) (n : ℕ) → length buf ≡ 8 → n < 8
    → Fills {E = E} before now buf (Ok n) → ReadsHead {E = E} before now (Ok (Some Cut))
head_cut E None now buf n eight few h = h
head_cut E (Some left) now buf n eight few h = record {
  rest = drop n left;
  same = cut_front left (omega (arith, short_text left now buf n (omega arith) h));
  behind = h.taken.rest;
}

pub whole_front : (left : List ℕ) (b : Bool) → 8 ≤ length left → bytes_eq (take 8 left) magic ≡ b
    → records left ≡ (if b then records_behind (drop 8 left) else ends (Refused Magic))
whole_front left b many e =
    cond-false (nat_lt (length left) 8) (ends (Refused Cut)) _ (le-ltb (length left) 8 many)
    ∙ ap (λ c. if c then records_behind (drop 8 left) else ends (Refused Magic)) e

-- ---- a record

standing_none : (left : List ℕ) → length left ≡ 0 → standing left ≡ Over End
standing_none left none = cond-true (length left == 0) (Over End) _ (eq-eqb (length left) 0 none)

standing_cut : (left : List ℕ) → length left ≢ 0 → length left < 4 → standing left ≡ Over (Refused Cut)
standing_cut left some few =
    cond-false (length left == 0) (Over End) _ (ne_eqb (length left) 0 some)
    ∙ cond-true (nat_lt (length left) 4) (Over (Refused Cut)) _ (lt-ltb (length left) 4 few)

pub standing_four : (left : List ℕ) → 4 ≤ length left → standing left ≡ cut_record (big (take 4 left)) (drop 4 left)
standing_four left many =
    cond-false (length left == 0) (Over End) _ (ne_eqb (length left) 0 (λ e. omega arith))
    ∙ cond-false (nat_lt (length left) 4) (Over (Refused Cut)) _ (le-ltb (length left) 4 many)

pub next_cut : (E : Type 0) (before now : Option (List ℕ)) (buf out : List ℕ) (n : ℕ) → length buf ≡ 4 → n ≢ 0 → n < 4
    → Fills {E = E} before now buf (Ok n) → Finds {E = E} before now out (Ok (found.Refused Cut))
next_cut E None now buf out n four some few h = h
next_cut E (Some left) now buf out n four some few h =
    let long : length left ≡ n = short_text left now buf n (omega arith) h in
    record {
      rest = drop n left;
      stands = standing_cut left (λ e. some (sym long ∙ e)) (omega arith);
      behind = h.taken.rest;
    }

-- the length that the first four bytes say
said : (left : List ℕ) (now : Option (List ℕ)) (buf : List ℕ) (len : ℕ) → length buf ≡ 4 → len ≡ from_be_bytes w32 buf
    → HoldsText left now buf 4 → standing left ≡ cut_record len (drop 4 left)
said left now buf len four is h =
    let same : take 4 left ≡ buf = sym h.taken.front ∙ take_all 4 buf (omega arith) in
    standing_four left h.taken.within ∙ ap (λ n. cut_record n (drop 4 left))
    (ap big same ∙ sym (number_of_four buf four) ∙ sym is)

pub fits_record : (len : ℕ) (bytes : List ℕ) → len ≤ 65535
    → cut_record len bytes
    ≡ (if nat_lt (length bytes) len then Over (Refused Cut) else Record (take len bytes) (drop len bytes))
fits_record len bytes fits = cond-false (nat_lt 65535 len) (Over (Refused (TooLong len))) _ (le-ltb 65535 len fits)

record_cut : (E : Type 0) (left : List ℕ) (middle now : Option (List ℕ)) (buf bytes out : List ℕ) (len n : ℕ)
    → length buf ≡ 4 → len ≡ from_be_bytes w32 buf → len ≤ 65535 → length bytes ≡ len → n < len
    → HoldsText left middle buf 4 → HoldsText (drop 4 left) now bytes n
    → Finds {E = E} (Some left) now out (Ok (found.Refused Cut))
record_cut E left middle now buf bytes out len n four is fits room few h k =
    let long : length (drop 4 left) ≡ n = short_text (drop 4 left) now bytes n (omega arith) k in
    record {
      rest = drop n (drop 4 left);
      stands = said left middle buf len four is h ∙ fits_record len (drop 4 left) fits ∙ cond-true
          (nat_lt (length (drop 4 left)) len) (Over (Refused Cut)) _ (lt-ltb (length (drop 4 left)) len (omega arith));
      behind = k.taken.rest;
    }

record_whole : (E : Type 0) (left : List ℕ) (middle now : Option (List ℕ)) (buf bytes back : List ℕ) (len n : ℕ)
    → length buf ≡ 4 → len ≡ from_be_bytes w32 buf → len ≤ 65535 → length bytes ≡ len → len ≤ n → n ≤ length bytes
    → HoldsText left middle buf 4
    → HoldsText (drop 4 left) now bytes n → Finds {E = E} (Some left) now (bytes ++ back) (Ok (found.Record len))
record_whole E left middle now buf bytes back len n four is fits room all within h k =
    let e : n ≡ len = omega arith in
    let many : len ≤ length (drop 4 left) = subst (λ m. m ≤ length (drop 4 left)) e k.taken.within in
    let front : take len (bytes ++ back) ≡ take len (drop 4 left) =
    take-append-le len bytes back (omega arith) ∙ subst (λ m. take m bytes ≡ take m (drop 4 left)) e
    k.taken.front in
    record {
      rest = drop len (drop 4 left);
      stands = said left middle buf len four is h ∙ fits_record len (drop 4 left) fits
          ∙ cond-false (nat_lt (length (drop 4 left)) len) (Over (Refused Cut)) _
          (le-ltb (length (drop 4 left)) len many)
          ∙ ap (λ r. Record r (drop len (drop 4 left))) (sym front);
      behind = k.taken.rest ∙ ap (λ m. Some (drop m (drop 4 left))) e;
    }

pub next_record_cut : (E : Type 0) (before middle now : Option (List ℕ)) (buf bytes out : List ℕ) (len n : ℕ)
    → length buf ≡ 4 → len ≡ from_be_bytes w32 buf → len ≤ 65535 → length bytes ≡ len → n < len
    → Fills {E = E} before middle buf (Ok 4)
    → Fills {E = E} middle now bytes (Ok n) → Finds {E = E} before now out (Ok (found.Refused Cut))
next_record_cut E None middle now buf bytes out len n four is fits room few h k =
    subst (λ m. Fills {E = E} m now bytes (Ok n)) h k
next_record_cut E (Some left) middle now buf bytes out len n four is fits room few h k =
    record_cut E left middle now buf bytes out len n four is fits room few h
    (subst (λ m. Fills {E = E} m now bytes (Ok n)) h.taken.rest k)

pub next_record : (E : Type 0) (before middle now : Option (List ℕ)) (buf bytes back : List ℕ) (len n : ℕ)
    → length buf ≡ 4 → len ≡ from_be_bytes w32 buf → len ≤ 65535 → length bytes ≡ len → len ≤ n → n ≤ length bytes
    → Fills {E = E} before middle buf (Ok 4)
    → Fills {E = E} middle now bytes (Ok n) → Finds {E = E} before now (bytes ++ back) (Ok (found.Record len))
next_record E None middle now buf bytes back len n four is fits room all within h k =
    subst (λ m. Fills {E = E} m now bytes (Ok n)) h k
next_record E (Some left) middle now buf bytes back len n four is fits room all within h k =
    record_whole E left middle now buf bytes back len n four is fits room all within h
    (subst (λ m. Fills {E = E} m now bytes (Ok n)) h.taken.rest k)
