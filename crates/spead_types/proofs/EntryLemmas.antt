-- Lemmas on the entries of a shape and of a type list, and on the tests of their form.
use Rattle.std.proofs.Common.{◌≡◌, ℕ, zero, suc, ◌/◌, ◌%◌, ◌<◌, ◌≤◌, Bool, true, false, not, ◌&&◌, ◌||◌, ◌==◌, nat_lt, nat_le, if◌then◌else◌, List, ◌∷◌, ◌++◌, length, take, drop, map, Option, Some, None, unwrap_or, refl, sym, ap, ap₂, ◌∙◌, arith, length-append, length-drop}
use Rattle.std.specs.List.{list_all}
use Rattle.std.proofs.lemmas.Bool.{cond-true, cond-false, and_from, le-leb, le-ltb, lt-ltb, eq-eqb, not_from_true, not_from_false, or_from, or_left, or_right}
use Rattle.std.proofs.lemmas.List.{length-map}
use Rattle.corr_model.specs.declared.item.ItemType.{ItemType}
use Rattle.corr_model.specs.declared.item.Dim.{Dim}
use Rattle.corr_model.specs.declared.item.DescRefusal.{DescRefusal}
use Rattle.corr_model.specs.declared.item.DescRefusal.TheVariants.{NoId, ShapeBytes, TypeBytes, NoType, Letter, Bits, TooMany}
use Rattle.corr_model.specs.Descriptors.{pieces, dimension, item_type, shape_of, types_of, form_refusal, is_letter}

-- ---- entries

length-pieces : (width n : ℕ) (bytes : List ℕ) → length (pieces width n bytes) ≡ n
length-pieces width zero bytes = refl
length-pieces width (suc n) bytes = ap suc (length-pieces width n (drop width bytes))

pub length-types_of : (bytes : List ℕ) → length (types_of bytes) ≡ length bytes / 3
length-types_of bytes =
    length-map (pieces 3 (length bytes / 3) bytes) item_type ∙ length-pieces 3 (length bytes / 3) bytes

pub length-shape_of : (bytes : List ℕ) → length (shape_of bytes) ≡ length bytes / 7
length-shape_of bytes =
    length-map (pieces 7 (length bytes / 7) bytes) dimension ∙ length-pieces 7 (length bytes / 7) bytes

-- the first type entry, and those behind it
pub first_type : (bytes entry behind : List ℕ) (now : List ItemType) (t : ItemType) → types_of bytes ≡ now
    → 3 ≤ length bytes → entry ≡ take 3 bytes → behind ≡ drop 3 bytes → t ≡ item_type entry → now ≡ t ∷ types_of behind
first_type bytes entry behind now t is enough front back read =
    let count : length bytes / 3 ≡ suc (length (drop 3 bytes) / 3) = omega (arith, length-drop 3 bytes) in
    sym is
    ∙ ap (λ n. map item_type (pieces 3 n bytes)) count
    ∙ ap₂ (λ x xs. x ∷ xs) (ap item_type (sym front) ∙ sym read) (ap types_of (sym back))

-- the first dimension, and those behind it
pub first_dim : (bytes entry behind : List ℕ) (now : List Dim) (d : Dim) → shape_of bytes ≡ now → 7 ≤ length bytes
    → entry ≡ take 7 bytes → behind ≡ drop 7 bytes → d ≡ dimension entry → now ≡ d ∷ shape_of behind
first_dim bytes entry behind now d is enough front back read =
    let count : length bytes / 7 ≡ suc (length (drop 7 bytes) / 7) = omega (arith, length-drop 7 bytes) in
    sym is
    ∙ ap (λ n. map dimension (pieces 7 n bytes)) count
    ∙ ap₂ (λ x xs. x ∷ xs) (ap dimension (sym front) ∙ sym read) (ap shape_of (sym back))

-- there is room for one more of at most eight
pub room_for : {X : Type 0} (done left rest whole : List X) (x : X) → done ++ left ≡ whole → left ≡ x ∷ rest
    → length whole ≤ 8 → length done < 8
room_for done left rest whole x is next few =
    omega (arith, length-append done left, ap length is, ap length next)

-- ---- tests

abbrev letters : List ItemType → Bool
letters types = list_all (λ t. is_letter t.letter) types

abbrev widths : List ItemType → Bool
widths types = list_all (λ t. nat_le 1 t.bits && nat_le t.bits 64) types

-- the tests of the type entries and of the number of entries
abbrev late_refusal : ℕ → ℕ → List ItemType → Option DescRefusal
late_refusal shape_bytes type_bytes types =
    if not (letters types) then Some Letter
    else (if not (widths types) then Some Bits
    else (if nat_lt 56 shape_bytes || nat_lt 24 type_bytes then Some TooMany
    else None))

not_empty : (n : ℕ) (empty : Bool) → empty ≡ (n == 0) → empty ≡ false → (n == 0) ≡ false
not_empty n empty is some = sym is ∙ some

-- where the id and the lengths pass their tests
pub lengths_pass : (id : Option ℕ) (n shape_bytes type_bytes : ℕ) (empty : Bool) (types : List ItemType)
    → n ≡ unwrap_or id 0 → 1 ≤ n → n ≤ 0x7fffff → shape_bytes % 7 ≡ 0 → type_bytes % 3 ≡ 0
    → empty ≡ (type_bytes == 0) → empty ≡ false
    → form_refusal id shape_bytes type_bytes types ≡ late_refusal shape_bytes type_bytes types
lengths_pass id n shape_bytes type_bytes empty types is least most shape whole_types tested some =
    let i = unwrap_or id 0 in
    cond-false (not (nat_le 1 i && nat_le i 0x7fffff)) (Some NoId) _
    (not_from_true _ (and_from _ _ (le-leb 1 i (omega arith)) (le-leb i 0x7fffff (omega arith))))
    ∙ cond-false (not (shape_bytes % 7 == 0)) (Some ShapeBytes) _ (not_from_true _ (eq-eqb _ _ shape))
    ∙ cond-false (not (type_bytes % 3 == 0)) (Some TypeBytes) _ (not_from_true _ (eq-eqb _ _ whole_types))
    ∙ cond-false (type_bytes == 0) (Some NoType) _ (not_empty type_bytes empty tested some)

pub letter_fails : (shape_bytes type_bytes : ℕ) (types : List ItemType) → letters types ≡ false
    → late_refusal shape_bytes type_bytes types ≡ Some Letter
letter_fails shape_bytes type_bytes types other =
    cond-true (not (letters types)) (Some Letter) _ (not_from_false _ other)

letters_pass : (shape_bytes type_bytes : ℕ) (types : List ItemType) → letters types ≡ true
    → late_refusal shape_bytes type_bytes types
    ≡ (if not (widths types) then Some Bits
    else (if nat_lt 56 shape_bytes || nat_lt 24 type_bytes then Some TooMany else None))
letters_pass shape_bytes type_bytes types said = cond-false (not (letters types)) (Some Letter) _ (not_from_true _ said)

pub width_fails : (shape_bytes type_bytes : ℕ) (types : List ItemType) → letters types ≡ true → widths types ≡ false
    → late_refusal shape_bytes type_bytes types ≡ Some Bits
width_fails shape_bytes type_bytes types said other =
    letters_pass shape_bytes type_bytes types said ∙ cond-true (not (widths types)) (Some Bits) _
    (not_from_false _ other)

widths_pass : (shape_bytes type_bytes : ℕ) (types : List ItemType) → letters types ≡ true → widths types ≡ true
    → late_refusal shape_bytes type_bytes types
    ≡ (if nat_lt 56 shape_bytes || nat_lt 24 type_bytes then Some TooMany else None)
widths_pass shape_bytes type_bytes types said fit =
    letters_pass shape_bytes type_bytes types said ∙ cond-false (not (widths types)) (Some Bits) _ (not_from_true _ fit)

pub shape_many : (shape_bytes type_bytes : ℕ) (types : List ItemType) → letters types ≡ true → widths types ≡ true
    → 56 < shape_bytes → late_refusal shape_bytes type_bytes types ≡ Some TooMany
shape_many shape_bytes type_bytes types said fit many =
    widths_pass shape_bytes type_bytes types said fit ∙ cond-true (nat_lt 56 shape_bytes || nat_lt 24 type_bytes)
    (Some TooMany) None (or_left _ _ (lt-ltb 56 shape_bytes many))

pub types_many : (shape_bytes type_bytes : ℕ) (types : List ItemType) → letters types ≡ true → widths types ≡ true
    → 24 < type_bytes → late_refusal shape_bytes type_bytes types ≡ Some TooMany
types_many shape_bytes type_bytes types said fit many =
    widths_pass shape_bytes type_bytes types said fit ∙ cond-true (nat_lt 56 shape_bytes || nat_lt 24 type_bytes)
    (Some TooMany) None (or_right (nat_lt 56 shape_bytes) _ (lt-ltb 24 type_bytes many))

pub none_late : (shape_bytes type_bytes : ℕ) (types : List ItemType) → letters types ≡ true → widths types ≡ true
    → shape_bytes ≤ 56 → type_bytes ≤ 24 → late_refusal shape_bytes type_bytes types ≡ None
none_late shape_bytes type_bytes types said fit few_dims few_types =
    widths_pass shape_bytes type_bytes types said fit ∙ cond-false (nat_lt 56 shape_bytes || nat_lt 24 type_bytes)
    (Some TooMany) None (or_from _ _ (le-ltb 56 shape_bytes few_dims) (le-ltb 24 type_bytes few_types))
