-- Numbers in bytes, and what the widths of the fields say of them.
use Rattle.std.proofs.Common.{◌≡◌, ℕ, zero, suc, ◌+◌, ◌*◌, ◌^◌, ◌<◌, ◌≤◌, ◌%◌, Bool, true, false, List, [], ◌∷◌, length, take, drop, slice_index, map, filter, Option, Some, None, IfSome, All, Result, Ok, cond, fold, ◌&&◌, ◌==◌, inl, inr, refl, sym, ◌∙◌, subst, arith, length-drop, length-take}
use Rattle.std.proofs.lemmas.List.{get_or-drop, get_or-take, get_or_past}
use Rattle.std.proofs.lemmas.Bool.{cases_lt}
use Rattle.std.proofs.lemmas.List.Elements.{All-nil, All-cons, All-tail, All-head}
use Rattle.byteorder.specs.Endian.{big_number}
use Rattle.corr_model.specs.declared.pointer.Pointer.{Pointer}
use Rattle.corr_model.specs.Packets.{big, pointer_of, words_in, is_own, later_value, last_value}
use Rattle.corr_model.specs.declared.pointer.Refusal.{Refusal}
use Rattle.std.specs.Option.{ok_or}
use Rattle.std.proofs.lemmas.Bool.Decides.{nat_tests}
use Rattle.spead_wire.specs.Widths.{HasPointerWidths, IsHeapPointer}

-- two bytes in front, read as a number
pub big_two : (bytes : List ℕ) → 2 ≤ length bytes → big_number 2 bytes ≡ big (take 2 bytes)
big_two [] h = absurd (omega arith)
big_two (a ∷ []) h = absurd (omega arith)
big_two (a ∷ b ∷ rest) h = grind arith

-- six bytes, read as a number
pub big_six : (bytes : List ℕ) → length bytes ≡ 6 → big_number 6 bytes ≡ big bytes
big_six [] h = absurd (omega arith)
big_six (a ∷ []) h = absurd (omega arith)
big_six (a ∷ b ∷ []) h = absurd (omega arith)
big_six (a ∷ b ∷ c ∷ []) h = absurd (omega arith)
big_six (a ∷ b ∷ c ∷ d ∷ []) h = absurd (omega arith)
big_six (a ∷ b ∷ c ∷ d ∷ e ∷ []) h = absurd (omega arith)
big_six (a ∷ b ∷ c ∷ d ∷ e ∷ f ∷ []) h = omega arith
big_six (a ∷ b ∷ c ∷ d ∷ e ∷ f ∷ g ∷ rest) h = absurd (omega arith)

abbrev pub AreBytes : List ℕ → Type 0
AreBytes bytes = (i : ℕ) → slice_index bytes i < 256

pub AreBytes-drop : (n : ℕ) (bytes : List ℕ) → AreBytes bytes → AreBytes (drop n bytes)
AreBytes-drop n bytes h i = rw (get_or-drop n bytes i 0) (h (n + i))

-- six bytes hold a number of 48 bits
big-small : (bytes : List ℕ) → length bytes ≡ 6 → AreBytes bytes → big bytes < 2 ^ 48
big-small [] h k = absurd (omega arith)
big-small (a ∷ []) h k = absurd (omega arith)
big-small (a ∷ b ∷ []) h k = absurd (omega arith)
big-small (a ∷ b ∷ c ∷ []) h k = absurd (omega arith)
big-small (a ∷ b ∷ c ∷ d ∷ []) h k = absurd (omega arith)
big-small (a ∷ b ∷ c ∷ d ∷ e ∷ []) h k = absurd (omega arith)
big-small (a ∷ b ∷ c ∷ d ∷ e ∷ f ∷ []) h k =
    omega (arith, k 0, k 1, k 2, k 3, k 4, k 5)
big-small (a ∷ b ∷ c ∷ d ∷ e ∷ f ∷ g ∷ rest) h k = absurd (omega arith)

id-small : (n : ℕ) → n % 32768 < 2 ^ 15
id-small n = omega arith

-- a pointer read from eight bytes
HasPointerWidths-word : (word : List ℕ) → length word ≡ 8 → AreBytes word → HasPointerWidths (pointer_of word)
HasPointerWidths-word word eight bytes =
    record {
      id = id-small (big (take 2 word));
      value = big-small (drop 2 word) (omega (arith, length-drop 2 word)) (AreBytes-drop 2 word bytes);
    }

AreBytes-take : (n : ℕ) (bytes : List ℕ) → AreBytes bytes → AreBytes (take n bytes)
AreBytes-take n bytes h i =
    elim (cases_lt i n) [
      | inl less ↦ rw (get_or-take n bytes i 0 less) (h i)
      | inr more ↦ rw (get_or_past (take n bytes) i 0 (omega (arith, length-take n bytes))) (omega arith)
    ]

-- the pointers read from bytes have the widths of their fields
pub words-widths : (n : ℕ) (bytes : List ℕ) → 8 * n ≤ length bytes → AreBytes bytes
    → All HasPointerWidths (map pointer_of (words_in n bytes))
words-widths zero bytes long small = All-nil HasPointerWidths
words-widths (suc n) bytes long small =
    let first = HasPointerWidths-word (take 8 bytes) (omega (arith, length-take 8 bytes))
    (AreBytes-take 8 bytes small) in
    let rest = words-widths n (drop 8 bytes) (omega (arith, length-drop 8 bytes)) (AreBytes-drop 8 bytes small) in
    All-cons HasPointerWidths (pointer_of (take 8 bytes)) (map pointer_of (words_in n (drop 8 bytes))) first rest

abbrev pub IsSmall : Option ℕ → Type 0
IsSmall o = IfSome o (λ v. v < 2 ^ 48)

chosen-small : (b : Bool) (before : Option ℕ) (v : ℕ) → IsSmall before → v < 2 ^ 48 → IsSmall (cond b (Some v) before)
chosen-small true before v h k = k
chosen-small false before v h k = h

later-small : (id : ℕ) (before : Option ℕ) (p : Pointer) → IsSmall before → p.value < 2 ^ 48
    → IsSmall (later_value id before p)
later-small id before p h k = chosen-small (p.immediate && (p.id == id)) before p.value h k

fold-small : (id : ℕ) (before : Option ℕ) (ps : List Pointer) → IsSmall before → All HasPointerWidths ps
    → IsSmall (fold (later_value id) before ps)
fold-small id before [] h k = h
fold-small id before (p ∷ ps) h k =
    let first = All-head HasPointerWidths p ps k in
    fold-small id (later_value id before p) ps (later-small id before p h first.value)
    (All-tail HasPointerWidths p ps k)

-- the values of pointers within their widths are within them
pub last_value-small : (id : ℕ) (ps : List Pointer) → All HasPointerWidths ps → IsSmall (last_value id ps)
last_value-small id ps h = fold-small id None ps tt h

said : (o : Option ℕ) (e : Refusal) (r : Result ℕ Refusal) (v : ℕ) → r ≡ ok_or o e → r ≡ Ok v → o ≡ Some v
said None e r v h k = absurd cc
said (Some x) e r v h k = cc

-- a value that the special pointers say is within its width
pub said-small : (id : ℕ) (ps : List Pointer) (o : Option ℕ) (e : Refusal) (r : Result ℕ Refusal) (v : ℕ)
    → All HasPointerWidths ps → o ≡ last_value id ps → r ≡ ok_or o e → r ≡ Ok v → v < 2 ^ 48
said-small id ps o e r v widths is from was =
    subst IsSmall (sym is ∙ said o e r v from was) (last_value-small id ps widths)

own_pointer : (p : Pointer) → HasPointerWidths p → is_own p ≡ true → IsHeapPointer p
own_pointer p h k = record { own = grind (arith, nat_tests); id = h.id; value = h.value }

own_case : (b : Bool) (p : Pointer) (ps : List Pointer) → is_own p ≡ b → HasPointerWidths p
    → All IsHeapPointer (filter is_own ps) → All IsHeapPointer (cond b (p ∷ filter is_own ps) (filter is_own ps))
own_case true p ps e h k = All-cons IsHeapPointer p (filter is_own ps) (own_pointer p h e) k
own_case false p ps e h k = k

-- the heap's pointers among pointers within their widths
pub All-own : (ps : List Pointer) → All HasPointerWidths ps → All IsHeapPointer (filter is_own ps)
All-own [] h = All-nil IsHeapPointer
All-own (p ∷ ps) h =
    own_case (is_own p) p ps refl (All-head HasPointerWidths p ps h) (All-own ps (All-tail HasPointerWidths p ps h))

few_case : (b : Bool) (p : Pointer) (ps : List Pointer) → length (filter is_own ps) ≤ length ps
    → length (cond b (p ∷ filter is_own ps) (filter is_own ps)) ≤ length (p ∷ ps)
few_case true p ps h = omega arith
few_case false p ps h = omega arith

-- no more pointers are the heap's than there are
pub few_own : (ps : List Pointer) → length (filter is_own ps) ≤ length ps
few_own [] = omega arith
few_own (p ∷ ps) = few_case (is_own p) p ps (few_own ps)
