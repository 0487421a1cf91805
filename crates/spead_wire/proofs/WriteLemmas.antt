-- Bytes that are put at places one behind another.
use Rattle.std.proofs.Common.{◌≡◌, ℕ, ◌+◌, ◌*◌, ◌≤◌, ◌<◌, ◌^◌, List, [], ◌∷◌, ◌++◌, length, get_or, take, drop, flat_map, Option, Some, All, refl, sym, ap, ◌∙◌, subst, append_assoc, arith, length-append, take-append-drop, add-zero}
use Rattle.std.proofs.lemmas.List.{take_at, drop_at, drop-drop, length-take-le, take_more, take_all, flat_map_more}
use Rattle.std.proofs.lemmas.List.Concat.{flat_map-append}
use Rattle.std.proofs.lemmas.List.Elements.{All-weaker}
use Rattle.std.specs.Int.{bytes_high_first}
use Rattle.corr_model.specs.declared.pointer.Pointer.{Pointer}
use Rattle.corr_model.specs.Packets.{packet_in}
use Rattle.corr_model.specs.Descriptors.{word_of, immediate, size_pointers, special_pointers}
use Rattle.corr_model.proofs.SpelledPackets.{IsOwn, length_words, whole_length, packet_back}
use Rattle.spead_wire.specs.declared.packet_head.PacketHead.{PacketHead}
use Rattle.spead_wire.specs.Widths.{IsHeapPointer, HasWidths}
use Rattle.spead_wire.specs.Writing.{PutsAt, parts_of_head, all_pointers, bytes_of_head}

-- nothing is put
pub puts_nothing : (old : List ℕ) (at : ℕ) → PutsAt old old at []
puts_nothing old at = record { is = sym (ap (λ n. take at old ++ drop n old) (add-zero at) ∙ take-append-drop at old) }

-- what is put, then that which is put behind it
pub puts_on : (old middle new : List ℕ) (at behind : ℕ) (x y : List ℕ) → PutsAt old middle at x
    → PutsAt middle new behind y → behind ≡ at + length x → behind ≤ length old
    → PutsAt old new at (x ++ y)
puts_on old middle new at behind x y first second place room =
    let front = take at old ++ x in
    let long : length front ≡ behind =
    length-append (take at old) x ∙ ap (λ n. n + length x) (length-take-le at old (omega arith)) ∙ sym place in
    let whole : middle ≡ front ++ drop (at + length x) old =
    first.is ∙ sym (append_assoc (take at old) x (drop (at + length x) old)) in
    let before : take behind middle ≡ front =
    ap (take behind) whole ∙ take_at front (drop (at + length x) old) behind long in
    let rest : drop behind middle ≡ drop (at + length x) old =
    ap (drop behind) whole ∙ drop_at front (drop (at + length x) old) behind long in
    let sum : at + length x + length y ≡ at + length (x ++ y) = omega (arith, length-append x y) in
    let after : drop (behind + length y) middle ≡ drop (at + length (x ++ y)) old
    = sym (drop-drop (length y) behind middle) ∙ ap (drop (length y)) rest ∙ drop-drop (length y) (at + length x) old ∙
    ap (λ n. drop n old) sum in
    record {
      is =
          second.is
          ∙ ap (λ l. l ++ (y ++ drop (behind + length y) middle)) before
          ∙ ap (λ l. front ++ (y ++ l)) after
          ∙ append_assoc (take at old) x (y ++ drop (at + length (x ++ y)) old)
          ∙ ap (λ l. take at old ++ l) (sym (append_assoc x y (drop (at + length (x ++ y)) old)));
    }

-- what stands in front, and what stays
pub record IsFront (old new : List ℕ) (count : ℕ) (bytes : List ℕ) : Type 0 where
  pub front : take count new ≡ bytes
  pub rest : drop count new ≡ drop count old

-- bytes that are put from the first place on
pub front_put : (old new : List ℕ) (count : ℕ) (bytes : List ℕ) → PutsAt old new 0 bytes → count ≡ length bytes
    → IsFront old new count bytes
front_put old new count bytes put long = record {
  front = ap (take count) put.is ∙ take_at bytes (drop (0 + length bytes) old) count (sym long);
  rest = ap (drop count) put.is ∙ drop_at bytes (drop (0 + length bytes) old) count (sym long) ∙ ap (λ n. drop n old)
      (let e : 0 + length bytes ≡ count = omega arith in e);
}

-- the same of bytes that are known by other words
pub puts_both : (old middle new : List ℕ) (at behind : ℕ) (a b x y : List ℕ) → PutsAt old middle at a
    → PutsAt middle new behind b → a ≡ x → b ≡ y → behind ≡ at + length a → behind ≤ length old
    → PutsAt old new at (x ++ y)
puts_both old middle new at behind a b x y first second ea eb place room =
    subst (λ l. PutsAt old new at (l ++ y)) ea
    (subst (λ l. PutsAt old new at (a ++ l)) eb (puts_on old middle new at behind a b first second place room))

-- eight bytes for each of the first pointers
length-first : (ps : List Pointer) (i : ℕ) → i ≤ length ps → length (flat_map word_of (take i ps)) ≡ 8 * i
length-first ps i within = length_words (take i ps) ∙ ap (λ n. 8 * n) (length-take-le i ps within)

-- one more pointer of a list
pub pointer_more : (old now next : List ℕ) (at behind i : ℕ) (ps : List Pointer) (p : Pointer)
    → PutsAt old now at (flat_map word_of (take i ps)) → behind ≡ at + 8 * i → i < length ps → get_or ps i p ≡ p
    → PutsAt now next behind (word_of p) → behind ≤ length old → PutsAt old next at (flat_map word_of (take (i + 1) ps))
pointer_more old now next at behind i ps p so_far place below here put room =
    let long = length-first ps i (omega arith) in
    let joined : flat_map word_of (take i ps) ++ word_of p ≡ flat_map word_of (take (i + 1) ps)
    = flat_map_more word_of [] (take i ps) p
    ∙ ap (λ q. flat_map word_of (take i ps ++ q ∷ [])) (sym here)
    ∙ ap (flat_map word_of) (sym (take_more ps i p below)) in
    subst (PutsAt old next at) joined
    (puts_on old now next at behind (flat_map word_of (take i ps)) (word_of p) so_far put
    (omega (arith, place, long)) room)

-- all pointers of a list
pub pointers_all : (old now : List ℕ) (at i : ℕ) (ps : List Pointer) → PutsAt old now at (flat_map word_of (take i ps))
    → length ps ≤ i → PutsAt old now at (flat_map word_of ps)
pointers_all old now at i ps put end = subst (λ qs. PutsAt old now at (flat_map word_of qs)) (take_all i ps end) put

-- counter, size if said, offset and length, one after another
pub special_puts : (old a b c new : List ℕ) (at p q r counter : ℕ) (size : Option ℕ) (offset bytes : ℕ)
    (one three four : Pointer)
    → one ≡ immediate 1 counter → three ≡ immediate 3 offset → four ≡ immediate 4 bytes
    → PutsAt old a at (word_of one) → PutsAt a b p (flat_map word_of (size_pointers size))
    → PutsAt b c q (word_of three) → PutsAt c new r (word_of four)
    → p ≡ at + 8 → q ≡ p + 8 * length (size_pointers size) → r ≡ q + 8 → r ≤ length old
    → PutsAt old new at (flat_map word_of (special_pointers counter size offset bytes))
special_puts old a b c new at p q r counter size offset bytes one three four h1 h3 h4 pa pb pc pn ep eq er room =
    let w1 = word_of (immediate 1 counter) in
    let sizes = flat_map word_of (size_pointers size) in
    let w3 = word_of (immediate 3 offset) in
    let w4 = word_of (immediate 4 bytes) in
    let long = length_words (size_pointers size) in
    let to_b = puts_both old a b at p (word_of one) sizes w1 sizes pa pb (ap word_of h1) refl ep (omega arith) in
    let to_c = puts_both old b c at q (w1 ++ sizes) (word_of three) (w1 ++ sizes) w3 to_b pc refl (ap word_of h3)
    (omega (arith, length-append w1 sizes, long)) (omega arith) in
    let to_new = puts_both old c new at r ((w1 ++ sizes) ++ w3) (word_of four) ((w1 ++ sizes) ++ w3) w4 to_c pn refl
    (ap word_of h4)
    (omega (arith, length-append (w1 ++ sizes) w3, length-append w1 sizes, long)) room in
    subst (PutsAt old new at)
    (append_assoc (w1 ++ sizes) w3 w4 ∙ append_assoc w1 sizes (w3 ++ w4)
    ∙ ap (λ l. w1 ++ l) (sym
    (flat_map-append word_of (size_pointers size) (immediate 3 offset ∷ immediate 4 bytes ∷ []))))
    to_new

-- three special pointers, and one more where a size is said
length-special : (counter : ℕ) (size : Option ℕ) (offset bytes : ℕ)
    → length (special_pointers counter size offset bytes) ≡ 3 + length (size_pointers size)
length-special counter size offset bytes =
    let long = length-append (size_pointers size) (immediate 3 offset ∷ immediate 4 bytes ∷ []) in omega (arith, long)

-- header, special pointers, the heap's pointers and payload, one after another, are the packet
pub packet_puts : (old a b c new : List ℕ) (p q r end special : ℕ) (head : PacketHead) (ps : List Pointer)
    (payload : List ℕ)
    → special ≡ 3 + length (size_pointers head.size)
    → PutsAt old a 0 ((0x53 ∷ 0x04 ∷ 0x02 ∷ 0x06 ∷ 0 ∷ 0 ∷ []) ++ bytes_high_first 2 (special + length ps))
    → PutsAt a b p (flat_map word_of (special_pointers head.counter head.size head.offset (length payload)))
    → PutsAt b c q (flat_map word_of ps) → PutsAt c new r payload
    → p ≡ 8 → q ≡ p + 8 * length (special_pointers head.counter head.size head.offset (length payload))
    → r ≡ q + 8 * length ps → end ≡ r + length payload → end ≤ length old
    → IsFront old new end (bytes_of_head head ps payload)
packet_puts old a b c new p q r end special head ps payload many pa pb pc pn ep eq er ee room =
    let first = special_pointers head.counter head.size head.offset (length payload) in
    let six : List ℕ = 0x53 ∷ 0x04 ∷ 0x02 ∷ 0x06 ∷ 0 ∷ 0 ∷ [] in
    let header = six ++ bytes_high_first 2 (special + length ps) in
    let w1 = flat_map word_of first in
    let w2 = flat_map word_of ps in
    let n1 = length_words first in
    let n2 = length_words ps in
    let count : special + length ps ≡ length (first ++ ps) =
    omega (arith, many, length-special head.counter head.size head.offset (length payload), length-append first ps)
    in
    let to_b = puts_on old a b 0 p header w1 pa pb (omega arith) (omega arith) in
    let to_c = puts_on old b c 0 q (header ++ w1) w2 to_b pc (omega (arith, length-append header w1)) (omega arith) in
    let to_new = puts_on old c new 0 r ((header ++ w1) ++ w2) payload to_c pn
    (omega (arith, length-append (header ++ w1) w2, length-append header w1)) (omega arith) in
    let same : ((header ++ w1) ++ w2) ++ payload ≡ bytes_of_head head ps payload
    = append_assoc (header ++ w1) w2 payload
    ∙ append_assoc header w1 (w2 ++ payload)
    ∙ ap (λ l. header ++ l)
    (sym (append_assoc w1 w2 payload) ∙ ap (λ l. l ++ payload) (sym (flat_map-append word_of first ps)))
    ∙ ap (λ n. six ++ (bytes_high_first 2 n ++ (flat_map word_of (first ++ ps) ++ payload))) count in
    let put = subst (PutsAt old new 0) same to_new in
    front_put old new end (bytes_of_head head ps payload) put
    (omega (arith, whole_length (first ++ ps) payload, length-append first ps))

-- pointers of the heap say nothing of the packet
own_each : (ps : List Pointer) → All IsHeapPointer ps → All IsOwn ps
own_each ps each = All-weaker IsHeapPointer IsOwn
    (λ p is. record { least = is.own; id = is.id; value = is.value }) ps each

-- the bytes of a packet read back
pub read_back : (bytes : List ℕ) (head : PacketHead) (ps : List Pointer) (payload : List ℕ)
    → HasWidths (parts_of_head head ps payload) → length (all_pointers head ps payload) < 2 ^ 16
    → bytes ≡ bytes_of_head head ps payload
    → packet_in bytes ≡ Some (parts_of_head head ps payload)
read_back bytes head ps payload widths few same =
    ap packet_in same ∙ packet_back head.counter head.size head.offset ps payload widths.counter widths.size
    widths.offset widths.payload widths.within few (own_each ps widths.pointers)
