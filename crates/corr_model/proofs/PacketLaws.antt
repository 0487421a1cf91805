-- What is read of the bytes is what they spell, and they spell at most one packet.
use Rattle.std.proofs.Common.{◌≡◌, ℕ, ◌+◌, ◌*◌, ◌≤◌, Bool, true, false, not, ◌||◌, cond, eqb, ltb, List, [], ◌∷◌, ◌++◌, length, take, drop, slice_index, map, filter, Option, Some, None, IfSome, unwrap_or, refl, sym, ap, ◌∙◌, subst, arith, length-append, length-drop, length-take}
use Rattle.std.specs.Prelude.{is_none}
use Rattle.std.proofs.lemmas.List.{drop-drop, drop_at}
use Rattle.std.proofs.lemmas.Bool.Decides.{nat_tests}
use Rattle.corr_model.specs.Packets.{Parts, Spells, big, pointer_of, last_value, is_own, words_in, pointer_count, pointers_in, payload_in, front_refusal, length_refusal, said_refusal, either_row, refusal_of, parts_in, packet_in}
use Rattle.corr_model.specs.declared.pointer.Pointer.{Pointer}
use Rattle.corr_model.specs.declared.pointer.Refusal.{Refusal}
use Rattle.corr_model.specs.declared.pointer.Refusal.TheVariants.{Short, Magic, Version, Flavour, Pointers, NoCounter, NoOffset, NoLength, Length, PastHeap}
use Rattle.corr_model.proofs.PacketWords.{joined, length-words_in, words_in-eights, joined-words_in, length-joined, words_in-joined}

-- a row that does not apply, with none after it that does
passes : (b : Bool) (e : Refusal) (later : Option Refusal) → cond b (Some e) later ≡ None → (b ≡ false) × (later ≡ None)
passes true e later h = absurd cc
passes false e later h = (refl, h)

neither : (front later : Option Refusal) → either_row front later ≡ None → (front ≡ None) × (later ≡ None)
neither (Some e) later h = absurd cc
neither None later h = (refl, h)

pub neither_applies : (front later : Option Refusal) → front ≡ None → later ≡ None → either_row front later ≡ None
neither_applies (Some e) later h k = absurd cc
neither_applies None later h k = k

not_less : (a b : ℕ) → ltb a b ≡ false → b ≤ a
not_less a b h = grind (arith, nat_tests)

same : (a b : ℕ) → not (eqb a b) ≡ false → a ≡ b
same a b h = grind (arith, nat_tests)

both : (a b c d : ℕ) → not (eqb a b) || not (eqb c d) ≡ false → (a ≡ b) × (c ≡ d)
both a b c d h = (grind (arith, nat_tests), grind (arith, nat_tests))

-- a header that passes each test
pub record IsFront (bytes : List ℕ) : Type 0 where
  pub magic : slice_index bytes 0 ≡ 0x53
  pub version : slice_index bytes 1 ≡ 0x04
  pub pointer_width : slice_index bytes 2 ≡ 0x02
  pub address_width : slice_index bytes 3 ≡ 0x06
  pub header : 8 ≤ length bytes
  pub long : 8 + 8 * pointer_count bytes ≤ length bytes

IsFront-passed : (bytes : List ℕ) → front_refusal bytes ≡ None → IsFront bytes
IsFront-passed bytes h =
    let short = passes _ _ _ h in
    let magic = passes _ _ _ short.1 in
    let version = passes _ _ _ magic.1 in
    let flavour = passes _ _ _ version.1 in
    let pointers = passes _ _ _ flavour.1 in
    let widths = both _ _ _ _ flavour.0 in
    record {
      magic = same _ _ magic.0;
      version = same _ _ version.0;
      pointer_width = widths.0;
      address_width = widths.1;
      header = not_less _ _ short.0;
      long = not_less _ _ pointers.0;
    }

not_under : (a b : ℕ) → b ≤ a → ltb a b ≡ false
not_under a b h = grind (arith, nat_tests)

skipped : (b : Bool) (e : Refusal) (later : Option Refusal) → b ≡ false → later ≡ None → cond b (Some e) later ≡ None
skipped true e later h n = absurd cc
skipped false e later h n = n

alike : (a b : ℕ) → a ≡ b → not (eqb a b) ≡ false
alike a b h = grind (arith, nat_tests)

alike_both : (a b c d : ℕ) → a ≡ b → c ≡ d → not (eqb a b) || not (eqb c d) ≡ false
alike_both a b c d h k = grind (arith, nat_tests)

front_refusal-passed : (bytes : List ℕ) → IsFront bytes → front_refusal bytes ≡ None
front_refusal-passed bytes h =
    skipped _ Short _ (not_under _ _ h.header)
    (skipped _ Magic _ (alike _ _ h.magic) (skipped _ Version _ (alike _ _ h.version)
    (skipped _ Flavour _ (alike_both _ _ _ _ h.pointer_width h.address_width)
    (skipped _ Pointers _ (not_under _ _ h.long) refl))))

-- the special pointers say enough, and what agrees with the bytes found
pub record IsSaid (ps : List Pointer) (found : ℕ) : Type 0 where
  pub counter : last_value 1 ps ≡ Some (unwrap_or (last_value 1 ps) 0)
  pub offset : last_value 3 ps ≡ Some (unwrap_or (last_value 3 ps) 0)
  pub length_said : last_value 4 ps ≡ Some found
  pub within : IfSome (last_value 2 ps) (λ size. unwrap_or (last_value 3 ps) 0 + found ≤ size)

is_there : (o : Option ℕ) → is_none o ≡ false → o ≡ Some (unwrap_or o 0)
is_there None h = absurd cc
is_there (Some x) h = refl

-- the end is within the size that is said
room : (size : Option ℕ) (end : ℕ) → ltb (unwrap_or size end) end ≡ false → IfSome size (λ s. end ≤ s)
room None end h = tt
room (Some s) end h = not_less _ _ h

no_excess : (size : Option ℕ) (end : ℕ) → IfSome size (λ s. end ≤ s) → ltb (unwrap_or size end) end ≡ false
no_excess None end h = not_under end end (omega arith)
no_excess (Some s) end h = not_under s end h

length_passed : (size : Option ℕ) (offset claimed found : ℕ) → length_refusal size offset claimed found ≡ None
    → (claimed ≡ found) × IfSome size (λ s. offset + found ≤ s)
length_passed size offset claimed found h =
    let first = passes _ _ _ h in
    let second = passes _ _ _ first.1 in
    let equal = same _ _ first.0 in
    (equal, subst (λ (n : ℕ). IfSome size (λ s. offset + n ≤ s)) equal (room size (offset + claimed) second.0))

length_refusal-passed : (size : Option ℕ) (offset found : ℕ) → IfSome size (λ s. offset + found ≤ s)
    → length_refusal size offset found found ≡ None
length_refusal-passed size offset found h =
    skipped _ (Length found found) _ (alike _ _ refl) (skipped _ PastHeap _ (no_excess size (offset + found) h) refl)

IsSaid-passed : (ps : List Pointer) (found : ℕ) → said_refusal ps found ≡ None → IsSaid ps found
IsSaid-passed ps found h =
    let counter = passes _ _ _ h in
    let offset = passes _ _ _ counter.1 in
    let claimed = passes _ _ _ offset.1 in
    let size = length_passed (last_value 2 ps) (unwrap_or (last_value 3 ps) 0) (unwrap_or (last_value 4 ps) 0)
    found claimed.1 in
    record {
      counter = is_there (last_value 1 ps) counter.0;
      offset = is_there (last_value 3 ps) offset.0;
      length_said = is_there (last_value 4 ps) claimed.0 ∙ ap (λ (n : ℕ). Some n) size.0;
      within = size.1;
    }

absent_not : (o : Option ℕ) (x : ℕ) → o ≡ Some x → is_none o ≡ false
absent_not None x h = absurd cc
absent_not (Some y) x h = refl

said_refusal-passed : (ps : List Pointer) (found : ℕ) → IsSaid ps found → said_refusal ps found ≡ None
said_refusal-passed ps found h =
    let claimed : unwrap_or (last_value 4 ps) 0 ≡ found = ap (λ (o : Option ℕ). unwrap_or o 0) h.length_said in
    let size = length_refusal-passed (last_value 2 ps) (unwrap_or (last_value 3 ps) 0) found h.within in
    let last : length_refusal (last_value 2 ps) (unwrap_or (last_value 3 ps) 0) (unwrap_or (last_value 4 ps) 0) found
    ≡ None
    = ap (λ (n : ℕ). length_refusal (last_value 2 ps) (unwrap_or (last_value 3 ps) 0) n found) claimed ∙ size in
    skipped _ NoCounter _ (absent_not _ _ h.counter)
    (skipped _ NoOffset _ (absent_not _ _ h.offset) (skipped _ NoLength _ (absent_not _ _ h.length_said) last))

-- a header's eight bytes, each in its place
split : (bytes : List ℕ) → 8 ≤ length bytes
    → bytes ≡ (slice_index bytes 0 ∷ slice_index bytes 1 ∷ slice_index bytes 2 ∷ slice_index bytes 3 ∷ [])
    ++ (take 2 (drop 4 bytes) ++ (take 2 (drop 6 bytes) ++ drop 8 bytes))
split [] h = absurd (omega arith)
split (a ∷ []) h = absurd (omega arith)
split (a ∷ b ∷ []) h = absurd (omega arith)
split (a ∷ b ∷ c ∷ []) h = absurd (omega arith)
split (a ∷ b ∷ c ∷ d ∷ []) h = absurd (omega arith)
split (a ∷ b ∷ c ∷ d ∷ e ∷ []) h = absurd (omega arith)
split (a ∷ b ∷ c ∷ d ∷ e ∷ f ∷ []) h = absurd (omega arith)
split (a ∷ b ∷ c ∷ d ∷ e ∷ f ∷ g ∷ []) h = absurd (omega arith)
split (a ∷ b ∷ c ∷ d ∷ e ∷ f ∷ g ∷ i ∷ rest) h = refl

-- the bytes of a header that passes, with the words and the rest behind it
whole : (bytes : List ℕ) → IsFront bytes
    → bytes ≡ (0x53 ∷ 0x04 ∷ 0x02 ∷ 0x06 ∷ [])
    ++ (take 2 (drop 4 bytes)
    ++ (take 2 (drop 6 bytes) ++ (joined (words_in (pointer_count bytes) (drop 8 bytes)) ++ payload_in bytes)))
whole bytes h =
    let after = length-drop 8 bytes in
    let words = joined-words_in (pointer_count bytes) (drop 8 bytes) (let long = h.long in omega arith) in
    let rest : drop (8 * pointer_count bytes) (drop 8 bytes) ≡ payload_in bytes =
    drop-drop (8 * pointer_count bytes) 8 bytes in
    let tail : drop 8 bytes ≡ joined (words_in (pointer_count bytes) (drop 8 bytes)) ++ payload_in bytes
    = sym words ∙ ap (λ xs. joined (words_in (pointer_count bytes) (drop 8 bytes)) ++ xs) rest in
    split bytes h.header
    ∙ ap (λ n. (n ∷ slice_index bytes 1 ∷ slice_index bytes 2 ∷ slice_index bytes 3 ∷ [])
    ++ (take 2 (drop 4 bytes) ++ (take 2 (drop 6 bytes) ++ drop 8 bytes))) h.magic
    ∙ ap (λ n. (0x53 ∷ n ∷ slice_index bytes 2 ∷ slice_index bytes 3 ∷ [])
    ++ (take 2 (drop 4 bytes) ++ (take 2 (drop 6 bytes) ++ drop 8 bytes))) h.version
    ∙ ap (λ n. (0x53 ∷ 0x04 ∷ n ∷ slice_index bytes 3 ∷ [])
    ++ (take 2 (drop 4 bytes) ++ (take 2 (drop 6 bytes) ++ drop 8 bytes))) h.pointer_width
    ∙ ap (λ n. (0x53 ∷ 0x04 ∷ 0x02 ∷ n ∷ []) ++ (take 2 (drop 4 bytes) ++ (take 2 (drop 6 bytes) ++ drop 8 bytes)))
    h.address_width
    ∙ ap (λ xs. (0x53 ∷ 0x04 ∷ 0x02 ∷ 0x06 ∷ []) ++ (take 2 (drop 4 bytes) ++ (take 2 (drop 6 bytes) ++ xs))) tail

-- bytes that are not refused spell what is read of them
pub found : (bytes : List ℕ) → refusal_of bytes ≡ None → Spells bytes (parts_in bytes)
found bytes h =
    let parted = neither _ _ h in
    let front = IsFront-passed bytes parted.0 in
    let said = IsSaid-passed (pointers_in bytes) (length (payload_in bytes)) parted.1 in
    let after = length-drop 8 bytes in
    let fits : 8 * pointer_count bytes ≤ length (drop 8 bytes) = (let long = front.long in omega arith) in
    let header = front.header in
    let past4 = length-drop 4 bytes in
    let past6 = length-drop 6 bytes in
    record {
      reserved = take 2 (drop 4 bytes);
      count = take 2 (drop 6 bytes);
      words = words_in (pointer_count bytes) (drop 8 bytes);
      whole = whole bytes front;
      reserved_two = omega (arith, length-take 2 (drop 4 bytes));
      count_two = omega (arith, length-take 2 (drop 6 bytes));
      as_many = sym (length-words_in (pointer_count bytes) (drop 8 bytes));
      eights = words_in-eights (pointer_count bytes) (drop 8 bytes) fits;
      counter = said.counter;
      size = refl;
      offset = said.offset;
      length_said = said.length_said;
      within = said.within;
      own = refl;
    }

-- where the parts of bytes stand that begin so
pub record IsPlaced (bytes count tail : List ℕ) : Type 0 where
  pub magic : slice_index bytes 0 ≡ 0x53
  pub version : slice_index bytes 1 ≡ 0x04
  pub pointer_width : slice_index bytes 2 ≡ 0x02
  pub address_width : slice_index bytes 3 ≡ 0x06
  pub long : length bytes ≡ 8 + length tail
  pub said : pointer_count bytes ≡ big count
  pub behind : drop 8 bytes ≡ tail

placed : (reserved count tail : List ℕ) → length reserved ≡ 2 → length count ≡ 2
    → IsPlaced ((0x53 ∷ 0x04 ∷ 0x02 ∷ 0x06 ∷ []) ++ (reserved ++ (count ++ tail))) count tail
placed [] count tail h k = absurd (omega arith)
placed (a ∷ []) count tail h k = absurd (omega arith)
placed (a ∷ b ∷ c ∷ more) count tail h k = absurd (omega arith)
placed (a ∷ b ∷ []) [] tail h k = absurd (omega arith)
placed (a ∷ b ∷ []) (c ∷ []) tail h k = absurd (omega arith)
placed (a ∷ b ∷ []) (c ∷ d ∷ e ∷ more) tail h k = absurd (omega arith)
placed (a ∷ b ∷ []) (c ∷ d ∷ []) tail h k = record {
  magic = refl;
  version = refl;
  pointer_width = refl;
  address_width = refl;
  long = omega arith;
  said = refl;
  behind = refl;
}

same_parts : (p q : Parts) → p.counter ≡ q.counter → p.size ≡ q.size → p.offset ≡ q.offset → p.pointers ≡ q.pointers
    → p.payload ≡ q.payload → p ≡ q
same_parts p q c s o ps b =
    λ i. record { counter = c i; size = s i; offset = o i; pointers = ps i; payload = b i }

known : (o : Option ℕ) (x : ℕ) → o ≡ Some x → o ≡ Some (unwrap_or o 0)
known None x h = absurd cc
known (Some y) x h = refl

value : (o : Option ℕ) (x : ℕ) → o ≡ Some x → unwrap_or o 0 ≡ x
value o x h = ap (λ (r : Option ℕ). unwrap_or r 0) h

-- what is read at the places of bytes that spell a packet
record IsRead (bytes : List ℕ) (p : Parts) (words : List (List ℕ)) : Type 0 where
  pub front : IsFront bytes
  pub pointers : pointers_in bytes ≡ map pointer_of words
  pub payload : payload_in bytes ≡ p.payload

read : (bytes : List ℕ) (p : Parts) (s : Spells bytes p) → IsRead bytes p s.words
read bytes p s =
    let tail = joined s.words ++ p.payload in
    let places = subst (λ bs. IsPlaced bs s.count tail) (sym s.whole)
    (placed s.reserved s.count tail s.reserved_two s.count_two) in
    let count : pointer_count bytes ≡ length s.words = places.said ∙ s.as_many in
    let words : words_in (pointer_count bytes) (drop 8 bytes) ≡ s.words
    = ap (λ n. words_in n (drop 8 bytes)) count ∙ ap (λ xs. words_in (length s.words) xs) places.behind ∙
    words_in-joined s.words p.payload s.eights in
    let size = length-joined s.words s.eights in
    let payload : payload_in bytes ≡ p.payload
    = sym (drop-drop (8 * pointer_count bytes) 8 bytes) ∙ ap (λ n. drop (8 * n) (drop 8 bytes)) count ∙ ap
    (λ xs. drop (8 * length s.words) xs) places.behind ∙ drop_at (joined s.words) p.payload
    (8 * length s.words) size in
    let both_sizes = length-append (joined s.words) p.payload in
    let long = places.long in
    record {
      front = record {
        magic = places.magic;
        version = places.version;
        pointer_width = places.pointer_width;
        address_width = places.address_width;
        header = omega arith;
        long = omega arith;
      };
      pointers = ap (λ ws. map pointer_of ws) words;
      payload = payload;
    }

-- bytes that spell a packet are not refused
pub not_refused : (bytes : List ℕ) (p : Parts) → Spells bytes p → refusal_of bytes ≡ None
not_refused bytes p s =
    let r = read bytes p s in
    let counter = ap (λ ps. last_value 1 ps) r.pointers ∙ s.counter in
    let size = ap (λ ps. last_value 2 ps) r.pointers ∙ s.size in
    let offset = ap (λ ps. last_value 3 ps) r.pointers ∙ s.offset in
    let length_said = ap (λ ps. last_value 4 ps) r.pointers ∙ s.length_said in
    let bytes_found : length p.payload ≡ length (payload_in bytes) = sym (ap (λ (xs : List ℕ). length xs) r.payload) in
    let said : IsSaid (pointers_in bytes) (length (payload_in bytes)) = record {
      counter = known _ _ counter;
      offset = known _ _ offset;
      length_said = length_said ∙ ap (λ (n : ℕ). Some n) bytes_found;
      within = rw (size, value _ _ offset, ← bytes_found) s.within;
    } in
    neither_applies _ _ (front_refusal-passed bytes r.front)
    (said_refusal-passed (pointers_in bytes) (length (payload_in bytes)) said)

-- what is read of bytes that spell a packet is that packet
pub again : (bytes : List ℕ) (p : Parts) → Spells bytes p → parts_in bytes ≡ p
again bytes p s =
    let r = read bytes p s in
    let counter = ap (λ ps. last_value 1 ps) r.pointers ∙ s.counter in
    let size = ap (λ ps. last_value 2 ps) r.pointers ∙ s.size in
    let offset = ap (λ ps. last_value 3 ps) r.pointers ∙ s.offset in
    same_parts (parts_in bytes) p (value _ _ counter) size (value _ _ offset)
    (ap (λ ps. filter is_own ps) r.pointers ∙ sym s.own) r.payload

-- bytes spell at most one packet
pub spelled_once : (bytes : List ℕ) (p q : Parts) → Spells bytes p → Spells bytes q → p ≡ q
spelled_once bytes p q s t = sym (again bytes p s) ∙ again bytes q t

-- a packet that is read is not refused, and is what stands at the places
pub chosen : (why : Option Refusal) (q p : Parts) → cond (is_none why) (Some q) None ≡ Some p → (why ≡ None) × (q ≡ p)
chosen None q p h = (refl, cc)
chosen (Some e) q p h = absurd cc

-- what is read where nothing is refused is spelled
pub Spells-packet_in : (bytes : List ℕ) (p : Parts) → packet_in bytes ≡ Some p → Spells bytes p
Spells-packet_in bytes p h =
    let c = chosen (refusal_of bytes) (parts_in bytes) p h in
    subst (λ q. Spells bytes q) c.1 (found bytes c.0)

-- what is spelled is read
pub packet_in-spelled : (bytes : List ℕ) (p : Parts) → Spells bytes p → packet_in bytes ≡ Some p
packet_in-spelled bytes p s = rw (not_refused bytes p s) (ap (λ (q : Parts). Some q) (again bytes p s))

left_out : (why : Option Refusal) (q : Parts) → cond (is_none why) (Some q) None ≡ None → (e : Refusal) × (why ≡ Some e)
left_out None q h = absurd cc
left_out (Some e) q h = (e, refl)

-- bytes that spell no packet have a refusal
pub refused_if_unspelled : (bytes : List ℕ) → packet_in bytes ≡ None → (e : Refusal) × (refusal_of bytes ≡ Some e)
refused_if_unspelled bytes h = left_out (refusal_of bytes) (parts_in bytes) h

-- bytes that are refused spell nothing
pub refused_unspelled : (bytes : List ℕ) (e : Refusal) (p : Parts) → refusal_of bytes ≡ Some e → Spells bytes p → ⊥
refused_unspelled bytes e p h s = let none = not_refused bytes p s in cc
