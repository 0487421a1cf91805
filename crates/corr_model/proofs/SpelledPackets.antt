-- What was written as a packet is read back as it.
use Rattle.std.proofs.Common.{◌≡◌, ℕ, zero, suc, ◌+◌, ◌*◌, ◌/◌, ◌%◌, ◌^◌, ◌<◌, ◌≤◌, Bool, true, false, cond, not, ◌&&◌, ◌==◌, nat_lt, nat_le, if◌then◌else◌, List, [], ◌∷◌, ◌++◌, Option, Some, None, IfSome, is_none, unwrap_or, All, length, map, drop, filter, fold, flat_map, refl, sym, ap, ap₂, ◌∙◌, arith, add_assoc, add-mul, div-add-mod', div-one, mod-eq_of_lt, mod-lt, mul_assoc, mul-le-mul_right, length-append}
use Rattle.std.proofs.Math.Nat.{mul-add-mod_self_right, one-le-pow, pow-succ'}
use Rattle.std.proofs.lemmas.Bool.{and_right, eq-eqb, ne_eqb, le-ltb, le-leb, lt-ltb, lt-leb}
use Rattle.std.proofs.lemmas.List.{drop_at}
use Rattle.std.proofs.lemmas.List.Elements.{All-cons, All-head, All-tail, All-weaker}
use Rattle.std.specs.Int.{bytes_high_first, byte_at}
use Rattle.corr_model.specs.declared.pointer.Pointer.{Pointer}
use Rattle.corr_model.specs.declared.pointer.Refusal.{Refusal}
use Rattle.corr_model.specs.declared.pointer.Refusal.TheVariants.{Short, Pointers, NoCounter, NoOffset, NoLength, Length, PastHeap}
use Rattle.corr_model.specs.Packets.{big, pointer_of, later_value, last_value, is_own, Parts, words_in, pointer_count, pointers_in, payload_in, front_refusal, length_refusal, said_refusal, either_row, packet_in}
use Rattle.corr_model.specs.Descriptors.{word_of, immediate, special_pointers, packet_bytes}
use Rattle.corr_model.specs.Outputs.{heap_packet}

-- ---- numbers

-- the two low digits of n, to the bases c and then m
mod_split : (n : ℕ) {m c : ℕ} → 0 < m → 0 < c → n % (m * c) ≡ (n / c % m) * c + n % c
mod_split n {m} {c} hm hc =
    let a = mod-lt (n / c) hm in
    let b = mod-lt n hc in
    let top : (n / c % m + 1) * c ≤ m * c = mul-le-mul_right c (omega arith) in
    let expand : (n / c % m + 1) * c ≡ n / c % m * c + 1 * c = add-mul (n / c % m) 1 c in
    let split : n ≡ n / c / m * (m * c) + (n / c % m * c + n % c) =
    sym (div-add-mod' n c)
    ∙ ap (λ (x : ℕ). x * c + n % c) (sym (div-add-mod' (n / c) m))
    ∙ ap (λ (x : ℕ). x + n % c)
    (add-mul (n / c / m * m) (n / c % m) c ∙ ap (λ (x : ℕ). x + n / c % m * c) (mul_assoc (n / c / m) m c))
    ∙ add_assoc (n / c / m * (m * c)) (n / c % m * c) (n % c) in
    ap (λ (x : ℕ). x % (m * c)) split ∙ mul-add-mod_self_right (n / c / m) (m * c) (n / c % m * c + n % c) ∙
    mod-eq_of_lt (omega arith)

byte_at_pow : (k x : ℕ) → byte_at k x ≡ x / 256 ^ k % 256
byte_at_pow zero x = ap (λ (y : ℕ). y % 256) (sym (div-one x))
byte_at_pow (suc k) x = refl

pow_above : (n : ℕ) → 0 < 256 ^ n
pow_above n = let h = one-le-pow n 256 (omega arith) in omega arith

-- digits behind a number
digits_on : (a b p r : ℕ) → (256 * a + b) * p + r ≡ a * (256 * p) + (b * p + r)
digits_on a b p r = grind arith

-- the bytes of x read behind the number a
big_behind : (n a x : ℕ) → fold (λ k b. 256 * k + b) a (bytes_high_first n x) ≡ a * 256 ^ n + x % 256 ^ n
big_behind zero a x = omega arith
big_behind (suc n) a x =
    big_behind n (256 * a + byte_at n x) x
    ∙ digits_on a (byte_at n x) (256 ^ n) (x % 256 ^ n)
    ∙ ap (λ b. a * (256 * 256 ^ n) + (b * 256 ^ n + x % 256 ^ n)) (byte_at_pow n x)
    ∙ ap (λ r. a * (256 * 256 ^ n) + r) (sym (mod_split x {m = 256} {c = 256 ^ n} (omega arith) (pow_above n)))
    ∙ ap (λ p. a * p + x % p) (sym (pow-succ' 256 n))

-- the bytes of a number read back
pub big_of_bytes : (n x : ℕ) → x < 256 ^ n → big (bytes_high_first n x) ≡ x
big_of_bytes n x h =
    big_behind n 0 x ∙ ap (λ k. 0 * 256 ^ n + k) (mod-eq_of_lt h) ∙ (let e : 0 * 256 ^ n + x ≡ x = omega arith in e)

-- ---- pointers

-- id and value fit their places
pub record IsWritable (p : Pointer) : Type 0 where
  pub id : p.id < 2 ^ 15
  pub value : p.value < 2 ^ 48

abbrev pointer_by : ℕ → ℕ → Pointer
pointer_by front value = record { immediate = nat_le 32768 front; id = front % 32768; value = value }

abbrev pointer : Bool → ℕ → ℕ → Pointer
pointer mode id value = record { immediate = mode; id = id; value = value }

read_pointer : (front value : ℕ) → front < 2 ^ 16 → value < 2 ^ 48
    → pointer_of (bytes_high_first 2 front ++ bytes_high_first 6 value) ≡ pointer_by front value
read_pointer front value small low = ap₂ pointer_by (big_of_bytes 2 front small) (big_of_bytes 6 value low)

word_by : (mode : Bool) (id value : ℕ) → id < 2 ^ 15 → value < 2 ^ 48
    → pointer_of (word_of (pointer mode id value)) ≡ pointer mode id value
word_by true id value small low =
    read_pointer (32768 + id) value (omega arith) low
    ∙ ap₂ (λ m i. pointer m i value) (le-leb 32768 (32768 + id) (omega arith))
    (let e : (32768 + id) % 32768 ≡ id = omega arith in e)
word_by false id value small low =
    read_pointer (0 + id) value (omega arith) low
    ∙ ap₂ (λ m i. pointer m i value) (lt-leb 32768 (0 + id) (omega arith))
    (let e : (0 + id) % 32768 ≡ id = omega arith in e)

-- a pointer's word read back
pub pointer_of_word : (p : Pointer) → IsWritable p → pointer_of (word_of p) ≡ p
pointer_of_word p fits = word_by p.immediate p.id p.value fits.id fits.value

-- the words of pointers in front of a payload
words_in_front : (ps : List Pointer) (payload : List ℕ)
    → words_in (length ps) (flat_map word_of ps ++ payload) ≡ map word_of ps
words_in_front [] payload = refl
words_in_front (p ∷ ps) payload = ap (λ ws. word_of p ∷ ws) (words_in_front ps payload)

-- the pointers read back
pointers_back : (ps : List Pointer) → All IsWritable ps → map pointer_of (map word_of ps) ≡ ps
pointers_back [] fit = refl
pointers_back (p ∷ ps) fit =
    ap₂ (λ q qs. q ∷ qs) (pointer_of_word p (All-head IsWritable p ps fit))
    (pointers_back ps (All-tail IsWritable p ps fit))

-- eight bytes a pointer
pub length_words : (ps : List Pointer) → length (flat_map word_of ps) ≡ 8 * length ps
length_words [] = refl
length_words (p ∷ ps) = let rest = length_words ps in omega (arith, rest)

-- ---- packets

count_back : (ps : List Pointer) (payload : List ℕ) → length ps < 2 ^ 16
    → pointer_count (packet_bytes ps payload) ≡ length ps
count_back ps payload few = big_of_bytes 2 (length ps) few

in_back : (ps : List Pointer) (payload : List ℕ) → length ps < 2 ^ 16 → All IsWritable ps
    → pointers_in (packet_bytes ps payload) ≡ ps
in_back ps payload few fit =
    ap (λ n. map pointer_of (words_in n (flat_map word_of ps ++ payload))) (count_back ps payload few)
    ∙ ap (map pointer_of) (words_in_front ps payload)
    ∙ pointers_back ps fit

-- all that stands in front of the payload
abbrev front_of : List Pointer → List ℕ
front_of ps = (0x53 ∷ 0x04 ∷ 0x02 ∷ 0x06 ∷ 0 ∷ 0 ∷ []) ++ (bytes_high_first 2 (length ps) ++ flat_map word_of ps)

length_front : (ps : List Pointer) → length (front_of ps) ≡ 8 + 8 * length ps
length_front ps = let words = length_words ps in omega (arith, words)

payload_back : (ps : List Pointer) (payload : List ℕ) → length ps < 2 ^ 16
    → payload_in (packet_bytes ps payload) ≡ payload
payload_back ps payload few =
    ap (λ n. drop (8 + 8 * n) (packet_bytes ps payload)) (count_back ps payload few)
    ∙ drop_at (front_of ps) payload (8 + 8 * length ps) (length_front ps)

pub whole_length : (ps : List Pointer) (payload : List ℕ)
    → length (packet_bytes ps payload) ≡ 8 + 8 * length ps + length payload
whole_length ps payload =
    length-append (front_of ps) payload ∙ ap (λ n. n + length payload) (length_front ps)

-- no row on the header applies
front_fits : (ps : List Pointer) (payload : List ℕ) → length ps < 2 ^ 16
    → front_refusal (packet_bytes ps payload) ≡ None
front_fits ps payload few =
    let bytes = packet_bytes ps payload in
    let whole = whole_length ps payload in
    let count = count_back ps payload few in
    let long : nat_lt (length bytes) 8 ≡ false = le-ltb (length bytes) 8 (omega (arith, whole)) in
    let room : nat_lt (length bytes) (8 + 8 * pointer_count bytes) ≡ false =
    le-ltb (length bytes) (8 + 8 * pointer_count bytes) (omega (arith, whole, count)) in
    ap₂ (λ a b. if a then Some Short else (if b then Some Pointers else None)) long room

-- a pointer of the heap, which says nothing of the packet
pub record IsOwn (p : Pointer) : Type 0 where
  pub least : 5 ≤ p.id
  pub id : p.id < 2 ^ 15
  pub value : p.value < 2 ^ 48

own_writable : (ps : List Pointer) → All IsOwn ps → All IsWritable ps
own_writable ps own = All-weaker IsOwn IsWritable (λ p is. record { id = is.id; value = is.value }) ps own

cond_false : {A : Type 0} (b : Bool) (x y : A) → b ≡ false → (if b then x else y) ≡ y
cond_false b x y e = ap (λ t. if t then x else y) e

-- the heap's pointers leave what the special ones said
last_stays : (id : ℕ) (before : Option ℕ) (ps : List Pointer) → id ≤ 4 → All IsOwn ps
    → fold (later_value id) before ps ≡ before
last_stays id before [] special own = refl
last_stays id before (p ∷ ps) special own =
    let least = (All-head IsOwn p ps own).least in
    let other : (p.id == id) ≡ false = ne_eqb p.id id (λ same. omega (arith, same, least)) in
    ap (λ v. fold (later_value id) v ps)
    (cond_false (p.immediate && (p.id == id)) (Some p.value) before (and_right p.immediate (p.id == id) other))
    ∙ last_stays id before ps special (All-tail IsOwn p ps own)

-- they are the heap's pointers
own_kept : (ps : List Pointer) → All IsOwn ps → filter is_own ps ≡ ps
own_kept [] own = refl
own_kept (p ∷ ps) own =
    let least = (All-head IsOwn p ps own).least in
    ap (λ b. cond b (p ∷ filter is_own ps) (filter is_own ps)) (lt-ltb 4 p.id (omega arith)) ∙ ap (λ qs. p ∷ qs)
    (own_kept ps (All-tail IsOwn p ps own))

-- what pointers and a payload say
abbrev said : Option ℕ → Option ℕ → Option ℕ → List Pointer → List ℕ → Parts
said counter size offset own payload = record {
  counter = unwrap_or counter 0;
  size = size;
  offset = unwrap_or offset 0;
  pointers = own;
  payload = payload;
}

abbrev said_by : List Pointer → List ℕ → Parts
said_by ps payload = said (last_value 1 ps) (last_value 2 ps) (last_value 3 ps) (filter is_own ps) payload

abbrev packet_by : Option Refusal → List Pointer → List ℕ → Option Parts
packet_by front ps payload =
    if is_none (either_row front (said_refusal ps (length payload))) then Some (said_by ps payload) else None

-- a packet by its three parts
packet_of_bytes : (ps : List Pointer) (payload : List ℕ) → length ps < 2 ^ 16 → All IsWritable ps
    → packet_in (packet_bytes ps payload) ≡ packet_by None ps payload
packet_of_bytes ps payload few fit =
    let bytes = packet_bytes ps payload in
    ap (λ front. packet_by front (pointers_in bytes) (payload_in bytes)) (front_fits ps payload few)
    ∙ ap₂ (packet_by None) (in_back ps payload few fit) (payload_back ps payload few)

abbrev packet_if : Option ℕ → Option ℕ → Option ℕ → Option ℕ → List Pointer → List ℕ → Option Parts
packet_if counter size offset claimed own payload =
    if is_none (either_row None
    (if is_none counter then Some NoCounter
    else (if is_none offset then Some NoOffset
    else (if is_none claimed then Some NoLength
    else length_refusal size (unwrap_or offset 0) (unwrap_or claimed 0) (length payload)))))
    then Some (said counter size offset own payload) else None

-- a payload that ends within the size that is said is not past it
not_past : (size : Option ℕ) (end : ℕ) → IfSome size (λ s. end ≤ s) → nat_lt (unwrap_or size end) end ≡ false
not_past None end within = le-ltb end end (omega arith)
not_past (Some s) end within = le-ltb s end within

-- no row on the lengths applies
lengths_fit : (size : Option ℕ) (offset n : ℕ) → IfSome size (λ s. offset + n ≤ s)
    → length_refusal size offset n n ≡ None
lengths_fit size offset n within =
    ap₂ (λ a b. if not a then Some (Length n n) else (if b then Some PastHeap else None)) (eq-eqb n n refl)
    (not_past size (offset + n) within)

-- the pointers of a packet fit their places
special_writable : (c : ℕ) (size : Option ℕ) (o n : ℕ) (own : List Pointer) → c < 2 ^ 48 → IfSome size (λ s. s < 2 ^ 48)
    → o < 2 ^ 48 → n < 2 ^ 48 → All IsWritable own → All IsWritable (special_pointers c size o n ++ own)
special_writable c None o n own c_fits size_fits o_fits n_fits own_fits =
    let fourth = All-cons IsWritable (immediate 4 n) own (record { id = omega arith; value = n_fits }) own_fits in
    let third = All-cons IsWritable (immediate 3 o) (immediate 4 n ∷ own)
    (record { id = omega arith; value = o_fits }) fourth in
    All-cons IsWritable (immediate 1 c) (immediate 3 o ∷ immediate 4 n ∷ own)
    (record { id = omega arith; value = c_fits }) third
special_writable c (Some size) o n own c_fits size_fits o_fits n_fits own_fits =
    let fourth = All-cons IsWritable (immediate 4 n) own (record { id = omega arith; value = n_fits }) own_fits in
    let third = All-cons IsWritable (immediate 3 o) (immediate 4 n ∷ own)
    (record { id = omega arith; value = o_fits }) fourth in
    let second = All-cons IsWritable (immediate 2 size) (immediate 3 o ∷ immediate 4 n ∷ own)
    (record { id = omega arith; value = size_fits }) third in
    All-cons IsWritable (immediate 1 c) (immediate 2 size ∷ immediate 3 o ∷ immediate 4 n ∷ own)
    (record { id = omega arith; value = c_fits }) second

-- what the special pointers said stays, and the heap's pointers are all that there are
said_back : (c : ℕ) (size : Option ℕ) (o : ℕ) (own : List Pointer) (payload : List ℕ)
    → IfSome size (λ s. o + length payload ≤ s) → All IsOwn own
    → packet_if (fold (later_value 1) (Some c) own) (fold (later_value 2) size own) (fold (later_value 3) (Some o) own)
    (fold (later_value 4) (Some (length payload)) own) (filter is_own own) payload
    ≡ Some (said (Some c) size (Some o) own payload)
said_back c size o own payload within each =
    let last : (id : ℕ) (before : Option ℕ) → id ≤ 4 → fold (later_value id) before own ≡ before =
    λ id before least. last_stays id before own least each in
    ap (λ v. packet_if v (fold (later_value 2) size own) (fold (later_value 3) (Some o) own)
    (fold (later_value 4) (Some (length payload)) own) (filter is_own own) payload) (last 1 (Some c) (omega arith))
    ∙ ap (λ v. packet_if (Some c) v (fold (later_value 3) (Some o) own)
    (fold (later_value 4) (Some (length payload)) own) (filter is_own own) payload) (last 2 size (omega arith))
    ∙ ap (λ v. packet_if (Some c) size v (fold (later_value 4) (Some (length payload)) own) (filter is_own own) payload)
    (last 3 (Some o) (omega arith))
    ∙ ap (λ v. packet_if (Some c) size (Some o) v (filter is_own own) payload)
    (last 4 (Some (length payload)) (omega arith))
    ∙ ap (λ qs. packet_if (Some c) size (Some o) (Some (length payload)) qs payload) (own_kept own each)
    ∙ ap (λ r. if is_none (either_row None r) then Some (said (Some c) size (Some o) own payload) else None)
    (lengths_fit size o (length payload) within)

-- a packet read back, with or without a size, and with as many pointers as 16 bits count
pub packet_back : (c : ℕ) (size : Option ℕ) (o : ℕ) (own : List Pointer) (payload : List ℕ) → c < 2 ^ 48
    → IfSome size (λ s. s < 2 ^ 48) → o < 2 ^ 48 → length payload < 2 ^ 48
    → IfSome size (λ s. o + length payload ≤ s) → length (special_pointers c size o (length payload) ++ own) < 2 ^ 16
    → All IsOwn own
    → packet_in (packet_bytes (special_pointers c size o (length payload) ++ own) payload)
    ≡ Some (record { counter = c; size = size; offset = o; pointers = own; payload = payload })
packet_back c None o own payload c_fits size_fits o_fits n_fits within few each =
    packet_of_bytes (special_pointers c None o (length payload) ++ own) payload few
    (special_writable c None o (length payload) own c_fits size_fits o_fits n_fits (own_writable own each))
    ∙ said_back c None o own payload within each
packet_back c (Some size) o own payload c_fits size_fits o_fits n_fits within few each =
    packet_of_bytes (special_pointers c (Some size) o (length payload) ++ own) payload few
    (special_writable c (Some size) o (length payload) own c_fits size_fits o_fits n_fits (own_writable own each))
    ∙ said_back c (Some size) o own payload within each

-- a packet of a heap read back
pub spelled_packet : (c size o : ℕ) (own : List Pointer) (payload : List ℕ) → c < 2 ^ 48 → size < 2 ^ 48
    → o + length payload ≤ size → length own ≤ 60 → All IsOwn own
    → packet_in (heap_packet c size own o payload)
    ≡ Some (record { counter = c; size = Some size; offset = o; pointers = own; payload = payload })
spelled_packet c size o own payload c_fits size_fits within few each =
    packet_back c (Some size) o own payload c_fits size_fits (omega arith) (omega arith) within (omega arith) each

-- the same, each bound in words of its own
pub written_packet : (c size o : ℕ) (own : List Pointer) (payload : List ℕ) → c < 2 ^ 48 → size < 2 ^ 48
    → o + length payload ≤ size → length own ≤ 60
    → All (λ p. (5 ≤ p.id) × (p.id < 2 ^ 15) × (p.value < 2 ^ 48)) own
    → packet_in (heap_packet c size own o payload)
    ≡ Some (record { counter = c; size = Some size; offset = o; pointers = own; payload = payload })
written_packet c size o own payload counter_fits size_fits within few each =
    spelled_packet c size o own payload counter_fits size_fits within few
    (All-weaker (λ p. (5 ≤ p.id) × (p.id < 2 ^ 15) × (p.value < 2 ^ 48)) IsOwn
    (λ p is. record { least = is.0; id = is.1; value = is.2 }) own each)
