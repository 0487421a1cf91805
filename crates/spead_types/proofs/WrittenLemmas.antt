-- What was written of an item is read back as it.
use Rattle.std.proofs.Common.{◌≡◌, ℕ, ◌+◌, ◌-◌, ◌*◌, ◌^◌, ◌<◌, ◌≤◌, min, Bool, true, false, ◌&&◌, ◌||◌, ◌==◌, nat_lt, nat_le, if◌then◌else◌, cond, List, [], ◌∷◌, ◌++◌, length, take, drop, map, fold, flat_map, slice_range, Option, Some, None, unwrap_or, Ok, All, refl, sym, ap, ap₂, ◌∙◌, inl, inr, arith, append_assoc, length-append, take_all}
use Rattle.std.specs.List.{list_any, list_all, AllByRecursion}
use Rattle.std.proofs.lemmas.Bool.{cond-false, and_from, le-leb, le-ltb, lt-ltb, ne_eqb, or_parts, or_cases, eqb-true, cases_Bool, false≢true}
use Rattle.std.proofs.lemmas.List.{take_at, drop_at, nil_from_length}
use Rattle.std.proofs.lemmas.List.Elements.{All-cons, All-nil}
use Rattle.corr_model.specs.declared.pointer.Pointer.{Pointer}
use Rattle.corr_model.specs.declared.item.ItemType.{ItemType}
use Rattle.corr_model.specs.declared.item.Dim.{Dim}
use Rattle.corr_model.specs.declared.item.Dim.TheVariants.{Fixed, Variable}
use Rattle.corr_model.specs.Packets.{Parts, packet_in}
use Rattle.corr_model.specs.Items.{Group, content_at, content_end}
use Rattle.corr_model.specs.Descriptors.{DescribedItem, immediate, addressed, packet_bytes, type_bytes, dimension_bytes, descriptor_packet, descriptor_bytes, dimension, item_type, shape_of, types_of, form_refusal, is_letter, or_refused, own_group, bytes_of, read_group, described_in}
use Rattle.corr_model.proofs.SpelledPackets.{IsOwn, spelled_packet, big_of_bytes}
use Rattle.spead_wire.specs.declared.packet_head.PacketHead.{PacketHead}
use Rattle.spead_wire.specs.Writing.{bytes_of_head, encoded_len}
use Rattle.spead_types.specs.AllItems.{is_addressed_at}
use Rattle.spead_types.specs.Valid.{IsDimension, IsEntry, IsValid, written_bytes}
use Rattle.spead_types.specs.Written.{own_pointers, payload_bytes}
use Rattle.spead_types.proofs.EntryLemmas.{first_type, first_dim, lengths_pass, none_late}
use Rattle.spead_types.proofs.ItemLemmas.{one_at_least}
use Rattle.spead_types.proofs.ReadLemmas.{item_of, read_by, read_found}

-- ---- lengths

pub length-type_bytes : (types : List ItemType) → length (flat_map type_bytes types) ≡ 3 * length types
length-type_bytes [] = refl
length-type_bytes (t ∷ types) = let rest = length-type_bytes types in omega (arith, rest)

length-dimension : (d : Dim) → length (dimension_bytes d) ≡ 7
length-dimension (Fixed n) = refl
length-dimension Variable = refl

pub length-dimension_bytes : (shape : List Dim) → length (flat_map dimension_bytes shape) ≡ 7 * length shape
length-dimension_bytes [] = refl
length-dimension_bytes (d ∷ shape) =
    let rest = length-dimension_bytes shape in
    omega (arith, rest, length-append (dimension_bytes d) (flat_map dimension_bytes shape), length-dimension d)

payload_length : (name types shape : List ℕ)
    → length (name ++ (types ++ shape)) ≡ length name + length types + length shape
payload_length name types shape = omega (arith, length-append name (types ++ shape), length-append types shape)

-- name and types leave room for eight dimensions
pub room_behind : (name : List ℕ) (types : List ItemType) (a b c : List ℕ) → a ≡ [] → b ≡ a ++ name
    → c ≡ b ++ flat_map type_bytes types → length name ≤ 64 → length types ≤ 8 → length c ≤ 88
room_behind name types a b c a_is b_is c_is few_name few_types =
    let first = ap length a_is in
    let second = ap length b_is ∙ length-append a name in
    let third = ap length c_is ∙ length-append b (flat_map type_bytes types) in
    omega (arith, first, second, third, length-type_bytes types, few_name, few_types)

-- ---- the packet

-- the own pointers by the id and the places of types and shape
abbrev pointers_at : ℕ → ℕ → ℕ → List Pointer
pointers_at id types shape = immediate 0x14 id ∷ addressed 0x10 0 ∷ addressed 0x13 types ∷ addressed 0x12 shape ∷ []

-- the head of a packet that is a heap with this payload
abbrev pub head_of : List ℕ → PacketHead
head_of payload = record { counter = 1; size = Some (length payload); offset = 0 }

-- the packet of a descriptor's pointers and payload is the descriptor
pub packet_is : (d : DescribedItem) (pointers : List Pointer) (payload : List ℕ) → pointers ≡ own_pointers d
    → payload ≡ payload_bytes d → bytes_of_head (head_of payload) pointers payload ≡ descriptor_bytes d
packet_is d pointers payload pointers_are payload_is =
    let name = d.name in
    let types = flat_map type_bytes d.types in
    let shape = flat_map dimension_bytes d.shape in
    ap₂ (λ ps bs. bytes_of_head (head_of bs) ps bs) pointers_are payload_is
    ∙ ap₂ (λ t k. packet_bytes
    (immediate 1 1 ∷ immediate 2 k ∷ immediate 3 0 ∷ immediate 4 k
    ∷ pointers_at d.id (length name) (length name + t)) (payload_bytes d))
    (sym (length-type_bytes d.types)) (payload_length name types shape)

-- as many bytes as said
pub packet_length : (d : DescribedItem) (pointers : List Pointer) (payload : List ℕ) → pointers ≡ own_pointers d
    → payload ≡ payload_bytes d → encoded_len (head_of payload) pointers payload ≡ written_bytes d
packet_length d pointers payload pointers_are payload_is =
    let size = payload_length d.name (flat_map type_bytes d.types) (flat_map dimension_bytes d.shape) in
    ap₂ (λ ps bs. encoded_len (head_of bs) ps bs) pointers_are payload_is ∙ omega
    (arith, size, length-type_bytes d.types, length-dimension_bytes d.shape)

-- ---- entries read back

entry_back : (t : ItemType) → IsEntry t → t ≡ item_type (type_bytes t)
entry_back t fits =
    let bits = big_of_bytes 2 t.bits (omega (arith, fits.most)) in
    λ i. record { letter = t.letter; bits = sym bits i }

types_back : (types : List ItemType) → AllByRecursion IsEntry types → types_of (flat_map type_bytes types) ≡ types
types_back [] fit = refl
types_back (t ∷ types) fit =
    let rest = flat_map type_bytes types in
    first_type (type_bytes t ++ rest) (type_bytes t) rest (types_of (type_bytes t ++ rest)) t refl (omega arith) refl
    refl (entry_back t fit.0) ∙ ap (λ ts. t ∷ ts) (types_back types fit.1)

dim_back : (d : Dim) → IsDimension d → d ≡ dimension (dimension_bytes d)
dim_back (Fixed n) fits = ap Fixed (sym (big_of_bytes 6 n (omega arith)))
dim_back Variable fits = refl

dim_apart : (d : Dim) (rest : List ℕ)
    → (dimension_bytes d ≡ take 7 (dimension_bytes d ++ rest)) × (rest ≡ drop 7 (dimension_bytes d ++ rest))
    × (7 ≤ length (dimension_bytes d ++ rest))
dim_apart (Fixed n) rest = (refl, refl, omega arith)
dim_apart Variable rest = (refl, refl, omega arith)

shape_back : (shape : List Dim) → AllByRecursion IsDimension shape → shape_of (flat_map dimension_bytes shape) ≡ shape
shape_back [] fit = refl
shape_back (d ∷ shape) fit =
    let rest = flat_map dimension_bytes shape in
    let apart = dim_apart d rest in
    first_dim (dimension_bytes d ++ rest) (dimension_bytes d) rest (shape_of (dimension_bytes d ++ rest)) d refl apart.2
    apart.0 apart.1 (dim_back d fit.0) ∙ ap (λ ds. d ∷ ds) (shape_back shape fit.1)

letters_said : (types : List ItemType) → AllByRecursion IsEntry types → list_all (λ t. is_letter t.letter) types ≡ true
letters_said [] fit = refl
letters_said (t ∷ types) fit =
    and_from (is_letter t.letter) (list_all (λ x. is_letter x.letter) types) fit.0.letter (letters_said types fit.1)

widths_fit : (types : List ItemType) → AllByRecursion IsEntry types
    → list_all (λ t. nat_le 1 t.bits && nat_le t.bits 64) types ≡ true
widths_fit [] fit = refl
widths_fit (t ∷ types) fit =
    and_from (nat_le 1 t.bits && nat_le t.bits 64) (list_all (λ x. nat_le 1 x.bits && nat_le x.bits 64) types)
    (and_from _ _ (le-leb 1 t.bits fit.0.some) (le-leb t.bits 64 fit.0.most)) (widths_fit types fit.1)

-- ---- contents read back

abbrev group_of : List Pointer → List ℕ → Group
group_of pointers payload = record { pointers = pointers; payload = payload }

-- the content at an offset: nothing where a later pointer shares it, else the bytes up to the end
content_is : (g : Group) (place offset : ℕ) (bytes : List ℕ) → offset ≤ length g.payload
    → (list_any (is_addressed_at offset) (drop (place + 1) g.pointers) ≡ true → bytes ≡ [])
    → (list_any (is_addressed_at offset) (drop (place + 1) g.pointers) ≡ false
    → slice_range g.payload offset (content_end g offset) ≡ bytes)
    → unwrap_or (content_at g place offset) [] ≡ bytes
content_is g place offset bytes within shared alone =
    let later = list_any (is_addressed_at offset) (drop (place + 1) g.pointers) in
    let there = cond-false (nat_lt (length g.payload) offset) None
    (if later then Some [] else Some (slice_range g.payload offset (content_end g offset)))
    (le-ltb (length g.payload) offset within) in
    ap (λ (o : Option (List ℕ)). unwrap_or o []) there ∙ elim (cases_Bool later) [
      | inl yes_shared ↦ ap
          (λ (b : Bool). unwrap_or (if b then Some [] else Some (slice_range g.payload offset (content_end g offset)))
          []) yes_shared ∙ sym (shared yes_shared)
      | inr not_shared ↦ ap
          (λ (b : Bool). unwrap_or (if b then Some [] else Some (slice_range g.payload offset (content_end g offset)))
          []) not_shared ∙ alone not_shared
    ]

-- the end of a content by which of the three offsets are above its own
abbrev end_by : Bool → Bool → Bool → ℕ → ℕ → ℕ → ℕ
end_by a b c types shape end =
    let last = cond c (addressed 0x12 shape ∷ []) [] in
    let middle = cond b (addressed 0x13 types ∷ last) last in
    fold min end (map (λ p. p.value) (cond a (addressed 0x10 0 ∷ middle) middle))

name_content : (id : ℕ) (name types shape : List ℕ) → 1 ≤ length types
    → bytes_of (group_of (pointers_at id (length name) (length name + length types)) (name ++ (types ++ shape))) 0x10
    ≡ name
name_content id name types shape some =
    let n = length name in
    let m = length name + length types in
    let payload = name ++ (types ++ shape) in
    let size = payload_length name types shape in
    content_is (group_of (pointers_at id n m) payload) 1 0 name (omega arith)
    (λ shared. nil_from_length name (elim (or_cases (n == 0) ((m == 0) || false) shared) [
      | inl first ↦ eqb-true n 0 first
      | inr rest ↦ elim (or_cases (m == 0) false rest)
          [ inl second ↦ (let zero_m = eqb-true m 0 second in omega arith) | inr third ↦ absurd cc ]
    ]))
    (λ alone.
    let some_name : 1 ≤ n = one_at_least n (or_parts (n == 0) ((m == 0) || false) alone).0 in
    let end : content_end (group_of (pointers_at id n m) payload) 0 ≡ n
    = ap₂ (λ b c. end_by false b c n m (length payload)) (lt-ltb 0 n some_name) (lt-ltb 0 m (omega arith)) ∙
    (let e : min (min (length payload) n) m ≡ n = omega (arith, size) in e) in
    ap (λ k. take (k - 0) payload) end ∙ take_at name (types ++ shape) (n - 0) (omega arith))

types_content : (id : ℕ) (name types shape : List ℕ) → 1 ≤ length types
    → bytes_of (group_of (pointers_at id (length name) (length name + length types)) (name ++ (types ++ shape))) 0x13
    ≡ types
types_content id name types shape some =
    let n = length name in
    let m = length name + length types in
    let payload = name ++ (types ++ shape) in
    let size = payload_length name types shape in
    content_is (group_of (pointers_at id n m) payload) 2 n types (omega (arith, size))
    (λ shared. absurd (elim (or_cases (m == n) false shared)
    [ inl same ↦ (let e = eqb-true m n same in omega arith) | inr none ↦ false≢true none ]))
    (λ alone.
    let end : content_end (group_of (pointers_at id n m) payload) n ≡ m
    = ap (λ a. end_by a (nat_lt n n) (nat_lt n m) n m (length payload)) (le-ltb n 0 (omega arith))
    ∙ ap₂ (λ b c. end_by false b c n m (length payload)) (le-ltb n n (omega arith)) (lt-ltb n m (omega arith))
    ∙ (let e : min (length payload) m ≡ m = omega (arith, size) in e) in
    ap (λ k. take (k - n) (drop n payload)) end ∙ ap (take (m - n)) (drop_at name (types ++ shape) n refl) ∙ take_at
    types shape (m - n) (omega arith))

shape_content : (id : ℕ) (name types shape : List ℕ)
    → bytes_of (group_of (pointers_at id (length name) (length name + length types)) (name ++ (types ++ shape))) 0x12
    ≡ shape
shape_content id name types shape =
    let n = length name in
    let m = length name + length types in
    let payload = name ++ (types ++ shape) in
    let size = payload_length name types shape in
    let behind : drop m payload ≡ shape =
    ap (drop m) (sym (append_assoc name types shape)) ∙ drop_at (name ++ types) shape m
    (length-append name types) in
    content_is (group_of (pointers_at id n m) payload) 3 m shape (omega (arith, size))
    (λ shared. absurd (false≢true shared))
    (λ alone.
    let end : content_end (group_of (pointers_at id n m) payload) m ≡ length payload
    = ap (λ a. end_by a (nat_lt m n) (nat_lt m m) n m (length payload)) (le-ltb m 0 (omega arith))
    ∙ ap₂ (λ b c. end_by false b c n m (length payload)) (le-ltb m n (omega arith)) (le-ltb m m (omega arith)) in
    ap (λ k. take (k - m) (drop m payload)) end ∙ ap (take (length payload - m)) behind ∙ take_all (length payload - m)
    shape (omega (arith, size)))

-- ---- the whole

-- the packet of a descriptor that is written
abbrev packet_of : ℕ → List ℕ → List ℕ → List ℕ → Parts
packet_of id name types shape = record {
  counter = 1;
  size = Some (length name + length types + length shape);
  offset = 0;
  pointers = pointers_at id (length name) (length name + length types);
  payload = name ++ (types ++ shape);
}

own_pointer : (b : Bool) (id value : ℕ) → 5 ≤ id → id < 2 ^ 15 → value < 2 ^ 48
    → IsOwn (record { immediate = b; id = id; value = value })
own_pointer b id value least most fits = record { least = least; id = most; value = fits }

all_own : (id types shape : ℕ) → id < 2 ^ 48 → types < 2 ^ 48 → shape < 2 ^ 48 → All IsOwn (pointers_at id types shape)
all_own id types shape id_fits types_fit shape_fits =
    let fourth = All-cons IsOwn (addressed 0x12 shape) []
    (own_pointer false 0x12 shape (omega arith) (omega arith) shape_fits) (All-nil IsOwn) in
    let third = All-cons IsOwn (addressed 0x13 types) (addressed 0x12 shape ∷ [])
    (own_pointer false 0x13 types (omega arith) (omega arith) types_fit) fourth in
    let second = All-cons IsOwn (addressed 0x10 0) (addressed 0x13 types ∷ addressed 0x12 shape ∷ [])
    (own_pointer false 0x10 0 (omega arith) (omega arith) (omega arith)) third in
    All-cons IsOwn (immediate 0x14 id) (addressed 0x10 0 ∷ addressed 0x13 types ∷ addressed 0x12 shape ∷ [])
    (own_pointer true 0x14 id (omega arith) (omega arith) id_fits) second

-- parts of at most 2^16 bytes are read back as a packet
packet_back : (id : ℕ) (name types shape : List ℕ) → id < 2 ^ 48 → length name + length types + length shape < 2 ^ 48
    → packet_in (descriptor_packet id name types shape) ≡ Some (packet_of id name types shape)
packet_back id name types shape id_fits fits =
    let n = length name in
    let m = length name + length types in
    let size = length name + length types + length shape in
    let payload = name ++ (types ++ shape) in
    ap (λ k. packet_in (packet_bytes
    (immediate 1 1 ∷ immediate 2 size ∷ immediate 3 0 ∷ immediate 4 k ∷ pointers_at id n m) payload))
    (sym (payload_length name types shape))
    ∙ spelled_packet 1 size 0 (pointers_at id n m) payload (omega arith) fits
    (omega (arith, payload_length name types shape)) (omega arith)
    (all_own id n m id_fits (omega arith) (omega arith))

-- the tests of a descriptor that is valid
no_refusal : (d : DescribedItem) → IsValid d
    → form_refusal (Some d.id) (length (flat_map dimension_bytes d.shape)) (length (flat_map type_bytes d.types))
    d.types ≡ None
no_refusal d valid =
    let types = length-type_bytes d.types in
    let shape = length-dimension_bytes d.shape in
    let t = length (flat_map type_bytes d.types) in
    let s = length (flat_map dimension_bytes d.shape) in
    lengths_pass (Some d.id) d.id s t (t == 0) d.types refl valid.id_least valid.id_most (omega (arith, shape))
    (omega (arith, types)) refl (ne_eqb t 0 (λ none. omega (arith, types, valid.some_types)))
    ∙ none_late s t d.types (letters_said d.types valid.types) (widths_fit d.types valid.types)
    (omega (arith, shape, valid.few_dimensions)) (omega (arith, types, valid.few_types))

-- a valid descriptor that is written is read back as it
pub read_back : (d : DescribedItem) → IsValid d → described_in (descriptor_bytes d) ≡ Ok d
read_back d valid =
    let types = flat_map type_bytes d.types in
    let shape = flat_map dimension_bytes d.shape in
    let p = packet_of d.id d.name types shape in
    let types_size = length-type_bytes d.types in
    let shape_size = length-dimension_bytes d.shape in
    let was = packet_back d.id d.name types shape (omega (arith, valid.id_most))
    (omega (arith, types_size, shape_size, valid.name, valid.few_types, valid.few_dimensions)) in
    let some : 1 ≤ length types = omega (arith, types_size, valid.some_types) in
    let refused = ap (form_refusal (Some d.id) (length shape) (length types)) (types_back d.types valid.types) ∙
    no_refusal d valid in
    sym (read_found (descriptor_bytes d) p (read_group (own_group p)) was refl)
    ∙ ap₂ (λ s t. read_by (Some d.id) s t (bytes_of (own_group p) 0x10)) (shape_content d.id d.name types shape)
    (types_content d.id d.name types shape some)
    ∙ ap (read_by (Some d.id) shape types) (name_content d.id d.name types shape some)
    ∙ ap (λ r. or_refused r (item_of d.id (shape_of shape) (types_of types) (take 64 d.name))) refused
    ∙ ap₂ (λ (s : List Dim) (t : List ItemType). Ok (item_of d.id s t (take 64 d.name)))
    (shape_back d.shape valid.dimensions) (types_back d.types valid.types)
    ∙ ap (λ (m : List ℕ). Ok (item_of d.id d.shape d.types m)) (take_all 64 d.name valid.name)
