-- A whole heap at the member that makes it whole, and the sizes of heard packets.
use Rattle.std.proofs.Common.{◌≡◌, ℕ, ◌+◌, ◌-◌, ◌<◌, ◌≤◌, Bool, true, false, not, ◌==◌, nat_lt, if◌then◌else◌, List, [], ◌∷◌, ◌++◌, Option, Some, None, IfSome, is_none, All, length, map, take, find, fold, count_by, slice_index, unwrap_or, get_or, refl, sym, ap, subst, ◌∙◌, append_assoc, append-nil, arith}
use Rattle.std.proofs.lemmas.Bool.{eqb-true, not-false, ltb-false}
use Rattle.std.proofs.lemmas.List.Elements.{All-cons, All-filter, All-head, All-map, All-nil, All-tail}
use Rattle.std.proofs.lemmas.Option.{none-some}
use Rattle.corr_model.specs.declared.plan.Plan.{Plan}
use Rattle.corr_model.specs.declared.pointer.Pointer.{Pointer}
use Rattle.corr_model.specs.declared.pointer.Refusal.{Refusal}
use Rattle.corr_model.specs.declared.pointer.Refusal.TheVariants.{NoCounter, NoOffset, NoLength, Length, PastHeap}
use Rattle.corr_model.specs.Lists.{fronts}
use Rattle.corr_model.specs.Packets.{Parts, last_value, pointers_in, payload_in, front_refusal, length_refusal, said_refusal, either_row, refusal_of, parts_in, packet_in}
use Rattle.corr_model.specs.Windows.{PlacedPacket, place_next, placed_in, is_member, members, is_within, heard_in, heard, end_of}
use Rattle.corr_model.specs.Assembly.{drop_cause, Fate, fate_next, fates, kept, is_complete, whole_front, said_size, payload_bytes, holds_byte, joined}
use Rattle.corr_model.proofs.EachElement.{all_in_turn, all_filter_map, all_find, and_then, find_passes, if_some}
use Rattle.corr_model.proofs.AssemblyLaws.{EndsWithin, IsApart, added_up, apart_by, held_once, joined_byte, kept_push, length-joined, none_apart}

abbrev MemberEndsWithin : PlacedPacket → Type 0
MemberEndsWithin m = EndsWithin m.packet

-- the fates of members after these
abbrev rest_of : List Fate → List PlacedPacket → List Fate
rest_of fs [] = []
rest_of fs (m ∷ ms) = fate_next fs m ∷ rest_of (fs ++ fate_next fs m ∷ []) ms

fates_from : (fs : List Fate) (ms : List PlacedPacket)
    → fold (λ before q. before ++ fate_next before q ∷ []) fs ms ≡ fs ++ rest_of fs ms
fates_from fs [] = sym (append-nil fs)
fates_from fs (m ∷ ms) =
    fates_from (fs ++ fate_next fs m ∷ []) ms ∙ append_assoc fs (fate_next fs m ∷ [])
    (rest_of (fs ++ fate_next fs m ∷ []) ms)

-- the kept packets of these fates are apart
abbrev ApartAfter : List Fate → List Fate → Type 0
ApartAfter fs front = IsApart (kept (fs ++ front))

fronts_apart : (fs : List Fate) (ms : List PlacedPacket) → All MemberEndsWithin ms → IsApart (kept fs)
    → All (ApartAfter fs) (fronts (rest_of fs ms))
fronts_apart fs [] own apart = All-nil (ApartAfter fs)
fronts_apart fs (m ∷ ms) own apart =
    let f = fate_next fs m in
    let more = fs ++ f ∷ [] in
    let next = apart_by (kept fs) m.packet (drop_cause (kept fs) m.packet) refl apart
    (All-head MemberEndsWithin m ms own) in
    let here : IsApart (kept more) = subst IsApart (sym (kept_push fs m)) next in
    let later = fronts_apart more ms (All-tail MemberEndsWithin m ms own) here in
    let gs = fronts (rest_of more ms) in
    All-cons (ApartAfter fs) (f ∷ []) (map (λ front. f ∷ front) gs) here
    (All-map (ApartAfter fs) (λ front. f ∷ front) gs
    (λ k d inside. subst (λ all. IsApart (kept all)) (append_assoc fs (f ∷ []) (get_or gs k d)) (later k d inside)))

all_fronts_apart : (ms : List PlacedPacket) → All MemberEndsWithin ms
    → All (λ front. IsApart (kept front)) (fronts (fates ms))
all_fronts_apart ms own =
    subst (λ fs. All (λ front. IsApart (kept front)) (fronts fs)) (sym (fates_from [] ms))
    (fronts_apart [] ms own none_apart)

whole_apart : (ms : List PlacedPacket) (front : List Fate) → All MemberEndsWithin ms → whole_front ms ≡ Some front
    → IsApart (kept front)
whole_apart ms front own whole =
    subst (λ o. IfSome o (λ fs. IsApart (kept fs))) whole
    (all_find (λ fs. IsApart (kept fs)) is_complete (fronts (fates ms)) (all_fronts_apart ms own))

whole_complete : (ms : List PlacedPacket) (front : List Fate) → whole_front ms ≡ Some front → is_complete front ≡ true
whole_complete ms front whole =
    subst (λ o. IfSome o (λ fs. is_complete fs ≡ true)) whole (find_passes is_complete (fronts (fates ms)))

-- each byte of a whole heap is held by one kept packet
pub byte_held_once : (ms : List PlacedPacket) (front : List Fate) (k : ℕ)
    → All (λ m. IfSome m.packet.size (λ size. end_of m.packet ≤ size)) ms → whole_front ms ≡ Some front
    → k < payload_bytes (kept front) → count_by (holds_byte k) (kept front) ≡ 1
byte_held_once ms front k own whole below =
    held_once (kept front) k (whole_apart ms front own whole) (whole_complete ms front whole) below

-- each byte of a whole heap's payload is that of a kept packet
pub byte_of_a_packet : (ms : List PlacedPacket) (front : List Fate) (k : ℕ)
    → All (λ m. IfSome m.packet.size (λ size. end_of m.packet ≤ size)) ms → whole_front ms ≡ Some front
    → k < payload_bytes (kept front)
    → (p : Parts) × (find (holds_byte k) (kept front) ≡ Some p) × (p.offset ≤ k) × (k < end_of p)
    × (slice_index (joined (kept front)) k ≡ slice_index p.payload (k - p.offset))
byte_of_a_packet ms front k own whole below =
    joined_byte (kept front) k below (byte_held_once ms front k own whole below)

-- a whole heap's payload is as long as its size
pub size_of_whole : (ms : List PlacedPacket) (front : List Fate) → whole_front ms ≡ Some front
    → said_size (kept front) ≡ Some (length (joined (kept front)))
size_of_whole ms front whole =
    added_up (said_size (kept front)) (payload_bytes (kept front)) (whole_complete ms front whole) ∙ ap Some
    (sym (length-joined (kept front)))

-- ---- heard packets

row_none : (b : Bool) (e : Refusal) (rest : Option Refusal) → (if b then Some e else rest) ≡ None
    → (b ≡ false) × (rest ≡ None)
row_none true e rest none = absurd (none-some e (sym none))
row_none false e rest none = (refl, none)

later_none : (front later : Option Refusal) → either_row front later ≡ None → later ≡ None
later_none None later none = none
later_none (Some e) later none = absurd (none-some e (sym none))

-- what the special pointers said is within the size, where no row applies
said_within : (size : Option ℕ) (offset claimed found : ℕ) → length_refusal size offset claimed found ≡ None
    → IfSome size (λ n. offset + found ≤ n)
said_within None offset claimed found none = tt
said_within (Some n) offset claimed found none =
    let past = if nat_lt n (offset + claimed) then Some PastHeap else None in
    let first = row_none (not (claimed == found)) (Length claimed found) past none in
    let second = row_none (nat_lt n (offset + claimed)) PastHeap None first.1 in
    let same = eqb-true claimed found (not-false (claimed == found) first.0) in
    let within = ltb-false n (offset + claimed) second.0 in
    omega (arith, same, within)

parts_within : (ps : List Pointer) (found : ℕ) → said_refusal ps found ≡ None
    → IfSome (last_value 2 ps) (λ n. unwrap_or (last_value 3 ps) 0 + found ≤ n)
parts_within ps found none =
    let lengths = length_refusal (last_value 2 ps) (unwrap_or (last_value 3 ps) 0)
    (unwrap_or (last_value 4 ps) 0) found in
    let third = if is_none (last_value 4 ps) then Some NoLength else lengths in
    let second = if is_none (last_value 3 ps) then Some NoOffset else third in
    let a = row_none (is_none (last_value 1 ps)) NoCounter second none in
    let b = row_none (is_none (last_value 3 ps)) NoOffset third a.1 in
    let c = row_none (is_none (last_value 4 ps)) NoLength lengths b.1 in
    said_within (last_value 2 ps) (unwrap_or (last_value 3 ps) 0) (unwrap_or (last_value 4 ps) 0) found c.1

spelled_within : (bytes : List ℕ) (r : Option Refusal) → refusal_of bytes ≡ r
    → IfSome (if is_none r then Some (parts_in bytes) else None) EndsWithin
spelled_within bytes None none =
    parts_within (pointers_in bytes) (length (payload_in bytes))
    (later_none (front_refusal bytes) (said_refusal (pointers_in bytes) (length (payload_in bytes))) none)
spelled_within bytes (Some e) refused = tt

-- a heard packet ends within the size that it says
pub heard_ends_within : (plan : Plan) (l : List (List ℕ))
    → All (λ p. IfSome p.size (λ size. end_of p ≤ size)) (heard plan l)
heard_ends_within plan l =
    all_filter_map (λ bytes. Unit {0}) EndsWithin (heard_in plan.heap_limit)
    (λ bytes each. and_then EndsWithin EndsWithin (λ p. if is_within plan.heap_limit p then Some p else None)
    (λ p is. if_some EndsWithin (is_within plan.heap_limit p) p is) (packet_in bytes)
    (spelled_within bytes (refusal_of bytes) refl))
    (take plan.packet_limit l) (λ k d inside. tt)

-- so does a member of a heap
pub member_ends_within : (plan : Plan) (l : List (List ℕ)) (o : PlacedPacket)
    → All (λ m. IfSome m.packet.size (λ size. end_of m.packet ≤ size)) (members plan.window (placed_in plan l) o)
member_ends_within plan l o =
    All-filter (is_member plan.window o) MemberEndsWithin (placed_in plan l)
    (all_in_turn EndsWithin MemberEndsWithin (place_next plan.window) (λ before p is. is) (heard plan l)
    (heard_ends_within plan l))
