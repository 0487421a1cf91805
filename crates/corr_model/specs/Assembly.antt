-- Kept members of a heap, the cause of a drop, and the whole heap.
-- SPEAD protocol definition, version 4: a heap's payload is put together from its packets by their heap offsets. Which
-- packets are kept, that a heap is whole by the sum of their lengths, and that any packet of a heap may carry any of
-- its pointers, is this project's own.
use Rattle.std.specs.Prelude.{ℕ, ◌-◌, min, max, Bool, false, not, ◌&&◌, ◌||◌, ◌==◌, nat_lt, nat_le, if◌then◌else◌, List, [], ◌∷◌, ◌++◌, length, map, filter, find, sum_by, slice_index, Option, Some, None, is_none, option_and_then, option_map, unwrap_or}
use Rattle.std.specs.Option.{option_or}
use Rattle.std.specs.List.{filter_map, flat_map, list_any}
use Rattle.corr_model.specs.declared.pointer.Pointer.{Pointer}
use Rattle.corr_model.specs.declared.heap.DropCause.{DropCause}
use Rattle.corr_model.specs.declared.heap.DropCause.TheVariants.{SizeDiffers, PastSize, Overlap, TooManyPointers}
use Rattle.corr_model.specs.Lists.{in_turn, fronts, distinct, numbers, last_one}
use Rattle.corr_model.specs.Packets.{Parts}
use Rattle.corr_model.specs.Windows.{PlacedPacket, end_of, members, opening_of}

-- two pointers are one: mode, id and value agree
abbrev pub are_same : Pointer → Pointer → Bool
are_same p q = (if p.immediate then q.immediate else not q.immediate) && (p.id == q.id) && (p.value == q.value)

-- both say a size, and not the same
abbrev pub sizes_differ : Option ℕ → Option ℕ → Bool
sizes_differ (Some m) (Some n) = not (m == n)
sizes_differ (Some m) None = false
sizes_differ None n = false

-- a size is said, and the end is past it
abbrev pub is_past : Option ℕ → ℕ → Bool
is_past None end = false
is_past (Some size) end = nat_lt size end

-- the byte ranges share a byte
abbrev pub share_a_byte : Parts → Parts → Bool
share_a_byte p q = nat_lt (max p.offset q.offset) (min (end_of p) (end_of q))

-- the distinct pointers of these packets, in the order of the packets and then of each packet
abbrev pub pointers_of : List Parts → List Pointer
pointers_of ps = distinct are_same (flat_map (λ p. p.pointers) ps)

-- why a member is not kept beside those kept before it, the first that applies: they say different sizes, an end is
-- past a size, they share a byte, or there would be more than 64 distinct pointers
abbrev pub drop_cause : List Parts → Parts → Option DropCause
drop_cause kept p =
    if list_any (λ k. sizes_differ k.size p.size) kept then Some SizeDiffers
    else (if list_any (λ k. is_past k.size (end_of p) || is_past p.size (end_of k)) kept then Some PastSize
    else (if list_any (share_a_byte p) kept then Some Overlap
    else (if nat_lt 64 (length (pointers_of (kept ++ p ∷ []))) then Some TooManyPointers
    else None)))

-- a member, and why it is not kept, if it is not
pub record Fate : Type 0 where
  pub member : PlacedPacket
  pub cause : Option DropCause

-- the packets that were kept
abbrev pub kept : List Fate → List Parts
kept fates = map (λ f. f.member.packet) (filter (λ f. is_none f.cause) fates)

-- a member judged against those kept before it
abbrev pub fate_next : List Fate → PlacedPacket → Fate
fate_next before q = record { member = q; cause = drop_cause (kept before) q.packet }

-- the members in order, each judged against those kept before it
abbrev pub fates : List PlacedPacket → List Fate
fates ms = in_turn fate_next ms

-- the first size that one of these packets says
abbrev pub said_size : List Parts → Option ℕ
said_size [] = None
said_size (p ∷ ps) = option_or p.size (said_size ps)

-- a size is said, and it is this total
abbrev pub adds_up : Option ℕ → ℕ → Bool
adds_up None total = false
adds_up (Some size) total = size == total

-- the number of payload bytes of these packets
abbrev pub payload_bytes : List Parts → ℕ
payload_bytes ps = sum_by (λ p. length p.payload) ps

-- a kept packet says a size, and the payload lengths of the kept packets add up to it
abbrev pub is_complete : List Fate → Bool
is_complete fates = adds_up (said_size (kept fates)) (payload_bytes (kept fates))

-- the members up to and including the first at which the heap is whole, if it becomes whole
abbrev pub whole_front : List PlacedPacket → Option (List Fate)
whole_front ms = find is_complete (fronts (fates ms))

-- the packet's byte range holds byte k of the heap
abbrev pub holds_byte : ℕ → Parts → Bool
holds_byte k p = nat_le p.offset k && nat_lt k (end_of p)

-- byte k of the heap as this packet brings it; 0 where there is none
abbrev pub byte_of : ℕ → Option Parts → ℕ
byte_of k None = 0
byte_of k (Some p) = slice_index p.payload (k - p.offset)

-- the payload whose byte k is that of the packet whose range holds k
abbrev pub joined : List Parts → List ℕ
joined ps = map (λ k. byte_of k (find (holds_byte k) ps)) (numbers 0 (payload_bytes ps))

-- a whole heap: its counter, its distinct pointers in the order of first standing, and its payload
pub record WholeHeap : Type 0 where
  pub counter : ℕ
  pub pointers : List Pointer
  pub payload : List ℕ

-- the heap of these kept packets
abbrev pub heap_of : ℕ → List Parts → WholeHeap
heap_of counter ps = record { counter = counter; pointers = pointers_of ps; payload = joined ps }

-- what the last of a heap's members is to it
pub data Standing : Type 0 where
  Before : Standing  -- the heap is not whole yet
  Whole : (front : List Fate) → Standing  -- it is whole at this member
  After : Standing  -- it was whole before

-- whole at the last of so many members, whole before it, or not yet
abbrev pub standing_by : ℕ → Option (List Fate) → Standing
standing_by count None = Before
standing_by count (Some front) = if length front == count then Whole front else After

-- what the last of these members is to their heap
abbrev pub standing : List PlacedPacket → Standing
standing ms = standing_by (length ms) (whole_front ms)

-- of these packets, the members of the heap of which q is one; none where q is of no heap
abbrev pub members_with : ℕ → List PlacedPacket → PlacedPacket → List PlacedPacket
members_with window ps q = unwrap_or (option_map (members window ps) (opening_of window ps q)) []

-- the heap of this counter, where it is whole at just this member
abbrev pub heap_at : ℕ → Standing → Option WholeHeap
heap_at counter Before = None
heap_at counter (Whole front) = Some (heap_of counter (kept front))
heap_at counter After = None

-- the heap that is whole at q, the last of these packets, if one is
abbrev pub whole_with : ℕ → List PlacedPacket → PlacedPacket → Option WholeHeap
whole_with window ps q = heap_at q.packet.counter (standing (members_with window ps q))

-- the heap that is whole at the last of these packets, if one is
abbrev pub whole_now : ℕ → List PlacedPacket → Option WholeHeap
whole_now window ps = option_and_then (whole_with window ps) (last_one ps)

-- the whole heaps in the order of the packets at which they are whole
abbrev pub whole_heaps : ℕ → List PlacedPacket → List WholeHeap
whole_heaps window ps = filter_map (whole_now window) (fronts ps)
