-- Heard packets, openings of heaps and their members.
-- SPEAD protocol definition, version 4: a heap is the packets with one heap counter. That a stream's counters are
-- told apart by the last openings, and the limits, is this project's own.
use Rattle.std.specs.Prelude.{ℕ, ◌+◌, Bool, true, not, ◌&&◌, ◌==◌, nat_lt, nat_le, if◌then◌else◌, List, length, take, filter, find, Option, Some, None, option_and_then}
use Rattle.std.specs.List.{filter_map, list_any}
use Rattle.corr_model.specs.declared.plan.Plan.{Plan}
use Rattle.corr_model.specs.Lists.{in_turn, last_few}
use Rattle.corr_model.specs.Packets.{Parts, packet_in}

-- where the packet ends in its heap: offset and payload length together
abbrev pub end_of : Parts → ℕ
end_of p = p.offset + length p.payload

-- no size is said, or it is at most the limit
abbrev pub is_size_within : ℕ → Option ℕ → Bool
is_size_within limit None = true
is_size_within limit (Some size) = nat_le size limit

-- the packet's size, if it says one, and its end are at most the limit
abbrev pub is_within : ℕ → Parts → Bool
is_within limit p = is_size_within limit p.size && nat_le (end_of p) limit

-- the packet that the bytes spell, where it is within the limit
abbrev pub heard_in : ℕ → List ℕ → Option Parts
heard_in limit bytes = option_and_then (λ p. if is_within limit p then Some p else None) (packet_in bytes)

-- the heard packets of a list: of its first `packet_limit` strings, those that spell a packet within the heap limit
abbrev pub heard : Plan → List (List ℕ) → List Parts
heard plan l = filter_map (heard_in plan.heap_limit) (take plan.packet_limit l)

-- a heard packet with its place among them, whether it opens a heap, and the number of openings up to and including it
pub record PlacedPacket : Type 0 where
  pub place : ℕ
  pub packet : Parts
  pub opens : Bool
  pub openings : ℕ

-- the packets that open a heap, in order
abbrev pub openings : List PlacedPacket → List PlacedPacket
openings ps = filter (λ o. o.opens) ps

-- the packet has this heap counter
abbrev pub has_counter : ℕ → PlacedPacket → Bool
has_counter counter o = o.packet.counter == counter

-- a packet opens a heap where its counter is not among those of the last W openings before it
abbrev pub is_opening : ℕ → List PlacedPacket → Parts → Bool
is_opening window before p = not (list_any (has_counter p.counter) (last_few window (openings before)))

-- a packet after these, which opens a heap or does not
abbrev pub placed_as : List PlacedPacket → Parts → Bool → PlacedPacket
placed_as before p opens = record {
  place = length before;
  packet = p;
  opens = opens;
  openings = length (openings before) + (if opens then 1 else 0);
}

-- a heard packet with its place, whether it opens a heap, and the openings so far, by those before it
abbrev pub place_next : ℕ → List PlacedPacket → Parts → PlacedPacket
place_next window before p = placed_as before p (is_opening window before p)

-- each heard packet by those before it
abbrev pub placed : ℕ → List Parts → List PlacedPacket
placed window h = in_turn (place_next window) h

-- a member of the heap that o opened: not before o, of its counter, and with fewer than W openings after o up to and
-- including it
abbrev pub is_member : ℕ → PlacedPacket → PlacedPacket → Bool
is_member window o q =
    nat_le o.place q.place && (has_counter q.packet.counter o && nat_lt q.openings (o.openings + window))

-- the members of the heap that o opened, in order
abbrev pub members : ℕ → List PlacedPacket → PlacedPacket → List PlacedPacket
members window ps o = filter (is_member window o) ps

-- the opening of the heap of which q is a member
abbrev pub opening_of : ℕ → List PlacedPacket → PlacedPacket → Option PlacedPacket
opening_of window ps q = find (λ o. is_member window o q) (openings ps)

-- the placed heard packets of a list
abbrev pub placed_in : Plan → List (List ℕ) → List PlacedPacket
placed_in plan l = placed plan.window (heard plan l)
