-- The cells of streams of byte strings are bytes.
use Rattle.std.proofs.Common.{ℕ, ◌+◌, ◌-◌, ◌*◌, ◌^◌, ◌<◌, ◌≤◌, Bool, true, false, not, ◌&&◌, ◌==◌, nat_lt, nat_le, if◌then◌else◌, List, [], Option, Some, None, IfSome, is_none, All, length, take, drop, filter, find, slice_range, option_and_then, option_map, unwrap_or, get_or, arith}
use Rattle.std.specs.List.{list_any}
use Rattle.std.specs.Int.RustNames.{unsigned_abs}
use Rattle.std.proofs.lemmas.List.Elements.{All-drop, All-filter, All-map, All-nil, All-take}
use Rattle.corr_model.specs.declared.plan.Plan.{Plan}
use Rattle.corr_model.specs.declared.pointer.Pointer.{Pointer}
use Rattle.corr_model.specs.Plans.{Fits, sample_bytes}
use Rattle.corr_model.specs.Lists.{fronts, through_first, numbers, last_one, passes}
use Rattle.corr_model.specs.Packets.{Parts, refusal_of, parts_in, packet_in, pointer_count}
use Rattle.corr_model.specs.Windows.{PlacedPacket, is_within, heard_in, heard, place_next, placed, placed_in, is_member, members, opening_of}
use Rattle.corr_model.specs.Assembly.{Fate, fate_next, fates, kept, is_complete, whole_front, holds_byte, byte_of, joined, payload_bytes, WholeHeap, heap_at, Whole, After, standing_by, members_with, whole_with, whole_now}
use Rattle.corr_model.specs.Items.{Group, content_end, content_at, content, item, addressed_content}
use Rattle.corr_model.specs.Descriptors.{DescribedItem}
use Rattle.corr_model.specs.Tables.{table_entry, is_voltages, long_enough, samples, sight_of, described_number, readable_descriptors}
use Rattle.corr_model.specs.Streams.{group_of, whole_in, stops, JudgedHeap, judge_next, contents_so_far, heaps, is_used_at, samples_of, cell, column}
use Rattle.corr_model.specs.Visibilities.{Lists, part}
use Rattle.corr_model.proofs.SumLawsBounds.{byte_read, part_small}
use Rattle.corr_model.proofs.EachElement.{if_some, if_option, unless_option, and_then, mapped, either_some, all_filter_map, all_in_turn, all_fronts, all_find, all_through}

-- each is below 256
abbrev AreBytes : List ℕ → Type 0
AreBytes bytes = All (λ b. b < 256) bytes

-- ---- from strings to whole heaps

abbrev PartsBytes : Parts → Type 0
PartsBytes p = AreBytes p.payload

abbrev PlacedBytes : PlacedPacket → Type 0
PlacedBytes o = PartsBytes o.packet

abbrev FateBytes : Fate → Type 0
FateBytes f = PlacedBytes f.member

abbrev HeapBytes : WholeHeap → Type 0
HeapBytes heap = AreBytes heap.payload

heard_bytes : (limit : ℕ) (bytes : List ℕ) → AreBytes bytes → IfSome (heard_in limit bytes) PartsBytes
heard_bytes limit bytes h =
    and_then PartsBytes PartsBytes (λ p. if is_within limit p then Some p else None)
    (λ p is. if_some PartsBytes (is_within limit p) p is) (packet_in bytes)
    (if_some PartsBytes (is_none (refusal_of bytes)) (parts_in bytes)
    (All-drop (λ b. b < 256) (8 + 8 * pointer_count bytes) bytes h))

placed_bytes : (plan : Plan) (l : List (List ℕ)) → All AreBytes l → All PlacedBytes (placed_in plan l)
placed_bytes plan l h =
    all_in_turn PartsBytes PlacedBytes (place_next plan.window) (λ before p is. is) (heard plan l)
    (all_filter_map AreBytes PartsBytes (heard_in plan.heap_limit) (heard_bytes plan.heap_limit)
    (take plan.packet_limit l) (All-take AreBytes plan.packet_limit l h))

members_bytes : (window : ℕ) (ps : List PlacedPacket) (o : Option PlacedPacket) → All PlacedBytes ps
    → All PlacedBytes (unwrap_or (option_map (members window ps) o) [])
members_bytes window ps None h = All-nil PlacedBytes
members_bytes window ps (Some o) h = All-filter (is_member window o) PlacedBytes ps h

kept_bytes : (fs : List Fate) → All FateBytes fs → All PartsBytes (kept fs)
kept_bytes fs h = All-map PartsBytes (λ f. f.member.packet) (filter (λ f. is_none f.cause) fs)
    (All-filter (λ f. is_none f.cause) FateBytes fs h)

byte_of_bytes : (k : ℕ) (o : Option Parts) → IfSome o PartsBytes → byte_of k o < 256
byte_of_bytes k None h = omega arith
byte_of_bytes k (Some p) h = byte_read p.payload (k - p.offset) h

joined_bytes : (ps : List Parts) → All PartsBytes ps → AreBytes (joined ps)
joined_bytes ps h =
    All-map (λ b. b < 256) (λ k. byte_of k (find (holds_byte k) ps)) (numbers 0 (payload_bytes ps))
    (λ k d inside. byte_of_bytes (get_or (numbers 0 (payload_bytes ps)) k d)
    (find (holds_byte (get_or (numbers 0 (payload_bytes ps)) k d)) ps)
    (all_find PartsBytes (holds_byte (get_or (numbers 0 (payload_bytes ps)) k d)) ps h))

whole_if : (counter : ℕ) (b : Bool) (front : List Fate) → All FateBytes front
    → IfSome (heap_at counter (if b then Whole front else After)) HeapBytes
whole_if counter true front h = joined_bytes (kept front) (kept_bytes front h)
whole_if counter false front h = tt

whole_at : (counter count : ℕ) (o : Option (List Fate)) → IfSome o (All FateBytes)
    → IfSome (heap_at counter (standing_by count o)) HeapBytes
whole_at counter count None h = tt
whole_at counter count (Some front) h = whole_if counter (length front == count) front h

whole_with_bytes : (window : ℕ) (ps : List PlacedPacket) (q : PlacedPacket) → All PlacedBytes ps
    → IfSome (whole_with window ps q) HeapBytes
whole_with_bytes window ps q h =
    let ms = members_with window ps q in
    let each = all_in_turn PlacedBytes FateBytes fate_next (λ before m is. is) ms
    (members_bytes window ps (opening_of window ps q) h) in
    whole_at q.packet.counter (length ms) (whole_front ms)
    (all_find (All FateBytes) is_complete (fronts (fates ms)) (all_fronts FateBytes (fates ms) each))

now_by : (window : ℕ) (ps : List PlacedPacket) (o : Option PlacedPacket) → All PlacedBytes ps
    → IfSome (option_and_then (whole_with window ps) o) HeapBytes
now_by window ps None h = tt
now_by window ps (Some q) h = whole_with_bytes window ps q h

whole_now_bytes : (window : ℕ) (ps : List PlacedPacket) → All PlacedBytes ps → IfSome (whole_now window ps) HeapBytes
whole_now_bytes window ps h = now_by window ps (last_one ps) h

whole_bytes : (plan : Plan) (l : List (List ℕ)) → All AreBytes l → All HeapBytes (whole_in plan l)
whole_bytes plan l h =
    let ps = placed_in plan l in
    all_filter_map (All PlacedBytes) HeapBytes (whole_now plan.window) (whole_now_bytes plan.window) (fronts ps)
    (all_fronts PlacedBytes ps (placed_bytes plan l h))

-- ---- from whole heaps to cells

content_bytes : (g : Group) (place offset : ℕ) → AreBytes g.payload → IfSome (content_at g place offset) AreBytes
content_bytes g place offset h =
    unless_option AreBytes (nat_lt (length g.payload) offset)
    (if list_any (λ p. not p.immediate && (p.value == offset)) (drop (place + 1) g.pointers) then Some []
    else Some (slice_range g.payload offset (content_end g offset)))
    (either_some AreBytes (list_any (λ p. not p.immediate && (p.value == offset)) (drop (place + 1) g.pointers)) []
    (slice_range g.payload offset (content_end g offset)) (All-nil (λ b. b < 256))
    (All-take (λ b. b < 256) (content_end g offset - offset) (drop offset g.payload)
    (All-drop (λ b. b < 256) offset g.payload h)))

by_item : (f : ℕ × Pointer → Option (List ℕ)) → ((placed : ℕ × Pointer) → IfSome (f placed) AreBytes)
    → (o : Option (ℕ × Pointer)) → IfSome (option_and_then f o) AreBytes
by_item f each None = tt
by_item f each (Some placed) = each placed

samples_bytes : (plan : Plan) (ds : List DescribedItem) (g : Group) → AreBytes g.payload
    → IfSome (samples plan ds g) AreBytes
samples_bytes plan ds g h =
    let found : IfSome (addressed_content g 0x4300) AreBytes
    = by_item (λ placed. if placed.1.immediate then None else content g placed)
    (λ placed. unless_option AreBytes placed.1.immediate (content g placed)
    (content_bytes g placed.0 placed.1.value h)) (item 0x4300 g) in
    if_option AreBytes (passes (is_voltages plan) (table_entry ds 0x4300))
    (option_and_then (long_enough (sample_bytes plan)) (addressed_content g 0x4300))
    (and_then AreBytes AreBytes (long_enough (sample_bytes plan))
    (λ bytes is. if_some AreBytes (nat_le (sample_bytes plan) (length bytes)) (take (sample_bytes plan) bytes)
    (All-take (λ b. b < 256) (sample_bytes plan) bytes is)) (addressed_content g 0x4300) found)

sight_bytes : (t a : Option ℕ) (s : Option (List ℕ)) → IfSome s AreBytes
    → AreBytes (unwrap_or (option_map (λ seen. seen.samples) (sight_of t a s)) [])
sight_bytes None a s h = All-nil (λ b. b < 256)
sight_bytes (Some t) None s h = All-nil (λ b. b < 256)
sight_bytes (Some t) (Some a) None h = All-nil (λ b. b < 256)
sight_bytes (Some t) (Some a) (Some s) h = h

abbrev JudgedBytes : JudgedHeap → Type 0
JudgedBytes j = AreBytes (samples_of j)

judged_bytes : (plan : Plan) (antenna : ℕ) (before : List JudgedHeap) (heap : WholeHeap) → HeapBytes heap
    → JudgedBytes (judge_next plan antenna before heap)
judged_bytes plan antenna before heap h =
    let ds = readable_descriptors plan (contents_so_far before heap) in
    sight_bytes (described_number ds (group_of heap) 0x1600) (described_number ds (group_of heap) 0x4101)
    (samples plan ds (group_of heap)) (samples_bytes plan ds (group_of heap) h)

cell_bytes : (plan : Plan) (antenna : ℕ) (l : List (List ℕ)) (n t : ℕ) → All AreBytes l
    → IfSome (cell plan antenna l n t) AreBytes
cell_bytes plan antenna l n t h =
    let each = all_in_turn HeapBytes JudgedBytes (judge_next plan antenna) (judged_bytes plan antenna)
    (through_first stops (whole_in plan l))
    (all_through HeapBytes stops (whole_in plan l) (whole_bytes plan l h)) in
    mapped JudgedBytes AreBytes samples_of (λ j is. is) (find (λ j. is_used_at n t j.verdict) (heaps plan antenna l))
    (all_find JudgedBytes (λ j. is_used_at n t j.verdict) (heaps plan antenna l) each)

-- the cells of a stream of byte strings are bytes
pub column_bytes : (plan : Plan) (antenna : ℕ) (l : List (List ℕ)) (n : ℕ) → All AreBytes l
    → All (λ c. IfSome c AreBytes) (column plan antenna l n)
column_bytes plan antenna l n h =
    All-map (λ c. IfSome c AreBytes) (cell plan antenna l n) (numbers 0 plan.heaps)
    (λ k d inside. cell_bytes plan antenna l n (get_or (numbers 0 plan.heaps) k d) h)

-- each part of a value is at most 2^39 in size, where the streams are byte strings
pub part_of_bytes_small : (plan : Plan) (lists : Lists) (n i j c p q from to : ℕ) → Fits plan
    → All (All (λ b. b < 256)) (lists i) → All (All (λ b. b < 256)) (lists j)
    → (unsigned_abs (part plan lists n i j c p q from to).real ≤ 2 ^ 39)
    × (unsigned_abs (part plan lists n i j c p q from to).imaginary ≤ 2 ^ 39)
part_of_bytes_small plan lists n i j c p q from to fits first second =
    part_small plan lists n i j c p q from to fits (column_bytes plan i (lists i) n first)
    (column_bytes plan j (lists j) n second)
