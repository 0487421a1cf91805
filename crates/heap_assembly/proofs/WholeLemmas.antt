-- A heap that is whole has each of its bytes, and they are those of the packets that it keeps.
use Rattle.std.proofs.Common.{◌≡◌, ℕ, ◌+◌, ◌-◌, ◌<◌, ◌≤◌, true, false, ◌==◌, if◌then◌else◌, List, length, find, take, get_or, slice_index, Option, Some, None, is_some, option_map, unwrap_or, refl, sym, ap, ap₂, ◌∙◌, arith, length-take-le, get_or-take}
use Rattle.std.proofs.lemmas.Bool.{false≢true, ltb-false}
use Rattle.std.proofs.lemmas.List.{get_or-map, ext_get_or}
use Rattle.std.proofs.lemmas.Option.{none-some, same_Some}
use Rattle.corr_model.specs.declared.pointer.Pointer.{Pointer}
use Rattle.corr_model.specs.Lists.{numbers}
use Rattle.corr_model.specs.Packets.{Parts}
use Rattle.corr_model.specs.Windows.{PlacedPacket}
use Rattle.corr_model.specs.Assembly.{kept, fates, whole_front, is_past, said_size, payload_bytes, holds_byte, byte_of, joined, heap_of, WholeHeap}
use Rattle.corr_model.specs.LiveHeaps.{HeapStandsFor, kept_shown, byte_brought}
use Rattle.corr_model.proofs.AssemblyLaws.{added_up, length-joined}
use Rattle.corr_model.proofs.AssemblyLawsWhole.{size_of_whole}
use Rattle.corr_model.proofs.CountedLists.{length-numbers, get_or-numbers}
use Rattle.heap_assembly.specs.Marks.{mark_at, marked}
use Rattle.heap_assembly.specs.LiveStates.{LiveState, stored, live_of}
use Rattle.heap_assembly.specs.Inside.{IsSound}
use Rattle.heap_assembly.proofs.MarkLemmas.{mark_at-lt}
use Rattle.heap_assembly.proofs.CountLemmas.{all_marked, marked_before}
use Rattle.heap_assembly.proofs.SoundLemmas.{have_within}

some_of : {A : Type 0} (o : Option A) → is_some o ≡ true → (x : A) × (o ≡ Some x)
some_of None is = absurd (false≢true is)
some_of (Some x) is = (x, refl)

-- a whole heap has as many bytes as the packets that it keeps bring
pub have_of_whole : (e : LiveState) (ms : List PlacedPacket) → IsSound e → e.whole ≡ true → HeapStandsFor (live_of e) ms
    → e.have ≡ payload_bytes (kept_shown ms)
have_of_whole e ms sound is s =
    let found = some_of (whole_front ms) (sym s.whole ∙ is) in
    let front = found.0 in
    let shown : kept_shown ms ≡ kept front = ap (λ o. kept (unwrap_or o (fates ms))) found.1 in
    let own : e.size ≡ Some e.have = added_up e.size e.have (sym sound.told ∙ is) in
    let theirs : said_size (kept front) ≡ Some (payload_bytes (kept front)) =
    size_of_whole ms front found.1 ∙ ap Some (length-joined (kept front)) in
    same_Some e.have (payload_bytes (kept_shown ms))
    (sym own ∙ s.size ∙ ap said_size shown ∙ theirs ∙ ap (λ ks. Some (payload_bytes ks)) (sym shown))

-- each of its places is marked
pub all_there : (e : LiveState) → IsSound e → e.whole ≡ true → (k : ℕ) → k < e.have → mark_at e.words k ≡ 1
all_there e sound is k below =
    let own : e.size ≡ Some e.have = added_up e.size e.have (sym sound.told ∙ is) in
    let within : is_past (Some e.have) e.ending ≡ false = ap (λ s. is_past s e.ending) (sym own) ∙ sound.within in
    let ends = ltb-false e.have e.ending within in
    let most = have_within e sound in
    let count : marked (mark_at e.words) e.have ≡ e.have =
    sym (marked_before (mark_at e.words) e.have e.limit most (λ i from. sound.above i (omega (arith, ends, from))))
    ∙ sym sound.have in
    all_marked (mark_at e.words) e.have k (mark_at-lt e.words) count below

byte_found : (k b : ℕ) (o : Option Parts) → option_map (λ p. slice_index p.payload (k - p.offset)) o ≡ Some b
    → byte_of k o ≡ b
byte_found k b None is = absurd (none-some b is)
byte_found k b (Some p) is = same_Some (slice_index p.payload (k - p.offset)) b is

-- and its byte there is that of the packet that holds it
pub byte_there : (e : LiveState) (ks : List Parts) (k : ℕ) → mark_at e.words k ≡ 1 → stored e k ≡ byte_brought ks k
    → byte_of k (find (holds_byte k) ks) ≡ slice_index e.bytes k
byte_there e ks k one is =
    byte_found k (slice_index e.bytes k) (find (holds_byte k) ks)
    (sym is ∙ ap (λ m. if m == 1 then Some (slice_index e.bytes k) else None) one)

joined_at : (ks : List Parts) (k : ℕ) → k < payload_bytes ks
    → get_or (joined ks) k 0 ≡ byte_of k (find (holds_byte k) ks)
joined_at ks k below =
    get_or-map (λ m. byte_of m (find (holds_byte m) ks)) (numbers 0 (payload_bytes ks)) k 0 0
    (let l = length-numbers 0 (payload_bytes ks) in omega (arith, l))
    ∙ ap (λ m. byte_of m (find (holds_byte m) ks))
    (get_or-numbers 0 (payload_bytes ks) k 0 below ∙ (let e : 0 + k ≡ k = omega arith in e))

-- so the front of its buffer is the payload
pub payload_of_whole : (e : LiveState) (ms : List PlacedPacket) → IsSound e → e.whole ≡ true
    → HeapStandsFor (live_of e) ms → take e.have e.bytes ≡ joined (kept_shown ms)
payload_of_whole e ms sound is s =
    let ks = kept_shown ms in
    let have = have_of_whole e ms sound is s in
    let room : e.have ≤ length e.bytes = let most = have_within e sound in let long =
    sound.bytes in omega (arith, most, long) in
    let front : length (take e.have e.bytes) ≡ e.have = length-take-le e.have e.bytes room in
    ext_get_or 0 (take e.have e.bytes) (joined ks) (front ∙ have ∙ sym (length-joined ks))
    (λ k inside.
    let below : k < e.have = omega (arith, front, inside) in
    get_or-take e.have e.bytes k 0 below ∙ sym (byte_there e ks k (all_there e sound is k below) (s.bytes k)) ∙ sym
    (joined_at ks k (omega (arith, have, below))))

-- the heap that is lent is that of the packets that it keeps
pub heap_of_whole : (e : LiveState) (ms : List PlacedPacket) (lent : WholeHeap) (pointers : List Pointer)
    (payload bytes : List ℕ) → IsSound e
    → lent ≡ record { counter = e.counter; pointers = pointers; payload = payload } → pointers ≡ e.pointers
    → payload ≡ take e.have bytes → bytes ≡ e.bytes
    → e.whole ≡ true → HeapStandsFor (live_of e) ms → lent ≡ heap_of e.counter (kept_shown ms)
heap_of_whole e ms lent pointers payload bytes sound made pointers_are payload_is bytes_are is s =
    let ks = kept_shown ms in
    let with_parts : List Pointer → List ℕ → WholeHeap =
    λ ps bs. record { counter = e.counter; pointers = ps; payload = bs } in
    made ∙ ap₂ with_parts (pointers_are ∙ s.pointers)
    (payload_is ∙ ap (take e.have) bytes_are ∙ payload_of_whole e ms sound is s)
