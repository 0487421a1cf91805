-- A packet more by the numbers of the state is a member more of the heap that the state stands for.
use Rattle.std.proofs.Common.{◌≡◌, ℕ, zero, suc, ◌+◌, ◌-◌, ◌<◌, ◌≤◌, max, Bool, true, false, cond, ◌||◌, ◌==◌, nat_lt, if◌then◌else◌, List, [], ◌∷◌, ◌++◌, length, take, drop, get_or, slice_index, Option, Some, None, is_some, is_none, refl, sym, ap, ap₂, subst, ◌∙◌, inl, inr, arith, append-nil}
use Rattle.std.specs.List.{list_any}
use Rattle.std.specs.Option.{option_or}
use Rattle.std.proofs.lemmas.Bool.{cases_lt}
use Rattle.std.proofs.lemmas.List.{places}
use Rattle.corr_model.specs.declared.heap.DropCause.{DropCause}
use Rattle.corr_model.specs.declared.heap.DropCause.TheVariants.{SizeDiffers, PastSize, Overlap, TooManyPointers}
use Rattle.corr_model.specs.Packets.{Parts}
use Rattle.corr_model.specs.Windows.{PlacedPacket, end_of}
use Rattle.corr_model.specs.Assembly.{sizes_differ, is_past, share_a_byte, pointers_of, said_size, adds_up, payload_bytes, drop_cause, whole_front}
use Rattle.corr_model.specs.LiveHeaps.{HeapStandsFor, kept_shown, greatest_end, byte_brought}
use Rattle.corr_model.specs.PacketVerdicts.{kept_or_dropped, member_outcome}
use Rattle.heap_assembly.specs.declared.added.Added.{Added}
use Rattle.heap_assembly.specs.declared.added.Added.TheVariants.{Kept, Whole, Dropped}
use Rattle.heap_assembly.specs.Marks.{mark_at, any_marked}
use Rattle.heap_assembly.specs.LiveStates.{LiveState, stored, live_of, outcome_by}
use Rattle.heap_assembly.specs.Inside.{IsSound}
use Rattle.heap_assembly.specs.Steps.{with_pointers, early_cause, pointer_cause, Keeps, Takes, Steps}
use Rattle.heap_assembly.proofs.MarkLemmas.{mark_at-lt, same_any}
use Rattle.heap_assembly.proofs.CountLemmas.{same_marked}
use Rattle.heap_assembly.proofs.KeptLemmas.{any_differ, any_past, greatest_push, held, one_if, said_push}
use Rattle.heap_assembly.proofs.KeepingLemmas.{IsKeeping, any_share, brought_free, brought_inside, brought_outside, bytes_push, has_passed, holds_above, holds_below, holds_inside, kept_keeping, pointers_push}
use Rattle.heap_assembly.proofs.FrontLemmas.{open_shown, shown_push, whole_push, makes_outcome, other_outcome, stands_same}

-- ---- what a heap that is not whole stands for

-- what the state shows is that of these packets, which do not make it whole
pub record Assembles (e : LiveState) (ks : List Parts) : Type 0 where
  pub size : e.size ≡ said_size ks
  pub ending : e.ending ≡ greatest_end ks
  pub have : e.have ≡ payload_bytes ks
  pub bytes : (k : ℕ) → stored e k ≡ byte_brought ks k
  pub marks : (k : ℕ) → held ks k ≡ mark_at e.words k
  pub pointers : e.pointers ≡ pointers_of ks
  pub unfinished : adds_up (said_size ks) (payload_bytes ks) ≡ false
  pub keeping : IsKeeping ks

mark_of : (m b : ℕ) (o : Option ℕ) → m < 2 → (if m == 1 then Some b else None) ≡ o → one_if (is_some o) ≡ m
mark_of zero b o small is = ap (λ p. one_if (is_some p)) (sym is)
mark_of (suc zero) b o small is = ap (λ p. one_if (is_some p)) (sym is)
mark_of (suc (suc m)) b o small is = absurd (omega arith)

-- a mark stands where a packet holds the byte
pub marks_of : (e : LiveState) (ks : List Parts) → ((k : ℕ) → stored e k ≡ byte_brought ks k) → (k : ℕ)
    → held ks k ≡ mark_at e.words k
marks_of e ks bytes k =
    mark_of (mark_at e.words k) (slice_index e.bytes k) (byte_brought ks k) (mark_at-lt e.words k) (bytes k)

pub assembles : (e : LiveState) (ms : List PlacedPacket) → IsSound e → e.whole ≡ false → HeapStandsFor (live_of e) ms
    → Assembles e (kept_shown ms)
assembles e ms sound not_whole s =
    let ks = kept_shown ms in
    let unfinished : is_some (whole_front ms) ≡ false = sym s.whole ∙ not_whole in
    let keeping : IsKeeping ks = subst IsKeeping (sym (open_shown ms unfinished)) (kept_keeping ms) in
    let marks : (k : ℕ) → held ks k ≡ mark_at e.words k = marks_of e ks s.bytes in
    let ending = s.ending in
    let within = sound.ending in
    let have : e.have ≡ payload_bytes ks =
    sound.have ∙ sym (same_marked (held ks) (mark_at e.words) marks e.limit) ∙ keeping.counted e.limit
    (omega (arith, ending, within)) in
    record {
      size = s.size;
      ending = s.ending;
      have = have;
      bytes = s.bytes;
      marks = marks;
      pointers = s.pointers;
      unfinished = ap₂ adds_up (sym s.size) (sym have) ∙ sym sound.told ∙ not_whole;
      keeping = keeping;
    }

-- ---- the cause

abbrev first_cause : Bool → Bool → Bool → Bool → Option DropCause
first_cause a b c d =
    if a then Some SizeDiffers
    else (if b then Some PastSize else (if c then Some Overlap else (if d then Some TooManyPointers else None)))

causes_same : (a b c d : Bool)
    → first_cause a b c d
    ≡ option_or (if a then Some SizeDiffers else (if b then Some PastSize else (if c then Some Overlap else None)))
    (if d then Some TooManyPointers else None)
causes_same true b c d = refl
causes_same false true c d = refl
causes_same false false true d = refl
causes_same false false false true = refl
causes_same false false false false = refl

-- the cause by the kept packets is that by the numbers of the state
pub cause_is : (e : LiveState) (ks : List Parts) (p : Parts) → Assembles e ks
    → drop_cause ks p ≡ option_or (early_cause e p) (pointer_cause e p)
cause_is e ks p now =
    let sizes = list_any (λ k. sizes_differ k.size p.size) ks in
    let past = list_any (λ k. is_past k.size (end_of p) || is_past p.size (end_of k)) ks in
    let sizes_now = sizes_differ e.size p.size in
    let past_now = is_past e.size (end_of p) || is_past p.size e.ending in
    let free_now = any_marked (mark_at e.words) p.offset (length p.payload) in
    let few_now = nat_lt 64 (length (with_pointers e.pointers p.pointers)) in
    let same_sizes : sizes ≡ sizes_now =
    any_differ ks p now.keeping.agree ∙ ap (λ s. sizes_differ s p.size) (sym now.size) in
    let same_past : past ≡ past_now =
    any_past ks p now.keeping.agree ∙ ap₂ (λ s end. is_past s (end_of p) || is_past p.size end) (sym now.size)
    (sym now.ending) in
    let same_free : list_any (share_a_byte p) ks ≡ free_now =
    any_share ks p ∙ same_any (held ks) (mark_at e.words) now.marks p.offset (length p.payload) in
    let same_few : nat_lt 64 (length (pointers_of (ks ++ p ∷ []))) ≡ few_now =
    ap (λ ps. nat_lt 64 (length ps))
    (pointers_push ks p ∙ ap (λ ps. with_pointers ps p.pointers) (sym now.pointers)) in
    ap₂ (λ a b. first_cause a b (list_any (share_a_byte p) ks) (nat_lt 64 (length (pointers_of (ks ++ p ∷ [])))))
    same_sizes same_past
    ∙ ap₂ (λ c d. first_cause sizes_now past_now c d) same_free same_few
    ∙ causes_same sizes_now past_now free_now few_now

-- ---- a packet that is kept

put_below : (bytes payload : List ℕ) (at k : ℕ) → at + length payload ≤ length bytes → k < at
    → get_or (take at bytes ++ (payload ++ drop (at + length payload) bytes)) k 0 ≡ get_or bytes k 0
put_below bytes payload at k within below = grind (arith, places)

put_inside : (bytes payload : List ℕ) (at k : ℕ) → at + length payload ≤ length bytes → at ≤ k → k < at + length payload
    → get_or (take at bytes ++ (payload ++ drop (at + length payload) bytes)) k 0 ≡ get_or payload (k - at) 0
put_inside bytes payload at k within low high = grind (arith, places)

put_above : (bytes payload : List ℕ) (at k : ℕ) → at + length payload ≤ length bytes → at + length payload ≤ k
    → get_or (take at bytes ++ (payload ++ drop (at + length payload) bytes)) k 0 ≡ get_or bytes k 0
put_above bytes payload at k within above = grind (arith, places)

-- the byte at each place
bytes_after : (old : LiveState) (ks : List Parts) (p : Parts) (new : LiveState) → IsSound old → Assembles old ks
    → Keeps old p new → list_any (share_a_byte p) ks ≡ false → end_of p ≤ old.limit
    → (k : ℕ) → stored new k ≡ byte_brought (ks ++ p ∷ []) k
bytes_after old ks p new sound now keeps free within k =
    let room : p.offset + length p.payload ≤ length old.bytes = let long = sound.bytes in omega (arith, long, within) in
    let byte : ℕ → ℕ → Option ℕ = λ m b. if m == 1 then Some b else None in
    elim (cases_lt k p.offset) [
      | inl below ↦
          ap₂ byte (keeps.words.below k below)
          (ap (λ bs. get_or bs k 0) keeps.bytes ∙ put_below old.bytes p.payload p.offset k room below)
          ∙ now.bytes k
          ∙ sym (brought_outside ks p k (holds_below p k below))
      | inr low ↦ elim (cases_lt k (end_of p)) [
        | inl high ↦
            ap₂ byte (keeps.words.inside k low high)
            (ap (λ bs. get_or bs k 0) keeps.bytes ∙ put_inside old.bytes p.payload p.offset k room low high)
            ∙ sym (brought_inside ks p k (holds_inside p k low high) (brought_free ks p k free low high))
        | inr above ↦
            ap₂ byte (keeps.words.above k above)
            (ap (λ bs. get_or bs k 0) keeps.bytes ∙ put_above old.bytes p.payload p.offset k room above)
            ∙ now.bytes k
            ∙ sym (brought_outside ks p k (holds_above p k above))
      ]
    ]

-- no cause at all
pub no_cause : (e : LiveState) (ks : List Parts) (p : Parts) → Assembles e ks → early_cause e p ≡ None
    → pointer_cause e p ≡ None → drop_cause ks p ≡ None
no_cause e ks p now early few = cause_is e ks p now ∙ ap₂ option_or early few

-- it shares no byte
free_of : (ks : List Parts) (p : Parts) → drop_cause ks p ≡ None → list_any (share_a_byte p) ks ≡ false
free_of ks p none = (has_passed ks p none).free

-- the heap shows the packet more, and is whole where the lengths add up
pub record Shows (new : LiveState) (ks : List Parts) : Type 0 where
  pub size : new.size ≡ said_size ks
  pub ending : new.ending ≡ greatest_end ks
  pub bytes : (k : ℕ) → stored new k ≡ byte_brought ks k
  pub pointers : new.pointers ≡ pointers_of ks
  pub whole : new.whole ≡ adds_up (said_size ks) (payload_bytes ks)

pub shows_after : (old : LiveState) (ks : List Parts) (p : Parts) (new : LiveState) (w : Bool) → IsSound old
    → Assembles old ks → Takes old p new w → end_of p ≤ old.limit → Shows new (ks ++ p ∷ [])
shows_after old ks p new w sound now t within =
    let k = t.keeps in
    let size : new.size ≡ said_size (ks ++ p ∷ []) =
    k.size ∙ ap (λ s. option_or s p.size) now.size ∙ sym (said_push ks p) in
    let have : new.have ≡ payload_bytes (ks ++ p ∷ []) =
    k.have ∙ ap (λ n. n + length p.payload) now.have ∙ sym (bytes_push ks p) in
    record {
      size = size;
      ending = k.ending ∙ ap (λ n. max n (end_of p)) now.ending ∙ sym (greatest_push ks p);
      bytes = bytes_after old ks p new sound now k (free_of ks p (no_cause old ks p now t.early t.few)) within;
      pointers = t.pointers ∙ ap (λ ps. with_pointers ps p.pointers) now.pointers ∙ sym (pointers_push ks p);
      whole = k.whole ∙ ap₂ adds_up size have;
    }

-- ---- the heap with the member more

unfinished_of : (e : LiveState) (ms : List PlacedPacket) → e.whole ≡ false → HeapStandsFor (live_of e) ms
    → is_some (whole_front ms) ≡ false
unfinished_of e ms not_whole s = sym s.whole ∙ not_whole

kept_with : (ms : List PlacedPacket) (q : PlacedPacket) → is_some (whole_front ms) ≡ false
    → drop_cause (kept_shown ms) q.packet ≡ None → kept_shown (ms ++ q ∷ []) ≡ kept_shown ms ++ q.packet ∷ []
kept_with ms q unfinished none =
    shown_push ms q unfinished ∙ ap (λ o. kept_shown ms ++ cond (is_none o) (q.packet ∷ []) []) none

kept_without : (ms : List PlacedPacket) (q : PlacedPacket) (cause : DropCause) → is_some (whole_front ms) ≡ false
    → drop_cause (kept_shown ms) q.packet ≡ Some cause → kept_shown (ms ++ q ∷ []) ≡ kept_shown ms
kept_without ms q cause unfinished some =
    shown_push ms q unfinished ∙ ap (λ o. kept_shown ms ++ cond (is_none o) (q.packet ∷ []) []) some ∙ append-nil
    (kept_shown ms)

whole_with : (ms : List PlacedPacket) (q : PlacedPacket) → is_some (whole_front ms) ≡ false → (ks : List Parts)
    → kept_shown (ms ++ q ∷ []) ≡ ks
    → is_some (whole_front (ms ++ q ∷ [])) ≡ adds_up (said_size ks) (payload_bytes ks)
whole_with ms q unfinished ks is = whole_push ms q unfinished ∙ ap (λ ns. adds_up (said_size ns) (payload_bytes ns)) is

stands_from : (e : LiveState) (ks : List Parts) (ns : List PlacedPacket) → Shows e ks → kept_shown ns ≡ ks
    → is_some (whole_front ns) ≡ adds_up (said_size ks) (payload_bytes ks) → HeapStandsFor (live_of e) ns
stands_from e ks ns s is whole = record {
  size = s.size ∙ ap said_size (sym is);
  ending = s.ending ∙ ap greatest_end (sym is);
  bytes = λ k. s.bytes k ∙ ap (λ ps. byte_brought ps k) (sym is);
  pointers = s.pointers ∙ ap pointers_of (sym is);
  whole = s.whole ∙ sym whole;
}

taken_stands : (old : LiveState) (ms : List PlacedPacket) (q : PlacedPacket) (new : LiveState) (w : Bool) → IsSound old
    → old.whole ≡ false → end_of q.packet ≤ old.limit → Takes old q.packet new w
    → HeapStandsFor (live_of old) ms → HeapStandsFor (live_of new) (ms ++ q ∷ [])
taken_stands old ms q new w sound not_whole within t s =
    let ks = kept_shown ms in
    let unfinished = unfinished_of old ms not_whole s in
    let now = assembles old ms sound not_whole s in
    let shown = kept_with ms q unfinished (no_cause old ks q.packet now t.early t.few) in
    stands_from new (ks ++ q.packet ∷ []) (ms ++ q ∷ []) (shows_after old ks q.packet new w sound now t within) shown
    (whole_with ms q unfinished (ks ++ q.packet ∷ []) shown)

-- a packet that is dropped leaves the members' heap as it is
pub record StaysOpen (ms : List PlacedPacket) (q : PlacedPacket) : Type 0 where
  pub shown : kept_shown (ms ++ q ∷ []) ≡ kept_shown ms
  pub still : is_some (whole_front (ms ++ q ∷ [])) ≡ false

dropped_stays : (e : LiveState) (ms : List PlacedPacket) (q : PlacedPacket) (cause : DropCause) → IsSound e
    → e.whole ≡ false → option_or (early_cause e q.packet) (pointer_cause e q.packet) ≡ Some cause
    → HeapStandsFor (live_of e) ms → StaysOpen ms q
dropped_stays e ms q cause sound not_whole is s =
    let unfinished = unfinished_of e ms not_whole s in
    let now = assembles e ms sound not_whole s in
    let shown = kept_without ms q cause unfinished (cause_is e (kept_shown ms) q.packet now ∙ is) in
    record { shown = shown; still = whole_with ms q unfinished (kept_shown ms) shown ∙ now.unfinished }

-- what the step leaves stands for the member more
pub step_stands : (old : LiveState) (q : PlacedPacket) (new : LiveState) (a : Added) → IsSound old → old.whole ≡ false
    → end_of q.packet ≤ old.limit → Steps old q.packet new a
    → (ms : List PlacedPacket) → HeapStandsFor (live_of old) ms → HeapStandsFor (live_of new) (ms ++ q ∷ [])
step_stands old q new Kept sound not_whole within step ms s =
    taken_stands old ms q new false sound not_whole within step s
step_stands old q new Whole sound not_whole within step ms s =
    taken_stands old ms q new true sound not_whole within step s
step_stands old q new (Dropped cause) sound not_whole within step ms s =
    let stays = dropped_stays old ms q cause sound not_whole step.1 s in
    let same : is_some (whole_front (ms ++ q ∷ [])) ≡ is_some (whole_front ms) =
    stays.still ∙ sym (unfinished_of old ms not_whole s) in
    subst (λ e. HeapStandsFor (live_of e) (ms ++ q ∷ [])) (sym step.0)
    (stands_same (live_of old) ms (ms ++ q ∷ []) stays.shown same s)

-- and its answer is what the member is to its heap
pub step_answer : (old : LiveState) (q : PlacedPacket) (new : LiveState) (a : Added) → IsSound old → old.whole ≡ false
    → end_of q.packet ≤ old.limit → Steps old q.packet new a
    → (ms : List PlacedPacket) (counter : ℕ) → HeapStandsFor (live_of old) ms
    → member_outcome counter (ms ++ q ∷ []) ≡ outcome_by counter (ms ++ q ∷ []) a
step_answer old q new Kept sound not_whole within step ms counter s =
    let after = taken_stands old ms q new false sound not_whole within step s in
    let now = assembles old ms sound not_whole s in
    other_outcome ms q counter (unfinished_of old ms not_whole s) (sym after.whole ∙ step.is)
    ∙ ap kept_or_dropped (no_cause old (kept_shown ms) q.packet now step.early step.few)
step_answer old q new Whole sound not_whole within step ms counter s =
    let after = taken_stands old ms q new true sound not_whole within step s in
    makes_outcome ms q counter (unfinished_of old ms not_whole s) (sym after.whole ∙ step.is)
step_answer old q new (Dropped cause) sound not_whole within step ms counter s =
    let stays = dropped_stays old ms q cause sound not_whole step.1 s in
    let now = assembles old ms sound not_whole s in
    other_outcome ms q counter (unfinished_of old ms not_whole s) stays.still
    ∙ ap kept_or_dropped (cause_is old (kept_shown ms) q.packet now ∙ step.1)
