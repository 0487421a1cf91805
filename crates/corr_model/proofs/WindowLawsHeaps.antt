-- The heaps that a window keeps, beside the last openings: which of them the next packet joins, and what becomes of the
-- others.
use Rattle.std.proofs.Common.{◌≡◌, ℕ, zero, suc, ◌+◌, ◌-◌, ◌<◌, ◌≤◌, Bool, true, false, not, cond, eqb, ltb, leb, ◌||◌, ◌&&◌, List, [], ◌∷◌, ◌++◌, length, get_or, take, drop, map, set, Option, Some, None, refl, sym, ap, ◌∙◌, subst, inl, inr, arith}
use Rattle.std.specs.List.{list_any, find, AllByRecursion, position, position_or_len, AllPairs, slice_get}
use Rattle.std.specs.Option.{option_or, option_map, option_and_then, unwrap_or, is_some, is_none}
use Rattle.std.proofs.lemmas.List.{append-nil, take-append-drop, length-drop}
use Rattle.std.proofs.lemmas.List.Folds.{find-append}
use Rattle.std.proofs.lemmas.Option.{same_Some}
use Rattle.std.proofs.lemmas.Bool.{ltb-true, ltb-false, eq-eqb, eqb-false, ne_eqb, le-leb, lt-leb, lt-ltb, le-ltb, and_from, and_left, and_right, or_parts, or_left, or_right, cond-true, cond-false, cases_Bool, cases_lt, both_ways, not-true}
use Rattle.corr_model.specs.Lists.{last_few}
use Rattle.corr_model.specs.Packets.{Parts}
use Rattle.corr_model.specs.Windows.{PlacedPacket, has_counter, openings, is_opening, placed, is_member, members, opening_of}
use Rattle.corr_model.specs.Assembly.{members_with, whole_front}
use Rattle.corr_model.specs.LiveHeaps.{LiveHeap, HeapStandsFor, IsHeapOf, AreHeapsOf, WindowStandsFor}
use Rattle.corr_model.specs.PacketVerdicts.{evicted_of}
use Rattle.corr_model.specs.WindowSteps.{last_counters, place_of, unfinished, first_unfinished, placed_next, Joins, Opens}
use Rattle.corr_model.proofs.Pushes.{placed_push, openings_push, members_push}
use Rattle.corr_model.proofs.WindowLaws.{Apart, each_weaker, each_both, each_drop, each_filtered, none_found, none_kept, each_fails, low_numbers, high_numbers, last_few_push, IsInOrder, in_order}

-- a heap with this counter
abbrev has : ℕ → LiveHeap → Bool
has counter e = eqb e.counter counter

-- the heaps have their openings' counters
pub counters_are : (w : ℕ) (ps : List PlacedPacket) (hs : List LiveHeap) (os : List PlacedPacket)
    → AreHeapsOf w ps hs os → map (λ (e : LiveHeap). e.counter) hs ≡ map (λ (o : PlacedPacket). o.packet.counter) os
counters_are w ps [] [] h = refl
counters_are w ps [] (o ∷ os) h = absurd h
counters_are w ps (e ∷ hs) [] h = absurd h
counters_are w ps (e ∷ hs) (o ∷ os) h = let is = h.0.counter in let rest = counters_are w ps hs os h.1 in cc

pub any_alike : (w : ℕ) (ps : List PlacedPacket) (counter : ℕ) (hs : List LiveHeap) (os : List PlacedPacket)
    → AreHeapsOf w ps hs os → list_any (has_counter counter) os ≡ list_any (has counter) hs
any_alike w ps counter [] [] h = refl
any_alike w ps counter [] (o ∷ os) h = absurd h
any_alike w ps counter (e ∷ hs) [] h = absurd h
any_alike w ps counter (e ∷ hs) (o ∷ os) h =
    ap (λ c. eqb c counter || list_any (has_counter counter) os) (sym h.0.counter)
    ∙ ap (λ b. eqb e.counter counter || b) (any_alike w ps counter hs os h.1)

pub as_many : (w : ℕ) (ps : List PlacedPacket) (hs : List LiveHeap) (os : List PlacedPacket) → AreHeapsOf w ps hs os
    → length hs ≡ length os
as_many w ps [] [] h = refl
as_many w ps [] (o ∷ os) h = absurd h
as_many w ps (e ∷ hs) [] h = absurd h
as_many w ps (e ∷ hs) (o ∷ os) h = ap suc (as_many w ps hs os h.1)

pub few_last : {X : Type 0} (w : ℕ) (xs : List X) → length (last_few w xs) ≤ w
few_last w xs = omega (arith, length-drop (length xs - w) xs)

-- a place is found where one passes
any_is_below : {X : Type 0} (test : X → Bool) (xs : List X)
    → ltb (position_or_len test xs) (length xs) ≡ list_any test xs
any_is_below test [] = refl
any_is_below test (x ∷ xs) =
    first_or_later (test x) (position_or_len test xs) (length xs) (list_any test xs) (any_is_below test xs)
  where
    first_or_later : (b : Bool) (k n : ℕ) (any : Bool) → ltb k n ≡ any
        → ltb (cond (not b) (1 + k) 0) (suc n) ≡ (b || any)
    first_or_later true k n any h = lt-ltb 0 (suc n) (omega arith)
    first_or_later false k n true h = let below = ltb-true k n h in lt-ltb (1 + k) (suc n) (omega arith)
    first_or_later false k n false h = let past = ltb-false k n h in le-ltb (1 + k) (suc n) (omega arith)

none_placed : (b : Bool) (k : ℕ) → not b ≡ is_none (cond b (Some k) None)
none_placed true k = refl
none_placed false k = refl

pub none_at_a_place : {X : Type 0} (test : X → Bool) (xs : List X) → not (list_any test xs) ≡ is_none (position test xs)
none_at_a_place test xs =
    ap not (sym (any_is_below test xs)) ∙ none_placed (ltb (position_or_len test xs) (length xs))
    (position_or_len test xs)

-- a packet opens a heap where none has its counter
pub opens_where_none : (w : ℕ) (ps : List PlacedPacket) (p : Parts) (hs : List LiveHeap)
    → AreHeapsOf w ps hs (last_few w (openings ps)) → is_opening w ps p ≡ is_none (place_of p.counter hs)
opens_where_none w ps p hs h =
    ap not (any_alike w ps p.counter hs (last_few w (openings ps)) h) ∙ none_at_a_place (has p.counter) hs

-- the counters of openings that are apart
pair_apart : (os : List PlacedPacket) → Apart os
    → AllPairs (λ m n. m ≡ n → ⊥) (map (λ (o : PlacedPacket). o.packet.counter) os)
pair_apart [] h i j d less within = absurd (omega arith)
pair_apart (o ∷ os) h i zero d less within = absurd (omega arith)
pair_apart (o ∷ os) h zero (suc j) d less within = first_apart o os j d h.0 (omega arith)
  where
    first_apart : (o : PlacedPacket) (os : List PlacedPacket) (j d : ℕ)
        → list_any (has_counter o.packet.counter) os ≡ false
        → j < length (map (λ (r : PlacedPacket). r.packet.counter) os)
        → o.packet.counter ≡ get_or (map (λ (r : PlacedPacket). r.packet.counter) os) j d → ⊥
    first_apart o [] j d none within same = absurd (omega arith)
    first_apart o (r ∷ rs) zero d none within same =
        eqb-false r.packet.counter o.packet.counter
        (or_parts (has_counter o.packet.counter r) (list_any (has_counter o.packet.counter) rs) none).0 (sym same)
    first_apart o (r ∷ rs) (suc j) d none within same =
        first_apart o rs j d
        (or_parts (has_counter o.packet.counter r) (list_any (has_counter o.packet.counter) rs) none).1
        (omega arith) same
pair_apart (o ∷ os) h (suc i) (suc j) d less within = pair_apart os h.1 i j d (omega arith) (omega arith)

pub counters_apart : (w : ℕ) (h : List Parts) → AllPairs (λ m n. m ≡ n → ⊥) (last_counters w (placed w h))
counters_apart w h = pair_apart (last_few w (openings (placed w h))) (in_order w h).apart

-- the packet is no member of the heaps of the openings before the last W
front_apart : (w : ℕ) (ps : List PlacedPacket) (q : PlacedPacket) → IsInOrder w ps → length (openings ps) ≤ q.openings
    → AllByRecursion (λ o. is_member w o q ≡ false) (take (length (openings ps) - w) (openings ps))
front_apart w ps q order late =
    let n = length (openings ps) - w in
    each_weaker (λ o. (1 ≤ o.openings) × (o.openings < 1 + n)) (λ o. is_member w o q ≡ false)
    (λ o b. let low = b.0 in let high = b.1 in
    and_right (leb o.place q.place) _
    (and_right (has_counter q.packet.counter o) (ltb q.openings (o.openings + w))
    (le-ltb q.openings (o.openings + w) (omega arith))))
    (take n (openings ps)) (low_numbers n 1 (openings ps) order.numbers)

-- the places of the last openings are those of earlier packets
last_places : (w : ℕ) (ps : List PlacedPacket) → IsInOrder w ps
    → AllByRecursion (λ o. o.place < length ps) (last_few w (openings ps))
last_places w ps order =
    each_drop (λ o. o.place < length ps) (length (openings ps) - w) (openings ps)
    (each_filtered (λ o. o.place < length ps) (λ o. o.opens) ps order.places)

-- a packet that opens no heap is a member of the heap of each of the last W openings that has its counter
near_alike : (w : ℕ) (ps : List PlacedPacket) (q : PlacedPacket) → IsInOrder w ps → q.openings ≡ length (openings ps)
    → q.place ≡ length ps
    → AllByRecursion (λ o. is_member w o q ≡ has_counter q.packet.counter o) (last_few w (openings ps))
near_alike w ps q order number place =
    let n = length (openings ps) - w in
    each_both (λ o. o.place < length ps) (λ o. 1 + n ≤ o.openings)
    (λ o. is_member w o q ≡ has_counter q.packet.counter o)
    (λ o earlier near. alike (leb o.place q.place) (has_counter q.packet.counter o) (ltb q.openings (o.openings + w))
    (le-leb o.place q.place (omega arith)) (lt-ltb q.openings (o.openings + w) (omega arith)))
    (last_few w (openings ps)) (last_places w ps order) (high_numbers n 1 (openings ps) order.numbers)
  where
    alike : (a b c : Bool) → a ≡ true → c ≡ true → (a && (b && c)) ≡ b
    alike a true c h k = and_from a c h k
    alike a false c h k = and_right a false refl

-- members of another counter are none
other_counter : (w : ℕ) (o q : PlacedPacket) → has_counter q.packet.counter o ≡ false → is_member w o q ≡ false
other_counter w o q apart =
    and_right (leb o.place q.place) _
    (and_left (has_counter q.packet.counter o) (ltb q.openings (o.openings + w)) apart)

pub same_members : (w : ℕ) (ps : List PlacedPacket) (q o : PlacedPacket) → is_member w o q ≡ false
    → members w (ps ++ q ∷ []) o ≡ members w ps o
same_members w ps q o none =
    members_push w ps q o ∙ ap (λ b. members w ps o ++ cond b (q ∷ []) []) none ∙ append-nil (members w ps o)

same_heap : (w : ℕ) (ps : List PlacedPacket) (q o : PlacedPacket) (e : LiveHeap) → is_member w o q ≡ false
    → IsHeapOf w ps e o → IsHeapOf w (ps ++ q ∷ []) e o
same_heap w ps q o e none h =
    record { counter = h.counter; members = subst (HeapStandsFor e) (sym (same_members w ps q o none)) h.members }

-- heaps of which the packet is no member stay
same_heaps : (w : ℕ) (ps : List PlacedPacket) (q : PlacedPacket) (hs : List LiveHeap) (os : List PlacedPacket)
    → AreHeapsOf w ps hs os → AllByRecursion (λ o. is_member w o q ≡ false) os → AreHeapsOf w (ps ++ q ∷ []) hs os
same_heaps w ps q [] [] h none = tt
same_heaps w ps q [] (o ∷ os) h none = absurd h
same_heaps w ps q (e ∷ hs) [] h none = absurd h
same_heaps w ps q (e ∷ hs) (o ∷ os) h none = (same_heap w ps q o e none.0 h.0, same_heaps w ps q hs os h.1 none.1)

-- the heap at place i is that of the opening whose heap the packet joins
record IsJoined (w : ℕ) (ps : List PlacedPacket) (q : PlacedPacket) (hs : List LiveHeap) (os : List PlacedPacket)
    (i : ℕ) (e : LiveHeap) : Type 0 where
  opening : PlacedPacket
  found : find (λ o. is_member w o q) os ≡ Some opening
  stood : HeapStandsFor e (members w ps opening)
  same : opening.packet.counter ≡ q.packet.counter
  member : is_member w opening q ≡ true
  stands : (now : LiveHeap) → now.counter ≡ q.packet.counter → HeapStandsFor now (members w (ps ++ q ∷ []) opening)
      → AreHeapsOf w (ps ++ q ∷ []) (set hs i now) os

none_alike : (test other : PlacedPacket → Bool) (os : List PlacedPacket) → AllByRecursion (λ o. test o ≡ other o) os
    → list_any other os ≡ false → AllByRecursion (λ o. test o ≡ false) os
none_alike test other os alike none =
    each_both (λ o. test o ≡ other o) (λ o. other o ≡ false) (λ o. test o ≡ false) (λ o is fails. is ∙ fails) os alike
    (each_fails other os none)

found_any : (test other : PlacedPacket → Bool) (os : List PlacedPacket) (o : PlacedPacket)
    → AllByRecursion (λ o. test o ≡ other o) os → find test os ≡ Some o → list_any other os ≡ true
found_any test other [] o alike is = absurd cc
found_any test other (r ∷ rs) o alike is =
    elim (cases_Bool (test r)) [
      | inl passes ↦ or_left (other r) (list_any other rs) (sym alike.0 ∙ passes)
      | inr fails ↦ or_right (other r) (list_any other rs)
          (found_any test other rs o alike.1 (sym (cond-false (test r) (Some r) (find test rs) fails) ∙ is))
    ]

joined : (w : ℕ) (ps : List PlacedPacket) (q : PlacedPacket) (hs : List LiveHeap) (os : List PlacedPacket) (i : ℕ)
    (e : LiveHeap) → AreHeapsOf w ps hs os → Apart os
    → AllByRecursion (λ o. is_member w o q ≡ has_counter q.packet.counter o) os → slice_get hs i ≡ Some e
    → e.counter ≡ q.packet.counter → IsJoined w ps q hs os i e
joined w ps q [] os i e h apart alike is same = absurd cc
joined w ps q (k ∷ hs) [] i e h apart alike is same = absurd h
joined w ps q (k ∷ hs) (o ∷ os) zero e h apart alike is same =
    let here : k ≡ e = same_Some k e is in
    let counter : o.packet.counter ≡ q.packet.counter =
    sym h.0.counter ∙ ap (λ (f : LiveHeap). f.counter) here ∙ same in
    let member = alike.0 ∙ eq-eqb o.packet.counter q.packet.counter counter in
    let others : list_any (has_counter q.packet.counter) os ≡ false =
    ap (λ c. list_any (has_counter c) os) (sym counter) ∙ apart.0 in
    record {
      opening = o;
      found = cond-true (is_member w o q) (Some o) _ member;
      stood = subst (λ f. HeapStandsFor f (members w ps o)) here h.0.members;
      same = counter;
      member = member;
      stands = λ now is_same stands_now. (
        record { counter = is_same ∙ sym counter; members = stands_now },
        same_heaps w ps q hs os h.1
            (none_alike (λ r. is_member w r q) (has_counter q.packet.counter) os alike.1 others),
      );
    }
joined w ps q (k ∷ hs) (o ∷ os) (suc i) e h apart alike is same =
    let rest = joined w ps q hs os i e h.1 apart.1 alike.1 is same in
    let later = found_any (λ r. is_member w r q) (has_counter q.packet.counter) os rest.opening alike.1 rest.found in
    let other : has_counter q.packet.counter o ≡ false =
    ne_eqb o.packet.counter q.packet.counter
    (λ c. both_ways _ apart.0 (ap (λ n. list_any (has_counter n) os) c ∙ later)) in
    let none = alike.0 ∙ other in
    record {
      opening = rest.opening;
      found = cond-false (is_member w o q) (Some o) _ none ∙ rest.found;
      stood = rest.stood;
      same = rest.same;
      member = rest.member;
      stands = λ now is_same stands_now. (same_heap w ps q o k none h.0, rest.stands now is_same stands_now);
    }

any_at : (counter : ℕ) (hs : List LiveHeap) (i : ℕ) (e : LiveHeap) → slice_get hs i ≡ Some e → e.counter ≡ counter
    → list_any (has counter) hs ≡ true
any_at counter [] i e is same = absurd cc
any_at counter (k ∷ hs) zero e is same =
    or_left (has counter k) (list_any (has counter) hs)
    (eq-eqb k.counter counter (ap (λ (f : LiveHeap). f.counter) (same_Some k e is) ∙ same))
any_at counter (k ∷ hs) (suc i) e is same =
    or_right (has counter k) (list_any (has counter) hs) (any_at counter hs i e is same)

-- of the openings so far, the one that is found among the last W
found_late : (w : ℕ) (ps : List PlacedPacket) (q : PlacedPacket) → IsInOrder w ps → length (openings ps) ≤ q.openings
    → find (λ o. is_member w o q) (openings ps) ≡ find (λ o. is_member w o q) (last_few w (openings ps))
found_late w ps q order late =
    let n = length (openings ps) - w in
    let test = λ (o : PlacedPacket). is_member w o q in
    ap (find test) (sym (take-append-drop n (openings ps)))
    ∙ find-append test (take n (openings ps)) (drop n (openings ps))
    ∙ ap (λ o. option_or o (find test (drop n (openings ps))))
    (none_found test (take n (openings ps)) (front_apart w ps q order late))

-- the packet, behind these, is one member more of the heap at place i
record IsPut (w : ℕ) (all : List PlacedPacket) (q : PlacedPacket) (hs : List LiveHeap) (i : ℕ)
    (e : LiveHeap) : Type 0 where
  before : List PlacedPacket
  stood : HeapStandsFor e before
  members : members_with w all q ≡ before ++ q ∷ []
  stands : (now : LiveHeap) → now.counter ≡ q.packet.counter → HeapStandsFor now (members_with w all q)
      → AreHeapsOf w all (set hs i now) (last_few w (openings all))

put : (w : ℕ) (ps : List PlacedPacket) (q : PlacedPacket) (hs : List LiveHeap) (i : ℕ) (e : LiveHeap) → IsInOrder w ps
    → AreHeapsOf w ps hs (last_few w (openings ps))
    → slice_get hs i ≡ Some e → e.counter ≡ q.packet.counter → q.opens ≡ false → q.openings ≡ length (openings ps)
    → q.place ≡ length ps → IsPut w (ps ++ q ∷ []) q hs i e
put w ps q hs i e order heaps is same opens number place =
    let all = ps ++ q ∷ [] in
    let kept : openings all ≡ openings ps =
    openings_push ps q ∙ ap (λ b. openings ps ++ cond b (q ∷ []) []) opens ∙ append-nil (openings ps) in
    let late : length (openings ps) ≤ q.openings = omega arith in
    let j = joined w ps q hs (last_few w (openings ps)) i e heaps order.apart
    (near_alike w ps q order number place) is same in
    let found : opening_of w all q ≡ Some j.opening =
    ap (find (λ o. is_member w o q)) kept ∙ found_late w ps q order late ∙ j.found in
    let with_members : members_with w all q ≡ members w all j.opening =
    ap (λ o. unwrap_or (option_map (members w all) o) []) found in
    record {
      before = members w ps j.opening;
      stood = j.stood;
      members = with_members ∙ members_push w ps q j.opening ∙ ap
          (λ b. members w ps j.opening ++ cond b (q ∷ []) []) j.member;
      stands = λ now is_same stands_now.
          subst (λ os. AreHeapsOf w all (set hs i now) (last_few w os)) (sym kept)
          (j.stands now is_same (subst (HeapStandsFor now) with_members stands_now));
    }

pub joins : (w : ℕ) (hs : List LiveHeap) (h : List Parts) (p : Parts) (i : ℕ) (e : LiveHeap) → WindowStandsFor w hs h
    → slice_get hs i ≡ Some e → e.counter ≡ p.counter → Joins w hs h p i e
joins w hs h p i e stands is same =
    let ps = placed w h in
    let q = placed_next w h p in
    let opens : q.opens ≡ false =
    ap not (any_alike w ps p.counter hs (last_few w (openings ps)) stands ∙ any_at p.counter hs i e is same) in
    let number : q.openings ≡ length (openings ps) = ap (λ b. length (openings ps) + cond b 1 0) opens ∙ omega arith in
    let at : IsPut w (placed w (h ++ p ∷ [])) q hs i e =
    subst (λ all. IsPut w all q hs i e) (sym (placed_push w h p))
    (put w ps q hs i e (in_order w h) stands is same opens number refl) in
    record { before = at.before; stood = at.stood; members = at.members; stands = at.stands }

-- the packet, behind these, is the first member of a new heap
record IsNew (w : ℕ) (all : List PlacedPacket) (q : PlacedPacket) (hs : List LiveHeap) : Type 0 where
  members : members_with w all q ≡ q ∷ []
  stands : (now : LiveHeap) → now.counter ≡ q.packet.counter → HeapStandsFor now (members_with w all q)
      → AreHeapsOf w all (last_few w (hs ++ now ∷ [])) (last_few w (openings all))

heaps_push : (w : ℕ) (ps : List PlacedPacket) (hs : List LiveHeap) (os : List PlacedPacket) (e : LiveHeap)
    (o : PlacedPacket) → AreHeapsOf w ps hs os → IsHeapOf w ps e o → AreHeapsOf w ps (hs ++ e ∷ []) (os ++ o ∷ [])
heaps_push w ps [] [] e o h last = (last, tt)
heaps_push w ps [] (r ∷ os) e o h last = absurd h
heaps_push w ps (k ∷ hs) [] e o h last = absurd h
heaps_push w ps (k ∷ hs) (r ∷ os) e o h last = (h.0, heaps_push w ps hs os e o h.1 last)

heaps_drop : (w : ℕ) (ps : List PlacedPacket) (n : ℕ) (hs : List LiveHeap) (os : List PlacedPacket)
    → AreHeapsOf w ps hs os → AreHeapsOf w ps (drop n hs) (drop n os)
heaps_drop w ps zero hs os h = h
heaps_drop w ps (suc n) [] [] h = tt
heaps_drop w ps (suc n) [] (o ∷ os) h = absurd h
heaps_drop w ps (suc n) (e ∷ hs) [] h = absurd h
heaps_drop w ps (suc n) (e ∷ hs) (o ∷ os) h = heaps_drop w ps n hs os h.1

heaps_last : (w : ℕ) (ps : List PlacedPacket) (n : ℕ) (hs : List LiveHeap) (os : List PlacedPacket)
    → AreHeapsOf w ps hs os → AreHeapsOf w ps (last_few n hs) (last_few n os)
heaps_last w ps n hs os h =
    subst (λ k. AreHeapsOf w ps (drop (k - n) hs) (last_few n os)) (sym (as_many w ps hs os h))
    (heaps_drop w ps (length os - n) hs os h)

-- a packet that opens is a member of its own heap
own_heap : (w : ℕ) (q : PlacedPacket) → 1 ≤ w → is_member w q q ≡ true
own_heap w q low =
    and_from (leb q.place q.place) _ (le-leb q.place q.place (omega arith))
    (and_from (has_counter q.packet.counter q) (ltb q.openings (q.openings + w))
    (eq-eqb q.packet.counter q.packet.counter refl) (lt-ltb q.openings (q.openings + w) (omega arith)))

-- no earlier packet is one
no_earlier_member : (w : ℕ) (ps : List PlacedPacket) (q : PlacedPacket) → IsInOrder w ps → q.place ≡ length ps
    → members w ps q ≡ []
no_earlier_member w ps q order place =
    none_kept (is_member w q) ps
    (each_weaker (λ r. r.place < length ps) (λ r. is_member w q r ≡ false)
    (λ r earlier. and_left (leb q.place r.place) _ (lt-leb q.place r.place (omega arith))) ps order.places)

-- it is no member of an earlier heap
no_earlier_heap : (w : ℕ) (ps : List PlacedPacket) (q : PlacedPacket)
    → list_any (has_counter q.packet.counter) (last_few w (openings ps)) ≡ false
    → AllByRecursion (λ o. is_member w o q ≡ false) (last_few w (openings ps))
no_earlier_heap w ps q none =
    each_weaker (λ o. has_counter q.packet.counter o ≡ false) (λ o. is_member w o q ≡ false)
    (λ o apart. other_counter w o q apart)
    (last_few w (openings ps)) (each_fails (has_counter q.packet.counter) (last_few w (openings ps)) none)

opened : (w : ℕ) (ps : List PlacedPacket) (q : PlacedPacket) (hs : List LiveHeap) → 1 ≤ w → IsInOrder w ps
    → AreHeapsOf w ps hs (last_few w (openings ps))
    → list_any (has_counter q.packet.counter) (last_few w (openings ps)) ≡ false → q.opens ≡ true
    → length (openings ps) ≤ q.openings → q.place ≡ length ps → IsNew w (ps ++ q ∷ []) q hs
opened w ps q hs low order heaps none opens late place =
    let all = ps ++ q ∷ [] in
    let test = λ (o : PlacedPacket). is_member w o q in
    let own = own_heap w q low in
    let more : openings all ≡ openings ps ++ q ∷ [] =
    openings_push ps q ∙ ap (λ b. openings ps ++ cond b (q ∷ []) []) opens in
    let apart = no_earlier_heap w ps q none in
    let earlier : find test (openings ps) ≡ None =
    found_late w ps q order late ∙ none_found test (last_few w (openings ps)) apart in
    let found : opening_of w all q ≡ Some q =
    ap (find test) more ∙ find-append test (openings ps) (q ∷ []) ∙ ap (λ o. option_or o (find test (q ∷ []))) earlier ∙
    cond-true (test q) (Some q) None own in
    let with_members : members_with w all q ≡ members w all q =
    ap (λ o. unwrap_or (option_map (members w all) o) []) found in
    record {
      members =
          with_members ∙ members_push w ps q q
          ∙ ap (λ ms. ms ++ cond (is_member w q q) (q ∷ []) []) (no_earlier_member w ps q order place)
          ∙ cond-true (is_member w q q) (q ∷ []) [] own;
      stands = λ now is_same stands_now.
          let here : IsHeapOf w all now q =
          record { counter = is_same; members = subst (HeapStandsFor now) with_members stands_now } in
          let pushed = heaps_push w all hs (last_few w (openings ps)) now q
          (same_heaps w ps q hs (last_few w (openings ps)) heaps apart) here in
          subst (λ os. AreHeapsOf w all (last_few w (hs ++ now ∷ [])) (last_few w os)) (sym more)
          (subst (AreHeapsOf w all (last_few w (hs ++ now ∷ []))) (last_few_push w (openings ps) q)
          (heaps_last w all w _ _ pushed));
    }

pub opens : (w : ℕ) (hs : List LiveHeap) (h : List Parts) (p : Parts) → 1 ≤ w → WindowStandsFor w hs h
    → place_of p.counter hs ≡ None → Opens w hs h p
opens w hs h p low stands unknown =
    let ps = placed w h in
    let q = placed_next w h p in
    let is : q.opens ≡ true = opens_where_none w ps p hs stands ∙ ap is_none unknown in
    let none : list_any (has_counter p.counter) (last_few w (openings ps)) ≡ false = not-true _ is in
    let late : length (openings ps) ≤ q.openings = omega arith in
    let at : IsNew w (placed w (h ++ p ∷ [])) q hs =
    subst (λ all. IsNew w all q hs) (sym (placed_push w h p))
    (opened w ps q hs low (in_order w h) stands none is late refl) in
    record { members = at.members; stands = at.stands }

-- the first of the heaps against the first of the openings
first_evicted : (w : ℕ) (ps : List PlacedPacket) (hs : List LiveHeap) (os : List PlacedPacket) → AreHeapsOf w ps hs os
    → option_and_then (λ o. cond (is_some (whole_front (members w ps o))) None (Some o.packet.counter)) (slice_get os 0)
    ≡ option_and_then unfinished (slice_get hs 0)
first_evicted w ps [] [] h = refl
first_evicted w ps [] (o ∷ os) h = absurd h
first_evicted w ps (e ∷ hs) [] h = absurd h
first_evicted w ps (e ∷ hs) (o ∷ os) h =
    ap (λ b. cond b None (Some o.packet.counter)) (sym h.0.members.whole) ∙ ap (λ c. cond e.whole None (Some c))
    (sym h.0.counter)

first_of_last : {X : Type 0} (n : ℕ) (xs : List X) → slice_get xs n ≡ slice_get (drop n xs) 0
first_of_last zero xs = refl
first_of_last (suc n) [] = refl
first_of_last (suc n) (x ∷ xs) = first_of_last n xs

full_or_not : {X : Type 0} (w n k : ℕ) (o : Option X) → 1 ≤ w → k ≡ n - (n - w)
    → cond (ltb n w) None o ≡ cond (eqb k w) o None
full_or_not w n k o low is =
    elim (cases_lt n w) [
      | inl few ↦ cond-true (ltb n w) None o (lt-ltb n w few) ∙ sym
          (cond-false (eqb k w) o None (ne_eqb k w (λ e. absurd (omega arith))))
      | inr full ↦ cond-false (ltb n w) None o (le-ltb n w full) ∙ sym
          (cond-true (eqb k w) o None (eq-eqb k w (omega arith)))
    ]

and_then_under : {X Y : Type 0} (f : X → Option Y) (b : Bool) (o : Option X)
    → option_and_then f (cond b o None) ≡ cond b (option_and_then f o) None
and_then_under f true o = refl
and_then_under f false o = refl

pub evicts_first : (w : ℕ) (hs : List LiveHeap) (h : List Parts) → 1 ≤ w → WindowStandsFor w hs h
    → evicted_of w (placed w h) ≡ first_unfinished w hs
evicts_first w hs h low stands =
    let ps = placed w h in
    let os = openings ps in
    let n = length os - w in
    let f = λ (o : PlacedPacket). cond (is_some (whole_front (members w ps o))) None (Some o.packet.counter) in
    let many : length hs ≡ length os - n = as_many w ps hs (last_few w os) stands ∙ length-drop n os in
    ap (option_and_then f) (full_or_not w (length os) (length hs) (slice_get os n) low many)
    ∙ and_then_under f (eqb (length hs) w) (slice_get os n)
    ∙ ap (λ o. cond (eqb (length hs) w) (option_and_then f o) None) (first_of_last n os)
    ∙ ap (λ o. cond (eqb (length hs) w) o None) (first_evicted w ps hs (last_few w os) stands)
