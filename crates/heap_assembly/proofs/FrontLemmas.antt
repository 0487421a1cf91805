-- One more member of a heap: what it is to the heap, and what the heap then shows.
use Rattle.std.proofs.Common.{◌≡◌, ℕ, ◌+◌, ◌<◌, ◌≤◌, Bool, true, false, cond, if◌then◌else◌, List, [], ◌∷◌, ◌++◌, length, map, Option, Some, None, is_some, is_none, IfSome, All, unwrap_or, refl, sym, ap, subst, ◌∙◌, arith}
use Rattle.std.specs.Option.{option_or}
use Rattle.std.proofs.lemmas.Bool.{eq-eqb, ne_eqb, false≢true, true≢false}
use Rattle.std.proofs.lemmas.List.{length_push}
use Rattle.std.proofs.lemmas.List.Elements.{All-cons, All-map, All-nil}
use Rattle.corr_model.specs.Lists.{fronts, last_one}
use Rattle.corr_model.specs.Windows.{PlacedPacket}
use Rattle.corr_model.specs.Assembly.{Fate, pointers_of, kept, fates, fate_next, is_complete, adds_up, said_size, payload_bytes, whole_front, drop_cause, heap_of, Whole, After, standing_by}
use Rattle.corr_model.specs.LiveHeaps.{LiveHeap, HeapStandsFor, greatest_end, byte_brought, kept_shown}
use Rattle.corr_model.specs.PacketVerdicts.{Makes, Stale, kept_or_dropped, by_fate, by_standing, member_outcome}
use Rattle.corr_model.proofs.EachElement.{all_find}
use Rattle.corr_model.proofs.Turns.{by_pushes, last_one_push}
use Rattle.corr_model.proofs.Pushes.{fates_push, kept_push, whole_front_push}

-- ---- a heap that was whole before

or_some : {A : Type 0} (o later : Option A) → is_some o ≡ true → option_or o later ≡ o
or_some None later is = absurd (false≢true is)
or_some (Some x) later is = refl

unwrap_some : {A : Type 0} (o : Option A) (a b : A) → is_some o ≡ true → unwrap_or o a ≡ unwrap_or o b
unwrap_some None a b is = absurd (false≢true is)
unwrap_some (Some x) a b is = refl

-- what made it whole stays
stale_front : (ms : List PlacedPacket) (q : PlacedPacket) → is_some (whole_front ms) ≡ true
    → whole_front (ms ++ q ∷ []) ≡ whole_front ms
stale_front ms q is =
    whole_front_push ms q ∙ or_some (whole_front ms)
    (cond (is_complete (fates (ms ++ q ∷ []))) (Some (fates (ms ++ q ∷ []))) None) is

stale_shown : (ms : List PlacedPacket) (q : PlacedPacket) → is_some (whole_front ms) ≡ true
    → kept_shown (ms ++ q ∷ []) ≡ kept_shown ms
stale_shown ms q is =
    ap (λ o. kept (unwrap_or o (fates (ms ++ q ∷ [])))) (stale_front ms q is)
    ∙ ap kept (unwrap_some (whole_front ms) (fates (ms ++ q ∷ [])) (fates ms) is)

-- a heap stands for other members that show the same
pub stands_same : (h : LiveHeap) (ms ns : List PlacedPacket) → kept_shown ns ≡ kept_shown ms
    → is_some (whole_front ns) ≡ is_some (whole_front ms) → HeapStandsFor h ms → HeapStandsFor h ns
stands_same h ms ns shown whole s = record {
  size = s.size ∙ ap said_size (sym shown);
  ending = subst (λ ks. h.ending ≡ greatest_end ks) (sym shown) s.ending;
  bytes = λ k. s.bytes k ∙ ap (λ ks. byte_brought ks k) (sym shown);
  pointers = s.pointers ∙ ap pointers_of (sym shown);
  whole = s.whole ∙ sym whole;
}

-- a member more of a whole heap changes nothing
pub stale_stands : (h : LiveHeap) (ms : List PlacedPacket) (q : PlacedPacket) → h.whole ≡ true → HeapStandsFor h ms
    → HeapStandsFor h (ms ++ q ∷ [])
stale_stands h ms q is s =
    let whole : is_some (whole_front ms) ≡ true = sym s.whole ∙ is in
    stands_same h ms (ms ++ q ∷ []) (stale_shown ms q whole) (ap is_some (stale_front ms q whole)) s

fronts_short : {A : Type 0} (xs : List A) → All (λ front. length front ≤ length xs) (fronts xs)
fronts_short {A} [] = All-nil (λ (front : List A). length front ≤ 0)
fronts_short {A} (x ∷ xs) =
    let rest = fronts_short xs in
    let short : List A → Type 0 = λ front. length front ≤ length (x ∷ xs) in
    All-cons short (x ∷ []) (map (λ front. x ∷ front) (fronts xs)) (omega arith)
    (All-map short (λ front. x ∷ front) (fronts xs) (λ k d inside. let less = rest k d inside in omega (arith, less)))

-- as many fates as members
length-fates : (ms : List PlacedPacket) → length (fates ms) ≡ length ms
length-fates ms =
    by_pushes (λ ns. length (fates ns) ≡ length ns) refl
    (λ ns q so_far. ap length (fates_push ns q) ∙ length_push (fates ns) (fate_next (fates ns) q) ∙ ap (λ n. n + 1)
    so_far ∙ sym (length_push ns q)) ms

stale_by : (counter n : ℕ) (ms : List PlacedPacket) (o : Option (List Fate)) → is_some o ≡ true
    → IfSome o (λ front. length front < n) → by_standing counter ms (standing_by n o) ≡ Stale
stale_by counter n ms None is short = absurd (false≢true is)
stale_by counter n ms (Some front) is short =
    ap (λ b. by_standing counter ms (if b then Whole front else After))
    (ne_eqb (length front) n (λ same. let e = same in omega (arith, short, e)))

shorter : (n m : ℕ) → n < m → (o : Option (List Fate)) → IfSome o (λ front. length front ≤ n)
    → IfSome o (λ front. length front < m)
shorter n m less None within = tt
shorter n m less (Some front) within = omega (arith, less, within)

-- and it is stale
pub stale_outcome : (h : LiveHeap) (ms : List PlacedPacket) (q : PlacedPacket) (counter : ℕ) → h.whole ≡ true
    → HeapStandsFor h ms → member_outcome counter (ms ++ q ∷ []) ≡ Stale
stale_outcome h ms q counter is s =
    let whole : is_some (whole_front ms) ≡ true = sym s.whole ∙ is in
    let short : IfSome (whole_front ms) (λ front. length front ≤ length (fates ms)) =
    all_find (λ front. length front ≤ length (fates ms)) is_complete (fronts (fates ms))
    (fronts_short (fates ms)) in
    let as_many = length-fates ms in
    let more = length_push ms q in
    ap (λ o. by_standing counter (ms ++ q ∷ []) (standing_by (length (ms ++ q ∷ [])) o)) (stale_front ms q whole)
    ∙ stale_by counter (length (ms ++ q ∷ [])) (ms ++ q ∷ []) (whole_front ms) whole
    (shorter (length (fates ms)) (length (ms ++ q ∷ [])) (omega (arith, as_many, more)) (whole_front ms) short)

-- ---- a heap that is not whole yet

none_from_test : {A : Type 0} (o : Option A) → is_some o ≡ false → o ≡ None
none_from_test None is = refl
none_from_test (Some x) is = absurd (true≢false is)

-- it shows all that it keeps
pub open_shown : (ms : List PlacedPacket) → is_some (whole_front ms) ≡ false → kept_shown ms ≡ kept (fates ms)
open_shown ms unfinished = ap (λ o. kept (unwrap_or o (fates ms))) (none_from_test (whole_front ms) unfinished)

front_after : (ms : List PlacedPacket) (q : PlacedPacket) → is_some (whole_front ms) ≡ false
    → whole_front (ms ++ q ∷ []) ≡ cond (is_complete (fates (ms ++ q ∷ []))) (Some (fates (ms ++ q ∷ []))) None
front_after ms q unfinished =
    whole_front_push ms q
    ∙ ap (λ o. option_or o (cond (is_complete (fates (ms ++ q ∷ []))) (Some (fates (ms ++ q ∷ []))) None))
    (none_from_test (whole_front ms) unfinished)

either_shown : {A : Type 0} (b : Bool) (x : A) → unwrap_or (cond b (Some x) None) x ≡ x
either_shown true x = refl
either_shown false x = refl

-- a member more is shown, whole at it or not
shown_after : (ms : List PlacedPacket) (q : PlacedPacket) → is_some (whole_front ms) ≡ false
    → kept_shown (ms ++ q ∷ []) ≡ kept (fates (ms ++ q ∷ []))
shown_after ms q unfinished =
    ap (λ o. kept (unwrap_or o (fates (ms ++ q ∷ [])))) (front_after ms q unfinished)
    ∙ ap kept (either_shown (is_complete (fates (ms ++ q ∷ []))) (fates (ms ++ q ∷ [])))

-- it shows the packet more where that has no cause
pub shown_push : (ms : List PlacedPacket) (q : PlacedPacket) → is_some (whole_front ms) ≡ false
    → kept_shown (ms ++ q ∷ [])
    ≡ kept_shown ms ++ cond (is_none (drop_cause (kept_shown ms) q.packet)) (q.packet ∷ []) []
shown_push ms q unfinished =
    shown_after ms q unfinished
    ∙ ap kept (fates_push ms q)
    ∙ kept_push (fates ms) (fate_next (fates ms) q)
    ∙ ap (λ ks. ks ++ cond (is_none (drop_cause ks q.packet)) (q.packet ∷ []) []) (sym (open_shown ms unfinished))

some_cond : {A : Type 0} (b : Bool) (x : A) → is_some (cond b (Some x) None) ≡ b
some_cond true x = refl
some_cond false x = refl

-- it is whole where the lengths of what it keeps add up to the size
pub whole_push : (ms : List PlacedPacket) (q : PlacedPacket) → is_some (whole_front ms) ≡ false
    → is_some (whole_front (ms ++ q ∷ []))
    ≡ adds_up (said_size (kept_shown (ms ++ q ∷ []))) (payload_bytes (kept_shown (ms ++ q ∷ [])))
whole_push ms q unfinished =
    ap is_some (front_after ms q unfinished)
    ∙ some_cond (is_complete (fates (ms ++ q ∷ []))) (fates (ms ++ q ∷ []))
    ∙ ap (λ ks. adds_up (said_size ks) (payload_bytes ks)) (sym (shown_after ms q unfinished))

-- a packet at which it is whole makes the heap of what is shown
pub makes_outcome : (ms : List PlacedPacket) (q : PlacedPacket) (counter : ℕ) → is_some (whole_front ms) ≡ false
    → is_some (whole_front (ms ++ q ∷ [])) ≡ true
    → member_outcome counter (ms ++ q ∷ []) ≡ Makes (heap_of counter (kept_shown (ms ++ q ∷ [])))
makes_outcome ms q counter unfinished whole =
    let ns = ms ++ q ∷ [] in
    let front = fates ns in
    let complete : is_complete front ≡ true =
    sym (some_cond (is_complete front) front) ∙ ap is_some (sym (front_after ms q unfinished)) ∙ whole in
    ap (λ o. by_standing counter ns (standing_by (length ns) o))
    (front_after ms q unfinished ∙ ap (λ b. cond b (Some front) None) complete)
    ∙ ap (λ b. by_standing counter ns (if b then Whole front else After))
    (eq-eqb (length front) (length ns) (length-fates ns))
    ∙ ap (λ ks. Makes (heap_of counter ks)) (sym (shown_after ms q unfinished))

-- and another is kept or dropped
pub other_outcome : (ms : List PlacedPacket) (q : PlacedPacket) (counter : ℕ) → is_some (whole_front ms) ≡ false
    → is_some (whole_front (ms ++ q ∷ [])) ≡ false
    → member_outcome counter (ms ++ q ∷ []) ≡ kept_or_dropped (drop_cause (kept_shown ms) q.packet)
other_outcome ms q counter unfinished still =
    let ns = ms ++ q ∷ [] in
    ap (λ o. by_standing counter ns (standing_by (length ns) o)) (none_from_test (whole_front ns) still)
    ∙ ap (λ fs. by_fate (last_one fs)) (fates_push ms q)
    ∙ ap by_fate (last_one_push (fates ms) (fate_next (fates ms) q))
    ∙ ap (λ ks. kept_or_dropped (drop_cause ks q.packet)) (sym (open_shown ms unfinished))
