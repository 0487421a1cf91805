-- The openings and the members of a window by the numbers, places and counters of its openings.
use Rattle.std.proofs.Common.{◌≡◌, ℕ, zero, suc, ◌+◌, ◌-◌, ◌<◌, ◌≤◌, Bool, true, false, not, cond, List, [], ◌∷◌, ◌++◌, length, take, drop, Some, None, refl, sym, ap, ◌∙◌, subst, arith}
use Rattle.std.specs.List.{list_any, find, filter, AllByRecursion}
use Rattle.std.proofs.lemmas.List.{append-nil, length-append, length-drop, drop-append-le, drop-drop}
use Rattle.std.proofs.lemmas.List.Folds.{list_any-append}
use Rattle.std.proofs.lemmas.Bool.{eqb-false, ne_eqb, or_parts, or_from, cond-false}
use Rattle.corr_model.specs.Lists.{last_few}
use Rattle.corr_model.specs.Packets.{Parts}
use Rattle.corr_model.specs.Windows.{PlacedPacket, has_counter, openings, placed_as, placed}
use Rattle.corr_model.proofs.Turns.{by_pushes}
use Rattle.corr_model.proofs.Pushes.{placed_push, openings_push}

-- openings that are numbered in turn from n on
abbrev pub Numbered : ℕ → List PlacedPacket → Type 0
Numbered n [] = Unit {0}
Numbered n (o ∷ os) = (o.openings ≡ n) × Numbered (suc n) os

-- no two of them have one counter
abbrev pub Apart : List PlacedPacket → Type 0
Apart [] = Unit {0}
Apart (o ∷ os) = (list_any (has_counter o.packet.counter) os ≡ false) × Apart os

-- what holds of each element, weakened
pub each_weaker : {X : Type 0} (P Q : X → Type 0) → ((x : X) → P x → Q x) → (xs : List X) → AllByRecursion P xs
    → AllByRecursion Q xs
each_weaker P Q step [] h = tt
each_weaker P Q step (x ∷ xs) h = (step x h.0, each_weaker P Q step xs h.1)

pub each_both : {X : Type 0} (P Q R : X → Type 0) → ((x : X) → P x → Q x → R x) → (xs : List X) → AllByRecursion P xs
    → AllByRecursion Q xs → AllByRecursion R xs
each_both P Q R step [] h k = tt
each_both P Q R step (x ∷ xs) h k = (step x h.0 k.0, each_both P Q R step xs h.1 k.1)

each_push : {X : Type 0} (P : X → Type 0) (xs : List X) (x : X) → AllByRecursion P xs → P x
    → AllByRecursion P (xs ++ x ∷ [])
each_push P [] x h k = (k, tt)
each_push P (y ∷ ys) x h k = (h.0, each_push P ys x h.1 k)

pub each_append : {X : Type 0} (P : X → Type 0) (xs ys : List X) → AllByRecursion P xs → AllByRecursion P ys
    → AllByRecursion P (xs ++ ys)
each_append P [] ys h k = k
each_append P (x ∷ xs) ys h k = (h.0, each_append P xs ys h.1 k)

pub each_drop : {X : Type 0} (P : X → Type 0) (n : ℕ) (xs : List X) → AllByRecursion P xs → AllByRecursion P (drop n xs)
each_drop P zero xs h = h
each_drop P (suc n) [] h = tt
each_drop P (suc n) (x ∷ xs) h = each_drop P n xs h.1

pub each_filtered : {X : Type 0} (P : X → Type 0) (keep : X → Bool) (xs : List X) → AllByRecursion P xs
    → AllByRecursion P (filter keep xs)
each_filtered P keep [] h = tt
each_filtered P keep (x ∷ xs) h = kept_or_not P (keep x) x (filter keep xs) h.0 (each_filtered P keep xs h.1)
  where
    kept_or_not : {X : Type 0} (P : X → Type 0) (b : Bool) (x : X) (xs : List X) → P x → AllByRecursion P xs
        → AllByRecursion P (cond b (x ∷ xs) xs)
    kept_or_not P true x xs h k = (h, k)
    kept_or_not P false x xs h k = k

-- a test that fails at each element keeps and finds none
pub none_found : {X : Type 0} (test : X → Bool) (xs : List X) → AllByRecursion (λ x. test x ≡ false) xs
    → find test xs ≡ None
none_found test [] h = refl
none_found test (x ∷ xs) h = cond-false (test x) (Some x) (find test xs) h.0 ∙ none_found test xs h.1

pub none_kept : {X : Type 0} (test : X → Bool) (xs : List X) → AllByRecursion (λ x. test x ≡ false) xs
    → filter test xs ≡ []
none_kept test [] h = refl
none_kept test (x ∷ xs) h = cond-false (test x) (x ∷ filter test xs) (filter test xs) h.0 ∙ none_kept test xs h.1

pub each_fails : {X : Type 0} (test : X → Bool) (xs : List X) → list_any test xs ≡ false
    → AllByRecursion (λ x. test x ≡ false) xs
each_fails test [] h = tt
each_fails test (x ∷ xs) h = let parts = or_parts (test x) (list_any test xs) h in (parts.0, each_fails test xs parts.1)

-- the numbers of the first n are below the numbers of the others
pub low_numbers : (n k : ℕ) (os : List PlacedPacket) → Numbered k os
    → AllByRecursion (λ o. (k ≤ o.openings) × (o.openings < k + n)) (take n os)
low_numbers zero k os h = tt
low_numbers (suc n) k [] h = tt
low_numbers (suc n) k (o ∷ os) h =
    let first = h.0 in (
      (omega arith, omega arith),
      each_weaker (λ r. (suc k ≤ r.openings) × (r.openings < suc k + n))
          (λ r. (k ≤ r.openings) × (r.openings < k + suc n))
          (λ r b. let low = b.0 in let high = b.1 in (omega arith, omega arith)) (take n os)
          (low_numbers n (suc k) os h.1),
    )

pub high_numbers : (n k : ℕ) (os : List PlacedPacket) → Numbered k os
    → AllByRecursion (λ o. k + n ≤ o.openings) (drop n os)
high_numbers zero k [] h = tt
high_numbers zero k (o ∷ os) h =
    let first = h.0 in (
      omega arith,
      each_weaker (λ r. suc k + 0 ≤ r.openings) (λ r. k + 0 ≤ r.openings) (λ r b. omega arith) os
          (high_numbers zero (suc k) os h.1),
    )
high_numbers (suc n) k [] h = tt
high_numbers (suc n) k (o ∷ os) h =
    each_weaker (λ r. suc k + n ≤ r.openings) (λ r. k + suc n ≤ r.openings) (λ r b. omega arith) (drop n os)
    (high_numbers n (suc k) os h.1)

numbered_push : (k : ℕ) (os : List PlacedPacket) (o : PlacedPacket) → Numbered k os → o.openings ≡ k + length os
    → Numbered k (os ++ o ∷ [])
numbered_push k [] o h is = (omega arith, tt)
numbered_push k (r ∷ os) o h is = (h.0, numbered_push (suc k) os o h.1 (omega arith))

pub apart_push : (os : List PlacedPacket) (o : PlacedPacket) → Apart os
    → list_any (has_counter o.packet.counter) os ≡ false → Apart (os ++ o ∷ [])
apart_push [] o h none = (refl, tt)
apart_push (r ∷ os) o h none =
    let parts = or_parts (has_counter o.packet.counter r) (list_any (has_counter o.packet.counter) os) none in
    let other : has_counter r.packet.counter o ≡ false =
    ne_eqb o.packet.counter r.packet.counter (λ e. eqb-false r.packet.counter o.packet.counter parts.0 (sym e)) in
    let last : list_any (has_counter r.packet.counter) (o ∷ []) ≡ false =
    or_from (has_counter r.packet.counter o) false other refl in (
      list_any-append (has_counter r.packet.counter) os (o ∷ []) ∙ or_from
          (list_any (has_counter r.packet.counter) os) _ h.0 last,
      apart_push os o h.1 parts.1,
    )

apart_drop : (n : ℕ) (os : List PlacedPacket) → Apart os → Apart (drop n os)
apart_drop zero os h = h
apart_drop (suc n) [] h = tt
apart_drop (suc n) (o ∷ os) h = apart_drop n os h.1

-- the last few, and then one more: the last few of all
pub last_few_push : {X : Type 0} (w : ℕ) (xs : List X) (x : X)
    → last_few w (last_few w xs ++ x ∷ []) ≡ last_few w (xs ++ x ∷ [])
last_few_push w xs x =
    let i = length xs - w in
    let j = length (last_few w xs ++ x ∷ []) - w in
    let low : i ≤ length xs = omega arith in
    let shifted : i + j ≡ length (xs ++ x ∷ []) - w =
    omega (arith, length-append (drop i xs) (x ∷ []), length-append xs (x ∷ []), length-drop i xs) in
    ap (drop j) (sym (drop-append-le i xs (x ∷ []) low))
    ∙ drop-drop j i (xs ++ x ∷ [])
    ∙ ap (λ k. drop k (xs ++ x ∷ [])) shifted

-- the openings are numbered from 1, each packet stands at a place of the list, and no two of the last W openings have
-- one counter
pub record IsInOrder (w : ℕ) (ps : List PlacedPacket) : Type 0 where
  pub numbers : Numbered 1 (openings ps)
  pub places : AllByRecursion (λ r. r.place < length ps) ps
  pub apart : Apart (last_few w (openings ps))

places_push : (ps : List PlacedPacket) (q : PlacedPacket) → q.place ≡ length ps
    → AllByRecursion (λ r. r.place < length ps) ps
    → AllByRecursion (λ r. r.place < length (ps ++ q ∷ [])) (ps ++ q ∷ [])
places_push ps q is h =
    let more = length-append ps (q ∷ []) in
    each_push (λ r. r.place < length (ps ++ q ∷ [])) ps q
    (each_weaker (λ r. r.place < length ps) (λ r. r.place < length (ps ++ q ∷ [])) (λ r b. omega arith) ps h)
    (omega arith)

order_opens : (w : ℕ) (ps : List PlacedPacket) (p : Parts)
    → list_any (has_counter p.counter) (last_few w (openings ps)) ≡ false → IsInOrder w ps
    → IsInOrder w (ps ++ placed_as ps p true ∷ [])
order_opens w ps p none h =
    let q = placed_as ps p true in
    record {
      numbers = subst (Numbered 1) (sym (openings_push ps q)) (numbered_push 1 (openings ps) q h.numbers (omega arith));
      places = places_push ps q refl h.places;
      apart = subst (λ os. Apart (last_few w os)) (sym (openings_push ps q))
          (subst Apart (last_few_push w (openings ps) q)
          (apart_drop _ _ (apart_push (last_few w (openings ps)) q h.apart none)));
    }

order_stays : (w : ℕ) (ps : List PlacedPacket) (p : Parts) → IsInOrder w ps
    → IsInOrder w (ps ++ placed_as ps p false ∷ [])
order_stays w ps p h =
    let q = placed_as ps p false in
    let same : openings (ps ++ q ∷ []) ≡ openings ps = openings_push ps q ∙ append-nil (openings ps) in
    record {
      numbers = subst (Numbered 1) (sym same) h.numbers;
      places = places_push ps q refl h.places;
      apart = subst (λ os. Apart (last_few w os)) (sym same) h.apart;
    }

order_step : (w : ℕ) (ps : List PlacedPacket) (p : Parts) (b : Bool)
    → list_any (has_counter p.counter) (last_few w (openings ps)) ≡ b → IsInOrder w ps
    → IsInOrder w (ps ++ placed_as ps p (not b) ∷ [])
order_step w ps p true e h = order_stays w ps p h
order_step w ps p false e h = order_opens w ps p e h

-- all heard packets are in order
pub in_order : (w : ℕ) (h : List Parts) → IsInOrder w (placed w h)
in_order w =
    by_pushes (λ h. IsInOrder w (placed w h)) (record { numbers = tt; places = tt; apart = apart_drop (0 - w) [] tt })
    (λ h p before. subst (IsInOrder w) (sym (placed_push w h p)) (order_step w (placed w h) p _ refl before))
