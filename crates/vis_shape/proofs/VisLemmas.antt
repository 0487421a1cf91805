-- Values and counts of all baselines that are added up.
use Rattle.std.proofs.Common.{◌≡◌, ℕ, zero, suc, ◌+◌, ◌*◌, ◌^◌, ◌<◌, ◌≤◌, ℤ, pos, ◌+ℤ◌, List, [], ◌∷◌, ◌++◌, length, map, get_or, set, All, refl, sym, ap, ap₂, ◌∙◌, subst, arith}
use Rattle.std.proofs.lemmas.Int.{ints}
use Rattle.std.proofs.lemmas.List.{length-map, get_or_default}
use Rattle.std.proofs.lemmas.Nat.{mul-le}
use Rattle.corr_model.specs.declared.plan.Plan.{Plan}
use Rattle.corr_model.specs.Plans.{Fits, baselines}
use Rattle.vis_shape.specs.Sums.{add_sums, IsUpTo, AreUpTo, with_sums}
use Rattle.vis_shape.specs.Shapes.{Vis, IsVis, block, largest, shown_of}
use Rattle.vis_shape.proofs.AddLemmas.{length-add_sums, add_sums-append, add_sums-up_to}

-- the first n numbers of one list were added to those of another
abbrev pub added_up : ℕ → List ℤ → List ℤ → List ℤ
added_up zero xs ys = xs
added_up (suc n) [] ys = []
added_up (suc n) (x ∷ xs) [] = x ∷ xs
added_up (suc n) (x ∷ xs) (y ∷ ys) = (x +ℤ y) ∷ added_up n xs ys

pub length-added_up : (n : ℕ) (xs ys : List ℤ) → length (added_up n xs ys) ≡ length xs
length-added_up zero xs ys = refl
length-added_up (suc n) [] ys = refl
length-added_up (suc n) (x ∷ xs) [] = refl
length-added_up (suc n) (x ∷ xs) (y ∷ ys) = ap suc (length-added_up n xs ys)

pub added_up_at : (n : ℕ) (xs ys : List ℤ) (d : ℤ) → get_or (added_up n xs ys) n d ≡ get_or xs n d
added_up_at zero xs ys d = refl
added_up_at (suc n) [] ys d = refl
added_up_at (suc n) (x ∷ xs) [] d = refl
added_up_at (suc n) (x ∷ xs) (y ∷ ys) d = added_up_at n xs ys d

added_up_set : (n : ℕ) (xs ys : List ℤ) (d e : ℤ) → n < length xs → length ys ≡ length xs
    → set (added_up n xs ys) n (get_or xs n d +ℤ get_or ys n e) ≡ added_up (suc n) xs ys
added_up_set n [] ys d e h l = absurd (omega arith)
added_up_set n (x ∷ xs) [] d e h l = absurd (omega arith)
added_up_set zero (x ∷ xs) (y ∷ ys) d e h l = refl
added_up_set (suc n) (x ∷ xs) (y ∷ ys) d e h l =
    ap (λ zs. (x +ℤ y) ∷ zs) (added_up_set n xs ys d e (omega arith) (omega arith))

-- one more
pub added_up_more : (n : ℕ) (xs ys : List ℤ) (d e v : ℤ) → n < length xs → length ys ≡ length xs
    → v ≡ get_or (added_up n xs ys) n d +ℤ get_or ys n e → set (added_up n xs ys) n v ≡ added_up (n + 1) xs ys
added_up_more n xs ys d e v h l is =
    let next : suc n ≡ n + 1 = omega arith in
    ap (set (added_up n xs ys) n) (is ∙ ap (λ u. u +ℤ get_or ys n e) (added_up_at n xs ys d)) ∙ added_up_set n xs ys d e
    h l ∙ ap (λ k. added_up k xs ys) next

-- all
pub added_up_all : (n : ℕ) (xs ys : List ℤ) → length xs ≤ n → length ys ≡ length xs → added_up n xs ys ≡ add_sums xs ys
added_up_all zero [] ys h l = refl
added_up_all zero (x ∷ xs) ys h l = absurd (omega arith)
added_up_all (suc n) [] ys h l = refl
added_up_all (suc n) (x ∷ xs) [] h l = absurd (omega arith)
added_up_all (suc n) (x ∷ xs) (y ∷ ys) h l = ap (λ zs. (x +ℤ y) ∷ zs) (added_up_all n xs ys (omega arith) (omega arith))

-- a place that was not reached is as it was
pub added_up_rest : (n : ℕ) (xs ys : List ℤ) (m : ℕ) (d : ℤ) → AreUpTo xs m → n < length xs
    → IsUpTo (get_or (added_up n xs ys) n d) m
added_up_rest n xs ys m d small h = subst (λ z. IsUpTo z m) (sym (added_up_at n xs ys d)) (small n d h)

-- one more place of a list that was added up so far
pub values_more : (n : ℕ) (xs ys now : List ℤ) (v : ℤ) → now ≡ added_up n xs ys → n < length xs → length ys ≡ length xs
    → v ≡ get_or now n (pos 0) +ℤ get_or ys n (pos 0) → set now n v ≡ added_up (n + 1) xs ys
values_more n xs ys now v e h l is =
    ap (λ zs. set zs n v) e ∙ added_up_more n xs ys (pos 0) (pos 0) v h l
    (is ∙ ap (λ zs. get_or zs n (pos 0) +ℤ get_or ys n (pos 0)) e)

pub value_there : (n : ℕ) (xs ys now : List ℤ) (m : ℕ) → now ≡ added_up n xs ys → AreUpTo xs m → n < length xs
    → IsUpTo (get_or now n (pos 0)) m
value_there n xs ys now m e small h =
    subst (λ zs. IsUpTo (get_or zs n (pos 0)) m) (sym e) (added_up_rest n xs ys m (pos 0) small h)

pub values_all : (n : ℕ) (xs ys now : List ℤ) → now ≡ added_up n xs ys → length xs ≤ n → length ys ≡ length xs
    → now ≡ add_sums xs ys
values_all n xs ys now e h l = e ∙ added_up_all n xs ys h l

-- counts as whole numbers
pub pos_at : (xs : List ℕ) (n : ℕ) → get_or (map pos xs) n (pos 0) ≡ pos (get_or xs n 0)
pos_at [] n = refl
pos_at (x ∷ xs) zero = refl
pos_at (x ∷ xs) (suc n) = pos_at xs n

pub pos_set : (xs : List ℕ) (n v : ℕ) → map pos (set xs n v) ≡ set (map pos xs) n (pos v)
pos_set [] n v = refl
pos_set (x ∷ xs) zero v = refl
pos_set (x ∷ xs) (suc n) v = ap (λ zs. pos x ∷ zs) (pos_set xs n v)

pub count_there : (n : ℕ) (xs ys now : List ℕ) → map pos now ≡ added_up n (map pos xs) (map pos ys)
    → get_or now n 0 ≡ get_or xs n 0
count_there n xs ys now e =
    let same : pos (get_or now n 0) ≡ pos (get_or xs n 0) =
    sym (pos_at now n) ∙ ap (λ zs. get_or zs n (pos 0)) e ∙ added_up_at n (map pos xs) (map pos ys) (pos 0) ∙
    pos_at xs n in
    omega (arith, ints, same)

pub counts_more : (n : ℕ) (xs ys now : List ℕ) (v : ℕ) → map pos now ≡ added_up n (map pos xs) (map pos ys)
    → n < length xs → length ys ≡ length xs → v ≡ get_or now n 0 + get_or ys n 0
    → map pos (set now n v) ≡ added_up (n + 1) (map pos xs) (map pos ys)
counts_more n xs ys now v e h l is =
    let long = length-map xs pos in
    let also = length-map ys pos in
    let sum : pos v ≡ get_or (map pos now) n (pos 0) +ℤ get_or (map pos ys) n (pos 0) =
    ap pos is ∙ sym (ap₂ (λ a b. a +ℤ b) (pos_at now n) (pos_at ys n)) in
    pos_set now n v ∙ values_more n (map pos xs) (map pos ys) (map pos now) (pos v) e (omega arith) (omega arith) sum

pub counts_all : (n : ℕ) (xs ys now : List ℕ) → map pos now ≡ added_up n (map pos xs) (map pos ys) → length xs ≤ n
    → length ys ≡ length xs → map pos now ≡ add_sums (map pos xs) (map pos ys)
counts_all n xs ys now e h l =
    let long = length-map xs pos in
    let also = length-map ys pos in
    values_all n (map pos xs) (map pos ys) (map pos now) e (omega arith) (omega arith)

-- ---- what the type keeps

pub up_to_more : (xs : List ℤ) (m n : ℕ) → m ≤ n → AreUpTo xs m → AreUpTo xs n
up_to_more xs m n h small =
    λ k d lt. let b = small k d lt in let low = b.low in let high =
    b.high in record { low = omega (arith, ints); high = omega (arith, ints) }

pub largest_fits : (plan : Plan) (added : ℕ) → Fits plan → added ≤ plan.heaps → largest plan added ≤ 2 ^ 55
largest_fits plan added fits le =
    let heaps = fits.ranges.shape.heaps.most_met in
    let spectra = fits.ranges.shape.spectra.most_met in
    mul-le added (plan.spectra * 2 ^ 31) 4096 (4096 * 2 ^ 31) (omega arith) (omega arith)

pub small_enough : (v : Vis) → IsVis v → AreUpTo v.values (2 ^ 55)
small_enough v h = up_to_more v.values (largest v.plan v.added) (2 ^ 55)
    (largest_fits v.plan v.added h.fits h.within) h.small

pub few_enough : (v : Vis) → IsVis v → All (λ m. m ≤ 4096) v.missing
few_enough v h = λ k d lt. let b = h.few k d lt in let heaps = h.fits.ranges.shape.heaps.most_met in let within =
    h.within in omega (arith, b, heaps, within)

sums_at : (xs ys : List ℤ) (k : ℕ) → k < length xs → length ys ≡ length xs
    → get_or (add_sums xs ys) k (pos 0) ≡ get_or xs k (pos 0) +ℤ get_or ys k (pos 0)
sums_at [] ys k h l = absurd (omega arith)
sums_at (x ∷ xs) [] k h l = absurd (omega arith)
sums_at (x ∷ xs) (y ∷ ys) zero h l = refl
sums_at (x ∷ xs) (y ∷ ys) (suc k) h l = sums_at xs ys k (omega arith) (omega arith)

counts_long : (xs ys now : List ℕ) → map pos now ≡ add_sums (map pos xs) (map pos ys) → length ys ≡ length xs
    → length now ≡ length xs
counts_long xs ys now e l =
    let long = length-map xs pos in
    let also = length-map ys pos in
    let same : length (map pos now) ≡ length (map pos xs) =
    ap length e ∙ length-add_sums (map pos xs) (map pos ys) (omega arith) in
    omega (arith, length-map now pos, same, long)

counts_few : (xs ys now : List ℕ) (a b : ℕ) → map pos now ≡ add_sums (map pos xs) (map pos ys) → length ys ≡ length xs
    → All (λ m. m ≤ a) xs → All (λ m. m ≤ b) ys → All (λ m. m ≤ a + b) now
counts_few xs ys now a b e l hx hy = λ k d lt.
    let long = counts_long xs ys now e l in
    let mapped = length-map xs pos in
    let also = length-map ys pos in
    let first = hx k 0 (omega arith) in
    let second = hy k 0 (omega arith) in
    let sum : pos (get_or now k 0) ≡ pos (get_or xs k 0) +ℤ pos (get_or ys k 0)
    = sym (pos_at now k) ∙ ap (λ zs. get_or zs k (pos 0)) e ∙ sums_at (map pos xs) (map pos ys) k (omega arith)
    (omega arith) ∙ ap₂ (λ u v. u +ℤ v) (pos_at xs k) (pos_at ys k) in
    let here : get_or now k 0 ≤ a + b = omega (arith, ints, sum, first, second) in
    subst (λ m. m ≤ a + b) (get_or_default now k 0 d lt) here

-- two values of one plan, added up
pub record AreMerged (v w : Vis) (values : List ℤ) (missing : List ℕ) : Type 0 where
  pub first : IsVis v
  pub second : IsVis w
  pub same_plan : w.plan ≡ v.plan
  pub room : v.added + w.added ≤ v.plan.heaps
  pub are_values : values ≡ add_sums v.values w.values
  pub are_missing : map pos missing ≡ add_sums (map pos v.missing) (map pos w.missing)

same_values : (v w : Vis) → IsVis v → IsVis w → w.plan ≡ v.plan → length w.values ≡ length v.values
same_values v w hv hw e = hw.as_many ∙ ap (λ p. baselines p * block p) e ∙ sym hv.as_many

same_counts : (v w : Vis) → IsVis v → IsVis w → w.plan ≡ v.plan → length w.missing ≡ length v.missing
same_counts v w hv hw e = hw.counts ∙ ap baselines e ∙ sym hv.counts

pub both_values : (v w : Vis) → IsVis v → IsVis w → w.plan ≡ v.plan → length w.values ≡ length v.values
both_values v w hv hw e = same_values v w hv hw e

pub both_counts : (v w : Vis) → IsVis v → IsVis w → w.plan ≡ v.plan → length w.missing ≡ length v.missing
both_counts v w hv hw e = same_counts v w hv hw e

shares : (a b s : ℕ) → a * s + b * s ≡ (a + b) * s
shares a b s = grind arith

pub merged_is_vis : (v w : Vis) (values : List ℤ) (missing : List ℕ) → AreMerged v w values missing
    → IsVis (record { plan = v.plan; values = values; missing = missing; added = v.added + w.added })
merged_is_vis v w values missing h =
    let even = same_values v w h.first h.second h.same_plan in
    let also = same_counts v w h.first h.second h.same_plan in
    let part : AreUpTo w.values (w.added * (v.plan.spectra * 2 ^ 31)) =
    subst (λ p. AreUpTo w.values (w.added * (p.spectra * 2 ^ 31))) h.same_plan h.second.small in
    let sum = add_sums-up_to v.values w.values (v.added * (v.plan.spectra * 2 ^ 31))
    (w.added * (v.plan.spectra * 2 ^ 31)) h.first.small part in
    record {
      fits = h.first.fits;
      within = h.room;
      as_many = ap length h.are_values ∙ length-add_sums v.values w.values (sym even) ∙ h.first.as_many;
      counts = counts_long v.missing w.missing missing h.are_missing also ∙ h.first.counts;
      small = subst (λ zs. AreUpTo zs (largest v.plan (v.added + w.added))) (sym h.are_values)
          (subst (λ n. AreUpTo (add_sums v.values w.values) n) (shares v.added w.added (v.plan.spectra * 2 ^ 31)) sum);
      few = counts_few v.missing w.missing missing v.added w.added h.are_missing also h.first.few h.second.few;
    }

pub merged_shows : (v w : Vis) (values : List ℤ) (missing : List ℕ) → AreMerged v w values missing
    → shown_of (record { plan = v.plan; values = values; missing = missing; added = v.added + w.added })
    ≡ with_sums (shown_of v) (shown_of w).sums (shown_of w).added
merged_shows v w values missing h =
    let even = same_values v w h.first h.second h.same_plan in
    let sums : values ++ map pos missing ≡ add_sums (v.values ++ map pos v.missing) (w.values ++ map pos w.missing)
    = ap₂ (λ a b. a ++ b) h.are_values h.are_missing ∙ sym
    (add_sums-append v.values w.values (map pos v.missing) (map pos w.missing) (sym even)) in
    ap (λ s. record { plan = v.plan; sums = s; added = v.added + w.added }) sums

-- the same, said of what is seen
pub merged_of : (v w old part : Vis) (values : List ℤ) (missing : List ℕ) → v ≡ old → w ≡ part → IsVis v → IsVis w
    → part.plan ≡ old.plan → old.added + part.added ≤ old.plan.heaps
    → values ≡ add_sums v.values w.values → map pos missing ≡ add_sums (map pos v.missing) (map pos w.missing)
    → AreMerged v w values missing
merged_of v w old part values missing ev ew hv hw plan room hs hm =
    let first = ap {B = ℕ} (λ x. x.added) ev in
    let second = ap {B = ℕ} (λ x. x.added) ew in
    let heaps = ap {B = ℕ} (λ x. x.plan.heaps) ev in
    record {
      first = hv;
      second = hw;
      same_plan = ap (λ x. x.plan) ew ∙ plan ∙ sym (ap (λ x. x.plan) ev);
      room = omega (arith, first, second, heaps, room);
      are_values = hs;
      are_missing = hm;
    }
