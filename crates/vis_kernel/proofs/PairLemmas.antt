-- Sums in lanes, over pairs of spectra.
use Rattle.std.proofs.Common.{◌≡◌, ℕ, ◌+◌, ◌*◌, ◌^◌, ◌≤◌, lit≤, ℤ, pos, ◌+ℤ◌, ◌-ℤ◌, ◌*ℤ◌, [], ◌∷◌, List, map, refl, ap, ap₂, ◌∙◌, sym, subst, arith, w32}
use Rattle.std.specs.Prelude.{neg_ℤ}
use Rattle.std.proofs.lemmas.Int.{ints}
use mir.Syntax.{w16}
use mir.Val.{to_z, of_z}
use Rattle.corr_model.specs.declared.plan.Plan.{Plan}
use Rattle.corr_model.specs.Lists.{numbers}
use Rattle.corr_model.specs.Visibilities.{plus, total}
use Rattle.vis_kernel.specs.declared.lanes.Lanes.{Lanes}
use Rattle.vis_kernel.specs.declared.products.Value.{Value}
use Rattle.vis_kernel.specs.declared.products.Products.{Products}
use Rattle.vis_kernel.specs.Sizes.{IsUpTo, IsSmall, ArePartsOf}
use Rattle.vis_kernel.specs.Lanes.{two_spectra, lane, turned, crossed, HoldsParts, AreFour, HoldsSums, HoldsPairs, first_spectra}
use Rattle.vis_kernel.proofs.SumLemmas.{of_parts, kept, wider_up_to, zero_up_to, product_at, total_push}
use Rattle.vis_kernel.proofs.LaneLemmas.{eight_same, four_lanes_same, kept_part, added, alike, sum_small, neighbours_small, turned_holds, crossed_holds}

-- ---- one more pair

regrouped : (a c m n before after : ℤ) → a +ℤ c ≡ before → after ≡ (before +ℤ m) +ℤ n → (a +ℤ m) +ℤ (c +ℤ n) ≡ after
regrouped a c m n before after e f = omega (arith, ints)

-- what a pair of lanes adds
abbrev step : List ℤ → List ℤ → ℕ → ℕ → ℤ
step x y i j = lane x i *ℤ lane y i +ℤ lane x j *ℤ lane y j

more_sums : (v w x y : List ℤ) (even odd even' odd' : ℤ) (size : ℕ) → HoldsSums v even odd size → HoldsParts x
    → HoldsParts y → w ≡ added v x y
    → even' ≡ (even +ℤ step x y 0 1) +ℤ step x y 4 5 → odd' ≡ (odd +ℤ step x y 2 3) +ℤ step x y 6 7
    → HoldsSums w even' odd' (size + 32768)
more_sums v w x y even odd even' odd' size h i k e en on =
    subst (λ u. HoldsSums u even' odd' (size + 32768))
    (sym (e ∙ alike added v x y h.lanes.four i.eight k.eight)) (record {
      lanes = record {
        four = refl;
        first = sum_small _ _ size 32768 h.lanes.first (neighbours_small _ _ _ _ i.first i.second k.first k.second);
        second = sum_small _ _ size 32768 h.lanes.second (neighbours_small _ _ _ _ i.third i.fourth k.third k.fourth);
        third = sum_small _ _ size 32768 h.lanes.third (neighbours_small _ _ _ _ i.fifth i.sixth k.fifth k.sixth);
        fourth = sum_small _ _ size 32768 h.lanes.fourth
            (neighbours_small _ _ _ _ i.seventh i.eighth k.seventh k.eighth);
      };
      even_sum = regrouped (lane v 0) (lane v 2) (step x y 0 1) (step x y 4 5) even even' h.even_sum en;
      odd_sum = regrouped (lane v 1) (lane v 3) (step x y 2 3) (step x y 6 7) odd odd' h.odd_sum on;
    })

spectra_more : (plan : Plan) (x y : List ℕ) (c pairs p q : ℕ)
    → first_spectra plan x y c (2 * (pairs + 1)) p q
    ≡ plus (plus (first_spectra plan x y c (2 * pairs) p q) (product_at plan x y c p q (2 * pairs)))
    (product_at plan x y c p q (2 * pairs + 1))
spectra_more plan x y c pairs p q =
    let f = product_at plan x y c p q in
    let two : 2 * (pairs + 1) ≡ 2 * pairs + 1 + 1 = omega arith in
    ap (λ n. total (map f (numbers 0 n))) two ∙ total_push f (2 * pairs + 1) ∙ ap (λ z. plus z (f (2 * pairs + 1)))
    (total_push f (2 * pairs))

-- a product with the sign changed, and added
neg_times : (a b : ℤ) → neg_ℤ a *ℤ b ≡ neg_ℤ (a *ℤ b)
neg_times a b = grind (arith, ints)

taken_off : (a b c d : ℤ) → b *ℤ c +ℤ neg_ℤ a *ℤ d ≡ b *ℤ c -ℤ a *ℤ d
taken_off a b c d = let e = neg_times a d in omega (arith, ints)

abbrev both_added : ℤ → ℤ → ℤ → ℤ
both_added before m n = (before +ℤ m) +ℤ n

-- the imaginary parts of two products, from lanes i and j of the
-- first and k and l of the second, and from i', j', k' and l'
turning : (x y : List ℤ) (i j k l i' j' k' l' : ℕ) (before : ℤ)
    → both_added before (lane x j *ℤ lane y k -ℤ lane x i *ℤ lane y l)
    (lane x j' *ℤ lane y k' -ℤ lane x i' *ℤ lane y l')
    ≡ both_added before (lane x j *ℤ lane y k +ℤ neg_ℤ (lane x i) *ℤ lane y l)
    (lane x j' *ℤ lane y k' +ℤ neg_ℤ (lane x i') *ℤ lane y l')
turning x y i j k l i' j' k' l' before =
    ap₂ (both_added before) (sym (taken_off (lane x i) (lane x j) (lane y k) (lane y l)))
    (sym (taken_off (lane x i') (lane x j') (lane y k') (lane y l')))

pairs_more : (plan : Plan) (x y : List ℕ) (c pairs : ℕ) (old new : Lanes) (straight across same other : List ℤ)
    → HoldsPairs plan x y c pairs old
    → straight ≡ two_spectra plan x c (2 * pairs) → HoldsParts straight → same ≡ two_spectra plan y c (2 * pairs)
    → HoldsParts same → across ≡ turned straight → other ≡ crossed same
    → new.same_real ≡ added old.same_real straight same → new.same_imaginary ≡ added old.same_imaginary across same
    → new.cross_real ≡ added old.cross_real straight other
    → new.cross_imaginary ≡ added old.cross_imaginary across other
    → HoldsPairs plan x y c (pairs + 1) new
pairs_more plan x y c pairs old new straight across same other h es hs em hm ea eo sr si cr ci =
    let X = two_spectra plan x c (2 * pairs) in
    let Y = two_spectra plan y c (2 * pairs) in
    let hx : HoldsParts X = subst HoldsParts es hs in
    let hy : HoldsParts Y = subst HoldsParts em hm in
    let ht : HoldsParts (turned X) = turned_holds X (turned X) hx refl in
    let hc : HoldsParts (crossed Y) = crossed_holds Y (crossed Y) hy refl in
    let et : across ≡ turned X = ea ∙ ap turned es in
    let ec : other ≡ crossed Y = eo ∙ ap crossed em in
    let more : (p q : ℕ)
    → first_spectra plan x y c (2 * (pairs + 1)) p q
    ≡ plus (plus (first_spectra plan x y c (2 * pairs) p q) (product_at plan x y c p q (2 * pairs)))
    (product_at plan x y c p q (2 * pairs + 1)) = spectra_more plan x y c pairs in
    let grown : pairs * 2 ^ 15 + 32768 ≡ (pairs + 1) * 2 ^ 15 = omega arith in
    let now = first_spectra plan x y c (2 * pairs) in
    let next = first_spectra plan x y c (2 * (pairs + 1)) in
    record {
      same_real = subst (HoldsSums new.same_real (next 0 0).real (next 1 1).real) grown
          (more_sums _ _ X Y (now 0 0).real (now 1 1).real _ _ (pairs * 2 ^ 15) h.same_real hx hy
          (sr ∙ ap₂ (added old.same_real) es em) (ap (λ z. z.real) (more 0 0)) (ap (λ z. z.real) (more 1 1)));
      same_imaginary = subst (HoldsSums new.same_imaginary (next 0 0).imaginary (next 1 1).imaginary) grown
          (more_sums _ _ (turned X) Y (now 0 0).imaginary (now 1 1).imaginary _ _ (pairs * 2 ^ 15) h.same_imaginary ht
          hy (si ∙ ap₂ (added old.same_imaginary) et em)
          (ap (λ z. z.imaginary) (more 0 0) ∙ turning X Y 0 1 0 1 4 5 4 5 (now 0 0).imaginary)
          (ap (λ z. z.imaginary) (more 1 1) ∙ turning X Y 2 3 2 3 6 7 6 7 (now 1 1).imaginary));
      cross_real = subst (HoldsSums new.cross_real (next 0 1).real (next 1 0).real) grown
          (more_sums _ _ X (crossed Y) (now 0 1).real (now 1 0).real _ _ (pairs * 2 ^ 15) h.cross_real hx hc
          (cr ∙ ap₂ (added old.cross_real) es ec) (ap (λ z. z.real) (more 0 1)) (ap (λ z. z.real) (more 1 0)));
      cross_imaginary = subst (HoldsSums new.cross_imaginary (next 0 1).imaginary (next 1 0).imaginary) grown
          (more_sums _ _ (turned X) (crossed Y) (now 0 1).imaginary (now 1 0).imaginary _ _ (pairs * 2 ^ 15)
          h.cross_imaginary ht hc (ci ∙ ap₂ (added old.cross_imaginary) et ec)
          (ap (λ z. z.imaginary) (more 0 1) ∙ turning X Y 0 1 2 3 4 5 6 7 (now 0 1).imaginary)
          (ap (λ z. z.imaginary) (more 1 0) ∙ turning X Y 2 3 0 1 6 7 4 5 (now 1 0).imaginary));
    }

-- what stands so far leaves room for a pair more
pub four_small : (v : List ℤ) (even odd : ℤ) (pairs : ℕ) → HoldsSums v even odd (pairs * 2 ^ 15) → pairs ≤ 2048
    → AreFour v (2 ^ 29)
four_small v even odd pairs h few =
    let le : pairs * 2 ^ 15 ≤ 2 ^ 29 = omega arith in
    let i = h.lanes in
    record {
      four = i.four;
      first = wider_up_to _ _ _ le i.first;
      second = wider_up_to _ _ _ le i.second;
      third = wider_up_to _ _ _ le i.third;
      fourth = wider_up_to _ _ _ le i.fourth;
    }

-- ---- what is passed to a call and comes back

abbrev pub passed : List ℤ → List ℤ
passed v = map (to_z w16) (map (of_z w16) v)

abbrev pub passed_sums : List ℤ → List ℤ
passed_sums v = map (to_z w32) (map (of_z w32) v)

parts_kept : (v : List ℤ) → HoldsParts v → passed v ≡ v
parts_kept v h =
    ap passed h.eight
    ∙ eight_same (kept_part _ h.first) (kept_part _ h.second) (kept_part _ h.third) (kept_part _ h.fourth)
    (kept_part _ h.fifth) (kept_part _ h.sixth) (kept_part _ h.seventh) (kept_part _ h.eighth)
    ∙ sym h.eight

sums_kept : (v : List ℤ) → AreFour v (2 ^ 29) → passed_sums v ≡ v
sums_kept v i =
    let le : 2 ^ 29 ≤ 2 ^ 29 = lit≤ tt in
    ap passed_sums i.four ∙ four_lanes_same (kept _ (2 ^ 29) i.first le) (kept _ (2 ^ 29) i.second le)
    (kept _ (2 ^ 29) i.third le) (kept _ (2 ^ 29) i.fourth le) ∙ sym i.four

pub parts_again : (v : List ℤ) → HoldsParts v → HoldsParts (passed v)
parts_again v h = subst HoldsParts (sym (parts_kept v h)) h

pub four_again : (v : List ℤ) (even odd : ℤ) (pairs : ℕ) → HoldsSums v even odd (pairs * 2 ^ 15) → pairs ≤ 2048
    → AreFour (passed_sums v) (2 ^ 29)
four_again v even odd pairs h few =
    let i = four_small v even odd pairs h few in subst (λ u. AreFour u (2 ^ 29)) (sym (sums_kept v i)) i

sums_again : (v : List ℤ) (even odd : ℤ) (pairs : ℕ) → HoldsSums v even odd (pairs * 2 ^ 15) → pairs ≤ 2048
    → HoldsSums (passed_sums v) even odd (pairs * 2 ^ 15)
sums_again v even odd pairs h few =
    subst (λ u. HoldsSums u even odd (pairs * 2 ^ 15)) (sym (sums_kept v (four_small v even odd pairs h few))) h

added_kept : (v x y : List ℤ) (even odd : ℤ) (pairs : ℕ) → HoldsSums v even odd (pairs * 2 ^ 15) → pairs ≤ 2048
    → HoldsParts x → HoldsParts y → added (passed_sums v) (passed x) (passed y) ≡ added v x y
added_kept v x y even odd pairs h few i k =
    ap (λ u. added u (passed x) (passed y)) (sums_kept v (four_small v even odd pairs h few)) ∙ ap₂ (added v)
    (parts_kept x i) (parts_kept y k)

-- one more pair, as the calls give it
pub pairs_stepped : (plan : Plan) (x y : List ℕ) (c pairs : ℕ) (old new : Lanes) (straight across same other : List ℤ)
    → HoldsPairs plan x y c pairs old → pairs + 1 ≤ 2048
    → straight ≡ two_spectra plan x c (2 * pairs) → HoldsParts straight → same ≡ two_spectra plan y c (2 * pairs)
    → HoldsParts same
    → across ≡ turned (passed straight) → other ≡ crossed (passed same)
    → new.same_real ≡ added (passed_sums old.same_real) (passed straight) (passed same)
    → new.same_imaginary ≡ added (passed_sums old.same_imaginary) (passed across) (passed same)
    → new.cross_real ≡ added (passed_sums old.cross_real) (passed straight) (passed other)
    → new.cross_imaginary ≡ added (passed_sums old.cross_imaginary) (passed across) (passed other)
    → (let now : Lanes =
    record {
      same_real = passed_sums new.same_real;
      same_imaginary = passed_sums new.same_imaginary;
      cross_real = passed_sums new.cross_real;
      cross_imaginary = passed_sums new.cross_imaginary;
    } in
    HoldsPairs plan x y c (pairs + 1) now)
pairs_stepped plan x y c pairs old new straight across same other h few es hs em hm ea eo sr si cr ci =
    let before : pairs ≤ 2048 = omega arith in
    let ha = turned_holds straight across hs (ea ∙ ap turned (parts_kept straight hs)) in
    let ho = crossed_holds same other hm (eo ∙ ap crossed (parts_kept same hm)) in
    let more : HoldsPairs plan x y c (pairs + 1) new =
    pairs_more plan x y c pairs old new straight across same other h es hs em hm
    (ea ∙ ap turned (parts_kept straight hs)) (eo ∙ ap crossed (parts_kept same hm))
    (sr ∙ added_kept _ straight same _ _ pairs h.same_real before hs hm)
    (si ∙ added_kept _ across same _ _ pairs h.same_imaginary before ha hm)
    (cr ∙ added_kept _ straight other _ _ pairs h.cross_real before hs ho)
    (ci ∙ added_kept _ across other _ _ pairs h.cross_imaginary before ha ho) in
    record {
      same_real = sums_again _ _ _ (pairs + 1) more.same_real few;
      same_imaginary = sums_again _ _ _ (pairs + 1) more.same_imaginary few;
      cross_real = sums_again _ _ _ (pairs + 1) more.cross_real few;
      cross_imaginary = sums_again _ _ _ (pairs + 1) more.cross_imaginary few;
    }

-- ---- no pair

no_sum : (size : ℕ) → HoldsSums (pos 0 ∷ pos 0 ∷ pos 0 ∷ pos 0 ∷ []) (pos 0) (pos 0) size
no_sum size = record {
  lanes = record {
    four = refl;
    first = zero_up_to size;
    second = zero_up_to size;
    third = zero_up_to size;
    fourth = zero_up_to size;
  };
  even_sum = refl;
  odd_sum = refl;
}

pub no_pairs : (plan : Plan) (x y : List ℕ) (c : ℕ) (v : Lanes) → v.same_real ≡ pos 0 ∷ pos 0 ∷ pos 0 ∷ pos 0 ∷ []
    → v.same_imaginary ≡ pos 0 ∷ pos 0 ∷ pos 0 ∷ pos 0 ∷ []
    → v.cross_real ≡ pos 0 ∷ pos 0 ∷ pos 0 ∷ pos 0 ∷ [] → v.cross_imaginary ≡ pos 0 ∷ pos 0 ∷ pos 0 ∷ pos 0 ∷ []
    → HoldsPairs plan x y c 0 v
no_pairs plan x y c v sr si cr ci = record {
  same_real = subst (λ u. HoldsSums u (pos 0) (pos 0) 0) (sym sr) (no_sum 0);
  same_imaginary = subst (λ u. HoldsSums u (pos 0) (pos 0) 0) (sym si) (no_sum 0);
  cross_real = subst (λ u. HoldsSums u (pos 0) (pos 0) 0) (sym cr) (no_sum 0);
  cross_imaginary = subst (λ u. HoldsSums u (pos 0) (pos 0) 0) (sym ci) (no_sum 0);
}

-- ---- all pairs

-- a value of two sums
pub both_parts : (v w : List ℤ) (z : Value) (even odd even' odd' : ℤ) (pairs : ℕ)
    → HoldsSums v even odd (pairs * 2 ^ 15) → HoldsSums w even' odd' (pairs * 2 ^ 15)
    → z.real ≡ lane v 0 +ℤ lane v 2 → z.imaginary ≡ lane w 0 +ℤ lane w 2 → IsSmall z (2 * pairs * 2 ^ 15)
both_parts v w z even odd even' odd' pairs h k er ei =
    let same : pairs * 2 ^ 15 + pairs * 2 ^ 15 ≡ 2 * pairs * 2 ^ 15 = omega arith in
    record {
      real = subst (IsUpTo z.real) same
          (subst (λ u. IsUpTo u (pairs * 2 ^ 15 + pairs * 2 ^ 15)) (sym er)
          (sum_small _ _ (pairs * 2 ^ 15) (pairs * 2 ^ 15) h.lanes.first h.lanes.third));
      imaginary = subst (IsUpTo z.imaginary) same
          (subst (λ u. IsUpTo u (pairs * 2 ^ 15 + pairs * 2 ^ 15)) (sym ei)
          (sum_small _ _ (pairs * 2 ^ 15) (pairs * 2 ^ 15) k.lanes.first k.lanes.third));
    }

pub other_parts : (v w : List ℤ) (z : Value) (even odd even' odd' : ℤ) (pairs : ℕ)
    → HoldsSums v even odd (pairs * 2 ^ 15) → HoldsSums w even' odd' (pairs * 2 ^ 15)
    → z.real ≡ lane v 1 +ℤ lane v 3 → z.imaginary ≡ lane w 1 +ℤ lane w 3 → IsSmall z (2 * pairs * 2 ^ 15)
other_parts v w z even odd even' odd' pairs h k er ei =
    let same : pairs * 2 ^ 15 + pairs * 2 ^ 15 ≡ 2 * pairs * 2 ^ 15 = omega arith in
    record {
      real = subst (IsUpTo z.real) same
          (subst (λ u. IsUpTo u (pairs * 2 ^ 15 + pairs * 2 ^ 15)) (sym er)
          (sum_small _ _ (pairs * 2 ^ 15) (pairs * 2 ^ 15) h.lanes.second h.lanes.fourth));
      imaginary = subst (IsUpTo z.imaginary) same
          (subst (λ u. IsUpTo u (pairs * 2 ^ 15 + pairs * 2 ^ 15)) (sym ei)
          (sum_small _ _ (pairs * 2 ^ 15) (pairs * 2 ^ 15) k.lanes.second k.lanes.fourth));
    }

-- the four products
pub pairs_are : (plan : Plan) (x y : List ℕ) (c pairs : ℕ) (v : Lanes) (r : Products) → HoldsPairs plan x y c pairs v
    → r.xx.real ≡ lane v.same_real 0 +ℤ lane v.same_real 2
    → r.xx.imaginary ≡ lane v.same_imaginary 0 +ℤ lane v.same_imaginary 2
    → r.yy.real ≡ lane v.same_real 1 +ℤ lane v.same_real 3
    → r.yy.imaginary ≡ lane v.same_imaginary 1 +ℤ lane v.same_imaginary 3
    → r.xy.real ≡ lane v.cross_real 0 +ℤ lane v.cross_real 2
    → r.xy.imaginary ≡ lane v.cross_imaginary 0 +ℤ lane v.cross_imaginary 2
    → r.yx.real ≡ lane v.cross_real 1 +ℤ lane v.cross_real 3
    → r.yx.imaginary ≡ lane v.cross_imaginary 1 +ℤ lane v.cross_imaginary 3
    → ArePartsOf r (2 * pairs * 2 ^ 15) (first_spectra plan x y c (2 * pairs))
pairs_are plan x y c pairs v r h a b d e f g i j = record {
  xx = of_parts _ _ _ _ (a ∙ h.same_real.even_sum) (b ∙ h.same_imaginary.even_sum);
  xy = of_parts _ _ _ _ (f ∙ h.cross_real.even_sum) (g ∙ h.cross_imaginary.even_sum);
  yx = of_parts _ _ _ _ (i ∙ h.cross_real.odd_sum) (j ∙ h.cross_imaginary.odd_sum);
  yy = of_parts _ _ _ _ (d ∙ h.same_real.odd_sum) (e ∙ h.same_imaginary.odd_sum);
  are_small = record {
    xx = both_parts _ _ r.xx _ _ _ _ pairs h.same_real h.same_imaginary a b;
    xy = both_parts _ _ r.xy _ _ _ _ pairs h.cross_real h.cross_imaginary f g;
    yx = other_parts _ _ r.yx _ _ _ _ pairs h.cross_real h.cross_imaginary i j;
    yy = other_parts _ _ r.yy _ _ _ _ pairs h.same_real h.same_imaginary d e;
  };
}

-- the sum of two lanes, as a call gives it
pub even_again : (v : List ℤ) (r even odd : ℤ) (pairs : ℕ) → HoldsSums v even odd (pairs * 2 ^ 15) → pairs ≤ 2048
    → r ≡ lane (passed_sums v) 0 +ℤ lane (passed_sums v) 2
    → to_z w32 (of_z w32 r) ≡ lane v 0 +ℤ lane v 2
even_again v r even odd pairs h few e =
    let size = pairs * 2 ^ 15 in
    let le : pairs * 2 ^ 15 + pairs * 2 ^ 15 ≤ 2 ^ 29 = omega arith in
    ap (λ z. to_z w32 (of_z w32 z))
    (e ∙ ap (λ u. lane u 0 +ℤ lane u 2) (sums_kept v (four_small v even odd pairs h few)))
    ∙ kept (lane v 0 +ℤ lane v 2) (size + size) (sum_small _ _ size size h.lanes.first h.lanes.third) le

pub odd_again : (v : List ℤ) (r even odd : ℤ) (pairs : ℕ) → HoldsSums v even odd (pairs * 2 ^ 15) → pairs ≤ 2048
    → r ≡ lane (passed_sums v) 1 +ℤ lane (passed_sums v) 3
    → to_z w32 (of_z w32 r) ≡ lane v 1 +ℤ lane v 3
odd_again v r even odd pairs h few e =
    let size = pairs * 2 ^ 15 in
    let le : pairs * 2 ^ 15 + pairs * 2 ^ 15 ≤ 2 ^ 29 = omega arith in
    ap (λ z. to_z w32 (of_z w32 z))
    (e ∙ ap (λ u. lane u 1 +ℤ lane u 3) (sums_kept v (four_small v even odd pairs h few)))
    ∙ kept (lane v 1 +ℤ lane v 3) (size + size) (sum_small _ _ size size h.lanes.second h.lanes.fourth) le
