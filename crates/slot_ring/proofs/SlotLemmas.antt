-- What the changes of a slot keep.
use Rattle.std.proofs.Common.{◌≡◌, ℕ, ℤ, pos, ◌+ℤ◌, zero, suc, ◌+◌, ◌-◌, ◌<◌, ◌≤◌, Bool, true, false, cond, List, [], ◌∷◌, ◌++◌, length, map, get_or, slice_set, replicate, count_by, Option, refl, sym, ap, ap₂, ◌∙◌, subst, inl, inr, arith, add-zero}
use Rattle.std.proofs.lemmas.Int.{ints}
use Rattle.std.proofs.lemmas.Bool.{cases_lt, false≢true}
use Rattle.std.proofs.lemmas.List.{map-append, replicate-append-replicate, get_or_default, length-set, get_or-set_other, length-map}
use Rattle.std.proofs.lemmas.List.Sums.{count_by-le-length, sum_by-cons}
use Rattle.std.proofs.lemmas.Grind.{get_or-set_at}
use Rattle.corr_model.specs.declared.plan.Plan.{Plan}
use Rattle.corr_model.specs.Plans.{Fits}
use Rattle.corr_model.specs.Lists.{numbers}
use Rattle.corr_model.proofs.CountedLists.{length-numbers, numbers_push}
use Rattle.corr_model.specs.Streams.{column}
use Rattle.slot_column.specs.Columns.{Cells, Hand, IsColumnOf}
use Rattle.vis_shape.specs.Sums.{Sums, add_sums, zeros, no_sums, with_sums}
use Rattle.vis_back.specs.Sets.{IsFullSet, cells_of, columns_of}
use Rattle.slot_ring.specs.Means.{Means, IsMeant, AreTold, AreHeld, AreSpare, AreClosed, spare_hand}
use Rattle.slot_ring.specs.declared.work.Stage.TheVariants.{Free, Taken, Computed}
use Rattle.slot_ring.specs.Slots.{View, WorkView, HasShape, IsSlot, IsWork, empty_slot, held_of, standing}
use Rattle.slot_ring.specs.Rings.{IsRing}
use Rattle.slot_ring.specs.Answers.{AcceptsTake, AcceptsStore, FreesAll, Computes}

-- ---- a full slot

count_head : (p : Hand → Bool) (h : Hand) (hs : List Hand) → count_by p (h ∷ hs) ≡ cond (p h) 1 0 + count_by p hs
count_head p h hs = sum_by-cons (λ x. cond (p x) 1 0) h hs

full_head : (b : Bool) (n k : ℕ) → n ≤ k → cond b 1 0 + n ≡ suc k → b ≡ true
full_head true n k few e = refl
full_head false n k few e = absurd (omega arith)

full_tail : (b : Bool) (n k : ℕ) → n ≤ k → cond b 1 0 + n ≡ suc k → n ≡ k
full_tail true n k few e = omega arith
full_tail false n k few e = absurd (omega arith)

closed_on : (h : Hand) (hs : List Hand) → h.is_closed ≡ true → AreClosed hs → AreClosed (h ∷ hs)
closed_on h hs first rest zero d less = first
closed_on h hs first rest (suc a) d less = rest a d (omega arith)

-- where as many stand as there are, each is closed
pub all_closed : (hands : List Hand) → standing hands ≡ length hands → AreClosed hands
all_closed [] e = λ a d less. absurd (omega arith)
all_closed (h ∷ hs) e =
    let counted = sym (count_head (λ x. x.is_closed) h hs) ∙ e in
    let few = count_by-le-length (λ x. x.is_closed) hs in
    closed_on h hs (full_head h.is_closed (standing hs) (length hs) few counted)
    (all_closed hs (full_tail h.is_closed (standing hs) (length hs) few counted))

-- spare ones are held for any number
pub spare_held : (plan : Plan) (n k : ℕ) (hands : List Hand) → AreHeld plan n hands → AreSpare hands
    → AreHeld plan k hands
spare_held plan n k hands are spare = record {
  as_many = are.as_many;
  each = λ a d less. record {
    same_plan = (are.each a d less).same_plan;
    is_for = λ closed. absurd (false≢true (sym (spare a d less) ∙ closed));
  };
}

-- ---- the value

pub full_set : (plan : Plan) (n : ℕ) (hands : List Hand) → AreHeld plan n hands → AreClosed hands → IsFullSet plan hands
full_set plan n hands are closed = record {
  number = n;
  as_many = are.as_many;
  closed = closed;
  each = λ a d less. (are.each a d less).is_for (closed a d less);
}

-- from a place on, hands that are for these antennas, and told, have the cells of the lists
cells_from : (plan : Plan) (list : ℕ → List (List ℕ)) (n from : ℕ) (hands : List Hand)
    → ((a : ℕ) (d : Hand) → a < length hands
    → (get_or hands a d).column.cells ≡ column plan (from + a) (list (from + a)) n)
    → map (λ h. h.column.cells) hands ≡ map (λ a. column plan a (list a) n) (numbers from (length hands))
cells_from plan list n from [] each = refl
cells_from plan list n from (h ∷ hs) each =
    let first : h.column.cells ≡ column plan from (list from) n =
    each 0 h (omega arith) ∙ ap (λ a. column plan a (list a) n) (add-zero from) in
    ap₂ (λ c cs. c ∷ cs) first (cells_from plan list n (from + 1) hs (λ a d less.
    let next : from + suc a ≡ from + 1 + a =
    omega arith in each (suc a) d (omega arith) ∙ ap (λ k. column plan k (list k) n) next))

told_cells : (plan : Plan) (list : ℕ → List (List ℕ)) (n a : ℕ) (c : Cells) → IsColumnOf plan list c → c.antenna ≡ a
    → c.number ≡ n → c.cells ≡ column plan a (list a) n
told_cells plan list n a c is ea en = is.same_cells ∙ ap₂ (λ k m. column plan k (list k) m) ea en

pub full_cells : (m : Means) (plan : Plan) (n : ℕ) (hands : List Hand) → plan ≡ m.plan → AreHeld plan n hands
    → AreClosed hands → AreTold m hands → m.names ≡ true → cells_of hands ≡ columns_of m.plan m.list n
full_cells m plan n hands same are closed told names =
    cells_from m.plan m.list n 0 hands (λ a d less.
    let is = (are.each a d less).is_for (closed a d less) in
    let at : a ≡ 0 + a = omega arith in
    told_cells m.plan m.list n a (get_or hands a d).column (told a d less (closed a d less) names) is.same_antenna
    is.same_number ∙ ap (λ k. column m.plan k (m.list k) n) at)
    ∙ ap (λ k. map (λ a. column m.plan a (m.list a) n) (numbers 0 k)) (are.as_many ∙ ap (λ p. p.antennas) same)

same_told_plan : (m : Means) (plan : Plan) (n : ℕ) (hands : List Hand) → 1 ≤ plan.antennas → AreHeld plan n hands
    → AreClosed hands → AreTold m hands → m.names ≡ true → plan ≡ m.plan
same_told_plan m plan n [] some are closed told names = let e = are.as_many in absurd (omega arith)
same_told_plan m plan n (h ∷ hs) some are closed told names =
    let here : 0 < length (h ∷ hs) = omega arith in
    sym (are.each 0 h here).same_plan ∙ (told 0 h here (closed 0 h here) names).same_plan

-- the value of a full set of told columns is the meant one
pub value_meant : (m : Means) (plan : Plan) (n : ℕ) (hands : List Hand) (value : List ℤ) → Fits plan
    → AreHeld plan n hands → AreClosed hands → AreTold m hands
    → (m.shows ≡ true → value ≡ m.fixed plan (cells_of hands) 0 plan.heaps) → IsMeant m plan n value
value_meant m plan n hands value fits are closed told fixed names shows =
    let same = same_told_plan m plan n hands fits.ranges.shape.antennas.least_met are closed told names in
    let cells = full_cells m plan n hands same are closed told names in
    (same, fixed shows ∙ ap₂ (λ p cs. m.fixed p cs 0 p.heaps) same cells)

-- ---- take

pub taken_free : Taken ≡ Free → ⊥
taken_free e = cc

taken_computed : Taken ≡ Computed → ⊥
taken_computed e = cc

pub free_computed : Free ≡ Computed → ⊥
free_computed e = cc

pub take_work : (m : Means) (size : Plan → ℕ) (old : View) (w : WorkView) → IsSlot m (size old.plan) old
    → IsWork m (size w.plan) w → AcceptsTake (held_of old) w.plan
    → IsWork m (size w.plan) (record w { number = old.number; stage = Taken; columns = old.columns })
take_work m size old w is work accepts = record {
  fits = work.fits;
  held = subst (λ p. AreHeld p old.number old.columns) accepts.same_plan is.held;
  spare = λ free. absurd (taken_free free);
  full = λ other. all_closed old.columns (accepts.full ∙ sym is.held.as_many);
  told = is.told;
  shape = work.shape;
  value = λ computed. absurd (taken_computed computed);
  counted = λ computed. absurd (taken_computed computed);
}

-- ---- store

-- a work that has the slot's value, and is not yet free
pub store_work : (m : Means) (size : Plan → ℕ) (old : View) (w : WorkView) → IsSlot m (size old.plan) old
    → IsWork m (size w.plan) w → w.stage ≡ Computed → AcceptsStore (held_of old) w.plan w.number
    → IsWork m (size w.plan) (record w { stage = Taken; out = old.out })
store_work m size old w is work computed accepts = record {
  fits = work.fits;
  held = work.held;
  spare = λ free. absurd (taken_free free);
  full = λ other. work.full (λ free. free_computed (sym free ∙ computed));
  told = work.told;
  shape = subst (λ p. HasShape p (size p) old.out) accepts.same_plan is.shape;
  value = λ other. absurd (taken_computed other);
  counted = λ other. absurd (taken_computed other);
}

-- ---- compute

pub full_set_at : (plan other : Plan) (n : ℕ) (hands hs : List Hand) → AreHeld plan n hands → AreClosed hands
    → other ≡ plan → hs ≡ hands → IsFullSet other hs
full_set_at plan other n hands hs are closed ep eh =
    subst (λ p. IsFullSet p hs) (sym ep) (subst (λ h. IsFullSet plan h) (sym eh) (full_set plan n hands are closed))

zeros_add : (n : ℕ) (xs : List ℤ) → length xs ≡ n → add_sums (zeros n) xs ≡ xs
zeros_add zero [] e = refl
zeros_add zero (x ∷ xs) e = absurd (omega arith)
zeros_add (suc n) [] e = absurd (omega arith)
zeros_add (suc n) (x ∷ xs) e =
    let same : pos 0 +ℤ x ≡ x = omega (arith, ints) in ap₂ (λ u us. u ∷ us) same (zeros_add n xs (omega arith))

abbrev Value : Type 0
Value = Plan → List (List (Option (List ℕ))) → ℕ → ℕ → List ℤ

abbrev out_of : Plan → List ℤ → ℕ → Sums
out_of plan sums added = record { plan = plan; sums = sums; added = added }

-- what an Out shows that was cleared, and to which the whole value was added
pub whole_value : (size : Plan → ℕ) (value : Value) (w : WorkView) (mid out : Sums) (hs : List Hand)
    → w.out.plan ≡ w.plan
    → ((p : Plan) (cs : List (List (Option (List ℕ)))) (from to : ℕ) → length (value p cs from to) ≡ size p)
    → mid ≡ no_sums w.out.plan (size w.out.plan) → hs ≡ w.columns
    → out ≡ with_sums mid (value mid.plan (cells_of hs) 0 w.plan.heaps) (w.plan.heaps - 0)
    → out ≡ record { plan = w.plan; sums = value w.plan (cells_of w.columns) 0 w.plan.heaps; added = w.plan.heaps }
whole_value size value w mid out hs same sized em eh e =
    let heaps = w.plan.heaps in
    let cleared : mid ≡ no_sums w.plan (size w.plan) = em ∙ ap (λ p. no_sums p (size p)) same in
    let all : heaps - 0 ≡ heaps = omega arith in
    let count : 0 + (heaps - 0) ≡ heaps = omega arith in
    e ∙ ap (λ s. with_sums s (value s.plan (cells_of hs) 0 heaps) (heaps - 0)) cleared
    ∙ ap (λ h. with_sums (no_sums w.plan (size w.plan)) (value w.plan (cells_of h) 0 heaps) (heaps - 0)) eh
    ∙ ap₂ (out_of w.plan)
    (zeros_add (size w.plan) (value w.plan (cells_of w.columns) 0 heaps)
    (sized w.plan (cells_of w.columns) 0 heaps)) count

pub computed_work : (m : Means) (size : Plan → ℕ) (value : Value) (w : WorkView) (out : Sums) → IsWork m (size w.plan) w
    → w.stage ≡ Taken
    → ((p : Plan) (cs : List (List (Option (List ℕ)))) (from to : ℕ) → length (value p cs from to) ≡ size p)
    → out ≡ record { plan = w.plan; sums = value w.plan (cells_of w.columns) 0 w.plan.heaps; added = w.plan.heaps }
    → (m.shows ≡ true → value w.plan (cells_of w.columns) 0 w.plan.heaps
    ≡ m.fixed w.plan (cells_of w.columns) 0 w.plan.heaps)
    → IsWork m (size w.plan) (record w { stage = Computed; out = out })
computed_work m size value w out work taken sized e fixed =
    let closed = work.full (λ free. taken_free (sym taken ∙ free)) in
    record {
      fits = work.fits;
      held = work.held;
      spare = λ free. absurd (free_computed (sym free));
      full = λ other. closed;
      told = work.told;
      shape = record {
        same_plan = ap (λ s. s.plan) e;
        as_many = ap (λ s. length s.sums) e ∙ sized w.plan (cells_of w.columns) 0 w.plan.heaps;
      };
      value = λ computed. subst (λ zs. IsMeant m w.plan w.number zs) (sym (ap (λ s. s.sums) e))
          (value_meant m w.plan w.number w.columns (value w.plan (cells_of w.columns) 0 w.plan.heaps) work.fits
          work.held closed work.told fixed);
      counted = λ computed. ap (λ s. s.added) e;
    }

pub fixed_at : (m : Means) (value : Value) (w : WorkView) (mid : Sums) (hs : List Hand) → mid.plan ≡ w.plan
    → hs ≡ w.columns
    → (m.shows ≡ true → value mid.plan (cells_of hs) 0 w.plan.heaps ≡ m.fixed mid.plan (cells_of hs) 0 w.plan.heaps)
    → m.shows ≡ true → value w.plan (cells_of w.columns) 0 w.plan.heaps
    ≡ m.fixed w.plan (cells_of w.columns) 0 w.plan.heaps
fixed_at m value w mid hs ep eh fixed shows =
    ap₂ (λ p h. value p (cells_of h) 0 w.plan.heaps) (sym ep) (sym eh) ∙ fixed shows ∙ ap₂
    (λ p h. m.fixed p (cells_of h) 0 w.plan.heaps) ep eh

abbrev computed_as : WorkView → Sums → WorkView
computed_as w o = record w { stage = Computed; out = o }

pub computes : (value : Value) (w old : WorkView) (out : Sums) → w ≡ old
    → out ≡ record { plan = w.plan; sums = value w.plan (cells_of w.columns) 0 w.plan.heaps; added = w.plan.heaps }
    → Computes value old (record w { stage = Computed; out = out })
computes value w old out is e =
    subst (λ v. Computes value v (record w { stage = Computed; out = out })) is
    (record { works = ap (λ o. computed_as w o) e })

-- ---- free all

-- the first i hands are spare, and the others as they were
pub record FreedFront (old now : List Hand) (i : ℕ) : Type 0 where
  pub as_many : length now ≡ length old
  pub before : (a : ℕ) (d : Hand) → a < i → a < length old
      → get_or now a d ≡ record (get_or old a d) { is_closed = false }
  pub after : (a : ℕ) (d : Hand) → i ≤ a → get_or now a d ≡ get_or old a d

pub freed_none : (old : List Hand) → FreedFront old old 0
freed_none old = record { as_many = refl; before = λ a d less inside. absurd (omega arith); after = λ a d least. refl }

abbrev pub spare_of : Hand → Hand
spare_of h = record h { is_closed = false }

-- one more
pub freed_more : (old now : List Hand) (i : ℕ) (h after : Hand) → FreedFront old now i → i < length now
    → h ≡ get_or now i h → after ≡ record h { is_closed = false } → FreedFront old (slice_set now i after) (i + 1)
freed_more old now i h after front inside is e = record {
  as_many = length-set now i after ∙ front.as_many;
  before = λ a d less within. elim (cases_lt a i) [
    | inl below ↦ get_or-set_other now i a after d (omega arith) ∙ front.before a d below within
    | inr above ↦
        let at : a ≡ i = omega arith in
        let here : h ≡ get_or old a d =
        is ∙ get_or_default now i h d inside ∙ front.after i d (omega arith) ∙ ap (λ k. get_or old k d) (sym at) in
        get_or-set_at now i a after d at inside ∙ e ∙ ap spare_of here
  ];
  after = λ a d least. get_or-set_other now i a after d (omega arith) ∙ front.after a d (omega arith);
}

-- all
pub freed_all : (old now : List Hand) (i : ℕ) → FreedFront old now i → length old ≤ i → FreesAll old now
freed_all old now i front all =
    record { as_many = front.as_many; each = λ a d within. front.before a d (omega arith) within }

-- ---- new ones

-- one more of the same
pub replicate_more : {X : Type 0} (xs : List X) (n : ℕ) (x : X) → xs ≡ replicate n x
    → xs ++ x ∷ [] ≡ replicate (n + 1) x
replicate_more xs n x e = ap (λ l. l ++ x ∷ []) e ∙ replicate-append-replicate n 1 x

-- so many spare hands are there
pub record SparesTo (plan : Plan) (hands : List Hand) (len room n : ℕ) : Type 0 where
  pub is : hands ≡ replicate n (spare_hand plan)
  pub counted : len ≡ n
  pub fits_in : plan.antennas ≤ room

pub spares_more : (plan : Plan) (hands after : List Hand) (h : Hand) (len later room now n : ℕ)
    → SparesTo plan hands len room n → h ≡ spare_hand plan → after ≡ hands ++ h ∷ [] → later ≡ len + 1 → now ≡ room
    → SparesTo plan after later now (n + 1)
spares_more plan hands after h len later room now n i eh e el er = record {
  is = e ∙ ap (λ x. hands ++ x ∷ []) eh ∙ replicate_more hands n (spare_hand plan) i.is;
  counted = let c = i.counted in omega arith;
  fits_in = let c = i.fits_in in omega arith;
}

-- so many slots are there
pub record SlotsTo (plan : Plan) (size : ℕ) (slots : List View) (len room n : ℕ) : Type 0 where
  pub is : slots ≡ map (empty_slot plan size) (numbers 0 n)
  pub counted : len ≡ n
  pub fits_in : plan.slots ≤ room

pub slots_more : (plan : Plan) (size : ℕ) (slots after : List View) (v : View) (len later room now n : ℕ)
    → SlotsTo plan size slots len room n → v ≡ empty_slot plan size n → after ≡ slots ++ v ∷ [] → later ≡ len + 1
    → now ≡ room → SlotsTo plan size after later now (n + 1)
slots_more plan size slots after v len later room now n i ev e el er =
    let f = empty_slot plan size in
    let next : suc n ≡ n + 1 = omega arith in
    let same : 0 + n ≡ n = omega arith in
    record {
      is = e ∙ ap₂ (λ xs x. xs ++ x ∷ []) i.is (ev ∙ ap f (sym same)) ∙ sym (map-append f (numbers 0 n) ((0 + n) ∷ []))
          ∙ ap (map f) (sym (numbers_push 0 n)) ∙ ap (λ k. map f (numbers 0 k)) next;
      counted = let c = i.counted in omega arith;
      fits_in = let c = i.fits_in in omega arith;
    }

mapped_plan : (plan : Plan) (size from n s : ℕ) (d : View) → s < n
    → (get_or (map (empty_slot plan size) (numbers from n)) s d).plan ≡ plan
mapped_plan plan size from zero s d h = absurd (omega arith)
mapped_plan plan size from (suc n) zero d h = refl
mapped_plan plan size from (suc n) (suc s) d h = mapped_plan plan size (from + 1) n s d (omega arith)

pub new_ring : (plan : Plan) (size : ℕ) (slots : List View) → Fits plan
    → slots ≡ map (empty_slot plan size) (numbers 0 plan.slots) → IsRing (record { plan = plan; slots = slots })
new_ring plan size slots fits e =
    let long : length slots ≡ plan.slots =
    ap length e ∙ length-map (numbers 0 plan.slots) (empty_slot plan size) ∙ length-numbers 0 plan.slots in
    record {
      fits = fits;
      as_many = long;
      each_plan = λ s d less. ap (λ l. (get_or l s d).plan) e ∙ mapped_plan plan size 0 plan.slots s d (omega arith);
    }
