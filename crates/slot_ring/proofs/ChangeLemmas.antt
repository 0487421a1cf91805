-- What the calls of a slot, of a work and of the ring give and keep.
use Rattle.std.proofs.Common.{◌≡◌, ◌≢◌, ◌⊎◌, ℕ, ◌+◌, ◌%◌, ◌<◌, Bool, true, false, List, length, get_or, slice_set, replicate, refl, sym, ap, ap₂, ◌∙◌, subst, inl, inr, arith, MatchBool, leb}
use Rattle.std.proofs.lemmas.Bool.{cases_eq, leb-true, leb-false, false≢true}
use Rattle.std.proofs.lemmas.List.{get_or-replicate, length-replicate, get_or_default, length-set, get_or-set_other}
use Rattle.std.proofs.lemmas.List.Sums.{count_by-le-length}
use Rattle.std.proofs.lemmas.Grind.{get_or-set_at}
use Rattle.corr_model.specs.declared.plan.Plan.{Plan}
use Rattle.corr_model.specs.Plans.{Fits}
use Rattle.slot_column.specs.Columns.{Hand}
use Rattle.vis_shape.specs.Sums.{Sums, no_sums}
use Rattle.slot_ring.specs.declared.held.Kind.{Kind}
use Rattle.slot_ring.specs.declared.held.Kind.TheVariants.{Filling, Working, Done}
use Rattle.slot_ring.specs.declared.held.Held.{Held}
use Rattle.slot_ring.specs.declared.held.Put.{Put}
use Rattle.slot_ring.specs.declared.held.Put.TheVariants.{Placed, Waits}
use Rattle.slot_ring.specs.declared.held.Took.{Took}
use Rattle.slot_ring.specs.declared.held.Took.TheVariants as took
use Rattle.slot_ring.specs.declared.held.Stored.{Stored}
use Rattle.slot_ring.specs.declared.held.Stored.TheVariants as stored
use Rattle.slot_ring.specs.declared.held.Gave.{Gave}
use Rattle.slot_ring.specs.declared.held.Gave.TheVariants as gave
use Rattle.slot_ring.specs.declared.work.Stage.TheVariants.{Free, Taken, Computed}
use Rattle.slot_ring.specs.Means.{Means, IsMeant, AreTold, IsHeld, AreHeld, AreSpare, spare_hand}
use Rattle.slot_ring.specs.Slots.{View, WorkView, OutgoingView, HasShape, IsSlot, IsWork, IsOutgoing, free_work, empty_slot, no_outgoing, held_of, standing}
use Rattle.slot_ring.specs.Rings.{RingView, IsRing, AtSlot}
use Rattle.slot_ring.specs.Answers.{PutGives, AcceptsTake, RefusesTake, Takes, TakeGives, AcceptsStore, FreesAll, Frees, Stores, StoreGives, SendGives}
use Rattle.slot_ring.proofs.SlotLemmas.{spare_held, free_computed}

-- ---- the tests

-- a slot that shows this is of another plan, number or kind
abbrev pub Refuses : Kind → Held → Plan → ℕ → Type 0
Refuses k held plan number = (held.plan ≢ plan) ⊎ (held.number ≢ number) ⊎ (held.kind ≢ k)

-- of this plan and number: the kind decides
pub matched : (k : Kind) (A : View → Type 0) (s v : View) (p : Plan) (n : ℕ) (r : Bool) → s ≡ v → (s.kind ≡ k → A s)
    → MatchBool r (s.kind ≡ k) (s.kind ≢ k) → MatchBool r (A v) (Refuses k (held_of v) p n)
matched k A s v p n true is accepts right = subst A is (accepts right)
matched k A s v p n false is accepts other = subst (λ x. Refuses k (held_of x) p n) is (inr (inr other))

-- of another plan or number
pub refused : (k : Kind) (A : Type 0) (s v : View) (p : Plan) (n : ℕ) (r : Bool) → s ≡ v → r ≡ false
    → (s.plan ≢ p) ⊎ (s.number ≢ n) → MatchBool r A (Refuses k (held_of v) p n)
refused k A s v p n true is e other = absurd (false≢true (sym e))
refused k A s v p n false is e (inl plan) = subst (λ x. Refuses k (held_of x) p n) is (inl plan)
refused k A s v p n false is e (inr number) = subst (λ x. Refuses k (held_of x) p n) is (inr (inl number))

-- ---- kinds and stages

filling_done : Filling ≡ Done → ⊥
filling_done e = cc

filling_working : Filling ≡ Working → ⊥
filling_working e = cc

working_done : Working ≡ Done → ⊥
working_done e = cc

-- ---- lists with one changed item

-- what held of each and holds of the new one holds of each
pub set_each : {X : Type 0} (P : ℕ → X → Type 0) (xs : List X) (i : ℕ) (x : X)
    → ((a : ℕ) (d : X) → a < length xs → P a (get_or xs a d)) → P i x
    → (a : ℕ) (d : X) → a < length (slice_set xs i x) → P a (get_or (slice_set xs i x) a d)
set_each P xs i x each here a d less =
    let inside : a < length xs = subst (λ n. a < n) (length-set xs i x) less in
    elim (cases_eq a i) [
      | inl at ↦ subst (P a) (sym (get_or-set_at xs i a x d at (subst (λ k. k < length xs) at inside)))
          (subst (λ k. P k x) (sym at) here)
      | inr other ↦ subst (P a) (sym (get_or-set_other xs i a x d other)) (each a d inside)
    ]

-- ---- put

abbrev with_columns : View → List Hand → View
with_columns v hands = record v { columns = hands }

-- ---- take

abbrev working : View → List Hand → View
working v hands = record v { kind = Working; columns = hands }

abbrev taken : WorkView → ℕ → List Hand → WorkView
taken w number hands = record w { number = number; stage = Taken; columns = hands }

pub takes : (s v : View) (ws w : WorkView) (xs ys : List Hand) → s ≡ v → ws ≡ w → AcceptsTake (held_of v) ws.plan
    → xs ≡ ws.columns → ys ≡ s.columns
    → Takes v w (working s xs) (taken ws s.number ys)
takes s v ws w xs ys is iw accepts ex ey = record {
  accepts = subst (λ u. AcceptsTake (held_of v) u.plan) iw accepts;
  slot = ap (working s) ex ∙ ap₂ (λ u x. working u x.columns) is iw;
  works = ap (taken ws s.number) ey ∙ ap₂ (λ u x. taken x u.number u.columns) is iw;
}

pub take_slot : (m : Means) (size other : ℕ) (s : View) (w : WorkView) (xs : List Hand) → IsSlot m size s
    → IsWork m other w → w.plan ≡ s.plan → w.stage ≡ Free → xs ≡ w.columns
    → IsSlot m size (working s xs)
take_slot m size other s w xs is work same free ex =
    let held : AreHeld s.plan s.number w.columns =
    subst (λ p. AreHeld p s.number w.columns) same
    (spare_held w.plan w.number s.number w.columns work.held (work.spare free)) in
    record {
      fits = is.fits;
      held = subst (λ hs. AreHeld s.plan s.number hs) (sym ex) held;
      spare = λ _. subst AreSpare (sym ex) (work.spare free);
      told = subst (AreTold m) (sym ex) work.told;
      shape = is.shape;
      value = λ done. absurd (working_done done);
      counted = λ done. absurd (working_done done);
    }

-- ---- store

abbrev done_with : View → Sums → View
done_with v out = record v { kind = Done; out = out }

abbrev free_with : WorkView → List Hand → Sums → WorkView
free_with w hands out = record w { stage = Free; columns = hands; out = out }

pub stores : (s v : View) (ws w now : WorkView) (x y : Sums) → s ≡ v → ws ≡ w
    → AcceptsStore (held_of v) ws.plan ws.number → x ≡ ws.out → y ≡ s.out
    → Frees (record ws { stage = Taken; out = y }) now → Stores v w (done_with s x) now
stores s v ws w now x y is iw accepts ex ey freed =
    let here : Frees (record ws { out = s.out }) now =
    record { frees = freed.frees; rest = freed.rest ∙ ap (free_with ws now.columns) ey } in
    record {
      accepts = subst (λ u. AcceptsStore (held_of v) u.plan u.number) iw accepts;
      slot = ap (done_with s) ex ∙ ap₂ (λ u o. done_with u o.out) is iw;
      works = subst (λ u. Frees (record w { out = u.out }) now) is
          (subst (λ u. Frees (record u { out = s.out }) now) iw here);
    }

pub store_slot : (m : Means) (size : Plan → ℕ) (s : View) (w : WorkView) (x : Sums) → IsSlot m (size s.plan) s
    → IsWork m (size w.plan) w → s.plan ≡ w.plan → s.number ≡ w.number
    → s.kind ≡ Working → w.stage ≡ Computed → x ≡ w.out → IsSlot m (size s.plan) (done_with s x)
store_slot m size s w x is work plan number working computed ex = record {
  fits = is.fits;
  held = is.held;
  spare = λ _. is.spare (λ filling. filling_working (sym filling ∙ working));
  told = is.told;
  shape = subst (λ o. HasShape s.plan (size s.plan) o) (sym ex)
      (subst (λ p. HasShape p (size p) w.out) (sym plan) work.shape);
  value = λ _. subst (λ o. IsMeant m s.plan s.number o.sums) (sym ex)
      (subst (λ p. IsMeant m p s.number w.out.sums) (sym plan)
      (subst (λ n. IsMeant m w.plan n w.out.sums) (sym number) (work.value computed)));
  counted = λ _. ap (λ o. o.added) ex ∙ work.counted computed ∙ ap (λ p. p.heaps) (sym plan);
}

-- ---- send

abbrev filling_from : View → ℕ → ℕ → Sums → View
filling_from v number more out = record v { number = number + more; kind = Filling; out = out }

abbrev given : OutgoingView → ℕ → Sums → OutgoingView
given o number out = record o { number = number; is_computed = true; out = out }

-- ---- through the ring

-- a number modulo the number of slots is a place
pub slot_inside : (s : RingView) (k m : ℕ) → IsRing s → m ≡ s.plan.slots → k % m < length s.slots
slot_inside s k m ring em =
    let least = ring.fits.ranges.limit.slots.least_met in
    let some : 0 < m = omega (arith, least) in
    let many = ring.as_many in
    omega arith

pub at_slot : (change : View → View → Type 0) (s v : RingView) (n k m : ℕ) (b a d0 : View) → s ≡ v → IsRing s → k ≡ n
    → m ≡ s.plan.slots → b ≡ get_or s.slots (k % m) d0 → change b a
    → AtSlot v (record s { slots = slice_set s.slots (k % m) a }) (n % v.plan.slots) change
at_slot change s v n k m b a d0 is ring ek em eb changed =
    let inside = slot_inside s k m ring em in
    let new : RingView = record s { slots = slice_set s.slots (k % m) a } in
    let here : AtSlot s new (k % m) change = record {
      before = b;
      after = a;
      inside = inside;
      is_before = λ d. get_or_default s.slots (k % m) d d0 inside ∙ sym eb;
      changed = changed;
      rest = refl;
    } in
    let at : k % m ≡ n % s.plan.slots = ap₂ (λ x y. x % y) ek em in
    subst (λ x. AtSlot x new (n % x.plan.slots) change) is (subst (λ p. AtSlot s new p change) at here)

pub kept_ring : (s : RingView) (k m : ℕ) (b a d0 : View) → IsRing s → m ≡ s.plan.slots → b ≡ get_or s.slots (k % m) d0
    → a.plan ≡ b.plan → IsRing (record s { slots = slice_set s.slots (k % m) a })
kept_ring s k m b a d0 ring em eb ea = record {
  fits = ring.fits;
  as_many = length-set s.slots (k % m) a ∙ ring.as_many;
  each_plan = set_each (λ i v. v.plan ≡ s.plan) s.slots (k % m) a ring.each_plan
      (ea ∙ ap (λ v. v.plan) eb ∙ ring.each_plan (k % m) d0 (slot_inside s k m ring em));
}

pub put_plan : (b : View) (h : Hand) (r : Put) (a : View) (spare : Hand) → PutGives b h r a spare → a.plan ≡ b.plan
put_plan b h Placed a spare g = ap (λ v. v.plan) g.slot
put_plan b h (Waits held) a spare g = ap (λ v. v.plan) g.2

pub take_plan : (b : View) (w : WorkView) (r : Took) (a : View) (now : WorkView) → TakeGives b w r a now
    → a.plan ≡ b.plan
take_plan b w took.Taken a now g = ap (λ v. v.plan) g.slot
take_plan b w (took.Not held) a now g = ap (λ v. v.plan) g.2

pub store_plan : (b : View) (w : WorkView) (r : Stored) (a : View) (now : WorkView) → StoreGives b w r a now
    → a.plan ≡ b.plan
store_plan b w stored.Stored a now g = ap (λ v. v.plan) g.slot
store_plan b w (stored.Old held) a now g = ap (λ v. v.plan) g.2

pub send_plan : (b : View) (n : ℕ) (o : OutgoingView) (r : Gave) (a : View) (now : OutgoingView)
    → SendGives b n o r a now → a.plan ≡ b.plan
send_plan b n o gave.Given a now g = ap (λ v. v.plan) g.slot
send_plan b n o (gave.Not held) a now g = ap (λ v. v.plan) g.2

-- ---- new ones

pub spares_held : (plan : Plan) (n : ℕ) (hands : List Hand) → hands ≡ replicate plan.antennas (spare_hand plan)
    → AreHeld plan n hands
spares_held plan n hands e =
    let each = λ (a : ℕ) (d : Hand) (less : a < plan.antennas). get_or-replicate plan.antennas a
    (spare_hand plan) d less in
    let spares : AreHeld plan n (replicate plan.antennas (spare_hand plan)) = record {
      as_many = length-replicate plan.antennas (spare_hand plan);
      each = λ a d less. subst (IsHeld plan a n)
          (sym (each a d (subst (λ k. a < k) (length-replicate plan.antennas (spare_hand plan)) less)))
          (record { same_plan = refl; is_for = λ closed. absurd (false≢true closed) });
    } in
    subst (AreHeld plan n) (sym e) spares

pub spares_spare : (plan : Plan) (hands : List Hand) → hands ≡ replicate plan.antennas (spare_hand plan)
    → AreSpare hands
spares_spare plan hands e =
    subst AreSpare (sym e)
    (λ a d less. ap (λ h. h.is_closed)
    (get_or-replicate plan.antennas a (spare_hand plan) d
    (subst (λ k. a < k) (length-replicate plan.antennas (spare_hand plan)) less)))

pub spare_told : (m : Means) (hands : List Hand) → AreSpare hands → AreTold m hands
spare_told m hands spare = λ a d less closed names. absurd (false≢true (sym (spare a d less) ∙ closed))

-- ---- a freed work

pub freed : (s v : WorkView) (old hs all : List Hand) → s ≡ v → old ≡ s.columns → FreesAll old hs → all ≡ hs
    → Frees v (record s { stage = Free; columns = all })
freed s v old hs all is eo each ea =
    let frees : FreesAll s.columns all = subst (λ xs. FreesAll xs all) eo (subst (FreesAll old) (sym ea) each) in
    let here : Frees s (record s { stage = Free; columns = all }) = record { frees = frees; rest = refl } in
    subst (λ u. Frees u (record s { stage = Free; columns = all })) is here

pub freed_work : (m : Means) (size : ℕ) (s : WorkView) (old hs all : List Hand) → IsWork m size s → old ≡ s.columns
    → FreesAll old hs → all ≡ hs → IsWork m size (record s { stage = Free; columns = all })
freed_work m size s old hs all work eo each ea =
    let frees : FreesAll s.columns all = subst (λ xs. FreesAll xs all) eo (subst (FreesAll old) (sym ea) each) in
    let at = λ (a : ℕ) (d : Hand) (less : a < length all). frees.each a d (subst (λ n. a < n) frees.as_many less) in
    let spare : AreSpare all = λ a d less. ap (λ h. h.is_closed) (at a d less) in
    record {
      fits = work.fits;
      held = record {
        as_many = frees.as_many ∙ work.held.as_many;
        each = λ a d less. record {
          same_plan = ap (λ h. h.column.plan) (at a d less) ∙
              (work.held.each a d (subst (λ n. a < n) frees.as_many less)).same_plan;
          is_for = λ closed. absurd (false≢true (sym (spare a d less) ∙ closed));
        };
      };
      spare = λ _. spare;
      full = λ other. absurd (other refl);
      told = spare_told m all spare;
      shape = work.shape;
      value = λ computed. absurd (free_computed computed);
      counted = λ computed. absurd (free_computed computed);
    }

-- ---- a new work

pub made_shape : (plan : Plan) (size : ℕ) (out : Sums) → out ≡ no_sums plan size → HasShape plan size out
made_shape plan size out e =
    record { same_plan = ap (λ o. o.plan) e; as_many = ap (λ o. length o.sums) e ∙ length-replicate size _ }

abbrev free_of : Plan → List Hand → Sums → WorkView
free_of plan hands out = record { plan = plan; number = 0; stage = Free; columns = hands; out = out }

pub new_work : (m : Means) (plan : Plan) (size : ℕ) (hands : List Hand) (out : Sums) → Fits plan
    → hands ≡ replicate plan.antennas (spare_hand plan) → out ≡ no_sums plan size
    → IsWork m size (free_of plan hands out)
new_work m plan size hands out fits eh eo =
    let spare = spares_spare plan hands eh in
    record {
      fits = fits;
      held = spares_held plan 0 hands eh;
      spare = λ _. spare;
      full = λ other. absurd (other refl);
      told = spare_told m hands spare;
      shape = made_shape plan size out eo;
      value = λ computed. absurd (free_computed computed);
      counted = λ computed. absurd (free_computed computed);
    }

pub work_is_free : (plan : Plan) (size : ℕ) (hands : List Hand) (out : Sums)
    → hands ≡ replicate plan.antennas (spare_hand plan) → out ≡ no_sums plan size
    → free_of plan hands out ≡ free_work plan size
work_is_free plan size hands out eh eo = ap₂ (free_of plan) eh eo

abbrev slot_of : Plan → ℕ → List Hand → Sums → View
slot_of plan n hands out = record { plan = plan; number = n; kind = Filling; columns = hands; out = out }

pub new_slot : (m : Means) (plan : Plan) (size n : ℕ) (hands : List Hand) (out : Sums) → Fits plan
    → hands ≡ replicate plan.antennas (spare_hand plan) → out ≡ no_sums plan size
    → IsSlot m size (slot_of plan n hands out)
new_slot m plan size n hands out fits eh eo =
    let spare = spares_spare plan hands eh in
    record {
      fits = fits;
      held = spares_held plan n hands eh;
      spare = λ _. spare;
      told = spare_told m hands spare;
      shape = made_shape plan size out eo;
      value = λ done. absurd (filling_done done);
      counted = λ done. absurd (filling_done done);
    }

pub slot_is_empty : (plan : Plan) (size n : ℕ) (hands : List Hand) (out : Sums)
    → hands ≡ replicate plan.antennas (spare_hand plan) → out ≡ no_sums plan size
    → slot_of plan n hands out ≡ empty_slot plan size n
slot_is_empty plan size n hands out eh eo = ap₂ (slot_of plan n) eh eo

-- ---- whether a slot can be taken

-- of this plan, and filling: the number of columns decides
pub take_matched : (s v : View) (held : Held) (p : Plan) (r : Bool) → leb s.plan.antennas held.columns ≡ r → s ≡ v
    → held ≡ held_of v → AreHeld s.plan s.number s.columns
    → s.plan ≡ p → s.kind ≡ Filling → MatchBool r (AcceptsTake (held_of v) p) (RefusesTake (held_of v) p)
take_matched s v held p true e is eh are plan filling =
    let some = leb-true s.plan.antennas held.columns e in
    let counted : held.columns ≡ standing s.columns = ap (λ h. h.columns) eh ∙ ap (λ u. standing u.columns) (sym is) in
    let few = count_by-le-length (λ h. h.is_closed) s.columns in
    let many = are.as_many in
    subst (λ u. AcceptsTake (held_of u) p) is (record { same_plan = plan; filling = filling; full = omega arith })
take_matched s v held p false e is eh are plan filling =
    let less = leb-false s.plan.antennas held.columns e in
    let counted : held.columns ≡ standing s.columns = ap (λ h. h.columns) eh ∙ ap (λ u. standing u.columns) (sym is) in
    let lacks : standing s.columns < s.plan.antennas = omega arith in
    subst (λ u. RefusesTake (held_of u) p) is (inr (inr lacks))

-- of another plan or kind
pub take_refused : (A : Type 0) (s v : View) (p : Plan) (r : Bool) → s ≡ v → r ≡ false
    → (s.plan ≢ p) ⊎ (s.kind ≢ Filling) → MatchBool r A (RefusesTake (held_of v) p)
take_refused A s v p true is e other = absurd (false≢true (sym e))
take_refused A s v p false is e (inl plan) = subst (λ x. RefusesTake (held_of x) p) is (inl plan)
take_refused A s v p false is e (inr kind) = subst (λ x. RefusesTake (held_of x) p) is (inr (inl kind))

-- ---- a new outgoing value

abbrev outgoing_of : Plan → Sums → OutgoingView
outgoing_of plan out = record { plan = plan; number = 0; is_computed = false; out = out }

pub new_outgoing : (m : Means) (plan : Plan) (size : ℕ) (out : Sums) → Fits plan → out ≡ no_sums plan size
    → IsOutgoing m size (outgoing_of plan out)
new_outgoing m plan size out fits e = record {
  fits = fits;
  shape = made_shape plan size out e;
  value = λ computed. absurd (false≢true computed);
  counted = λ computed. absurd (false≢true computed);
}

pub outgoing_is_none : (plan : Plan) (size : ℕ) (out : Sums) → out ≡ no_sums plan size
    → outgoing_of plan out ≡ no_outgoing plan size
outgoing_is_none plan size out e = ap (outgoing_of plan) e
