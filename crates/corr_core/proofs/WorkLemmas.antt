-- A slot is taken, a value stored and the next one moved out exactly where the machine's event is enabled.
use Rattle.std.proofs.Common.{◌≡◌, ℕ, suc, ◌+◌, ◌<◌, ◌≤◌, ◌%◌, Bool, true, false, not, cond, ltb, eqb, List, [], ◌∷◌, length, map, get_or, set, Option, Some, None, refl, sym, ap, ◌∙◌, subst, arith}
use Rattle.std.specs.List.{count_by, list_all}
use Rattle.std.specs.Option.{is_some, unwrap_or}
use Rattle.std.proofs.lemmas.List.{set-get_or, length-set, get_or-set_same, get_or-set_other, get_or-map, length-map}
use Rattle.std.proofs.lemmas.List.Sums.{sum_by-cons, count_by-le-length}
use Rattle.std.proofs.lemmas.Nat.{mod_below}
use Rattle.std.proofs.Math.Nat.{mod-eq_of_lt}
use Rattle.std.proofs.lemmas.Bool.{lt-ltb, eqb-true, eq-eqb, and_parts, and_from, false_from_ne_true}
use Rattle.corr_model.specs.declared.plan.Plan.{Plan}
use Rattle.corr_model.specs.Lists.{numbers}
use Rattle.corr_model.specs.Plans.{Fits}
use Rattle.corr_model.specs.Visibilities.{Lists}
use Rattle.slot_column.specs.Columns.{Hand}
use Rattle.vis_back.specs.Sets.{cells_of}
use Rattle.slot_ring.specs.declared.held.Kind.TheVariants as kinds
use Rattle.slot_ring.specs.declared.work.Stage.TheVariants.{Free, Computed}
use Rattle.slot_ring.specs.Means.{AreSpare, spare_hand}
use Rattle.slot_ring.specs.Slots.{View, WorkView, held_of, standing, free_work}
use Rattle.slot_ring.specs.Rings.{RingView}
use Rattle.slot_ring.specs.Answers.{AcceptsTake, AcceptsStore, AcceptsSend}
use Rattle.corr_machine.specs.Machines as machine
use Rattle.corr_machine.specs.Machines.{SlotState, State, Take, Store, Send, no_slot, work_count, stream_at, slot_at, slot_for, work_at, is_filling, is_working, is_done, is_full, enabled, effect, with_work, result_stored, empty_slot, IsProper}
use Rattle.corr_machine.specs.Runs.{strings_of}
use Rattle.corr_machine.proofs.Places.{set_each, list_all_get}
use Rattle.corr_machine.proofs.Proper.{work_has_slot, take_proper, send_proper, stored}
use Rattle.corr_machine.proofs.Sending.{sent_within}
use Rattle.corr_core.specs.Parts.{PartsView, no_slot_of, work_in, slot_in, ring_with}
use Rattle.corr_core.specs.Standing.{Value, Values, values_of, kind_of, marks_of, SlotStandsFor, HasNumber, WorkStandsFor, PartsStandWith, PartsStandFor, StandFor, Happens}
use Rattle.corr_core.specs.Changes.{place_for, Computes, SlotTaken, StoresValue, ResultStored, Released, Releases, Sending, SendsNext}
use Rattle.corr_core.proofs.StandingLemmas.{seen_filling, seen_working, seen_done, take_slot_stands, take_work_stands, store_slot_stands, store_work_stands, send_stands}

slots_stand : (plan : Plan) (values : Values) (ring : RingView) (state : State) (s : ℕ) (z : View) (y : SlotState)
    → s < length ring.slots → s < length state.slots
    → SlotStandsFor plan values z y
    → ((t : ℕ) → t < plan.slots → SlotStandsFor plan values (slot_in ring t) (slot_at state t))
    → (t : ℕ) → t < plan.slots
    → SlotStandsFor plan values (slot_in (ring_with ring s z) t) (slot_at (machine.with_slot state s y) t)
slots_stand plan values ring state s z y in_ring in_state here there t low =
    set_each (λ r x. r < plan.slots → SlotStandsFor plan values x (slot_at (machine.with_slot state s y) r)) ring.slots
    s z (no_slot_of ring.plan) in_ring
    (λ low'. subst (SlotStandsFor plan values z) (sym (get_or-set_same state.slots s y no_slot in_state)) here)
    (λ r ne low'. subst (SlotStandsFor plan values (slot_in ring r))
    (sym (get_or-set_other state.slots s r y no_slot ne)) (there r low'))
    t low

-- a slot and a work changed alike
parts_stand : (values : Values) (p : PartsView) (state : State) (s w : ℕ) (z : View) (y : SlotState) (v : WorkView)
    (o : Option ℕ) → PartsStandWith values p state
    → s < p.plan.slots → w < work_count p.plan → IsProper p.plan (with_work (machine.with_slot state s y) w o)
    → SlotStandsFor p.plan values z y → WorkStandsFor p.plan values v o
    → PartsStandWith values (record p { ring = ring_with p.ring s z; works = set p.works w v })
    (with_work (machine.with_slot state s y) w o)
parts_stand values p state s w z y v o h low few proper slot work =
    let plan = p.plan in
    record {
      proper = proper;
      feed_count = h.feed_count;
      hand_count = h.hand_count;
      works_count = length-set p.works w v ∙ h.works_count;
      slots_count = length-set p.ring.slots s z ∙ h.slots_count;
      ring_plan = h.ring_plan;
      stream = h.stream;
      slot = slots_stand plan values p.ring state s z y (omega (arith, low, h.slots_count))
          (omega (arith, low, h.proper.slot_count)) slot h.slot;
      work = λ i less. set_each
          (λ r x. r < work_count plan → WorkStandsFor plan values x (get_or (set state.works w o) r None)) p.works w v
          (free_work plan 0) (omega (arith, few, h.works_count))
          (λ less'. subst (WorkStandsFor plan values v)
          (sym (get_or-set_same state.works w o None (omega (arith, few, h.proper.works)))) work)
          (λ r ne less'. subst (WorkStandsFor plan values (work_in p r))
          (sym (get_or-set_other state.works w r o None ne)) (h.work r less'))
          i less;
      sent_is = h.sent_is;
    }

-- as many marks as places are set exactly where all are
all_from_count : (xs : List Bool) → count_by (λ b. b) xs ≡ length xs → list_all (λ b. b) xs ≡ true
all_from_count [] e = refl
all_from_count (true ∷ xs) e = all_from_count xs (omega (arith, e, sum_by-cons (λ b. cond b 1 0) true xs))
all_from_count (false ∷ xs) e =
    absurd (omega (arith, e, sum_by-cons (λ b. cond b 1 0) false xs, count_by-le-length (λ b. b) xs))

count_from_all : (xs : List Bool) → list_all (λ b. b) xs ≡ true → count_by (λ b. b) xs ≡ length xs
count_from_all [] e = refl
count_from_all (true ∷ xs) e = omega (arith, count_from_all xs e, sum_by-cons (λ b. cond b 1 0) true xs)
count_from_all (false ∷ xs) e = absurd cc

count_closed : (hs : List Hand) → count_by (λ b. b) (marks_of hs) ≡ standing hs
count_closed [] = refl
count_closed (h ∷ hs) =
    omega (
      arith,
      count_closed hs,
      sum_by-cons (λ b. cond b 1 0) h.is_closed (marks_of hs),
      sum_by-cons
          (λ (d : Hand). cond d.is_closed 1 0) h hs,
    )

free_since : (values : Values) (v : WorkView) (o : Option ℕ) → HasNumber values v o → v.stage ≡ Free → o ≡ None
free_since values v None h e = refl
free_since values v (Some n) h e = absurd (let t = sym e ∙ h.0 in cc)

free_work_at : (o : Option ℕ) → o ≡ None → not (is_some o) ≡ true
free_work_at None h = refl
free_work_at (Some n) h = absurd cc

-- a work that is computed has a number
computed_since : (values : Values) (v : WorkView) (o : Option ℕ) → HasNumber values v o → v.stage ≡ Computed
    → (n : ℕ) × (o ≡ Some n)
computed_since values v None h e = absurd (let t = sym h ∙ e in cc)
computed_since values v (Some n) h e = (n, refl)

-- a free work takes a slot exactly where the machine's event is enabled
taken_where_enabled : (value : Value) (p : PartsView) (state : State) (w s : ℕ) → PartsStandFor value p state
    → w < work_count p.plan → s < p.plan.slots → (work_in p w).stage ≡ Free
    → (AcceptsTake (held_of (slot_in p.ring s)) (work_in p w).plan → enabled p.plan state (Take w s) ≡ true)
    × (enabled p.plan state (Take w s) ≡ true → AcceptsTake (held_of (slot_in p.ring s)) (work_in p w).plan)
taken_where_enabled value p state w s h few low free =
    let plan = p.plan in
    let z = slot_at state s in
    let seen = slot_in p.ring s in
    let stood = h.slot s low in
    let none = free_since (values_of value plan (strings_of state)) (work_in p w) (work_at state w)
    (h.work w few).number free in
    let antennas = ap (λ (k : Plan). k.antennas) stood.plan_is in
    let count = count_closed seen.columns in
    let long = length-map seen.columns (λ (c : Hand). c.is_closed) in (
      (λ to.
          let fills = ap (λ k. is_filling (kind_of k)) to.filling in
          let full = to.full in
          let all = ap (list_all (λ b. b)) (stood.marks fills) ∙ all_from_count (marks_of seen.columns)
          (omega (arith, count, full, long, stood.count, antennas)) in
          and_from (ltb w (work_count plan)) _ (lt-ltb w (work_count plan) few)
          (and_from (ltb s plan.slots) _ (lt-ltb s plan.slots low)
          (and_from (not (is_some (work_at state w))) _ (free_work_at (work_at state w) none)
          (and_from (is_filling z.kind) (is_full z) (ap is_filling (sym stood.kind) ∙ fills) all)))),
      (λ on.
          let first = and_parts (ltb w (work_count plan)) _ on in
          let second = and_parts (ltb s plan.slots) _ first.1 in
          let third = and_parts (not (is_some (work_at state w))) _ second.1 in
          let fourth = and_parts (is_filling z.kind) (is_full z) third.1 in
          let fills = ap is_filling stood.kind ∙ fourth.0 in
          let all = count_from_all (marks_of seen.columns)
          (ap (list_all (λ b. b)) (sym (stood.marks fills)) ∙ fourth.1) in
          record {
            same_plan = stood.plan_is ∙ sym (h.work w few).plan_is;
            filling = seen_filling seen.kind fills;
            full = omega (arith, count, all, long, stood.count, antennas);
          }),
    )

-- the cells of columns that each are as said
cells_are : (hs : List Hand) (f : ℕ → List (Option (List ℕ))) (from : ℕ) (d : Hand)
    → ((i : ℕ) → i < length hs → (get_or hs i d).column.cells ≡ f (from + i))
    → cells_of hs ≡ map f (numbers from (length hs))
cells_are [] f from d h = refl
cells_are (c ∷ hs) f from d h =
    let e : from + 0 ≡ from = omega arith in
    let here : c.column.cells ≡ f from = h 0 (omega arith) ∙ ap f e in
    ap (λ x. x ∷ cells_of hs) here ∙ ap (λ xs. f from ∷ xs)
    (cells_are hs f (from + 1) d (λ i low. h (suc i) (omega (arith, low)) ∙ ap f (omega arith)))

-- the value of a full slot's columns is that of its number
value_is : (value : Value) (plan : Plan) (lists : Lists) (s : View) (x : SlotState) (other : Plan)
    → SlotStandsFor plan (values_of value plan lists) s x → AcceptsTake (held_of s) other
    → value (cells_of s.columns) ≡ (values_of value plan lists).result s.number
value_is value plan lists s x other h to =
    let values = values_of value plan lists in
    let fills = ap (λ k. is_filling (kind_of k)) to.filling in
    let full = to.full in
    let antennas = ap (λ (k : Plan). k.antennas) h.plan_is in
    let count = count_closed s.columns in
    let long = length-map s.columns (λ (c : Hand). c.is_closed) in
    let all = all_from_count (marks_of s.columns) (omega (arith, count, full, long, h.count, antennas)) in
    let none = spare_hand plan in
    let closed : (i : ℕ) → i < length s.columns → (get_or s.columns i none).is_closed ≡ true =
    λ i low. sym (get_or-map (λ (c : Hand). c.is_closed) s.columns i none false low) ∙ list_all_get
    (marks_of s.columns) i (omega (arith, low, long)) all in
    let each = cells_are s.columns (λ a. values.column a s.number) 0 none
    (λ i low. h.cells fills i none low (closed i low) ∙ ap (λ a. values.column a s.number) (omega arith)) in
    ap value (each ∙ ap (λ n. map (λ a. values.column a s.number) (numbers 0 n)) h.count)

-- the place of a slot of the plan is the slot itself
slot_place : (value : Value) (p : PartsView) (state : State) (s : ℕ) → PartsStandFor value p state → s < p.plan.slots
    → place_for p.ring s ≡ s
slot_place value p state s h low = ap (λ (k : Plan). s % k.slots) h.ring_plan ∙ mod-eq_of_lt low

-- the parts whose ring and work changed so
taken_by : (value : Value) (old : PartsView) (state : State) (w s : ℕ) (ring : RingView) (work : WorkView)
    (answer : Bool) → StandFor value old state → w < work_count old.plan → s < old.plan.slots
    → (work_in old w).stage ≡ Free
    → Computes value old.ring s (work_in old w) ring work answer
    → Happens value old.plan (record old { ring = ring; works = set old.works w work }) state (Take w s) answer
taken_by value old state w s ring work true h few low free computes =
    let plan = old.plan in
    let place = slot_place value old state s h.stands_for low in
    let values = values_of value plan (strings_of state) in
    let slot = slot_in old.ring s in
    let to = subst (λ k. AcceptsTake (held_of (slot_in old.ring k)) (work_in old w).plan) place computes.0 in
    let on = (taken_where_enabled value old state w s h.stands_for few low free).0 to in
    let none = free_since values (work_in old w) (work_at state w) (h.stands_for.work w few).number free in
    let spare = subst (WorkStandsFor plan values (work_in old w)) none (h.stands_for.work w few) in
    let stood = h.stands_for.slot s low in
    let z : View = record slot { kind = kinds.Working; columns = (work_in old w).columns } in
    let is = computes.2 ∙ ap
    (λ k. record (work_in old w) {
      stage = Computed;
      number = (slot_in old.ring k).number;
      columns = (slot_in old.ring k).columns;
      out = work.out;
    }) place in
    let out = computes.3 ∙ ap (λ k. value (cells_of (slot_in old.ring k).columns)) place ∙ value_is value plan
    (strings_of state) slot (slot_at state s) (work_in old w).plan stood to in
    let now = parts_stand values old state s w z _ work (Some (slot_at state s).number) h.stands_for low few
    (take_proper plan state w s h.some h.stands_for.proper on)
    (take_slot_stands plan values slot (slot_at state s) (work_in old w) stood spare to)
    (take_work_stands plan values slot (slot_at state s) (work_in old w) work stood spare to is out) in
    let ring_is = computes.1 ∙ ap
    (λ k. ring_with old.ring k
    (record (slot_in old.ring k) { kind = kinds.Working; columns = (work_in old w).columns })) place in (
      on,
      subst (λ r. StandFor value (record old { ring = r; works = set old.works w work })
          (effect plan state (Take w s))) (sym ring_is)
          (record { some = h.some; stands_for = now; plans = h.plans; feeds = h.feeds }),
    )
taken_by value old state w s ring work false h few low free computes =
    let plan = old.plan in
    let place = slot_place value old state s h.stands_for low in
    let same : record old { ring = ring; works = set old.works w work } ≡ old =
    ap (λ r. record old { ring = r; works = set old.works w work }) computes.1 ∙ ap
    (λ k. record old { works = set old.works w k }) computes.2 ∙ ap (λ ks. record old { works = ks })
    (set-get_or old.works w (free_work plan 0)) in (
      false_from_ne_true (enabled plan state (Take w s))
          (λ on. absurd (computes.0
          (subst (λ k. AcceptsTake (held_of (slot_in old.ring k)) (work_in old w).plan) (sym place)
          ((taken_where_enabled value old state w s h.stands_for few low free).1 on)))),
      subst (λ c. StandFor value c state) (sym same) h,
    )

pub take_happens : (value : Value) (old now : PartsView) (state : State) (w s : ℕ) (answer : Bool)
    → StandFor value old state → w < work_count old.plan → s < old.plan.slots → (work_in old w).stage ≡ Free
    → SlotTaken value old now w s answer → Happens value old.plan now state (Take w s) answer
take_happens value old now state w s answer h few low free took =
    subst (λ c. Happens value old.plan c state (Take w s) answer) (sym took.parts)
    (taken_by value old state w s took.ring took.work answer h few low free took.computes)

-- a work that has a number takes no slot
pub take_waits : (value : Value) (now : PartsView) (state : State) (w s : ℕ) → StandFor value now state
    → w < work_count now.plan → (work_in now w).stage ≡ Computed
    → Happens value now.plan now state (Take w s) false
take_waits value now state w s h few computed =
    let plan = now.plan in
    let has = computed_since (values_of value plan (strings_of state)) (work_in now w) (work_at state w)
    (h.stands_for.work w few).number computed in
    let off : not (is_some (work_at state w)) ≡ false = ap (λ o. not (is_some o)) has.1 in (
      false_from_ne_true (enabled plan state (Take w s)) (λ on.
          let second = and_parts (ltb w (work_count plan)) _ on in
          let third = and_parts (ltb s plan.slots) _ second.1 in
          let fourth = and_parts (not (is_some (work_at state w))) _ third.1 in
          let is = sym off ∙ fourth.0 in cc),
      h,
    )

-- a free work stores nothing
pub store_waits : (value : Value) (now : PartsView) (state : State) (w : ℕ) → StandFor value now state
    → w < work_count now.plan → (work_in now w).stage ≡ Free
    → Happens value now.plan now state (Store w) false
store_waits value now state w h few free =
    let plan = now.plan in
    let none = free_since (values_of value plan (strings_of state)) (work_in now w) (work_at state w)
    (h.stands_for.work w few).number free in
    let off : is_some (work_at state w) ≡ false = ap is_some none in (
      false_from_ne_true (enabled plan state (Store w)) (λ on.
          let second = and_parts (ltb w (work_count plan)) _ on in
          let is = sym off ∙ second.1 in cc),
      h,
    )

-- a work that is not free always has a slot that waits for its value
stored_where_held : (value : Value) (p : PartsView) (state : State) (w n : ℕ) → 0 < p.plan.slots
    → PartsStandFor value p state → w < work_count p.plan → work_at state w ≡ Some n
    → AcceptsStore (held_of (slot_in p.ring (n % p.plan.slots))) (work_in p w).plan (work_in p w).number
stored_where_held value p state w n some h few has =
    let plan = p.plan in
    let z = slot_for plan state n in
    let stood = h.slot (n % plan.slots) (mod_below n plan.slots some) in
    let held = subst (HasNumber (values_of value plan (strings_of state)) (work_in p w)) has (h.work w few).number in
    let on = and_parts (eqb z.number n) (is_working z.kind) (work_has_slot plan state w n h.proper few has) in
    record {
      same_plan = stood.plan_is ∙ sym (h.work w few).plan_is;
      same_number = stood.number ∙ eqb-true z.number n on.0 ∙ sym held.1;
      working = seen_working (slot_in p.ring (n % plan.slots)).kind (ap is_working stood.kind ∙ on.1);
    }

pub store_happens : (value : Value) (old now : PartsView) (state : State) (w : ℕ) → StandFor value old state
    → w < work_count old.plan → (work_in old w).stage ≡ Computed
    → ResultStored old now w → Happens value old.plan now state (Store w) true
store_happens value old now state w h few computed change =
    let plan = old.plan in
    let values = values_of value plan (strings_of state) in
    let has = computed_since values (work_in old w) (work_at state w) (h.stands_for.work w few).number computed in
    let n = has.0 in
    let held = subst (HasNumber values (work_in old w)) has.1 (h.stands_for.work w few).number in
    let s = n % plan.slots in
    let low = mod_below n plan.slots h.some in
    let place : place_for old.ring (work_in old w).number ≡ s =
    ap (λ (k : Plan). (work_in old w).number % k.slots) h.stands_for.ring_plan ∙ ap (λ m. m % plan.slots) held.1 in
    let to = stored_where_held value old state w n h.some h.stands_for few has.1 in
    let stores = change.stores in
    let ring_is = stores.stored
    (subst (λ k. AcceptsStore (held_of (slot_in old.ring k)) (work_in old w).plan (work_in old w).number)
    (sym place) to)
    ∙ ap (λ k. ring_with old.ring k (record (slot_in old.ring k) { kind = kinds.Done; out = (work_in old w).out }))
    place in
    let with_number = subst (WorkStandsFor plan values (work_in old w)) has.1 (h.stands_for.work w few) in
    let stood = parts_stand values old state s w
    (record (slot_in old.ring s) { kind = kinds.Done; out = (work_in old w).out }) _ change.work None h.stands_for
    low few (stored plan state w n h.some h.stands_for.proper few has.1)
    (store_slot_stands plan values (slot_in old.ring s) (slot_at state s) (work_in old w) n (h.stands_for.slot s low)
    with_number to)
    (store_work_stands plan values (work_in old w) change.work (Some n) with_number stores.plan stores.count
    stores.free) in
    let number : unwrap_or (work_at state w) 0 ≡ n = ap (λ o. unwrap_or o 0) has.1 in
    let on = and_from (ltb w (work_count plan)) (is_some (work_at state w)) (lt-ltb w (work_count plan) few)
    (ap is_some has.1) in
    let whole : StandFor value
    (record old {
      ring =
          ring_with old.ring s (record (slot_in old.ring s) { kind = kinds.Done; out = (work_in old w).out });
      works =
          set old.works w change.work;
    }) (result_stored plan state w n) =
    record { some = h.some; stands_for = stood; plans = h.plans; feeds = h.feeds } in (
      on,
      subst (λ m. StandFor value now (result_stored plan state w m)) (sym number)
          (subst (λ c. StandFor value c (result_stored plan state w n)) (sym change.parts)
          (subst (λ r. StandFor value (record old { ring = r; works = set old.works w change.work })
          (result_stored plan state w n)) (sym ring_is) whole)),
    )

-- the ring has the next value exactly where the machine's event is enabled
sent_where_enabled : (value : Value) (p : PartsView) (state : State) → 0 < p.plan.slots → PartsStandFor value p state
    → p.outgoing.plan ≡ p.plan
    → (AcceptsSend (held_of (slot_in p.ring (state.sent % p.plan.slots))) p.outgoing.plan p.sent
    → enabled p.plan state Send ≡ true)
    × (enabled p.plan state Send ≡ true
    → AcceptsSend (held_of (slot_in p.ring (state.sent % p.plan.slots))) p.outgoing.plan p.sent)
sent_where_enabled value p state some h plan_is =
    let plan = p.plan in
    let s = state.sent % plan.slots in
    let z = slot_at state s in
    let stood = h.slot s (mod_below state.sent plan.slots some) in (
      (λ to. and_from (eqb z.number state.sent) (is_done z.kind)
          (eq-eqb z.number state.sent (sym stood.number ∙ to.same_number ∙ h.sent_is))
          (ap is_done (sym stood.kind) ∙ ap (λ k. is_done (kind_of k)) to.done)),
      (λ on.
          let parts = and_parts (eqb z.number state.sent) (is_done z.kind) on in
          record {
            same_plan = stood.plan_is ∙ sym plan_is;
            same_number = stood.number ∙ eqb-true z.number state.sent parts.0 ∙ sym h.sent_is;
            done = seen_done (slot_in p.ring s).kind (ap is_done stood.kind ∙ parts.1);
          }),
    )

-- the place of the next value's slot
next_place : (value : Value) (p : PartsView) (state : State) → PartsStandFor value p state
    → place_for p.ring p.sent ≡ state.sent % p.plan.slots
next_place value p state h = ap (λ (k : Plan). p.sent % k.slots) h.ring_plan ∙ ap (λ n. n % p.plan.slots) h.sent_is

-- the next value is in no slot: nothing is sent
release_waits : (value : Value) (old now : PartsView) (state : State) → StandFor value old state
    → old.outgoing.plan ≡ old.plan
    → Releases old now false → Happens value old.plan now state Send false
release_waits value old now state h same gives =
    let plan = old.plan in
    let place = next_place value old state h.stands_for in (
      false_from_ne_true (enabled plan state Send)
          (λ on. absurd (gives.0
          (subst (λ s. AcceptsSend (held_of (slot_in old.ring s)) old.outgoing.plan old.sent) (sym place)
          ((sent_where_enabled value old state h.some h.stands_for same).1 on)))),
      subst (λ c. StandFor value c state) (sym gives.1) h,
    )

-- the parts with the next value moved out of slot s
abbrev moved_out : PartsView → ℕ → PartsView
moved_out p s = record p {
  ring = ring_with p.ring s
      (record (slot_in p.ring s)
      { kind = kinds.Filling; number = p.sent + (slot_in p.ring s).plan.slots; out = p.outgoing.out });
  outgoing = record p.outgoing { number = p.sent; is_computed = true; out = (slot_in p.ring s).out };
  sent = p.sent + 1;
}

-- it was moved out of its slot
release_moves : (value : Value) (old now : PartsView) (state : State) → StandFor value old state
    → old.outgoing.plan ≡ old.plan
    → Released old now → Sending value old now state
release_moves value old now state h same gives =
    let plan = old.plan in
    let values = values_of value plan (strings_of state) in
    let place = next_place value old state h.stands_for in
    let s = state.sent % plan.slots in
    let low = mod_below state.sent plan.slots h.some in
    let slot = slot_in old.ring s in
    let to = subst (λ k. AcceptsSend (held_of (slot_in old.ring k)) old.outgoing.plan old.sent) place gives.accepts in
    let on = (sent_where_enabled value old state h.some h.stands_for same).0 to in
    let stood = h.stands_for.slot s low in
    let is : now ≡ moved_out old s = gives.parts ∙ ap (moved_out old) place in
    let out_is = stood.result to.done ∙ ap values.result (to.same_number ∙ h.stands_for.sent_is) in
    let v : View = record slot { kind = kinds.Filling; number = old.sent + slot.plan.slots; out = old.outgoing.out } in
    let spare = subst (λ k. AreSpare (slot_in old.ring k).columns) place gives.empty in
    let slot_now = subst (λ n. SlotStandsFor plan values v (empty_slot plan (n + plan.slots))) h.stands_for.sent_is
    (send_stands plan values slot v (slot_at state s) old.sent stood spare refl) in
    let whole : PartsStandWith values (moved_out old s) (effect plan state Send) = record {
      proper = send_proper plan state h.some h.stands_for.proper on;
      feed_count = h.stands_for.feed_count;
      hand_count = h.stands_for.hand_count;
      works_count = h.stands_for.works_count;
      slots_count = length-set old.ring.slots s v ∙ h.stands_for.slots_count;
      ring_plan = h.stands_for.ring_plan;
      stream = h.stands_for.stream;
      slot = slots_stand plan values old.ring state s v (empty_slot plan (state.sent + plan.slots))
          (omega (arith, low, h.stands_for.slots_count)) (omega (arith, low, h.stands_for.proper.slot_count)) slot_now
          h.stands_for.slot;
      work = h.stands_for.work;
      sent_is = ap (λ n. n + 1) h.stands_for.sent_is;
    } in
    record {
      can = on;
      out = ap (λ (c : PartsView). c.outgoing.out.sums) is ∙ out_is;
      stands_for = subst (λ c. StandFor value c (effect plan state Send)) (sym is)
          (record { some = h.some; stands_for = whole; plans = h.plans; feeds = h.feeds });
    }

pub release_is : (value : Value) (old now : PartsView) (state : State) (answer : Bool) → StandFor value old state
    → old.outgoing.plan ≡ old.plan
    → Releases old now answer → SendsNext value old now state answer
release_is value old now state true h same gives = release_moves value old now state h same gives
release_is value old now state false h same gives = release_waits value old now state h same gives

-- no value is left to be sent
pub send_past : (value : Value) (now : PartsView) (state : State) → 0 < now.plan.antennas → StandFor value now state
    → now.plan.accumulations ≤ now.sent
    → Happens value now.plan now state Send false
send_past value now state any h past =
    let plan = now.plan in (
      false_from_ne_true (enabled plan state Send) (λ on.
          let proper = send_proper plan state h.some h.stands_for.proper on in
          let most = sent_within plan (effect plan state Send) any proper in
          absurd (omega (arith, most, past, h.stands_for.sent_is))),
      h,
    )

-- the work that was read and computed, as the parts' own
pub slot_taken : (value : PartsView → Value) (seen old : PartsView) (w s : ℕ) (v work : WorkView) (ring : RingView)
    (answer : Bool) → seen ≡ old → v ≡ work_in seen w → Computes (value seen) seen.ring s v ring work answer
    → SlotTaken (value old) old (record seen { ring = ring; works = set seen.works w work }) w s answer
slot_taken value seen old w s v work ring answer view read computes = record {
  work = work;
  ring = ring;
  computes = subst (λ (k : PartsView). Computes (value k) k.ring s (work_in k w) ring work answer) view
      (subst (λ c. Computes (value seen) seen.ring s c ring work answer) read computes);
  parts = ap (λ (k : PartsView). record k { ring = ring; works = set k.works w work }) view;
}

pub result_stored_in : (seen old : PartsView) (w : ℕ) (v work : WorkView) (ring : RingView) → seen ≡ old
    → v ≡ work_in seen w → StoresValue seen.ring v ring work
    → ResultStored old (record seen { ring = ring; works = set seen.works w work }) w
result_stored_in seen old w v work ring view read stores = record {
  work = work;
  ring = ring;
  stores = subst (λ (k : PartsView). StoresValue k.ring (work_in k w) ring work) view
      (subst (λ c. StoresValue seen.ring c ring work) read stores);
  parts = ap (λ (k : PartsView). record k { ring = ring; works = set k.works w work }) view;
}

-- a plan that fits has an antenna
pub some_antennas : (plan : Plan) → Fits plan → 0 < plan.antennas
some_antennas plan h = omega (arith, h.ranges.shape.antennas.least_met)
