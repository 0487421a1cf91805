-- Lists that are built one by one, and that new parts stand for the machine's opening.
use Rattle.std.proofs.Common.{◌≡◌, ℕ, ◌+◌, ◌<◌, ◌≤◌, Bool, true, false, cond, List, [], ◌∷◌, ◌++◌, length, get_or, replicate, None, refl, sym, ap, ◌∙◌, subst, inl, inr, arith}
use Rattle.std.specs.Option.{is_some}
use Rattle.std.proofs.lemmas.Bool.{cases_lt}
use Rattle.std.proofs.lemmas.List.{get_or_append_left, get_or_push, length_push, get_or-replicate, get_or-map, length-map, length-replicate}
use Rattle.corr_model.proofs.CountedLists.{length-numbers, get_or-numbers}
use Rattle.corr_model.specs.Lists.{numbers}
use Rattle.corr_model.specs.declared.plan.Plan.{Plan}
use Rattle.corr_model.specs.Plans.{Fits}
use Rattle.slot_column.specs.Columns.{Hand}
use Rattle.slot_ring.specs.Means.{spare_hand}
use Rattle.slot_ring.specs.Slots.{WorkView, OutgoingView, empty_slot, free_work, no_outgoing}
use Rattle.slot_ring.specs.Rings.{RingView, empty_ring}
use Rattle.stream_feed.specs.Feeding.{StandsFor}
use Rattle.corr_machine.specs.Machines as machine
use Rattle.corr_machine.specs.Machines.{StreamState, SlotState, State, opening, new_stream, no_slot, work_count, stream_at, slot_at, work_at, is_filling, is_working, is_done}
use Rattle.corr_machine.specs.Runs.{strings_of}
use Rattle.corr_machine.proofs.Proper.{opening_proper}
use Rattle.corr_core.specs.Parts.{PartsView, no_feed, no_slot_of, feed_in, hand_in, work_in, slot_in, IsSoundParts}
use Rattle.corr_core.specs.Standing.{Value, Values, values_of, kind_of, StreamStandsFor, SlotStandsFor, WorkStandsFor, StandFor}
use Rattle.corr_core.specs.New.{Built, IsNewFeed}
use Rattle.corr_core.proofs.StandingLemmas.{none_closed}
use Rattle.corr_core.proofs.SoundLemmas.{free_is_not_taken}

-- what holds of each element and of one more holds of each
each_push : {X : Type 0} (P : ℕ → X → Type 0) (xs : List X) (x : X) (n : ℕ) → length xs ≡ n
    → ((a : ℕ) (d : X) → a < n → P a (get_or xs a d)) → P n x → (a : ℕ) (d : X) → a < n + 1
    → P a (get_or (xs ++ x ∷ []) a d)
each_push P xs x n many each here a d lt = elim (cases_lt a n) [
  | inl low ↦ subst (P a) (sym (get_or_append_left xs (x ∷ []) d a (omega (arith, many, low)))) (each a d low)
  | inr high ↦
      let same : n ≡ a = omega arith in
      subst (λ k. P k (get_or (xs ++ x ∷ []) k d)) same (subst (P n) (sym (get_or_push xs x d n many)) here)
]

-- so many are there, in a buffer that has room for all
pub record BuiltTo {X : Type 0} (P : ℕ → X → Type 0) (count : ℕ) (xs : List X) (len room n : ℕ) : Type 0 where
  pub counted : len ≡ n
  pub many : length xs ≡ n
  pub fits_in : count ≤ room
  pub each : (a : ℕ) (d : X) → a < n → P a (get_or xs a d)

pub built_none : {X : Type 0} (P : ℕ → X → Type 0) (count : ℕ) (xs : List X) (len room : ℕ) → xs ≡ [] → len ≡ 0
    → count ≤ room → BuiltTo P count xs len room 0
built_none P count xs len room none zero fits =
    record { counted = zero; many = ap length none; fits_in = fits; each = λ a d low. absurd (omega arith) }

pub built_more : {X : Type 0} (P : ℕ → X → Type 0) (count : ℕ) (xs after : List X) (x : X) (len later room now n : ℕ)
    → BuiltTo P count xs len room n → P n x → after ≡ xs ++ x ∷ [] → later ≡ len + 1 → now ≡ room
    → BuiltTo P count after later now (n + 1)
built_more P count xs after x len later room now n i new e el er =
    subst (λ ks. BuiltTo P count ks later now (n + 1)) (sym e) (record {
      counted = let c = i.counted in omega arith;
      many = length_push xs x ∙ ap (λ k. k + 1) i.many;
      fits_in = let c = i.fits_in in omega arith;
      each = each_push P xs x n i.many i.each new;
    })

pub built_all : {X : Type 0} (P : ℕ → X → Type 0) (count : ℕ) (xs : List X) (len room n : ℕ)
    → BuiltTo P count xs len room n → n ≡ count → Built P count xs
built_all P count xs len room n i at =
    record { as_many = i.many ∙ at; each = λ a d lt. i.each a d (omega (arith, at, lt)) }

-- what new parts are
pub record AreNew (names : Bool) (named : Plan) (size : ℕ) (p : PartsView) : Type 0 where
  pub fits : Fits p.plan
  pub named_plan : names ≡ true → p.plan ≡ named
  pub feeds : Built (IsNewFeed p.plan) p.plan.antennas p.feeds
  pub hands : Built (λ a h. h ≡ spare_hand p.plan) p.plan.antennas p.hands
  pub ring : p.ring ≡ empty_ring p.plan size
  pub works : Built (λ w k. k ≡ free_work p.plan size) (work_count p.plan) p.works
  pub outgoing : p.outgoing ≡ no_outgoing p.plan size
  pub none_sent : p.sent ≡ 0

-- they are sound
pub new_sound : (names : Bool) (named : Plan) (size : ℕ) (p : PartsView) → AreNew names named size p
    → IsSoundParts names named p
new_sound names named size p h = record {
  fits = h.fits;
  named_plan = h.named_plan;
  feed_count = h.feeds.as_many;
  hand_count = h.hands.as_many;
  work_count_is = h.works.as_many;
  ring_plan = ap (λ (r : RingView). r.plan) h.ring;
  feed_plans = λ a few. (h.feeds.each a (no_feed p.plan) few).same_plan;
  hand_plans = λ a few. ap (λ (k : Hand). k.column.plan) (h.hands.each a (spare_hand p.plan) few);
  work_plans = λ w few. ap (λ (k : WorkView). k.plan) (h.works.each w (free_work p.plan 0) few);
  computed = λ w few. free_is_not_taken _ (ap (λ (k : WorkView). k.stage) (h.works.each w (free_work p.plan 0) few));
  outgoing_plan = ap (λ (o : OutgoingView). o.plan) h.outgoing;
}

slot_first : (plan : Plan) (s : ℕ) → s < plan.slots → slot_at (opening plan) s ≡ machine.empty_slot plan s
slot_first plan s low =
    get_or-map (machine.empty_slot plan) (numbers 0 plan.slots) s 0 no_slot
    (omega (arith, low, length-numbers 0 plan.slots))
    ∙ ap (machine.empty_slot plan) (get_or-numbers 0 plan.slots s 0 low ∙ (let e : 0 + s ≡ s = omega arith in e))

ring_first : (plan : Plan) (size s : ℕ) → s < plan.slots → slot_in (empty_ring plan size) s ≡ empty_slot plan size s
ring_first plan size s low =
    get_or-map (empty_slot plan size) (numbers 0 plan.slots) s 0 (no_slot_of plan)
    (omega (arith, low, length-numbers 0 plan.slots))
    ∙ ap (empty_slot plan size) (get_or-numbers 0 plan.slots s 0 low ∙ (let e : 0 + s ≡ s = omega arith in e))

spare_all : (n : ℕ) (hand : Hand) → hand.is_closed ≡ false → (a : ℕ) (d : Hand) → a < length (replicate n hand)
    → (get_or (replicate n hand) a d).is_closed ≡ false
spare_all n hand spare a d low =
    ap (λ (h : Hand). h.is_closed) (get_or-replicate n a hand d (omega (arith, low, length-replicate n hand))) ∙ spare

new_slot : (plan : Plan) (values : Values) (size s : ℕ)
    → SlotStandsFor plan values (empty_slot plan size s) (machine.empty_slot plan s)
new_slot plan values size s =
    let hands = replicate plan.antennas (spare_hand plan) in
    let spare = spare_all plan.antennas (spare_hand plan) refl in
    record {
      plan_is = refl;
      count = length-replicate plan.antennas (spare_hand plan);
      number = refl;
      kind = refl;
      marks = λ e. sym (none_closed hands spare ∙ ap (λ n. replicate n false)
          (length-replicate plan.antennas (spare_hand plan)));
      cells = λ e a d low is. absurd (let off = spare a d low in cc);
      result = λ e. absurd (let g = ap (λ k. is_filling (kind_of k)) e in cc);
    }

new_work : (plan : Plan) (values : Values) (size : ℕ) → WorkStandsFor plan values (free_work plan size) None
new_work plan values size =
    record { plan_is = refl; count = length-replicate plan.antennas (spare_hand plan); number = refl }

-- they stand for the machine's opening
pub new_stands : (value : Value) (names : Bool) (named : Plan) (size : ℕ) (p : PartsView) → AreNew names named size p
    → StandFor value p (opening p.plan)
new_stands value names named size p h =
    let plan = p.plan in
    let values = values_of value plan (strings_of (opening plan)) in
    let some : 0 < plan.slots = let least = h.fits.ranges.limit.slots.least_met in omega (arith, least) in
    let strings : 0 < plan.packet_limit = let least =
    h.fits.ranges.limit.packet_limit.least_met in omega (arith, least) in
    let first : (a : ℕ) → a < plan.antennas → stream_at (opening plan) a ≡ new_stream =
    λ a few. get_or-replicate plan.antennas a new_stream new_stream few in
    let free : (w : ℕ) → w < work_count plan → work_at (opening plan) w ≡ None =
    λ w few. get_or-replicate (work_count plan) w None None few in
    record {
      some = some;
      stands_for = record {
        proper = opening_proper plan some strings;
        feed_count = h.feeds.as_many;
        hand_count = h.hands.as_many;
        works_count = h.works.as_many;
        slots_count = ap (λ (r : RingView). length r.slots) h.ring ∙ length-map (numbers 0 plan.slots)
            (empty_slot plan size) ∙ length-numbers 0 plan.slots;
        ring_plan = ap (λ (r : RingView). r.plan) h.ring;
        stream = λ a few.
            let new = h.feeds.each a (no_feed plan) few in
            let hand = h.hands.each a (spare_hand plan) few in
            let spare = ap (λ (k : Hand). k.is_closed) hand in
            let none = ap {B = ℕ} (λ b. cond b 1 0) spare in
            subst (StreamStandsFor plan values a (feed_in p a) (hand_in p a)) (sym (first a few)) (record {
              antenna = new.same_antenna;
              ended = ap is_some new.goes_on;
              given = omega (arith, new.given, none);
              within = omega (arith, new.given);
              hand_plan = ap (λ (k : Hand). k.column.plan) hand;
              hand_is = λ e. absurd (let off = spare in cc);
            });
        slot = λ s low. subst (SlotStandsFor plan values (slot_in p.ring s)) (sym (slot_first plan s low))
            (subst (λ k. SlotStandsFor plan values k (machine.empty_slot plan s))
            (sym (ap (λ r. slot_in r s) h.ring ∙ ring_first plan size s low)) (new_slot plan values size s));
        work = λ w few. subst (WorkStandsFor plan values (work_in p w)) (sym (free w few))
            (subst (λ k. WorkStandsFor plan values k None) (sym (h.works.each w (free_work plan 0) few))
            (new_work plan values size));
        sent_is = h.none_sent;
      };
      plans = λ a few. (h.feeds.each a (no_feed plan) few).same_plan;
      feeds = λ a few. subst (λ (x : StreamState). StandsFor (feed_in p a) x.strings) (sym (first a few))
          (h.feeds.each a (no_feed plan) few).stands;
    }
