-- A closed column given to a hand, and put into the ring exactly where the machine's event is enabled.
use Rattle.std.proofs.Common.{◌≡◌, ℕ, ◌+◌, ◌<◌, ◌%◌, Bool, true, false, not, cond, ltb, eqb, ◌&&◌, length, get_or, set, Some, None, refl, sym, ap, ◌∙◌, subst, arith}
use Rattle.std.specs.Option.{is_some}
use Rattle.std.proofs.lemmas.List.{set-get_or, length-set, get_or-set_same, get_or-set_other}
use Rattle.std.proofs.lemmas.Nat.{mod_below}
use Rattle.std.proofs.lemmas.Bool.{ltb-true, ltb-false, le-ltb, lt-ltb, eqb-true, eq-eqb, and_parts, and_from, false_from_ne_true}
use Rattle.corr_model.specs.declared.plan.Plan.{Plan}
use Rattle.corr_model.specs.Streams.{column}
use Rattle.slot_column.specs.Columns.{Hand, Cells}
use Rattle.slot_ring.specs.Means.{spare_hand}
use Rattle.slot_ring.specs.Slots.{held_of}
use Rattle.slot_ring.specs.Rings.{RingView}
use Rattle.slot_ring.specs.Answers.{AcceptsPut}
use Rattle.stream_rules.specs.Marking.{floor_by}
use Rattle.stream_feed.specs.declared.report.StreamReport.{StreamReport}
use Rattle.stream_feed.specs.Feeding.{FeedState, StandsFor, due_of}
use Rattle.corr_machine.specs.Machines.{StreamState, State, Put, stream_at, slot_at, stream_floor, is_filling, with_column, enabled, effect}
use Rattle.corr_machine.specs.Runs.{strings_of}
use Rattle.corr_machine.proofs.Places.{set_each}
use Rattle.corr_machine.proofs.Proper.{each_stream, each_slot, put_proper}
use Rattle.corr_core.specs.Parts.{PartsView, no_feed, no_slot_of, feed_in, hand_in, slot_in, ring_with}
use Rattle.corr_core.specs.Standing.{Value, values_of, kind_of, StreamStandsFor, SlotStandsFor, PartsStandWith, PartsStandFor, StandFor, Happens}
use Rattle.corr_core.specs.Changes.{place_for, PutsHand, HandGot, HandFilled, HandPut}
use Rattle.corr_core.proofs.StandingLemmas.{seen_filling, put_stands}
use Rattle.corr_core.proofs.AgreeLemmas.{values_same}
use Rattle.corr_core.proofs.FeedLemmas.{floor_of_feed}

-- the parts with the hand of stream a put into slot s, and this left in the hand
abbrev placed : PartsView → ℕ → ℕ → Hand → PartsView
placed p a s left = record p {
  hands = set p.hands a left;
  ring = ring_with p.ring s
      (record (slot_in p.ring s)
      { columns = set (slot_in p.ring s).columns (hand_in p a).column.antenna (hand_in p a) });
}

-- a column placed in the ring
placed_stands : (value : Value) (p : PartsView) (state : State) (a : ℕ) (left : Hand) → 0 < p.plan.slots
    → PartsStandFor value p state → enabled p.plan state (Put a) ≡ true
    → (hand_in p a).is_closed ≡ true
    → AcceptsPut (held_of (slot_in p.ring ((stream_at state a).put % p.plan.slots))) (hand_in p a).column
    → left.is_closed ≡ false → left.column.plan ≡ p.plan
    → PartsStandFor value (placed p a ((stream_at state a).put % p.plan.slots) left) (effect p.plan state (Put a))
placed_stands value p state a left some h on closed for' spare plan_is =
    let plan = p.plan in
    let x = stream_at state a in
    let n = x.put in
    let s = n % plan.slots in
    let hand = hand_in p a in
    let y : StreamState = record x { put = n + 1 } in
    let old = values_of value plan (strings_of state) in
    let few = ltb-true a plan.antennas (and_parts (ltb a plan.antennas) _ on).0 in
    let inside : a < length state.streams = omega (arith, few, h.proper.stream_count) in
    let was = h.stream a few in
    let is = was.hand_is closed in
    let one = ap {B = ℕ} (λ r. cond r 1 0) closed in
    let none = ap {B = ℕ} (λ r. cond r 1 0) spare in
    let low = mod_below n plan.slots some in
    let next = effect plan state (Put a) in
    let same : (c : ℕ) → (stream_at state c).strings ≡ (stream_at next c).strings =
    λ c. each_stream state a y (λ d z. d ≡ c → (stream_at state c).strings ≡ z.strings) inside
    (λ e. ap (λ d. (stream_at state d).strings) (sym e))
    (λ d ne e. ap (λ d. (stream_at state d).strings) (sym e)) c refl in
    let in_slot : hand.column.antenna < plan.antennas = omega (arith, few, is.0) in
    let slot_now = put_stands plan old (slot_in p.ring s) (slot_at state s) hand (h.slot s low) for' in_slot closed
    (is.2 ∙ ap (old.column a) (sym is.1) ∙ ap (λ c. old.column c hand.column.number) (sym is.0)) in
    let with_old : PartsStandWith old (placed p a s left) next = record {
      proper = put_proper plan state a some h.proper on;
      feed_count = h.feed_count;
      hand_count = length-set p.hands a left ∙ h.hand_count;
      works_count = h.works_count;
      slots_count = length-set p.ring.slots s _ ∙ h.slots_count;
      ring_plan = h.ring_plan;
      stream = λ c few'. set_each
          (λ d k. d < plan.antennas → StreamStandsFor plan old d (feed_in p d) k (stream_at next d)) p.hands a left
          (spare_hand plan) (omega (arith, few, h.hand_count))
          (λ low'. each_stream state a y (λ k z. k ≡ a → StreamStandsFor plan old a (feed_in p a) left z) inside
          (λ e. record {
            antenna = was.antenna;
            ended = was.ended;
            given = omega (arith, was.given, one, none);
            within = was.within;
            hand_plan = plan_is;
            hand_is = λ e. absurd (let off = spare in cc);
          })
          (λ d ne e. absurd (ne e)) a refl)
          (λ d ne low'. each_stream state a y
          (λ k z. k ≡ d → StreamStandsFor plan old d (feed_in p d) (hand_in p d) z) inside
          (λ e. absurd (ne (sym e)))
          (λ k other e. subst (λ k. StreamStandsFor plan old d (feed_in p d) (hand_in p d) (stream_at state k)) (sym e)
          (h.stream d low')) d refl)
          c few';
      slot = λ t low'. set_each (λ r z. r < plan.slots → SlotStandsFor plan old z (slot_at next r)) p.ring.slots s
          (record (slot_in p.ring s) { columns = set (slot_in p.ring s).columns hand.column.antenna hand })
          (no_slot_of p.ring.plan) (omega (arith, low, h.slots_count))
          (λ low''. each_slot state s (with_column a (slot_at state s))
          (λ r z. r ≡ s → SlotStandsFor plan old
          (record (slot_in p.ring s) { columns = set (slot_in p.ring s).columns hand.column.antenna hand }) z)
          (omega (arith, low, h.proper.slot_count))
          (λ e. subst (λ c. SlotStandsFor plan old
          (record (slot_in p.ring s) { columns = set (slot_in p.ring s).columns hand.column.antenna hand })
          (with_column c (slot_at state s))) is.0 slot_now)
          (λ r ne e. absurd (ne e)) s refl)
          (λ r ne low''. each_slot state s (with_column a (slot_at state s))
          (λ k z. k ≡ r → SlotStandsFor plan old (slot_in p.ring r) z) (omega (arith, low, h.proper.slot_count))
          (λ e. absurd (ne (sym e)))
          (λ k other e. subst (λ k. SlotStandsFor plan old (slot_in p.ring r) (slot_at state k)) (sym e)
          (h.slot r low'')) r refl)
          t low';
      work = h.work;
      sent_is = h.sent_is;
    } in
    subst (λ v. PartsStandWith v (placed p a s left) next) (values_same value plan state next same) with_old

-- with a closed hand the ring places its column exactly where the machine's event is enabled
placed_where_enabled : (value : Value) (p : PartsView) (state : State) (a : ℕ) → 0 < p.plan.slots
    → PartsStandFor value p state → a < p.plan.antennas → (hand_in p a).is_closed ≡ true
    → (AcceptsPut (held_of (slot_in p.ring ((stream_at state a).put % p.plan.slots))) (hand_in p a).column
    → enabled p.plan state (Put a) ≡ true)
    × (enabled p.plan state (Put a) ≡ true
    → AcceptsPut (held_of (slot_in p.ring ((stream_at state a).put % p.plan.slots))) (hand_in p a).column)
placed_where_enabled value p state a some h few closed =
    let plan = p.plan in
    let x = stream_at state a in
    let n = x.put in
    let s = n % plan.slots in
    let was = h.stream a few in
    let is = was.hand_is closed in
    let one = ap {B = ℕ} (λ r. cond r 1 0) closed in
    let low = mod_below n plan.slots some in
    let z = slot_at state s in
    let stood = h.slot s low in (
      (λ for'.
          and_from (ltb a plan.antennas) _ (lt-ltb a plan.antennas few)
          (and_from (ltb n (stream_floor plan a x)) _
          (lt-ltb n (stream_floor plan a x) (omega (arith, was.given, was.within, one)))
          (and_from (eqb z.number n) (is_filling z.kind)
          (eq-eqb z.number n (sym stood.number ∙ for'.same_number ∙ is.1))
          (ap is_filling (sym stood.kind) ∙ ap (λ k. is_filling (kind_of k)) for'.filling)))),
      (λ on.
          let first = and_parts (ltb a plan.antennas) _ on in
          let second = and_parts (ltb n (stream_floor plan a x)) _ first.1 in
          let third = and_parts (eqb z.number n) (is_filling z.kind) second.1 in
          record {
            same_plan = stood.plan_is ∙ sym was.hand_plan;
            same_number = stood.number ∙ eqb-true z.number n third.0 ∙ sym is.1;
            filling = seen_filling (slot_in p.ring s).kind (ap is_filling stood.kind ∙ third.1);
          }),
    )

-- the place of a closed hand's column
place_is : (value : Value) (p : PartsView) (state : State) (a : ℕ) → PartsStandFor value p state → a < p.plan.antennas
    → (hand_in p a).is_closed ≡ true
    → place_for p.ring (hand_in p a).column.number ≡ (stream_at state a).put % p.plan.slots
place_is value p state a h few closed =
    let is = (h.stream a few).hand_is closed in
    ap (λ (k : Plan). (hand_in p a).column.number % k.slots) h.ring_plan ∙ ap (λ n. n % p.plan.slots) is.1

-- a put leaves the strings of each stream
put_strings : (value : Value) (p : PartsView) (state : State) (a : ℕ) → StandFor value p state → a < p.plan.antennas
    → (c : ℕ) → c < p.plan.antennas → StandsFor (feed_in p c) (stream_at (effect p.plan state (Put a)) c).strings
put_strings value p state a h few c low =
    each_stream state a (record (stream_at state a) { put = (stream_at state a).put + 1 })
    (λ k z. k ≡ c → StandsFor (feed_in p c) z.strings) (omega (arith, few, h.stands_for.proper.stream_count))
    (λ e. subst (λ k. StandsFor (feed_in p c) (stream_at state k).strings) (sym e) (h.feeds c low))
    (λ k ne e. subst (λ k. StandsFor (feed_in p c) (stream_at state k).strings) (sym e) (h.feeds c low)) c refl

-- the parts whose ring and hand changed so
put_by : (value : Value) (old : PartsView) (state : State) (a : ℕ) (ring : RingView) (hand : Hand) (answer : Bool)
    → StandFor value old state → a < old.plan.antennas → (hand_in old a).is_closed ≡ true
    → PutsHand old.ring (hand_in old a) ring hand answer
    → Happens value old.plan (record old { hands = set old.hands a hand; ring = ring }) state (Put a) answer
put_by value old state a ring hand true h few closed puts =
    let plan = old.plan in
    let was = h.stands_for.stream a few in
    let place = place_is value old state a h.stands_for few closed in
    let for' = subst (λ s. AcceptsPut (held_of (slot_in old.ring s)) (hand_in old a).column) place puts.0 in
    let on = (placed_where_enabled value old state a h.some h.stands_for few closed).0 for' in
    let now = placed_stands value old state a hand h.some h.stands_for on closed for' puts.2 (puts.3 ∙ was.hand_plan) in
    let same : record old { hands = set old.hands a hand; ring = ring }
    ≡ placed old a ((stream_at state a).put % plan.slots) hand =
    ap (λ r. record old { hands = set old.hands a hand; ring = r }) puts.1 ∙ ap (λ s. placed old a s hand) place in (
      on,
      subst (λ c. StandFor value c (effect plan state (Put a))) (sym same)
          (record {
            some = h.some;
            stands_for = now;
            plans = h.plans;
            feeds = λ c low. put_strings value old state a h few c low;
          }),
    )
put_by value old state a ring hand false h few closed puts =
    let plan = old.plan in
    let place = place_is value old state a h.stands_for few closed in
    let same : record old { hands = set old.hands a hand; ring = ring } ≡ old =
    ap (λ r. record old { hands = set old.hands a hand; ring = r }) puts.1 ∙ ap
    (λ k. record old { hands = set old.hands a k }) puts.2 ∙ ap (λ hs. record old { hands = hs })
    (set-get_or old.hands a (spare_hand plan)) in (
      false_from_ne_true (enabled plan state (Put a))
          (λ on. absurd (puts.0
          (subst (λ s. AcceptsPut (held_of (slot_in old.ring s)) (hand_in old a).column) (sym place)
          ((placed_where_enabled value old state a h.some h.stands_for few closed).1 on)))),
      subst (λ c. StandFor value c state) (sym same) h,
    )

pub put_happens : (value : Value) (old now : PartsView) (state : State) (a : ℕ) (answer : Bool)
    → StandFor value old state → a < old.plan.antennas → (hand_in old a).is_closed ≡ true
    → HandPut old now a answer → Happens value old.plan now state (Put a) answer
put_happens value old now state a answer h few closed put =
    subst (λ c. Happens value old.plan c state (Put a) answer) (sym put.parts)
    (put_by value old state a put.ring put.hand answer h few closed put.puts)

-- the hand stays spare: nothing is due
pub put_waits : (value : Value) (plan : Plan) (now : PartsView) (state : State) (a : ℕ) → StandFor value now state
    → (stream_at state a).put ≡ stream_floor plan a (stream_at state a) → Happens value plan now state (Put a) false
put_waits value plan now state a h all_put =
    let x = stream_at state a in
    let off : ltb x.put (stream_floor plan a x) ≡ false =
    le-ltb x.put (stream_floor plan a x) (omega (arith, all_put)) in (
      false_from_ne_true (enabled plan state (Put a)) (λ on.
          let second = and_parts (ltb a plan.antennas) _ on in
          let third = and_parts (ltb x.put (stream_floor plan a x)) _ second.1 in
          let is = sym off ∙ third.0 in cc),
      h,
    )

-- a closed column given to the hand changes nothing that the parts stand for
given_stands : (value : Value) (p : PartsView) (state : State) (a : ℕ) (g : FeedState) (hand : Hand)
    → PartsStandFor value p state → a < p.plan.antennas
    → (hand_in p a).is_closed ≡ false → (feed_in p a).columns.given < stream_floor p.plan a (stream_at state a)
    → g.columns.antenna ≡ (feed_in p a).columns.antenna → g.report ≡ (feed_in p a).report
    → g.columns.given ≡ (feed_in p a).columns.given + 1 → hand.is_closed ≡ true → hand.column.plan ≡ p.plan
    → hand.column.antenna ≡ a → hand.column.number ≡ (feed_in p a).columns.given
    → hand.column.cells ≡ column p.plan a (strings_of state a) (feed_in p a).columns.given
    → PartsStandFor value (record p { feeds = set p.feeds a g; hands = set p.hands a hand }) state
given_stands value p state a g hand h few empty due same_antenna same_report more closed plan_is antenna number cells =
    let plan = p.plan in
    let was = h.stream a few in
    let values = values_of value plan (strings_of state) in
    let none = ap {B = ℕ} (λ r. cond r 1 0) empty in
    let one = ap {B = ℕ} (λ r. cond r 1 0) closed in
    let at_put : (feed_in p a).columns.given ≡ (stream_at state a).put = omega (arith, was.given, none) in
    record {
      proper = h.proper;
      feed_count = length-set p.feeds a g ∙ h.feed_count;
      hand_count = length-set p.hands a hand ∙ h.hand_count;
      works_count = h.works_count;
      slots_count = h.slots_count;
      ring_plan = h.ring_plan;
      stream = λ c low. set_each
          (λ d f. d < plan.antennas
          → StreamStandsFor plan values d f (get_or (set p.hands a hand) d (spare_hand plan)) (stream_at state d))
          p.feeds a g (no_feed plan) (omega (arith, few, h.feed_count))
          (λ low'. subst (λ k. StreamStandsFor plan values a g k (stream_at state a))
          (sym (get_or-set_same p.hands a hand (spare_hand plan) (omega (arith, few, h.hand_count))))
          (record {
            antenna = same_antenna ∙ was.antenna;
            ended = ap is_some (ap (λ (r : StreamReport). r.ended) same_report) ∙ was.ended;
            given = omega (arith, more, at_put, one);
            within = omega (arith, more, due);
            hand_plan = plan_is;
            hand_is = λ e. (antenna, number ∙ at_put, cells ∙ ap (values.column a) at_put);
          }))
          (λ d ne low'. subst (λ k. StreamStandsFor plan values d (feed_in p d) k (stream_at state d))
          (sym (get_or-set_other p.hands a d hand (spare_hand plan) ne)) (h.stream d low'))
          c low;
      slot = h.slot;
      work = h.work;
      sent_is = h.sent_is;
    }

due_on : (b : Bool) (n : ℕ) → is_some (cond b (Some n) None) ≡ true → b ≡ true
due_on true n h = refl
due_on false n h = absurd cc

due_not : (b : Bool) (n : ℕ) → is_some (cond b (Some n) None) ≡ false → b ≡ false
due_not true n h = absurd cc
due_not false n h = refl

-- the hand that got the column that was due
pub got_filled : (value : Value) (old now : PartsView) (state : State) (a : ℕ) → StandFor value old state
    → a < old.plan.antennas → (hand_in old a).is_closed ≡ false → is_some (due_of (feed_in old a)) ≡ true
    → HandGot old now a → HandFilled value old now a state
got_filled value old now state a h few empty due got =
    let plan = old.plan in
    let f = feed_in old a in
    let gave = got.gave in
    let was = h.stands_for.stream a few in
    let floor_now = floor_by f.columns.plan f.marks in
    let below = ltb-true f.columns.given floor_now (due_on (ltb f.columns.given floor_now) f.columns.given due) in
    let floor_is' = floor_of_feed value old state a h few in
    let column_is = gave.column (stream_at state a).strings (h.feeds a few) in
    let cells = ap (λ (c : Cells). c.cells) column_is ∙ ap
    (λ k. column k f.columns.antenna (strings_of state a) f.columns.given) (h.plans a few)
    ∙ ap (λ c. column plan c (strings_of state a) f.columns.given) was.antenna in
    let stood = given_stands value old state a got.feed got.hand h.stands_for few empty
    (omega (arith, below, floor_is')) gave.antenna gave.ended gave.given gave.closed
    (gave.hand_plan ∙ h.plans a few)
    (ap (λ (c : Cells). c.antenna) column_is ∙ was.antenna) (ap (λ (c : Cells). c.number) column_is) cells in
    let inside : a < length old.feeds = omega (arith, few, h.stands_for.feed_count) in
    let whole : StandFor value (record old { feeds = set old.feeds a got.feed; hands = set old.hands a got.hand })
    state = record {
      some = h.some;
      stands_for = stood;
      plans = set_each (λ c k. c < plan.antennas → k.columns.plan ≡ plan) old.feeds a got.feed (no_feed plan) inside
          (λ low. gave.plan ∙ h.plans a low) (λ c ne low. h.plans c low);
      feeds = set_each (λ c k. c < plan.antennas → StandsFor k (stream_at state c).strings) old.feeds a got.feed
          (no_feed plan) inside (λ low. gave.stood (stream_at state a).strings (h.feeds a low))
          (λ c ne low. h.feeds c low);
    } in
    let hand_now : hand_in now a ≡ got.hand =
    ap (λ k. hand_in k a) got.parts ∙ get_or-set_same old.hands a got.hand (spare_hand plan)
    (omega (arith, few, h.stands_for.hand_count)) in
    record {
      stands_for = subst (λ k. StandFor value k state) (sym got.parts) whole;
      filled = λ e. absurd (let is = sym (ap (λ (k : Hand). k.is_closed) hand_now ∙ gave.closed) ∙ e in cc);
    }

-- a hand that got none: it is closed, or nothing is due
pub not_filled : (value : Value) (p : PartsView) (state : State) (a : ℕ) → StandFor value p state → a < p.plan.antennas
    → (not (hand_in p a).is_closed && is_some (due_of (feed_in p a))) ≡ false
    → HandFilled value p p a state
not_filled value p state a h few none =
    let f = feed_in p a in
    let was = h.stands_for.stream a few in
    let floor_now = floor_by f.columns.plan f.marks in
    let floor_is' = floor_of_feed value p state a h few in
    record {
      stands_for = h;
      filled = λ e.
          let zero' = ap {B = ℕ} (λ r. cond r 1 0) e in
          let off = ap (λ b. not b && is_some (due_of f)) (sym e) ∙ none in
          let through = ltb-false f.columns.given floor_now
          (due_not (ltb f.columns.given floor_now) f.columns.given off) in
          omega (arith, was.given, was.within, zero', through, floor_is');
    }

-- the hand that was read and put, as the parts' own
pub hand_put : (seen old : PartsView) (a : ℕ) (h hand : Hand) (ring : RingView) (answer : Bool) → seen ≡ old
    → h ≡ hand_in seen a → PutsHand seen.ring h ring hand answer
    → HandPut old (record seen { hands = set seen.hands a hand; ring = ring }) a answer
hand_put seen old a h hand ring answer view read puts = record {
  hand = hand;
  ring = ring;
  puts = subst (λ (k : PartsView). PutsHand k.ring (hand_in k a) ring hand answer) view
      (subst (λ c. PutsHand seen.ring c ring hand answer) read puts);
  parts = ap (λ (k : PartsView). record k { hands = set k.hands a hand; ring = ring }) view;
}
