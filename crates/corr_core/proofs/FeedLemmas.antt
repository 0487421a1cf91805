-- A stream takes its strings and its end exactly where the machine's event is enabled.
use Rattle.std.proofs.Common.{◌≡◌, ℕ, ◌+◌, ◌<◌, ◌≤◌, Bool, true, false, not, cond, ltb, eqb, ◌&&◌, List, [], ◌∷◌, ◌++◌, length, set, Option, Some, None, refl, sym, ap, ◌∙◌, subst, inl, inr, arith}
use Rattle.std.specs.Option.{is_some, is_none}
use Rattle.std.proofs.lemmas.List.{length-set, get_or-set_same, get_or-set_other}
use Rattle.std.proofs.lemmas.Bool.{ltb-true, ltb-false, le-ltb, lt-ltb, eqb-true, eq-eqb, and_parts, and_from, not-true, not_from_false, false_from_ne_true}
use Rattle.corr_model.specs.declared.verdict.Ending.{Ending}
use Rattle.corr_model.specs.Streams.{ending, floor}
use Rattle.stream_rules.specs.Marking.{floor_by}
use Rattle.stream_feed.specs.Feeding.{FeedState, StandsFor, EndsAs, is_said, due_of, due_by}
use Rattle.stream_feed.proofs.StandLemmas.{floor_is}
use Rattle.corr_machine.specs.Machines.{StreamState, State, Packet, End, new_stream, stream_at, stream_floor, is_ready, with_stream, with_string, enabled, effect}
use Rattle.corr_machine.specs.Runs.{strings_of}
use Rattle.corr_machine.proofs.Places.{set_each}
use Rattle.corr_machine.proofs.Floors.{floor_with_string, floor_within}
use Rattle.corr_machine.proofs.Proper.{ready_parts, each_stream, packet_proper, end_proper}
use Rattle.corr_core.specs.Parts.{PartsView, no_feed, feed_in, hand_in, work_in, slot_in, is_ready_feed, takes_strings}
use Rattle.corr_core.specs.Standing.{Value, values_of, StreamStandsFor, PartsStandWith, PartsStandFor, StandFor, Happens}
use Rattle.corr_core.specs.Changes.{TookString, TookEnd, FeedChanged}
use Rattle.corr_core.proofs.AgreeLemmas.{packet_agrees, slot_agrees, work_agrees, values_same}

-- an end that was not said is that of the strings
own_by : (e o : Option Ending) → EndsAs e o → is_said e ≡ false → is_some e ≡ is_some o
own_by e (Some how) h own = ap is_some h
own_by e None (inl h) own = ap is_some h
own_by e None (inr (inl h)) own = absurd (let said = ap is_said (sym h) ∙ own in cc)
own_by e None (inr (inr h)) own = absurd (let said = ap is_said (sym h) ∙ own in cc)

-- the feed that took a string has ended where the strings have
ended_by : (g : FeedState) (l : List (List ℕ)) → StandsFor g l → is_said g.report.ended ≡ false
    → is_some g.report.ended ≡ is_some (ending g.columns.plan l)
ended_by g l stood own = own_by g.report.ended (ending g.columns.plan l) stood.ends own

due_off : (b : Bool) (n : ℕ) → is_none (cond b (Some n) None) ≡ true → b ≡ false
due_off true n h = absurd cc
due_off false n h = refl

none_is : (given f : ℕ) → is_none (due_by given f) ≡ true → f ≤ given
none_is given f h = ltb-false given f (due_off (ltb given f) given h)

none_from : (b : Bool) (n : ℕ) → b ≡ false → is_none (cond b (Some n) None) ≡ true
none_from false n h = refl
none_from true n h = absurd cc

none_since : {A : Type 0} (o : Option A) → is_none o ≡ not (is_some o)
none_since None = refl
none_since (Some x) = refl

pub is_same : (p q : Bool) → (p ≡ true → q ≡ true) → (q ≡ true → p ≡ true) → p ≡ q
is_same true true f g = refl
is_same true false f g = absurd (let h = f refl in cc)
is_same false true f g = absurd (let h = g refl in cc)
is_same false false f g = refl

-- the floor by a feed's marks is that of its stream
pub floor_of_feed : (value : Value) (p : PartsView) (state : State) (a : ℕ) → StandFor value p state
    → a < p.plan.antennas
    → floor_by (feed_in p a).columns.plan (feed_in p a).marks ≡ stream_floor p.plan a (stream_at state a)
floor_of_feed value p state a h few =
    let x = stream_at state a in
    let f = feed_in p a in
    let was = h.stands_for.stream a few in
    floor_is f x.strings (h.feeds a few) ∙ ap (λ k. floor k f.columns.antenna x.strings (is_some f.report.ended))
    (h.plans a few)
    ∙ ap (λ c. floor p.plan c x.strings (is_some f.report.ended)) was.antenna ∙ ap (floor p.plan a x.strings) was.ended

-- a stream takes strings exactly where the machine's event is enabled
pub takes_where_ready : (value : Value) (p : PartsView) (state : State) (a : ℕ) → StandFor value p state
    → a < p.plan.antennas
    → takes_strings p a ≡ (ltb a p.plan.antennas && is_ready p.plan a (stream_at state a))
takes_where_ready value p state a h few =
    let plan = p.plan in
    let x = stream_at state a in
    let f = feed_in p a in
    let hand = hand_in p a in
    let was = h.stands_for.stream a few in
    let floor_now = floor_by f.columns.plan f.marks in
    let floor_is' = floor_of_feed value p state a h few in
    is_same (takes_strings p a) (ltb a plan.antennas && is_ready plan a x)
    (λ on.
    let parts = and_parts (not hand.is_closed) (is_ready_feed f) on in
    let more = and_parts (is_none f.report.ended) (is_none (due_of f)) parts.1 in
    let spare = ap {B = ℕ} (λ r. cond r 1 0) (not-true hand.is_closed parts.0) in
    let through = none_is f.columns.given floor_now more.1 in
    and_from (ltb a plan.antennas) (is_ready plan a x) (lt-ltb a plan.antennas few)
    (and_from (not x.ended) (eqb x.put (stream_floor plan a x))
    (ap not (sym was.ended) ∙ sym (none_since f.report.ended) ∙ more.0)
    (eq-eqb x.put (stream_floor plan a x) (omega (arith, was.given, was.within, spare, through, floor_is')))))
    (λ on.
    let parts = and_parts (ltb a plan.antennas) (is_ready plan a x) on in
    let more = and_parts (not x.ended) (eqb x.put (stream_floor plan a x)) parts.1 in
    let through = eqb-true x.put (stream_floor plan a x) more.1 in
    let empty : hand.is_closed ≡ false =
    false_from_ne_true hand.is_closed
    (λ e. let one = ap {B = ℕ} (λ r. cond r 1 0) e in omega (arith, was.given, was.within, one, through)) in
    let none = ap {B = ℕ} (λ r. cond r 1 0) empty in
    and_from (not hand.is_closed) (is_ready_feed f) (not_from_false hand.is_closed empty)
    (and_from (is_none f.report.ended) (is_none (due_of f)) (none_since f.report.ended ∙ ap not was.ended ∙ more.0)
    (none_from (ltb f.columns.given floor_now) f.columns.given
    (le-ltb f.columns.given floor_now (omega (arith, was.given, none, through, floor_is'))))))

-- a string more: the parts with the feed that took it stand for the state after it
packet_stands : (value : Value) (p : PartsView) (state : State) (a : ℕ) (b : List ℕ) (g : FeedState) → 0 < p.plan.slots
    → PartsStandFor value p state → enabled p.plan state (Packet a b) ≡ true
    → g.columns.antenna ≡ a → g.columns.given ≡ (feed_in p a).columns.given
    → is_some g.report.ended ≡ is_some (ending p.plan ((stream_at state a).strings ++ b ∷ []))
    → PartsStandFor value (record p { feeds = set p.feeds a g }) (effect p.plan state (Packet a b))
packet_stands value p state a b g some h on antenna given ended =
    let plan = p.plan in
    let x = stream_at state a in
    let y = with_string plan b x in
    let parts = and_parts (ltb a plan.antennas) (is_ready plan a x) on in
    let few = ltb-true a plan.antennas parts.0 in
    let is_open = ready_parts plan a x parts.1 in
    let agree = packet_agrees value plan state a b h.proper on in
    let now = values_of value plan (strings_of (effect plan state (Packet a b))) in
    let rises = floor_with_string plan a x.strings b in
    let kept : (c : ℕ) (f : FeedState) (z : StreamState) → c < plan.antennas → f.columns.antenna ≡ c
    → is_some f.report.ended ≡ z.ended → f.columns.given ≡ (feed_in p c).columns.given
    → z.put ≡ (stream_at state c).put
    → f.columns.given ≤ stream_floor plan c z → StreamStandsFor plan now c f (hand_in p c) z =
    λ c f z low is ends gave puts below. let was = h.stream c low in record {
      antenna = is;
      ended = ends;
      given = gave ∙ was.given ∙ ap (λ n. n + cond (hand_in p c).is_closed 1 0) (sym puts);
      within = below;
      hand_plan = was.hand_plan;
      hand_is = λ e.
          let one = ap {B = ℕ} (λ r. cond r 1 0) e in
          let old = was.hand_is e in (
            old.0,
            old.1 ∙ sym puts,
            old.2 ∙ agree.columns c (stream_at state c).put low
                (omega (arith, was.within, was.given, one)) ∙ ap (now.column c) (sym puts),
          );
    } in
    record {
      proper = packet_proper plan state a b h.proper on;
      feed_count = length-set p.feeds a g ∙ h.feed_count;
      hand_count = h.hand_count;
      works_count = h.works_count;
      slots_count = h.slots_count;
      ring_plan = h.ring_plan;
      stream = λ c low. set_each
          (λ d f. d < plan.antennas
          → StreamStandsFor plan now d f (hand_in p d) (stream_at (effect plan state (Packet a b)) d)) p.feeds a g
          (no_feed plan) (omega (arith, few, h.feed_count))
          (λ low'. each_stream state a y (λ d z. d ≡ a → StreamStandsFor plan now a g (hand_in p a) z)
          (omega (arith, few, h.proper.stream_count))
          (λ e. kept a g y few antenna ended given refl
          (omega (
            arith,
            given,
            (h.stream a few).within,
            rises,
            subst
                (λ o. stream_floor plan a x ≡ floor plan a x.strings o) is_open.not_ended refl,
          )))
          (λ d ne e. absurd (ne e)) a refl)
          (λ d ne low'. each_stream state a y (λ k z. k ≡ d → StreamStandsFor plan now d (feed_in p d) (hand_in p d) z)
          (omega (arith, few, h.proper.stream_count))
          (λ e. absurd (ne (sym e)))
          (λ k other e. subst (λ k. StreamStandsFor plan now d (feed_in p d) (hand_in p d) (stream_at state k)) (sym e)
          (let was = h.stream d low' in kept d (feed_in p d) (stream_at state d) low' was.antenna was.ended refl
          refl was.within)) d refl)
          c low;
      slot = λ s low. slot_agrees plan state (values_of value plan (strings_of state)) now s (slot_in p.ring s) h.proper
          agree low (h.slot s low);
      work = λ w low. work_agrees plan state (values_of value plan (strings_of state)) now w (work_in p w) some h.proper
          agree low (h.work w low);
      sent_is = h.sent_is;
    }

-- the parts whose feed of a stream changed with the stream
feed_stands : (value : Value) (p : PartsView) (state : State) (a : ℕ) (g : FeedState) (y : StreamState)
    → StandFor value p state → a < p.plan.antennas
    → g.columns.plan ≡ (feed_in p a).columns.plan → StandsFor g y.strings
    → PartsStandFor value (record p { feeds = set p.feeds a g }) (with_stream state a y)
    → StandFor value (record p { feeds = set p.feeds a g }) (with_stream state a y)
feed_stands value p state a g y h few same stood now =
    let plan = p.plan in
    let inside : a < length p.feeds = omega (arith, few, h.stands_for.feed_count) in
    record {
      some = h.some;
      stands_for = now;
      plans = set_each (λ c f. c < plan.antennas → f.columns.plan ≡ plan) p.feeds a g (no_feed plan) inside
          (λ low. same ∙ h.plans a low) (λ c ne low. h.plans c low);
      feeds = λ c low. set_each (λ d f. d < plan.antennas → StandsFor f (stream_at (with_stream state a y) d).strings)
          p.feeds a g (no_feed plan) inside
          (λ low'. each_stream state a y (λ d z. d ≡ a → StandsFor g z.strings)
          (omega (arith, few, h.stands_for.proper.stream_count))
          (λ e. stood) (λ d ne e. absurd (ne e)) a refl)
          (λ d ne low'. each_stream state a y (λ k z. k ≡ d → StandsFor (feed_in p d) z.strings)
          (omega (arith, few, h.stands_for.proper.stream_count))
          (λ e. absurd (ne (sym e)))
          (λ k other e. subst (λ k. StandsFor (feed_in p d) (stream_at state k).strings) (sym e) (h.feeds d low')) d
          refl)
          c low;
    }

-- a byte string that the stream takes
pub took_happens : (value : Value) (old now : PartsView) (state : State) (a : ℕ) (b : List ℕ) → StandFor value old state
    → a < old.plan.antennas
    → takes_strings old a ≡ true → FeedChanged old now a (λ f g. TookString f g b)
    → Happens value old.plan now state (Packet a b) true
took_happens value old now state a b h few takes took =
    let on = sym (takes_where_ready value old state a h few) ∙ takes in
    let g = took.feed in
    let t = took.does in
    let plan = old.plan in
    let x = stream_at state a in
    let was = h.stands_for.stream a few in
    let stood = t.stood x.strings (h.feeds a few) in
    let g_plan = t.same.same_plan ∙ h.plans a few in
    let ended = ended_by g (x.strings ++ b ∷ []) stood t.own ∙ ap
    (λ k. is_some (ending k (x.strings ++ b ∷ []))) g_plan in
    let whole = feed_stands value old state a g (with_string plan b x) h few t.same.same_plan stood
    (packet_stands value old state a b g h.some h.stands_for on (t.same.same_antenna ∙ was.antenna)
    t.same.same_given ended) in
    (on, subst (λ c. StandFor value c (effect plan state (Packet a b))) (sym took.parts) whole)

-- an end: the parts with the feed that took it
end_stands : (value : Value) (p : PartsView) (state : State) (a : ℕ) (g : FeedState) → PartsStandFor value p state
    → enabled p.plan state (End a) ≡ true
    → g.columns.antenna ≡ a → g.columns.given ≡ (feed_in p a).columns.given → is_some g.report.ended ≡ true
    → PartsStandFor value (record p { feeds = set p.feeds a g }) (effect p.plan state (End a))
end_stands value p state a g h on antenna given ended =
    let plan = p.plan in
    let x = stream_at state a in
    let y : StreamState = record x { ended = true } in
    let few = ltb-true a plan.antennas (and_parts (ltb a plan.antennas) (is_ready plan a x) on).0 in
    let inside : a < length state.streams = omega (arith, few, h.proper.stream_count) in
    let was = h.stream a few in
    let old = values_of value plan (strings_of state) in
    let next = effect plan state (End a) in
    let now : PartsView = record p { feeds = set p.feeds a g } in
    let most = floor_within plan a x.strings x.ended in
    let same : (c : ℕ) → (stream_at state c).strings ≡ (stream_at next c).strings =
    λ c. each_stream state a y (λ d z. d ≡ c → (stream_at state c).strings ≡ z.strings) inside
    (λ e. ap (λ d. (stream_at state d).strings) (sym e))
    (λ d ne e. ap (λ d. (stream_at state d).strings) (sym e)) c refl in
    let with_old : PartsStandWith old now next = record {
      proper = end_proper plan state a h.proper on;
      feed_count = length-set p.feeds a g ∙ h.feed_count;
      hand_count = h.hand_count;
      works_count = h.works_count;
      slots_count = h.slots_count;
      ring_plan = h.ring_plan;
      stream = λ c low. set_each
          (λ d f. d < plan.antennas → StreamStandsFor plan old d f (hand_in p d) (stream_at next d)) p.feeds a g
          (no_feed plan) (omega (arith, few, h.feed_count))
          (λ low'. subst (StreamStandsFor plan old a g (hand_in p a))
          (sym (get_or-set_same state.streams a y new_stream inside))
          (record {
            antenna = antenna;
            ended = ended;
            given = given ∙ was.given;
            within = omega (arith, given, was.within, most);
            hand_plan = was.hand_plan;
            hand_is = was.hand_is;
          }))
          (λ d ne low'. subst (StreamStandsFor plan old d (feed_in p d) (hand_in p d))
          (sym (get_or-set_other state.streams a d y new_stream ne)) (h.stream d low'))
          c low;
      slot = h.slot;
      work = h.work;
      sent_is = h.sent_is;
    } in
    subst (λ v. PartsStandWith v now next) (values_same value plan state next same) with_old

-- an end that the stream takes
pub ended_happens : (value : Value) (old now : PartsView) (state : State) (a : ℕ) (how : Ending)
    → StandFor value old state → a < old.plan.antennas
    → takes_strings old a ≡ true → FeedChanged old now a (λ f g. TookEnd f g how)
    → Happens value old.plan now state (End a) true
ended_happens value old now state a how h few takes took =
    let on = sym (takes_where_ready value old state a h few) ∙ takes in
    let g = took.feed in
    let t = took.does in
    let plan = old.plan in
    let x = stream_at state a in
    let was = h.stands_for.stream a few in
    let whole = feed_stands value old state a g (record x { ended = true }) h few t.same.same_plan
    (t.stood x.strings (h.feeds a few))
    (end_stands value old state a g h.stands_for on (t.same.same_antenna ∙ was.antenna) t.same.same_given t.ended) in
    (on, subst (λ c. StandFor value c (effect plan state (End a))) (sym took.parts) whole)

-- a stream that takes none waits for both
pub packet_waits : (value : Value) (p : PartsView) (state : State) (a : ℕ) (b : List ℕ) → StandFor value p state
    → a < p.plan.antennas → takes_strings p a ≡ false → Happens value p.plan p state (Packet a b) false
packet_waits value p state a b h few takes = (sym (takes_where_ready value p state a h few) ∙ takes, h)

pub end_waits : (value : Value) (p : PartsView) (state : State) (a : ℕ) → StandFor value p state → a < p.plan.antennas
    → takes_strings p a ≡ false → Happens value p.plan p state (End a) false
end_waits value p state a h few takes = (sym (takes_where_ready value p state a h few) ∙ takes, h)
