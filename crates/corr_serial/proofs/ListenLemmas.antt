-- A stream takes the next byte string of its source, or the end.
use Rattle.std.proofs.Common.{◌≡◌, ◌≢◌, ℕ, ◌+◌, ◌-◌, ◌<◌, ◌≤◌, ℤ, Bool, true, false, not, cond, ltb, eqb, ◌&&◌, List, [], ◌∷◌, ◌++◌, length, take, get_or, set, Option, Some, None, refl, sym, ap, ◌∙◌, subst, inl, inr, arith}
use Rattle.std.specs.Option.{is_some}
use Rattle.std.proofs.lemmas.List.{length-set, length_push, get_or-set_same, get_or-set_other}
use Rattle.std.proofs.lemmas.Bool.{lt-ltb, and_from, and_parts, not-true, cond-true, false_from_ne_true}
use Rattle.corr_model.specs.declared.plan.Plan.{Plan}
use Rattle.corr_model.specs.declared.verdict.Ending.{Ending}
use Rattle.corr_model.specs.Streams.{ending, taken}
use Rattle.corr_model.specs.PacketVerdicts.{Report}
use Rattle.corr_model.specs.Visibilities.{Lists}
use Rattle.corr_model.proofs.StreamLawsTaken.{open_from_ending, taken_next}
use Rattle.corr_model.proofs.VerdictCounts.{length-packet_verdicts}
use Rattle.corr_site.specs.Outside.{NextGives, GaveAll}
use Rattle.corr_site.specs.declared.answers.Next.TheVariants as next
use Rattle.stream_feed.specs.Feeding.{FeedState, is_said}
use Rattle.vis_send.specs.declared.tally.Sent.{Sent}
use Rattle.vis_send.specs.Emitters.{Strings}
use Rattle.vis_send.specs.Sending.{SendsWhole}
use Rattle.corr_machine.specs.Machines.{StreamState, State, Event, Packet, End, new_stream, stream_at, stream_floor, with_stream, with_string, is_ready, enabled, effect, step, IsProper}
use Rattle.corr_machine.specs.Runs.{OutputHeaps, appended_by, strings_of, FitsLists}
use Rattle.corr_machine.proofs.Proper.{each_stream}
use Rattle.corr_machine.proofs.SentLaws.{step_before}
use Rattle.corr_core.specs.Parts.{PartsView, feed_in}
use Rattle.corr_core.specs.Standing.{StandFor}
use Rattle.corr_core.specs.Sends.{value_with}
use Rattle.corr_core.specs.Cores.{CoreView, EndsByString, EndsAsSaid, end_of, has_failed, has_moved}
use Rattle.corr_core.specs.declared.event.Stepped.{Stepped}
use Rattle.corr_core.specs.declared.event.Stepped.TheVariants.{Moved, Idle, Failed}
use Rattle.corr_serial.specs.Sources.{KeepsSource, RisesIf}
use Rattle.corr_serial.specs.Hearing.{is_fault, is_over, left, IsFront}
use Rattle.corr_serial.specs.Rounds.{AllFree, stream_left}
use Rattle.corr_serial.specs.Going.{ValuesOf, IsOwn, IsAt, Listens, AreListened, ListensOn, HearsNext}
use Rattle.corr_serial.proofs.HearLemmas.{own_is_no_fault, given_more, told_given}
use Rattle.corr_serial.proofs.SetLemmas.{cases_same, read_at}
use Rattle.corr_serial.proofs.SourceLemmas.{keeps_set}
use Rattle.corr_serial.proofs.StepLemmas.{Turned, own_after, proper_at, feed_there, quiet_moved}

-- ---- of a source

-- no count rose while the stream went on
calm_open : (o : Option Ending) (before now : ℕ) → o ≡ None → RisesIf (is_fault o) before now → now ≡ before
calm_open o before now e h = subst (λ o. RisesIf (is_fault o) before now) e h

pub listens_string : (gives : Option (List (List ℕ))) (given now faults later len : ℕ) (buf b : List ℕ)
    (o p : Option Ending) (l : List (List ℕ)) → o ≡ None → is_said p ≡ false
    → NextGives gives given now buf (next.Packet len) → b ≡ take len buf → later ≡ faults
    → (first fault : ℕ) → Listens gives first given fault faults o l
    → Listens gives first now fault later p (l ++ b ∷ [])
listens_string gives given now faults later len buf b o p l goes_on own next' front cause first fault h = record {
  told = λ all told none.
      given_more all l given now b o p (h.told all told none)
      (told_given gives all given now len buf b told next' front) own;
  cause = subst (λ c. RisesIf c fault later) (sym (own_is_no_fault p own))
      (cause ∙ calm_open o fault faults goes_on h.cause);
}

pub listens_end : (gives : Option (List (List ℕ))) (given now faults later : ℕ) (o p : Option Ending) (how : Ending)
    (l : List (List ℕ)) → o ≡ None → p ≡ Some how
    → ((all : List (List ℕ)) → gives ≡ Some all → GaveAll all given now) → RisesIf (is_fault (Some how)) faults later
    → (first fault : ℕ) → Listens gives first given fault faults o l → Listens gives first now fault later p l
listens_end gives given now faults later o p how l goes_on said ends cause first fault h = record {
  told = λ all told none.
      let front = h.told all told none in
      let gave = ends all told in
      record {
        front = front.front ∙ ap (λ n. take n all) (sym gave.kept);
        within = let kept = gave.kept in let low = front.within in omega arith;
        whole = λ e. gave.kept ∙ gave.all;
      };
  cause = subst (λ o. RisesIf (is_fault o) fault later) (sym said)
      (subst (λ n. RisesIf (is_fault (Some how)) n later) (calm_open o fault faults goes_on h.cause) cause);
}

-- one source of a list was read
pub listened_set : {S : Type 0} (gives : S → Option (List (List ℕ))) (given faults : S → ℕ) (plan : Plan)
    (start now : List S) (old new : PartsView) (state next : State) (i : ℕ) (x y : S)
    → i < plan.antennas → i < length now → x ≡ get_or now i x → gives y ≡ gives x
    → ((first fault : ℕ) → Listens (gives x) first (given x) fault (faults x) (end_of old i) (strings_of state i)
    → Listens (gives x) first (given y) fault (faults y) (end_of new i) (strings_of next i))
    → ((b : ℕ) → b < plan.antennas → b ≢ i → end_of new b ≡ end_of old b)
    → ((b : ℕ) → b ≢ i → strings_of next b ≡ strings_of state b)
    → AreListened gives given faults plan start now old state
    → AreListened gives given faults plan start (set now i y) new next
listened_set gives given faults plan start now old new state next i x y few within is same on other_ends
    other_strings h = record {
      as_many = h.as_many ∙ sym (length-set now i y);
      same_gives = keeps_set start now i x y within is gives same h.same_gives;
      each = λ a s lt. elim (cases_same a i) [
        | inl e ↦
            let z = get_or start i s in
            let read = read_at now i x s within is in
            let told = ap gives (sym read) ∙ h.same_gives.each i s in
            let base = subst (λ o.
            Listens o (given z) (given (get_or now i s)) (faults z) (faults (get_or now i s)) (end_of old i)
            (strings_of state i)) (sym told) (h.each i s few) in
            let here = on (given z) (faults z)
            (subst (λ u. Listens (gives x) (given z) (given u) (faults z) (faults u) (end_of old i)
            (strings_of state i)) read base) in
            let there = subst (λ o. Listens o (given z) (given y) (faults z) (faults y) (end_of new i) (strings_of next i))
            told here in
            subst (λ k. Listens (gives (get_or start k s)) (given (get_or start k s)) (given (get_or (set now i y) k s))
            (faults (get_or start k s)) (faults (get_or (set now i y) k s)) (end_of new k) (strings_of next k)) (sym e)
            (subst (λ u. Listens (gives z) (given z) (given u) (faults z) (faults u) (end_of new i) (strings_of next i))
            (sym (get_or-set_same now i y s within)) there)
        | inr apart ↦
            let z = get_or start a s in
            subst (λ u. Listens (gives z) (given z) (given u) (faults z) (faults u) (end_of new a) (strings_of next a))
            (sym (get_or-set_other now i a y s apart))
            (subst (λ o. Listens (gives z) (given z) (given (get_or now a s)) (faults z) (faults (get_or now a s)) o
            (strings_of next a)) (sym (other_ends a lt apart))
            (subst (λ l. Listens (gives z) (given z) (given (get_or now a s)) (faults z) (faults (get_or now a s))
            (end_of old a) l) (sym (other_strings a apart)) (h.each a s lt)))
      ];
    }

-- ---- of the state

none_from : {A : Type 0} (o : Option A) → is_some o ≡ false → o ≡ None
none_from None h = refl
none_from (Some x) h = absurd cc

open_none : (plan : Plan) (state : State) (a : ℕ) → IsProper plan state → a < plan.antennas
    → (stream_at state a).ended ≡ false → ending plan (strings_of state a) ≡ None
open_none plan state a h few still =
    none_from (ending plan (strings_of state a))
    (false_from_ne_true (is_some (ending plan (strings_of state a)))
    (λ e. let over = sym still ∙ (h.stream a few).ended e in cc))

-- a stream that is ready has not ended
ready_open : (plan : Plan) (a : ℕ) (x : StreamState) → is_ready plan a x ≡ true → x.ended ≡ false
ready_open plan a x ready = not-true x.ended (and_parts (not x.ended) (eqb x.put (stream_floor plan a x)) ready).0

-- the stream of an antenna changed, but not its count of columns put
pub stream_at_turn : {B E : Type 0} (value : ValuesOf B) (plan : Plan) (backend : B) (old now : CoreView B E)
    (number turn : ℕ) (state : State) (a : ℕ) (y : StreamState) → IsAt value plan backend old number turn state
    → a < plan.antennas
    → y.put ≡ (stream_at state a).put → taken plan y.strings ≡ y.strings → IsOwn plan backend now
    → StandFor (value_with (value backend) plan) now.parts (with_stream state a y)
    → IsAt value plan backend now number turn (with_stream state a y)
stream_at_turn value plan backend old now number turn state a y h few put counts own stands =
    let proper = proper_at (value_with (value backend) plan) plan old state h.own.same_plan h.stands_for in
    let inside : a < length state.streams = let many = proper.stream_count in omega (arith, few, many) in
    record {
      own = own;
      stands_for = stands;
      number_is = h.number_is;
      put_before = each_stream state a y (λ b z. b < turn → b < plan.antennas → z.put ≡ number + 1) inside
          (λ low lt. put ∙ h.put_before a low lt) (λ b apart. h.put_before b);
      put_rest = each_stream state a y (λ b z. turn ≤ b → b < plan.antennas → z.put ≡ number) inside
          (λ high lt. put ∙ h.put_rest a high lt) (λ b apart. h.put_rest b);
      free = h.free;
      counts = each_stream state a y (λ b z. b < plan.antennas → taken plan z.strings ≡ z.strings) inside (λ lt. counts)
          (λ b apart. h.counts b);
    }

other_streams : (state : State) (a : ℕ) (y : StreamState) (b : ℕ) → b ≢ a
    → (stream_at (with_stream state a y) b).strings ≡ (stream_at state b).strings
other_streams state a y b apart =
    ap (λ (x : StreamState). x.strings) (get_or-set_other state.streams a b y new_stream apart)

same_stream : (plan : Plan) (state : State) (a : ℕ) (y : StreamState) → IsProper plan state → a < plan.antennas
    → stream_at (with_stream state a y) a ≡ y
same_stream plan state a y h few =
    get_or-set_same state.streams a y new_stream (let many = h.stream_count in omega (arith, few, many))

-- the streams that had ended have ended
still_over : (plan : Plan) (state : State) (a : ℕ) (y : StreamState) → IsProper plan state → a < plan.antennas
    → (stream_at state a).ended ≡ false
    → (b : ℕ) → b < plan.antennas → (stream_at state b).ended ≡ true
    → (stream_at (with_stream state a y) b).ended ≡ true
still_over plan state a y h few still =
    each_stream state a y (λ b z. b < plan.antennas → (stream_at state b).ended ≡ true → z.ended ≡ true)
    (let many = h.stream_count in omega (arith, few, many)) (λ lt ended. absurd (let is = sym still ∙ ended in cc))
    (λ b apart lt ended. ended)

left_open : (plan : Plan) (x : StreamState) → x.ended ≡ false
    → stream_left plan x ≡ plan.packet_limit - length x.strings
left_open plan x e = ap (λ b. cond b 0 (plan.packet_limit - length x.strings)) e

-- one string less, or none left
less_by_string : (ended : Bool) (limit taken now : ℕ) → taken < limit → now ≡ taken + 1
    → cond ended 0 (limit - now) < limit - taken
less_by_string false limit taken now h e = omega arith
less_by_string true limit taken now h e = omega arith

-- the end that a feed of the core has, and that its stream has not ended
pub end_open : {B E : Type 0} (value : ValuesOf B) (plan : Plan) (backend : B) (core : CoreView B E) (number turn : ℕ)
    (state : State) (a : ℕ) → IsAt value plan backend core number turn state → a < plan.antennas
    → (stream_at state a).ended ≡ false → end_of core.parts a ≡ None
end_open value plan backend core number turn state a h few still =
    let low : a < core.parts.plan.antennas = let same =
    ap (λ (k : Plan). k.antennas) h.own.same_plan in omega (arith, few, same) in
    none_from (end_of core.parts a) ((h.stands_for.stands_for.stream a low).ended ∙ still)

-- how much is left of a stream, as its feed counts it
pub left_is : {B E : Type 0} (value : ValuesOf B) (plan : Plan) (backend : B) (core : CoreView B E) (number turn : ℕ)
    (state : State) (a : ℕ) → IsAt value plan backend core number turn state → a < plan.antennas
    → left (feed_in core.parts a) ≡ stream_left plan (stream_at state a)
left_is value plan backend core number turn state a h few =
    let p = core.parts in
    let f = feed_in p a in
    let l = strings_of state a in
    let low : a < p.plan.antennas = let same =
    ap (λ (k : Plan). k.antennas) h.own.same_plan in omega (arith, few, same) in
    let stands = h.stands_for.feeds a low in
    let own = h.stands_for.plans a low ∙ h.own.same_plan in
    let count : f.report.taken ≡ length l =
    ap (λ (r : Report). r.taken) stands.report_is ∙ length-packet_verdicts f.columns.plan f.columns.antenna l ∙ ap
    (λ k. length (taken k l)) own ∙ ap length (h.counts a few) in
    ap (λ b. cond b 0 (f.columns.plan.packet_limit - f.report.taken)) (h.stands_for.stands_for.stream a low).ended
    ∙ ap (λ (k : Plan). cond (stream_at state a).ended 0 (k.packet_limit - f.report.taken)) own
    ∙ ap (λ n. cond (stream_at state a).ended 0 (plan.packet_limit - n)) count

module _ {B E : Type 0} (value : ValuesOf B) (strings : Strings) (plan : Plan) (backend : B) (old now : CoreView B E)
    (number turn : ℕ) (state : State) (a : ℕ) (gives : Option (List (List ℕ))) (given given_now faults faults_now : ℕ)
    (before after : Option (List (List ℕ))) (sent_before sent : Sent)
    (h : IsAt value plan backend old number turn state) (few : a < plan.antennas)
    (ready : is_ready plan a (stream_at state a) ≡ true)
    (plan_is : now.parts.plan ≡ old.parts.plan) (backend_is : now.backend ≡ old.backend) where
  ready_proper : IsProper plan state
  ready_proper = proper_at (value_with (value backend) plan) plan old state h.own.same_plan h.stands_for

  ready_still : (stream_at state a).ended ≡ false
  ready_still = ready_open plan a (stream_at state a) ready

  ready_can : (e : Event) → enabled plan state e ≡ (ltb a plan.antennas && is_ready plan a (stream_at state a))
      → enabled plan state e ≡ true
  ready_can e is = is ∙ and_from (ltb a plan.antennas) (is_ready plan a (stream_at state a))
      (lt-ltb a plan.antennas few) ready

  fits_before : (e : Event) → enabled plan state e ≡ (ltb a plan.antennas && is_ready plan a (stream_at state a))
      → (all : Lists) → FitsLists plan (effect plan state e) all → FitsLists plan state all
  fits_before e is all fits =
      step_before plan state all e ready_proper
      (subst (λ s. FitsLists plan s all)
      (sym (cond-true (enabled plan state e) (effect plan state e) state (ready_can e is))) fits)

  ready_feed : a < length old.parts.feeds
  ready_feed = feed_there (value_with (value backend) plan) plan old.parts state a h.own.same_plan h.stands_for few

  ready_none : end_of old.parts a ≡ None
  ready_none = end_open value plan backend old number turn state a h few ready_still

  pub string_on : (bytes buf : List ℕ) (len : ℕ) (answer : Stepped) → now.failed ≡ has_failed old.failed answer
      → Turned (value_with (value backend) plan) strings plan now.parts state (Packet a bytes) before after sent_before
      sent answer → answer ≢ Failed → EndsByString old.parts now.parts a (has_moved answer)
      → NextGives gives given given_now buf (next.Packet len) → bytes ≡ take len buf → faults_now ≡ faults
      → ListensOn value plan backend old now number turn state a gives given given_now faults faults_now before after
      sent_before sent
  string_on bytes buf len Failed failed t not_failed ends next' front cause = absurd (not_failed refl)
  string_on bytes buf len Idle failed t not_failed ends next' front cause =
      absurd (elim t.gives.cannot
      [ inl was ↦ cc | inr off ↦ (let on = sym off ∙ ready_can (Packet a bytes) refl in cc) ])
  string_on bytes buf len Moved failed t not_failed ends next' front cause =
      let x = stream_at state a in
      let y = with_string plan bytes x in
      let none = open_none plan state a ready_proper few ready_still in
      let here = same_stream plan state a y ready_proper few in
      let low = (open_from_ending plan x.strings none).1 in
      let more = length_push x.strings bytes in
      record {
        next = with_stream state a y;
        at = stream_at_turn value plan backend old now number turn state a y h few refl
            (taken_next plan x.strings bytes none)
            (own_after plan backend old now Moved h.own plan_is backend_is failed not_failed) t.stands_for;
        fits = λ all fits. fits_before (Packet a bytes) refl all fits;
        over = still_over plan state a y ready_proper few ready_still;
        sends = λ all fits.
            quiet_moved (value_with (value backend) plan) strings plan now.parts state (Packet a bytes) before after
            sent_before sent all (λ heaps n. refl) t (fits_before (Packet a bytes) refl all fits);
        less = subst (λ (z : StreamState). stream_left plan z < stream_left plan x) (sym here)
            (subst (λ n. stream_left plan y < n) (sym (left_open plan x ready_still))
            (less_by_string y.ended plan.packet_limit (length x.strings) (length y.strings) low more));
        heard = λ first fault k.
            subst (λ (z : StreamState). Listens gives first given_now fault faults_now (end_of now.parts a) z.strings)
            (sym here)
            (listens_string gives given given_now faults faults_now len buf bytes (end_of old.parts a)
            (end_of now.parts a) x.strings ready_none (ends.0 ready_feed) next' front cause first fault k);
        other_ends = λ b lt apart.
            ends.1 b (feed_there (value_with (value backend) plan) plan old.parts state b h.own.same_plan
            h.stands_for lt) apart;
        other_strings = λ b apart. other_streams state a y b apart;
      }

  pub end_on : (how : Ending) (answer : Stepped) → now.failed ≡ has_failed old.failed answer
      → Turned (value_with (value backend) plan) strings plan now.parts state (End a) before after sent_before sent
      answer → answer ≢ Failed → EndsAsSaid old.parts now.parts a how (has_moved answer)
      → ((all : List (List ℕ)) → gives ≡ Some all → GaveAll all given given_now)
      → RisesIf (is_fault (Some how)) faults faults_now
      → ListensOn value plan backend old now number turn state a gives given given_now faults faults_now before after
      sent_before sent
  end_on how Failed failed t not_failed ends gave cause = absurd (not_failed refl)
  end_on how Idle failed t not_failed ends gave cause =
      absurd (elim t.gives.cannot [ inl was ↦ cc | inr off ↦ (let on = sym off ∙ ready_can (End a) refl in cc) ])
  end_on how Moved failed t not_failed ends gave cause =
      let x = stream_at state a in
      let y : StreamState = record x { ended = true } in
      let none = open_none plan state a ready_proper few ready_still in
      let here = same_stream plan state a y ready_proper few in
      let low = (open_from_ending plan x.strings none).1 in
      let some : 0 < plan.packet_limit - length x.strings = omega (arith, low) in
      record {
        next = with_stream state a y;
        at = stream_at_turn value plan backend old now number turn state a y h few refl (h.counts a few)
            (own_after plan backend old now Moved h.own plan_is backend_is failed not_failed) t.stands_for;
        fits = λ all fits. fits_before (End a) refl all fits;
        over = still_over plan state a y ready_proper few ready_still;
        sends = λ all fits. quiet_moved (value_with (value backend) plan) strings plan now.parts state (End a) before
            after sent_before sent all (λ heaps n. refl) t (fits_before (End a) refl all fits);
        less = subst (λ (z : StreamState). stream_left plan z < stream_left plan x) (sym here)
            (subst (λ n. 0 < n) (sym (left_open plan x ready_still)) some);
        heard = λ first fault k.
            subst (λ (z : StreamState). Listens gives first given_now fault faults_now (end_of now.parts a) z.strings)
            (sym here)
            (listens_end gives given given_now faults faults_now (end_of old.parts a) (end_of now.parts a) how x.strings
            ready_none (ends.0 ready_feed) gave cause first fault k);
        other_ends = λ b lt apart.
            ends.1 b (feed_there (value_with (value backend) plan) plan old.parts state b h.own.same_plan
            h.stands_for lt) apart;
        other_strings = λ b apart. other_streams state a y b apart;
      }

-- among the sources of a run
pub hears_among : {B E S : Type 0} (value : ValuesOf B) (gives : S → Option (List (List ℕ))) (given faults : S → ℕ)
    (plan : Plan) (backend : B) (sources : List S) (x y : S) (old now : CoreView B E) (number turn : ℕ) (state : State)
    (a : ℕ) (before after : Option (List (List ℕ))) (sent_before sent : Sent)
    → a < plan.antennas → a < length sources → x ≡ get_or sources a x → gives y ≡ gives x
    → ListensOn value plan backend old now number turn state a (gives x) (given x) (given y) (faults x) (faults y)
    before after sent_before sent
    → HearsNext value gives given faults plan backend sources (set sources a y) old now number turn state a before after
    sent_before sent
hears_among value gives given faults plan backend sources x y old now number turn state a before after sent_before sent
    few within is same h = record {
      goes = record {
        next = h.next;
        at = h.at;
        fits = h.fits;
        over = h.over;
        listened = λ start k.
            listened_set gives given faults plan start sources old.parts now.parts state h.next a x y few within is same
            h.heard h.other_ends h.other_strings k;
        sends = h.sends;
      };
      less = h.less;
    }

-- an antenna of the core's plan
pub few_in : {B E : Type 0} (value : ValuesOf B) (plan : Plan) (backend : B) (core : CoreView B E) (number turn : ℕ)
    (state : State) (a : ℕ) → IsAt value plan backend core number turn state → a < core.parts.plan.antennas
    → a < plan.antennas
few_in value plan backend core number turn state a h low =
    let same = ap (λ (k : Plan). k.antennas) h.own.same_plan in omega (arith, low, same)
