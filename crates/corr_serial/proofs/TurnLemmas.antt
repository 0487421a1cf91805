-- A stream puts its column, and an accumulation passes.
use Rattle.std.proofs.Common.{◌≡◌, ◌≢◌, ℕ, ◌+◌, ◌%◌, ◌<◌, ◌≤◌, ℤ, Bool, true, false, cond, List, [], ◌∷◌, ◌++◌, length, get_or, set, Option, refl, sym, ap, ◌∙◌, subst, inl, inr, arith, append-nil}
use Rattle.std.proofs.lemmas.List.{get_or-set_same, get_or-set_other}
use Rattle.std.proofs.lemmas.Bool.{cond-true, cond-false}
use Rattle.corr_model.specs.declared.plan.Plan.{Plan}
use Rattle.corr_model.specs.Streams.{taken}
use Rattle.corr_model.specs.Visibilities.{Lists}
use Rattle.vis_send.specs.declared.tally.Sent.{Sent}
use Rattle.vis_send.specs.Emitters.{Strings}
use Rattle.vis_send.specs.Sending.{SendsWhole, SendsFront}
use Rattle.vis_send.proofs.TallyLemmas.{whole_more, front_more}
use Rattle.corr_machine.specs.Machines.{StreamState, State, Event, Put, Take, Store, Send, new_stream, stream_at, is_ready, enabled, effect, step, IsProper}
use Rattle.corr_machine.specs.Runs.{OutputHeaps, appends, sent_with, strings_of, FitsLists, StreamFits}
use Rattle.corr_machine.proofs.Places.{set_each}
use Rattle.corr_core.specs.Parts.{PartsView}
use Rattle.corr_core.specs.Standing.{StandFor}
use Rattle.corr_core.specs.Sends.{value_with, heaps_by}
use Rattle.corr_core.specs.Cores.{CoreView, Steps, KeepsEnds, end_of, has_failed, has_moved}
use Rattle.corr_core.specs.declared.event.Stepped.{Stepped}
use Rattle.corr_core.specs.declared.event.Stepped.TheVariants.{Moved, Idle, Failed}
use Rattle.corr_serial.specs.Rounds.{AllFree, AllPut, before_send, passed}
use Rattle.corr_serial.specs.Going.{ValuesOf, IsOwn, IsAt, IsSame, KeepsStreams, Stays, Waits, Puts, Breaks, part_of}
use Rattle.corr_serial.proofs.RoundLemmas.{passes, puts_or_ready}
use Rattle.corr_serial.proofs.StepLemmas.{Turned, turned, stands_as, quiet_step, own_after, proper_at, feed_there, some_slots, quiet_moved, quiet_idle, streams_fit, same_then}

-- the ends of the streams of a plan
pub ends_kept : {B E : Type 0} (value : ValuesOf B) (plan : Plan) (backend : B) (old : CoreView B E) (now : PartsView)
    (state : State) → old.parts.plan ≡ plan → StandFor (value_with (value backend) plan) old.parts state
    → KeepsEnds old.parts now → (a : ℕ) → a < plan.antennas → end_of now a ≡ end_of old.parts a
ends_kept value plan backend old now state same stands keeps a few =
    keeps a (feed_there (value_with (value backend) plan) plan old.parts state a same stands few)

-- a column put
put_changes : (plan : Plan) (state : State) (a : ℕ) → IsProper plan state → a < plan.antennas
    → (P : ℕ → StreamState → Type 0) → P a (record (stream_at state a) { put = (stream_at state a).put + 1 })
    → ((b : ℕ) → b ≢ a → P b (stream_at state b)) → (b : ℕ) → P b (stream_at (effect plan state (Put a)) b)
put_changes plan state a h few P here there =
    set_each P state.streams a (record (stream_at state a) { put = (stream_at state a).put + 1 }) new_stream
    (let many = h.stream_count in omega (arith, few, many)) here there

pub put_turn : {B E : Type 0} (value : ValuesOf B) (strings : Strings) (plan : Plan) (backend : B)
    (old now : CoreView B E) (number a : ℕ) (state : State) (before after : Option (List (List ℕ)))
    (sent_before sent : Sent) (answer : Stepped)
    → IsAt value plan backend old number a state → a < plan.antennas → number < plan.accumulations
    → now.parts.plan ≡ old.parts.plan → now.backend ≡ old.backend → now.failed ≡ has_failed old.failed answer
    → Turned (value_with (value backend) plan) strings plan now.parts state (Put a) before after sent_before sent answer
    → answer ≢ Failed → KeepsEnds old.parts now.parts
    → Puts value plan backend old now number a state before after sent_before sent (has_moved answer)
put_turn value strings plan backend old now number a state before after sent_before sent Failed h few more plan_is
    backend_is failed t not_failed ends = absurd (not_failed refl)
put_turn value strings plan backend old now number a state before after sent_before sent Idle h few more plan_is
    backend_is failed t not_failed ends =
    let own = own_after plan backend old now Idle h.own plan_is backend_is failed not_failed in
    let proper = proper_at (value_with (value backend) plan) plan old state h.own.same_plan h.stands_for in
    let some = some_slots (value_with (value backend) plan) plan old.parts state h.own.same_plan h.stands_for in
    let put = h.put_rest a (omega arith) few in
    let same = h.number_is in
    record {
      stays = record {
        next = state;
        at = record {
          own = own;
          stands_for = t.stands_for;
          number_is = h.number_is;
          put_before = h.put_before;
          put_rest = h.put_rest;
          free = h.free;
          counts = h.counts;
        };
        keeps = record {
          same =
              λ b lt. record { strings = refl; ended = refl };
          ends = ends_kept value plan backend old now.parts state h.own.same_plan h.stands_for ends;
        };
        sends = λ all fits. quiet_idle (value_with (value backend) plan) strings plan now.parts state (Put a) before
            after sent_before sent t;
      };
      ready = elim (puts_or_ready plan state a some proper few (put ∙ sym same) (omega (arith, same, more))) [
        | inl can ↦ absurd (elim t.gives.cannot [ inl was ↦ cc | inr off ↦ (let on = sym off ∙ can in cc) ])
        | inr ready ↦ ready
      ];
    }
put_turn value strings plan backend old now number a state before after sent_before sent Moved h few more plan_is
    backend_is failed t not_failed ends =
    let own = own_after plan backend old now Moved h.own plan_is backend_is failed not_failed in
    let proper = proper_at (value_with (value backend) plan) plan old state h.own.same_plan h.stands_for in
    let next = effect plan state (Put a) in
    let put = h.put_rest a (omega arith) few in
    let keeps : KeepsStreams plan old.parts now.parts state next = record {
      same = λ b lt. put_changes plan state a proper few (λ c z. IsSame (stream_at state c) z)
          (record { strings = refl; ended = refl }) (λ c apart. record { strings = refl; ended = refl }) b;
      ends = ends_kept value plan backend old now.parts state h.own.same_plan h.stands_for ends;
    } in
    record {
      next = next;
      at = record {
        own = own;
        stands_for = t.stands_for;
        number_is = h.number_is;
        put_before = put_changes plan state a proper few (λ b z. b < a + 1 → b < plan.antennas → z.put ≡ number + 1)
            (λ low lt. ap (λ n. n + 1) put) (λ b apart low lt. h.put_before b (omega (arith, low, apart)) lt);
        put_rest = put_changes plan state a proper few (λ b z. a + 1 ≤ b → b < plan.antennas → z.put ≡ number)
            (λ high lt. absurd (omega (arith, high))) (λ b apart high lt. h.put_rest b (omega (arith, high)) lt);
        free = h.free;
        counts = put_changes plan state a proper few (λ b z. b < plan.antennas → taken plan z.strings ≡ z.strings)
            (λ lt. h.counts a lt) (λ b apart. h.counts b);
      };
      keeps = keeps;
      sends = λ all fits. quiet_moved (value_with (value backend) plan) strings plan now.parts state (Put a) before
          after sent_before sent all (λ heaps n. refl) t
          (streams_fit plan old.parts now.parts state next all keeps fits);
    }

-- ---- an accumulation passes

same_sent : (b : Bool) (s t : State) → s.sent ≡ t.sent → (cond b s t).sent ≡ t.sent
same_sent true s t e = e
same_sent false s t e = refl

same_streams : (b : Bool) (s t : State) → s.streams ≡ t.streams → (cond b s t).streams ≡ t.streams
same_streams true s t e = e
same_streams false s t e = refl

sent_before_is : (plan : Plan) (state : State) → (before_send plan state).sent ≡ state.sent
sent_before_is plan state =
    let first = step plan state (Take 0 (state.sent % plan.slots)) in
    same_sent (enabled plan first (Store 0)) (effect plan first (Store 0)) first refl
    ∙ same_sent (enabled plan state (Take 0 (state.sent % plan.slots)))
    (effect plan state (Take 0 (state.sent % plan.slots))) state refl

pub streams_taken : (plan : Plan) (state : State)
    → (step plan state (Take 0 (state.sent % plan.slots))).streams ≡ state.streams
streams_taken plan state =
    same_streams (enabled plan state (Take 0 (state.sent % plan.slots)))
    (effect plan state (Take 0 (state.sent % plan.slots))) state refl

pub streams_before : (plan : Plan) (state : State) → (before_send plan state).streams ≡ state.streams
streams_before plan state =
    let first = step plan state (Take 0 (state.sent % plan.slots)) in
    same_streams (enabled plan first (Store 0)) (effect plan first (Store 0)) first refl ∙ streams_taken plan state

-- where the streams are the same, so is what they fit
pub fits_same : (plan : Plan) (state next : State) (all : Lists) → next.streams ≡ state.streams
    → FitsLists plan next all → FitsLists plan state all
fits_same plan state next all same fits =
    subst (λ k. (a : ℕ) → a < plan.antennas → StreamFits plan (get_or k a new_stream) (all a)) same fits

keeps_same : (plan : Plan) (old now : PartsView) (state next : State) → next.streams ≡ state.streams
    → ((a : ℕ) → a < plan.antennas → end_of now a ≡ end_of old a) → KeepsStreams plan old now state next
keeps_same plan old now state next same ends = record {
  same = λ a few. record {
    strings = ap (λ k. (get_or k a new_stream).strings) same;
    ended = ap (λ k. (get_or k a new_stream).ended) same;
  };
  ends = ends;
}

module _ {B E : Type 0} (value : ValuesOf B) (strings : Strings) (plan : Plan) (backend : B)
    (old mid now : CoreView B E) (number : ℕ) (state : State) (before middle after : Option (List (List ℕ)))
    (first next last : Sent)
    (h : IsAt value plan backend old number plan.antennas state) (own : IsOwn plan backend mid)
    (sent : (all : Lists) → FitsLists plan state all → SendsWhole before middle first next [])
    (first_ends : (a : ℕ) → a < plan.antennas → end_of mid.parts a ≡ end_of old.parts a)
    (plan_is : now.parts.plan ≡ mid.parts.plan) (backend_is : now.backend ≡ mid.backend)
    (last_ends : (a : ℕ) → a < plan.antennas → end_of now.parts a ≡ end_of mid.parts a) where
  pass_proper : IsProper plan state
  pass_proper = proper_at (value_with (value backend) plan) plan old state h.own.same_plan h.stands_for

  pass_some : 0 < plan.slots
  pass_some = some_slots (value_with (value backend) plan) plan old.parts state h.own.same_plan h.stands_for

  all_put_at : AllPut plan state
  all_put_at a few = let n = h.number_is in let put = h.put_before a few few in omega (arith, n, put)

  pass_rest : (passed plan state).sent ≡ state.sent + 1
  pass_rest = (passes plan state pass_some pass_proper h.free all_put_at).sent

  pass_ends : (a : ℕ) → a < plan.antennas → end_of now.parts a ≡ end_of old.parts a
  pass_ends a few = last_ends a few ∙ first_ends a few

  -- what is sent
  part_is : (all : Lists) → enabled plan (before_send plan state) Send ≡ true
      → appends plan (heaps_by (value_with (value backend) plan) strings plan all) (before_send plan state) Send
      ≡ part_of value backend strings plan number all
  part_is all on =
      cond-true (enabled plan (before_send plan state) Send)
      (sent_with plan (heaps_by (value_with (value backend) plan) strings plan all) (before_send plan state).sent)
      [] on
      ∙ ap (sent_with plan (heaps_by (value_with (value backend) plan) strings plan all))
      (sent_before_is plan state ∙ h.number_is)

  pass_next : enabled plan (before_send plan state) Send ≡ true
      → effect plan (before_send plan state) Send ≡ passed plan state
  pass_next on = sym (cond-true (enabled plan (before_send plan state) Send) (effect plan (before_send plan state) Send)
      (before_send plan state) on)

  pass_streams : (passed plan state).streams ≡ state.streams
  pass_streams = same_streams (enabled plan (before_send plan state) Send) (effect plan (before_send plan state) Send)
      (before_send plan state) refl ∙ streams_before plan state

  pass_fits : (all : Lists) → FitsLists plan (passed plan state) all → FitsLists plan state all
  pass_fits all fits = fits_same plan state (passed plan state) all pass_streams fits

  fits_before_send : (all : Lists) → FitsLists plan state all → FitsLists plan (before_send plan state) all
  fits_before_send all fits = fits_same plan (before_send plan state) state all (sym (streams_before plan state)) fits

  pub pass_moved : now.failed ≡ has_failed mid.failed Moved
      → Turned (value_with (value backend) plan) strings plan now.parts (before_send plan state) Send middle after
      next last Moved
      → Stays value plan backend old now (number + 1) 0 state before after first last
      (part_of value backend strings plan number)
  pass_moved failed t =
      let rest = passes plan state pass_some pass_proper h.free all_put_at in
      let on = t.gives.can in
      let stream : (a : ℕ) → stream_at (passed plan state) a ≡ stream_at state a =
      λ a. ap (λ k. get_or k a new_stream) rest.streams in
      record {
        next = passed plan state;
        at = record {
          own = own_after plan backend mid now Moved own plan_is backend_is failed (λ e. absurd cc);
          stands_for = subst (StandFor (value_with (value backend) plan) now.parts) (pass_next on) t.stands_for;
          number_is = rest.sent ∙ ap (λ n. n + 1) h.number_is;
          put_before = λ a low. absurd (omega arith);
          put_rest = λ a high few. ap (λ (z : StreamState). z.put) (stream a) ∙ h.put_before a few few;
          free = rest.free;
          counts = λ a few. subst (λ (z : StreamState). taken plan z.strings ≡ z.strings) (sym (stream a))
              (h.counts a few);
        };
        keeps = keeps_same plan old.parts now.parts state (passed plan state) rest.streams pass_ends;
        sends = λ all fits.
            let was = pass_fits all fits in
            whole_more before middle after first next last [] (part_of value backend strings plan number all)
            (sent all was)
            (subst (SendsWhole middle after next last) (part_is all on)
            (t.gives.appended all (fits_before_send all was)));
      }

  pub pass_failed : Turned (value_with (value backend) plan) strings plan now.parts (before_send plan state) Send middle
      after next last Failed
      → Breaks value plan backend strings old now number state before after first last
  pass_failed t =
      let rest = passes plan state pass_some pass_proper h.free all_put_at in
      let on = t.gives.can in
      record {
        next = passed plan state;
        same_plan = plan_is ∙ own.same_plan;
        stands_for = subst (StandFor (value_with (value backend) plan) now.parts) (pass_next on) t.stands_for;
        keeps = keeps_same plan old.parts now.parts state (passed plan state) rest.streams pass_ends;
        front = λ all fits.
            let was = pass_fits all fits in
            let part = part_of value backend strings plan number all in
            front_more before middle after first next last [] part [] part (sent all was)
            (subst (SendsFront middle after next last) (part_is all on) (t.gives.front all (fits_before_send all was)))
            (sym (append-nil part));
      }

  pub pass_idle : {A : Type 0}
      → Turned (value_with (value backend) plan) strings plan now.parts (before_send plan state) Send middle after
      next last Idle → A
  pass_idle t = absurd (elim t.gives.cannot [
    | inl was ↦ cc
    | inr off ↦
        let rest = pass_rest in
        let same = ap (λ (k : State). k.sent)
        (cond-false (enabled plan (before_send plan state) Send) (effect plan (before_send plan state) Send)
        (before_send plan state) off) in
        let kept = sent_before_is plan state in
        omega (arith, rest, same, kept)
  ])

-- what holds before the next value is sent
pub record BeforeSend {B E : Type 0} (value : ValuesOf B) (plan : Plan) (backend : B) (old mid : CoreView B E)
    (state : State) (before middle : Option (List (List ℕ))) (first next : Sent) : Type 0 where
  pub own : IsOwn plan backend mid
  pub stands : StandFor (value_with (value backend) plan) mid.parts (before_send plan state)
  pub sent : (all : Lists) → FitsLists plan state all → SendsWhole before middle first next []
  pub ends : (a : ℕ) → a < plan.antennas → end_of mid.parts a ≡ end_of old.parts a

-- after the first work took a slot and stored its result
pub before_sending : {B E : Type 0} (value : ValuesOf B) (strings : Plan → Strings) (plan : Plan) (backend : B)
    (old one mid : CoreView B E) (number slot : ℕ) (state : State) (before between middle : Option (List (List ℕ)))
    (first second next : Sent) (took stored : Stepped)
    → IsAt value plan backend old number plan.antennas state → slot ≡ number % plan.slots
    → one.parts.plan ≡ old.parts.plan → one.backend ≡ old.backend → one.failed ≡ has_failed old.failed took
    → took ≢ Failed → KeepsEnds old.parts one.parts
    → ((s : State) → StandFor (value_with (value old.backend) old.parts.plan) old.parts s
    → Steps (value_with (value old.backend) old.parts.plan) (strings old.parts.plan) old.parts one.parts old.failed
    s (Take 0 slot) before between first second took)
    → mid.parts.plan ≡ one.parts.plan → mid.backend ≡ one.backend → mid.failed ≡ has_failed one.failed stored
    → stored ≢ Failed → KeepsEnds one.parts mid.parts
    → ((s : State) → StandFor (value_with (value one.backend) one.parts.plan) one.parts s
    → Steps (value_with (value one.backend) one.parts.plan) (strings one.parts.plan) one.parts mid.parts one.failed
    s (Store 0) between middle second next stored)
    → BeforeSend value plan backend old mid state before middle first next
before_sending value strings plan backend old one mid number slot state before between middle first second next took
    stored h there one_plan one_backend one_failed took_calm one_ends takes mid_plan mid_backend mid_failed stored_calm
    mid_ends stores =
    let place : slot ≡ state.sent % plan.slots = there ∙ ap (λ n. n % plan.slots) (sym h.number_is) in
    let own = own_after plan backend old one took h.own one_plan one_backend one_failed took_calm in
    let t = turned value strings plan backend old one.parts state (Take 0 slot) before between first second took h.own
    (takes state (stands_as value plan backend old state h.own h.stands_for)) in
    let took_it = quiet_step (value_with (value backend) plan) (strings plan) plan one.parts state (Take 0 slot) before
    between first second took took_calm (λ heaps n. refl) t in
    let middle_state = step plan state (Take 0 (state.sent % plan.slots)) in
    let stood = subst (λ s. StandFor (value_with (value backend) plan) one.parts (step plan state (Take 0 s)))
    place took_it.0 in
    let u = turned value strings plan backend one mid.parts middle_state (Store 0) between middle second next stored own
    (stores middle_state (stands_as value plan backend one middle_state own stood)) in
    let stored_it = quiet_step (value_with (value backend) plan) (strings plan) plan mid.parts middle_state (Store 0)
    between middle second next stored stored_calm (λ heaps n. refl) u in
    record {
      own = own_after plan backend one mid stored own mid_plan mid_backend mid_failed stored_calm;
      stands = stored_it.0;
      sent = λ all fits.
          whole_more before between middle first second next [] [] (took_it.1 all fits)
          (stored_it.1 all (fits_same plan middle_state state all (sym (streams_taken plan state)) fits));
      ends = λ a few.
          ends_kept value plan backend one mid.parts middle_state own.same_plan stood mid_ends a few ∙ ends_kept value
          plan backend old one.parts state h.own.same_plan h.stands_for one_ends a few;
    }
