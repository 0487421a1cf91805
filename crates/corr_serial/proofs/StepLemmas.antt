-- One step of a core of a run.
use Rattle.std.proofs.Common.{◌≡◌, ◌≢◌, ℕ, ◌+◌, ◌-◌, ◌<◌, ◌≤◌, ℤ, Bool, true, false, cond, List, [], ◌∷◌, ◌++◌, length, take, get_or, set, Option, Some, None, refl, sym, ap, ◌∙◌, subst, inl, inr, arith}
use Rattle.std.proofs.lemmas.Bool.{cond-true, cond-false}
use Rattle.corr_model.specs.declared.plan.Plan.{Plan}
use Rattle.corr_model.specs.Streams.{taken}
use Rattle.corr_model.specs.Visibilities.{Lists}
use Rattle.vis_send.specs.declared.tally.Sent.{Sent}
use Rattle.vis_send.specs.Emitters.{Strings}
use Rattle.vis_send.specs.Sending.{SendsWhole}
use Rattle.vis_send.proofs.TallyLemmas.{none_sent, whole_more}
use Rattle.corr_machine.specs.Machines.{StreamState, State, Event, Send, stream_at, enabled, effect, step, IsProper}
use Rattle.corr_machine.specs.Runs.{OutputHeaps, appended_by, appends, strings_of, StreamFits, FitsLists}
use Rattle.corr_machine.proofs.SentLaws.{step_before}
use Rattle.corr_core.specs.Parts.{PartsView}
use Rattle.corr_core.specs.Standing.{Value, StandFor}
use Rattle.corr_core.specs.Sends.{value_with, heaps_by}
use Rattle.corr_core.specs.Cores.{CoreView, Steps, StepGives, StepHasCause, state_after, end_of, has_failed}
use Rattle.corr_core.specs.declared.event.Stepped.{Stepped}
use Rattle.corr_core.specs.declared.event.Stepped.TheVariants.{Moved, Idle, Failed}
use Rattle.corr_serial.specs.Going.{ValuesOf, IsOwn, IsAt, AreListened, Listens, Goes, IsSame, KeepsStreams, Stays}

-- a step of a core that has not failed, by its answer
pub record Turned (value : Value) (strings : Strings) (plan : Plan) (now : PartsView) (state : State) (e : Event)
    (before after : Option (List (List ℕ))) (sent_before sent : Sent) (answer : Stepped) : Type 0 where
  pub stands_for : StandFor value now (state_after plan state e answer)
  pub gives : StepGives value strings plan false state e before after sent_before sent answer

-- for a state of another plan and back end that are the same
pub stands_as : {B E : Type 0} (value : ValuesOf B) (plan : Plan) (backend : B) (core : CoreView B E) (state : State)
    → IsOwn plan backend core → StandFor (value_with (value backend) plan) core.parts state
    → StandFor (value_with (value core.backend) core.parts.plan) core.parts state
stands_as value plan backend core state own h =
    subst (λ p. StandFor (value_with (value core.backend) p) core.parts state) (sym own.same_plan)
    (subst (λ b. StandFor (value_with (value b) plan) core.parts state) (sym own.same_backend) h)

pub turned : {B E : Type 0} (value : ValuesOf B) (strings : Plan → Strings) (plan : Plan) (backend : B)
    (old : CoreView B E) (now : PartsView) (state : State) (e : Event) (before after : Option (List (List ℕ)))
    (sent_before sent : Sent) (answer : Stepped)
    → IsOwn plan backend old
    → Steps (value_with (value old.backend) old.parts.plan) (strings old.parts.plan) old.parts now old.failed state e
    before after sent_before sent answer
    → Turned (value_with (value backend) plan) (strings plan) plan now state e before after sent_before sent answer
turned value strings plan backend old now state e before after sent_before sent answer own h =
    subst (λ b. Turned (value_with (value b) plan) (strings plan) plan now state e before after sent_before sent answer)
    own.same_backend
    (subst (λ p. Turned (value_with (value old.backend) p) (strings p) p now state e before after sent_before sent
    answer) own.same_plan
    (record {
      stands_for = h.stands_for;
      gives = subst (λ f. StepGives (value_with (value old.backend) old.parts.plan) (strings old.parts.plan)
          old.parts.plan f state e before after sent_before sent answer) own.calm h.gives;
    }))

-- the core after a step that did not fail
pub own_after : {B E : Type 0} (plan : Plan) (backend : B) (old now : CoreView B E) (answer : Stepped)
    → IsOwn plan backend old → now.parts.plan ≡ old.parts.plan → now.backend ≡ old.backend
    → now.failed ≡ has_failed old.failed answer → answer ≢ Failed → IsOwn plan backend now
own_after plan backend old now Failed own plan_is backend_is failed not_failed = absurd (not_failed refl)
own_after plan backend old now Moved own plan_is backend_is failed not_failed =
    record {
      same_plan = plan_is ∙ own.same_plan;
      same_backend = backend_is ∙ own.same_backend;
      calm = failed ∙ own.calm;
    }
own_after plan backend old now Idle own plan_is backend_is failed not_failed =
    record {
      same_plan = plan_is ∙ own.same_plan;
      same_backend = backend_is ∙ own.same_backend;
      calm = failed ∙ own.calm;
    }

-- and its sink
pub calm_after : (before now : ℕ) (answer : Stepped) → answer ≢ Failed → StepHasCause before now answer → now ≡ before
calm_after before now Failed not_failed h = absurd (not_failed refl)
calm_after before now Moved not_failed h = h
calm_after before now Idle not_failed h = h

-- the state that a core stands for is proper, and its feeds are as many as antennas
pub proper_at : {B E : Type 0} (value : Value) (plan : Plan) (core : CoreView B E) (state : State)
    → core.parts.plan ≡ plan → StandFor value core.parts state → IsProper plan state
proper_at value plan core state same h = subst (λ p. IsProper p state) same h.stands_for.proper

pub feed_there : (value : Value) (plan : Plan) (p : PartsView) (state : State) (a : ℕ) → p.plan ≡ plan
    → StandFor value p state → a < plan.antennas → a < length p.feeds
feed_there value plan p state a same h few =
    let many = h.stands_for.feed_count in
    let most = ap (λ (k : Plan). k.antennas) same in
    omega (arith, many, most, few)

pub some_slots : (value : Value) (plan : Plan) (p : PartsView) (state : State) → p.plan ≡ plan → StandFor value p state
    → 0 < plan.slots
some_slots value plan p state same h = subst (λ (k : Plan). 0 < k.slots) same h.some

none_appended : (b : Bool) (l : List (List ℕ)) → l ≡ [] → cond b l [] ≡ []
none_appended true l e = e
none_appended false l e = refl

-- where an event that appends nothing moved, nothing was sent
pub quiet_moved : (value : Value) (strings : Strings) (plan : Plan) (now : PartsView) (state : State) (e : Event)
    (before after : Option (List (List ℕ))) (sent_before sent : Sent) (all : Lists)
    → ((heaps : OutputHeaps) (n : ℕ) → appended_by plan heaps n e ≡ [])
    → Turned value strings plan now state e before after sent_before sent Moved → FitsLists plan state all
    → SendsWhole before after sent_before sent []
quiet_moved value strings plan now state e before after sent_before sent all none t fits =
    subst (SendsWhole before after sent_before sent)
    (none_appended (enabled plan state e) _ (none (heaps_by value strings plan all) state.sent))
    (t.gives.appended all fits)

-- so where it was idle
pub quiet_idle : (value : Value) (strings : Strings) (plan : Plan) (now : PartsView) (state : State) (e : Event)
    (before after : Option (List (List ℕ))) (sent_before sent : Sent)
    → Turned value strings plan now state e before after sent_before sent Idle
    → SendsWhole before after sent_before sent []
quiet_idle value strings plan now state e before after sent_before sent t =
    subst (λ o. SendsWhole before o sent_before sent []) (sym t.gives.same)
    (subst (λ s. SendsWhole before before sent_before s []) (sym t.gives.same_sent) (none_sent before sent_before))

-- an event that appends nothing: the core stands for the machine's next state
pub quiet_step : (value : Value) (strings : Strings) (plan : Plan) (now : PartsView) (state : State) (e : Event)
    (before after : Option (List (List ℕ))) (sent_before sent : Sent) (answer : Stepped) → answer ≢ Failed
    → ((heaps : OutputHeaps) (n : ℕ) → appended_by plan heaps n e ≡ [])
    → Turned value strings plan now state e before after sent_before sent answer
    → StandFor value now (step plan state e)
    × ((all : Lists) → FitsLists plan state all → SendsWhole before after sent_before sent [])
quiet_step value strings plan now state e before after sent_before sent Failed not_failed none t =
    absurd (not_failed refl)
quiet_step value strings plan now state e before after sent_before sent Moved not_failed none t = (
  subst (StandFor value now)
      (sym (cond-true (enabled plan state e) (effect plan state e) state t.gives.can)) t.stands_for,
  λ all fits. quiet_moved value strings plan now state e before after sent_before sent all none t fits,
)
quiet_step value strings plan now state e before after sent_before sent Idle not_failed none t =
    let off : enabled plan state e ≡ false = elim t.gives.cannot [ inl was ↦ absurd cc | inr off ↦ off ] in (
      subst (StandFor value now) (sym (cond-false (enabled plan state e) (effect plan state e) state off)) t.stands_for,
      λ all fits. quiet_idle value strings plan now state e before after sent_before sent t,
    )

-- a stream that fits a list fits it as it was, where its strings and its end are the same
pub same_fits : (plan : Plan) (x y : StreamState) (l : List (List ℕ)) → IsSame x y → StreamFits plan y l
    → StreamFits plan x l
same_fits plan x y l same h = record {
  first = sym same.strings ∙ h.first ∙ ap (λ (s : List (List ℕ)). take (length s) (taken plan l)) same.strings;
  all = λ over. sym same.strings ∙ h.all (same.ended ∙ over);
}

pub streams_fit : (plan : Plan) (old now : PartsView) (state next : State) (all : Lists)
    → KeepsStreams plan old now state next → FitsLists plan next all → FitsLists plan state all
streams_fit plan old now state next all keeps fits a few =
    same_fits plan (stream_at state a) (stream_at next a) (all a) (keeps.same a few) (fits a few)

pub same_then : (plan : Plan) (old mid now : PartsView) (s t u : State) → KeepsStreams plan old mid s t
    → KeepsStreams plan mid now t u → KeepsStreams plan old now s u
same_then plan old mid now s t u h k = record {
  same = λ a few. record {
    strings = (k.same a few).strings ∙ (h.same a few).strings;
    ended = (k.same a few).ended ∙ (h.same a few).ended;
  };
  ends = λ a few. k.ends a few ∙ h.ends a few;
}

-- what was heard of the sources is heard still
pub still_listened : {S : Type 0} (gives : S → Option (List (List ℕ))) (given faults : S → ℕ) (plan : Plan)
    (start now : List S) (old new : PartsView) (state next : State) → KeepsStreams plan old new state next
    → AreListened gives given faults plan start now old state → AreListened gives given faults plan start now new next
still_listened gives given faults plan start now old new state next keeps h = record {
  as_many = h.as_many;
  same_gives = h.same_gives;
  each = λ a s few.
      subst (λ o. Listens (gives (get_or start a s)) (given (get_or start a s)) (given (get_or now a s))
      (faults (get_or start a s)) (faults (get_or now a s)) o (strings_of next a)) (sym (keeps.ends a few))
      (subst (λ l. Listens (gives (get_or start a s)) (given (get_or start a s)) (given (get_or now a s))
      (faults (get_or start a s)) (faults (get_or now a s)) (end_of old a) l) (sym (keeps.same a few).strings)
      (h.each a s few));
}

-- a core that took nothing of any source went on by them
abbrev pub goes_still : {B E S : Type 0} (value : ValuesOf B) (gives : S → Option (List (List ℕ)))
    (given faults : S → ℕ) (plan : Plan) (backend : B) (sources : List S) (old now : CoreView B E) (number turn : ℕ)
    (state : State) (before after : Option (List (List ℕ))) (sent_before sent : Sent) (part : Lists → List (List ℕ))
    → Stays value plan backend old now number turn state before after sent_before sent part
    → Goes value gives given faults plan backend sources sources old now number turn state before after
    sent_before sent part
goes_still value gives given faults plan backend sources old now number turn state before after sent_before sent
    part h = record {
      next = h.next;
      at = h.at;
      fits = λ all fits. streams_fit plan old.parts now.parts state h.next all h.keeps fits;
      over = λ a few ended. (h.keeps.same a few).ended ∙ ended;
      listened = λ start k. still_listened gives given faults plan start sources old.parts now.parts state h.next h.keeps k;
      sends = h.sends;
    }

-- nothing happened yet
pub goes_none : {B E S : Type 0} (value : ValuesOf B) (gives : S → Option (List (List ℕ))) (given faults : S → ℕ)
    (plan : Plan) (backend : B) (sources : List S) (core : CoreView B E) (number turn : ℕ) (state : State)
    (before : Option (List (List ℕ))) (sent : Sent)
    → IsAt value plan backend core number turn state
    → Goes value gives given faults plan backend sources sources core core number turn state before before sent
    sent (λ all. [])
goes_none value gives given faults plan backend sources core number turn state before sent at = record {
  next = state;
  at = at;
  fits = λ all fits. fits;
  over = λ a few ended. ended;
  listened = λ start k. k;
  sends = λ all fits. none_sent before sent;
}

-- it went on twice
pub goes_then : {B E S : Type 0} (value : ValuesOf B) (gives : S → Option (List (List ℕ))) (given faults : S → ℕ)
    (plan : Plan) (backend : B) (one two three : List S) (old mid now : CoreView B E) (n t m u : ℕ) (state : State)
    (before middle after : Option (List (List ℕ))) (first next last : Sent) (part more : Lists → List (List ℕ))
    → (h : Goes value gives given faults plan backend one two old mid n t state before middle first next part)
    → Goes value gives given faults plan backend two three mid now m u h.next middle after next last more
    → Goes value gives given faults plan backend one three old now m u state before after first last
    (λ all. part all ++ more all)
goes_then value gives given faults plan backend one two three old mid now n t m u state before middle after first next
    last part more h k = record {
      next = k.next;
      at = k.at;
      fits = λ all fits. h.fits all (k.fits all fits);
      over = λ a few ended. k.over a few (h.over a few ended);
      listened = λ start l. k.listened start (h.listened start l);
      sends = λ all fits. whole_more before middle after first next last (part all) (more all)
          (h.sends all (k.fits all fits)) (k.sends all fits);
    }

-- the same part, said otherwise
pub goes_as : {B E S : Type 0} (value : ValuesOf B) (gives : S → Option (List (List ℕ))) (given faults : S → ℕ)
    (plan : Plan) (backend : B) (sources later : List S) (old now : CoreView B E) (number turn : ℕ) (state : State)
    (before after : Option (List (List ℕ))) (sent_before sent : Sent) (part same : Lists → List (List ℕ))
    → ((all : Lists) → part all ≡ same all)
    → Goes value gives given faults plan backend sources later old now number turn state before after
    sent_before sent part
    → Goes value gives given faults plan backend sources later old now number turn state before after
    sent_before sent same
goes_as value gives given faults plan backend sources later old now number turn state before after sent_before sent part
    same is h = record {
      next = h.next;
      at = h.at;
      fits = h.fits;
      over = h.over;
      listened = h.listened;
      sends = λ all fits. subst (SendsWhole before after sent_before sent) (is all) (h.sends all fits);
    }
