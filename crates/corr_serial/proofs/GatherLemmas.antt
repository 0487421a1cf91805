-- Turns of the streams of a run.
use Rattle.std.proofs.Common.{◌≡◌, ◌≢◌, ◌⊎◌, ℕ, ◌+◌, ◌-◌, ◌<◌, ◌≤◌, ℤ, Bool, true, false, not, cond, List, [], length, Option, refl, sym, ap, ◌∙◌, subst, inl, inr, arith}
use Rattle.std.specs.Option.{is_some}
use Rattle.std.proofs.lemmas.Bool.{cases_lt}
use Rattle.corr_model.specs.declared.plan.Plan.{Plan}
use Rattle.corr_model.specs.declared.verdict.Ending.{Ending}
use Rattle.corr_model.specs.Visibilities.{Lists}
use Rattle.vis_send.specs.declared.tally.Sent.{Sent}
use Rattle.corr_machine.specs.Machines.{StreamState, State, stream_at, is_ready}
use Rattle.corr_core.specs.Parts.{PartsView, feed_in}
use Rattle.corr_core.specs.Sends.{value_with}
use Rattle.corr_core.specs.Cores.{CoreView, end_of}
use Rattle.corr_serial.specs.Sources.{AreBegun, KeepsSources}
use Rattle.corr_serial.specs.Hearing.{left}
use Rattle.corr_serial.specs.Rounds.{stream_left}
use Rattle.corr_serial.specs.Going.{ValuesOf, IsAt, IsSame, CanTurn, HasSentAll, Goes}
use Rattle.corr_serial.proofs.RoundLemmas.{ends_or_ready}
use Rattle.corr_serial.proofs.StepLemmas.{proper_at}
use Rattle.corr_serial.proofs.ListenLemmas.{left_is}

-- an antenna of a plan that is the same
pub few_as : (p q : Plan) (a : ℕ) → a < p.antennas → q ≡ p → a < q.antennas
few_as p q a few same = subst (λ (k : Plan). a < k.antennas) (sym same) few

pub enough_as : (p q : Plan) (m n : ℕ) → p.antennas ≤ m → q ≡ p → n ≡ m → q.antennas ≤ n
enough_as p q m n enough same as_many =
    let is = ap (λ (k : Plan). k.antennas) same in omega (arith, enough, is, as_many)

-- the core takes turns, of its own plan and back end
pub can_turn : {B E : Type 0} (value : ValuesOf B) (plan : Plan) (backend : B) (core : CoreView B E) (number turn : ℕ)
    (state : State) → IsAt value plan backend core number turn state → number < plan.accumulations
    → CanTurn value core turn
can_turn value plan backend core number turn state h more = record {
  number = number;
  more = subst (λ (p : Plan). number < p.accumulations) (sym h.own.same_plan) more;
  state = state;
  at = subst (λ p. IsAt value p core.backend core number turn state) (sym h.own.same_plan)
      (subst (λ b. IsAt value plan b core number turn state) (sym h.own.same_backend) h);
}

pub has_sent_all : {B E : Type 0} (value : ValuesOf B) (plan : Plan) (backend : B) (core : CoreView B E) (number : ℕ)
    (state : State) → IsAt value plan backend core number 0 state → number ≡ plan.accumulations → HasSentAll value core
has_sent_all value plan backend core number state h all = record {
  state = state;
  at = subst (λ p. IsAt value p core.backend core p.accumulations 0 state) (sym h.own.same_plan)
      (subst (λ n. IsAt value plan core.backend core n 0 state) all
      (subst (λ b. IsAt value plan b core number 0 state) (sym h.own.same_backend) h));
}

same_left : (plan : Plan) (x y : StreamState) → IsSame x y → stream_left plan y ≡ stream_left plan x
same_left plan x y same =
    ap (λ b. cond b 0 (plan.packet_limit - length y.strings)) same.ended ∙ ap
    (λ (l : List (List ℕ)). cond x.ended 0 (plan.packet_limit - length l)) same.strings

-- less is left of a stream that heard more
pub less_left : {B E : Type 0} (value : ValuesOf B) (plan : Plan) (backend : B) (head now : CoreView B E)
    (number turn a : ℕ) (s t u : State) → IsAt value plan backend head number turn s
    → IsAt value plan backend now number turn u → a < plan.antennas
    → IsSame (stream_at s a) (stream_at t a) → stream_left plan (stream_at u a) < stream_left plan (stream_at t a)
    → left (feed_in now.parts a) < left (feed_in head.parts a)
less_left value plan backend head now number turn a s t u h k few same less =
    subst (λ n. n < left (feed_in head.parts a)) (sym (left_is value plan backend now number turn u a k few))
    (subst (λ n. stream_left plan (stream_at u a) < n)
    (same_left plan (stream_at s a) (stream_at t a) same ∙ sym
    (left_is value plan backend head number turn s a h few)) less)

-- whether a stream has ended, as its feed tells
pub ended_is : {B E : Type 0} (value : ValuesOf B) (plan : Plan) (backend : B) (core : CoreView B E) (number turn : ℕ)
    (state : State) (a : ℕ) → IsAt value plan backend core number turn state → a < plan.antennas
    → is_some (end_of core.parts a) ≡ (stream_at state a).ended
ended_is value plan backend core number turn state a h few =
    (h.stands_for.stands_for.stream a (few_as plan core.parts.plan a few h.own.same_plan)).ended

-- after the last accumulation a stream that has not ended takes a string or its end
pub drain_ready : {B E : Type 0} (value : ValuesOf B) (plan : Plan) (backend : B) (core : CoreView B E) (state : State)
    (a : ℕ) (o : Option Ending) (b : Bool) → IsAt value plan backend core plan.accumulations 0 state → a < plan.antennas
    → o ≡ end_of core.parts a → is_some o ≡ not b → b ≡ true → is_ready plan a (stream_at state a) ≡ true
drain_ready value plan backend core state a o b h few told is on =
    ends_or_ready plan state a
    (proper_at (value_with (value backend) plan) plan core state h.own.same_plan h.stands_for) few h.number_is
    (sym (ended_is value plan backend core plan.accumulations 0 state a h few) ∙ ap is_some (sym told) ∙ is ∙ ap not on)

-- a stream that had ended has ended
pub ended_still : {B E : Type 0} (value : ValuesOf B) (plan : Plan) (backend : B) (old now : CoreView B E)
    (number turn : ℕ) (s t : State) (a : ℕ) → IsAt value plan backend old number turn s
    → IsAt value plan backend now number turn t → a < plan.antennas
    → ((stream_at s a).ended ≡ true → (stream_at t a).ended ≡ true) → is_some (end_of old.parts a) ≡ true
    → is_some (end_of now.parts a) ≡ true
ended_still value plan backend old now number turn s t a h k few still over =
    ended_is value plan backend now number turn t a k few ∙ still
    (sym (ended_is value plan backend old number turn s a h few) ∙ over)

-- the sources of a plan that is the same
pub begun_as : {S : Type 0} (begun : S → Bool) (p q : Plan) (sources : List S) → AreBegun begun p.antennas sources
    → q ≡ p → AreBegun begun q.antennas sources
begun_as begun p q sources h same = subst (λ (k : Plan). AreBegun begun k.antennas sources) (sym same) h

pub sources_on_plan : {S A C : Type 0} (begun : S → Bool) (at : S → A) (gives : S → C) (belongs : S → ℕ → Type 0)
    (p q : Plan) (old now : List S) → q ≡ p → KeepsSources begun at gives belongs q.antennas old now
    → KeepsSources begun at gives belongs p.antennas old now
sources_on_plan begun at gives belongs p q old now same h =
    subst (λ (k : Plan). KeepsSources begun at gives belongs k.antennas old now) same h

-- a turn, said otherwise
pub goes_to : {B E S : Type 0} (value : ValuesOf B) (gives : S → Option (List (List ℕ))) (given faults : S → ℕ)
    (plan : Plan) (backend : B) (sources later : List S) (old now : CoreView B E) (number turn other : ℕ)
    (state : State) (before after : Option (List (List ℕ))) (sent_before sent : Sent) (part : Lists → List (List ℕ))
    → turn ≡ other → Goes value gives given faults plan backend sources later old now number turn state before after
    sent_before sent part
    → Goes value gives given faults plan backend sources later old now number other state before after
    sent_before sent part
goes_to value gives given faults plan backend sources later old now number turn other state before after sent_before
    sent part same h =
    subst (λ t. Goes value gives given faults plan backend sources later old now number t state before after sent_before
    sent part) same h

-- what holds before a place and there holds before the next
pub over_next : (P : ℕ → Type 0) (n : ℕ) → ((a : ℕ) → a < n → P a) → P n → (a : ℕ) → a < n + 1 → P a
over_next P n before here a low = elim (cases_lt a n) [
  | inl less ↦ before a less
  | inr not' ↦ subst P (let same : n ≡ a = omega (arith, low, not') in same) here
]
