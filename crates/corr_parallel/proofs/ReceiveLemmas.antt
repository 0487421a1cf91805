-- What the loop of a receiver keeps from turn to turn.
use Rattle.std.proofs.Common.{◌≡◌, ℕ, Bool, true, false, List, Option, Some, None, refl, sym, ◌∙◌, subst}
use Rattle.corr_model.specs.declared.plan.Plan.{Plan}
use Rattle.corr_model.specs.declared.verdict.Ending.{Ending}
use Rattle.corr_model.specs.declared.verdict.Ending.TheVariants as endings
use Rattle.corr_serial.specs.Sources.{KeepsSource, RisesIf}
use Rattle.corr_serial.specs.Hearing.{is_fault}
use Rattle.corr_threads.specs.Receivers.{ReceiverView, ReceiverTurn, SourceTold, KeepsStream, FaultRises, FaultCause}
use Rattle.corr_threads.specs.declared.turn.Turn.{Turn}
use Rattle.corr_threads.specs.declared.turn.Turn.TheVariants as turns
use Rattle.std.specs.Option.{is_some}

pub record Receiving {S A B : Type 0} (names : Bool) (named : Plan) (begun : S → Bool) (at : S → A) (gives : S → B)
    (belongs : S → ℕ → Type 0) (given faults : S → ℕ) (old now : ReceiverView) (before after : S) : Type 0 where
  pub keeps : KeepsStream old now
  pub source : KeepsSource begun at gives belongs before after
  pub plan_is : names ≡ true → now.plan ≡ named
  pub told : names ≡ true → SourceTold belongs given after now
  pub cause : FaultCause old.feed.report.ended now.feed.report.ended (faults before) (faults after)

pub receiving_none : {S A B : Type 0} (names : Bool) (named : Plan) (begun : S → Bool) (at : S → A) (gives : S → B)
    (belongs : S → ℕ → Type 0) (given faults : S → ℕ) (v : ReceiverView) (s : S)
    → begun s ≡ true → (names ≡ true → v.plan ≡ named) → (names ≡ true → SourceTold belongs given s v)
    → v.feed.report.ended ≡ None → Receiving names named begun at gives belongs given faults v v s s
receiving_none names named begun at gives belongs given faults v s is_begun plan told goes_on = record {
  keeps = record { same_plan = refl; same_antenna = refl };
  source = record { is_begun = is_begun; same_at = refl; same_gives = refl; still_belongs = λ a h. h };
  plan_is = plan;
  told = told;
  cause = subst (λ e. FaultCause e e (faults s) (faults s)) (sym goes_on) refl;
}

-- one turn after the other
fault_on : (a b c : Option Ending) (f g h : ℕ) → FaultCause a b f g → FaultCause b c g h → FaultCause a c f h
fault_on None None c f g h first second = subst (λ k. FaultRises c k h) first second
fault_on None (Some how) c f g h first second =
    subst (λ e. FaultRises e f h) (sym second.0) (subst (λ k. FaultRises (Some how) f k) (sym second.1) first)
fault_on (Some how) b c f g h first second =
    let both = subst (λ e. FaultCause e c g h) first.0 second in
    (both.0, both.1 ∙ first.1)

pub receiving_on : {S A B : Type 0} (names : Bool) (named : Plan) (begun : S → Bool) (at : S → A) (gives : S → B)
    (belongs : S → ℕ → Type 0) (given faults : S → ℕ) (v w u : ReceiverView) (s x y : S)
    → Receiving names named begun at gives belongs given faults v w s x → KeepsStream w u → begun y ≡ true → at y ≡ at x
    → gives y ≡ gives x → ((a : ℕ) → belongs x a → belongs y a)
    → (names ≡ true → SourceTold belongs given y u)
    → FaultCause w.feed.report.ended u.feed.report.ended (faults x) (faults y)
    → Receiving names named begun at gives belongs given faults v u s y
receiving_on names named begun at gives belongs given faults v w u s x y r keeps is_begun same_at same_gives still told
    cause = record {
      keeps = record {
        same_plan = keeps.same_plan ∙ r.keeps.same_plan;
        same_antenna = keeps.same_antenna
            ∙ r.keeps.same_antenna;
      };
      source = record {
        is_begun = is_begun;
        same_at = same_at ∙ r.source.same_at;
        same_gives = same_gives ∙ r.source.same_gives;
        still_belongs = λ a h. still a (r.source.still_belongs a h);
      };
      plan_is = λ n. keeps.same_plan ∙ r.plan_is n;
      told = told;
      cause = fault_on v.feed.report.ended w.feed.report.ended u.feed.report.ended (faults s) (faults x)
          (faults y) r.cause cause;
    }

rises_if : (e : Option Ending) (f g : ℕ) → FaultRises e f g → RisesIf (is_fault e) f g
rises_if None f g h = h
rises_if (Some endings.End) f g h = h
rises_if (Some endings.Fault) f g h = h
rises_if (Some endings.Stop) f g h = h
rises_if (Some endings.Limit) f g h = h

-- of a stream that went on at first
pub rises_from_open : (o e : Option Ending) (f g : ℕ) → o ≡ None → FaultCause o e f g → RisesIf (is_fault e) f g
rises_from_open o e f g goes_on h = rises_if e f g (subst (λ k. FaultCause k e f g) goes_on h)

-- the stream has ended when it is done
pub over_at_done : (w u : ReceiverView) (turn : Turn) → turn ≡ turns.Done → ReceiverTurn w turn u
    → is_some u.feed.report.ended ≡ true
over_at_done w u turn done t = (subst (λ k. ReceiverTurn w k u) done t).cause.ended
