-- The turns of the sender.
use Rattle.std.proofs.Common.{◌≡◌, ℕ, ℤ, ◌+◌, ◌<◌, true, false, List, [], Option, Some, Result, Ok, Err, is_err, refl}
use Rattle.std.proofs.Common.{sym, ◌∙◌, subst, arith}
use Rattle.std.proofs.lemmas.Bool.{false≢true}
use Rattle.corr_model.specs.declared.plan.Plan.{Plan}
use Rattle.corr_site.specs.Outside.{HasCause}
use Rattle.slot_ring.specs.declared.held.Held.{Held}
use Rattle.slot_ring.specs.Means.{Means, IsMeant}
use Rattle.slot_ring.specs.Slots.{OutgoingView}
use Rattle.slot_ring.specs.Answers.{RefusesSend}
use Rattle.slot_share.specs.Shares.{LeavesGiven}
use Rattle.vis_send.specs.declared.tally.Sent.{Sent}
use Rattle.vis_send.specs.Emitters.{Strings}
use Rattle.vis_send.specs.Sending.{Tallies}
use Rattle.corr_core.specs.Sends.{sent_together}
use Rattle.corr_threads.specs.Dispatches.{DispatchView, DispatchTurn, SendsBy}
use Rattle.corr_threads.specs.declared.turn.Turn.TheVariants as turns

-- the meant sums of a plan and number, by what is the same
pub meant_as : (m : Means) (p q : Plan) (n k : ℕ) (s t : List ℤ) → p ≡ q → n ≡ k → s ≡ t → IsMeant m p n s
    → IsMeant m q k t
meant_as m p q n k s t plan number sums meant =
    subst (λ x. IsMeant m x k t) plan (subst (λ x. IsMeant m p x t) number (subst (λ x. IsMeant m p n x) sums meant))

-- the sink failed before
pub turn_silent : (m : Means) (s : Strings) (v : DispatchView) (out : OutgoingView) (before : Option (List (List ℕ)))
    (f : ℕ)
    → v.broken ≡ true → v.passed < v.plan.accumulations → LeavesGiven v.passed v.outgoing out
    → DispatchTurn m s v turns.Moved (record v { outgoing = out; passed = v.passed + 1 }) before before f f
turn_silent m s v out before f broken below given =
    let now : DispatchView = record v { outgoing = out; passed = v.passed + 1 } in
    let strings = sent_together v.plan s v.passed out.out.sums in
    record {
      same_plan = refl;
      cause = record {
        below = omega (arith, below);
        one_more = refl;
        given = given;
        is_meant = λ sound. absurd (false≢true (sym sound ∙ broken));
        goes = subst (λ b. SendsBy b b strings v now before before f f) (sym broken)
            (record { same = refl; same_sent = refl; same_faults = refl });
      };
      keeps_held = refl;
    }

-- the result was sent, or the sink failed
pub turn_sent : {T E : Type 0} → (m : Means) (s : Strings) (v : DispatchView) (out : OutgoingView) (sent : Sent)
    (before now : Option (List (List ℕ))) (f after : ℕ) (r : Result T E) → v.broken ≡ false
    → v.passed < v.plan.accumulations → LeavesGiven v.passed v.outgoing out → IsMeant m v.plan v.passed out.out.sums
    → Tallies before now v.sent sent r (sent_together v.plan s v.passed out.out.sums) → HasCause f after r
    → DispatchTurn m s v turns.Moved
    (record v { outgoing = out; sent = sent; broken = is_err r; passed = v.passed + 1 }) before now f after
turn_sent m s v out sent before now f after (Ok x) sound below given meant sends cause =
    let w : DispatchView = record v { outgoing = out; sent = sent; broken = false; passed = v.passed + 1 } in
    let strings = sent_together v.plan s v.passed out.out.sums in
    record {
      same_plan = refl;
      cause = record {
        below = omega (arith, below);
        one_more = refl;
        given = given;
        is_meant = λ b. meant;
        goes = subst (λ b. SendsBy b false strings v w before now f after) (sym sound)
            (record { sends = sends; same_faults = cause.kept });
      };
      keeps_held = refl;
    }
turn_sent m s v out sent before now f after (Err e) sound below given meant sends cause =
    let w : DispatchView = record v { outgoing = out; sent = sent; broken = true; passed = v.passed + 1 } in
    let strings = sent_together v.plan s v.passed out.out.sums in
    record {
      same_plan = refl;
      cause = record {
        below = omega (arith, below);
        one_more = refl;
        given = given;
        is_meant = λ b. meant;
        goes = subst (λ b. SendsBy b true strings v w before now f after) (sym sound)
            (record { sends = sends; rises = record { later = cause.later; rose = cause.failed } });
      };
      keeps_held = refl;
    }

-- the slot refused
pub turn_waits : (m : Means) (s : Strings) (v : DispatchView) (out : OutgoingView) (h : Held)
    (before : Option (List (List ℕ))) (f : ℕ) → v.passed < v.plan.accumulations → RefusesSend h v.plan v.passed
    → out ≡ v.outgoing
    → DispatchTurn m s v turns.Waits (record v { outgoing = out; held = Some h }) before before f f
turn_waits m s v out h before f below refuses same = record {
  same_plan = refl;
  cause = (
    record { to_come = below; shown = h; is_held = refl; refuses = refuses },
    record {
      same_passed = refl;
      same_broken = refl;
      same_outgoing = same;
      silent = record { same = refl; same_sent = refl; same_faults = refl };
    },
  );
  keeps_held = tt;
}
