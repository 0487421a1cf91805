-- What the sender shows, what it keeps, what it sends, and its turns. This project's own.
use Rattle.std.specs.Prelude.{◌≡◌, ℕ, ℤ, ◌+◌, ◌<◌, ◌≤◌, Bool, true, false, List, Option, Some}
use Rattle.corr_model.specs.declared.plan.Plan.{Plan}
use Rattle.corr_model.specs.Plans.{Fits}
use Rattle.corr_site.specs.Outside.{Rises}
use Rattle.slot_ring.specs.declared.held.Held.{Held}
use Rattle.slot_ring.specs.Means.{Means, IsMeant}
use Rattle.slot_ring.specs.Slots.{OutgoingView}
use Rattle.slot_ring.specs.Answers.{RefusesSend}
use Rattle.slot_share.specs.Shares.{LeavesGiven}
use Rattle.vis_send.specs.declared.tally.Sent.{Sent}
use Rattle.vis_send.specs.Emitters.{Strings}
use Rattle.vis_send.specs.Sending.{SendsWhole, SendsFront}
use Rattle.corr_core.specs.Sends.{sent_together}
use Rattle.corr_threads.specs.Holding.{KeepsHeld}
use Rattle.corr_threads.specs.declared.turn.Turn.{Turn}
use Rattle.corr_threads.specs.declared.turn.Turn.TheVariants as turns

-- what the sender shows: the result that it took last, what it sent, how many results it took, whether the sink failed,
-- and what refused last
pub record DispatchView : Type 0 where
  pub plan : Plan
  pub outgoing : OutgoingView
  pub sent : Sent
  pub passed : ℕ
  pub broken : Bool
  pub held : Option Held

-- what the sender's type keeps
pub record IsDispatch (sends_for : Plan) (v : DispatchView) : Type 0 where
  pub fits : Fits v.plan
  pub same_plan : v.outgoing.plan ≡ v.plan
  pub emit_plan : sends_for ≡ v.plan
  pub most : v.passed ≤ v.plan.accumulations

-- nothing was sent, and the sink's count of faults stays
pub record SendsNothing (old new : DispatchView) (before now : Option (List (List ℕ))) (faults after : ℕ) : Type 0 where
  pub same : now ≡ before
  pub same_sent : new.sent ≡ old.sent
  pub same_faults : after ≡ faults

-- all strings were sent and counted, and the sink's count of faults stays
pub record SendsAll (strings : List (List ℕ)) (old new : DispatchView) (before now : Option (List (List ℕ)))
    (faults after : ℕ) : Type 0 where
  pub sends : SendsWhole before now old.sent new.sent strings
  pub same_faults : after ≡ faults

-- the sink failed, and its count of faults rose: a front of the strings was sent and counted
pub record SendsSome (strings : List (List ℕ)) (old new : DispatchView) (before now : Option (List (List ℕ)))
    (faults after : ℕ) : Type 0 where
  pub sends : SendsFront before now old.sent new.sent strings
  pub rises : Rises faults after

-- by whether the sink had failed before, and whether it has now: nothing once it had, and a failure stays
abbrev pub SendsBy : Bool → Bool → List (List ℕ) → DispatchView → DispatchView → Option (List (List ℕ))
    → Option (List (List ℕ)) → ℕ → ℕ → Type 0
SendsBy false false strings old new before now faults after = SendsAll strings old new before now faults after
SendsBy false true strings old new before now faults after = SendsSome strings old new before now faults after
SendsBy true true strings old new before now faults after = SendsNothing old new before now faults after
SendsBy true false strings old new before now faults after = ⊥

-- the result of its next number was taken; unless the sink failed before, it is the meant one where that is fixed, and
-- what is sent with it was sent
pub record PassesOn (m : Means) (s : Strings) (old new : DispatchView) (before now : Option (List (List ℕ)))
    (faults after : ℕ) : Type 0 where
  pub below : old.passed + 1 ≤ old.plan.accumulations
  pub one_more : new.passed ≡ old.passed + 1
  pub given : LeavesGiven old.passed old.outgoing new.outgoing
  pub is_meant : old.broken ≡ false → IsMeant m old.plan old.passed new.outgoing.out.sums
  pub goes : SendsBy old.broken new.broken (sent_together old.plan s old.passed new.outgoing.out.sums)
      old new before now faults after

-- no result was taken, and nothing was sent
pub record PassesNone (old new : DispatchView) (before now : Option (List (List ℕ))) (faults after : ℕ) : Type 0 where
  pub same_passed : new.passed ≡ old.passed
  pub same_broken : new.broken ≡ old.broken
  pub same_outgoing : new.outgoing ≡ old.outgoing
  pub silent : SendsNothing old new before now faults after

-- a result is still to come, and what refused last has not the one of its next number
pub record WaitsForResult (v : DispatchView) : Type 0 where
  pub to_come : v.passed < v.plan.accumulations
  pub shown : Held
  pub is_held : v.held ≡ Some shown
  pub refuses : RefusesSend shown v.plan v.passed

-- why a turn answers this, and what it sent
abbrev pub DispatchCause : Means → Strings → DispatchView → Turn → DispatchView → Option (List (List ℕ))
    → Option (List (List ℕ)) → ℕ → ℕ → Type 0
DispatchCause m s old turns.Moved new before now faults after = PassesOn m s old new before now faults after
DispatchCause m s old turns.Waits new before now faults after =
    WaitsForResult new × PassesNone old new before now faults after
DispatchCause m s old turns.Done new before now faults after = (new.passed ≡ new.plan.accumulations)
    × PassesNone old new before now faults after

-- a turn of the sender
pub record DispatchTurn (m : Means) (s : Strings) (old : DispatchView) (answer : Turn) (new : DispatchView)
    (before now : Option (List (List ℕ))) (faults after : ℕ) : Type 0 where
  pub same_plan : new.plan ≡ old.plan
  pub cause : DispatchCause m s old answer new before now faults after
  pub keeps_held : KeepsHeld answer old.held new.held
