-- What the sender of a run sent. This project's own.
use Rattle.std.specs.Prelude.{◌≡◌, ℕ, ◌<◌, Bool, true, false, List, Option}
use Rattle.corr_model.specs.declared.plan.Plan.{Plan}
use Rattle.corr_site.specs.Outside.{Rises}
use Rattle.slot_ring.specs.Means.{Means, meant}
use Rattle.vis_send.specs.Emitters.{Strings}
use Rattle.vis_send.specs.Marks.{nothing}
use Rattle.vis_send.specs.Sending.{SendsWhole}
use Rattle.vis_send.specs.declared.tally.Sent.{Sent}
use Rattle.corr_machine.specs.Runs.{OutputHeaps, IsFront, output_before, output_of}
use Rattle.corr_threads.specs.Dispatches.{DispatchView}

-- what is seen of a sink: what it got, where that is told, and its count of faults
pub record SinkView : Type 0 where
  pub sent : Option (List (List ℕ))
  pub faults : ℕ

-- the heaps of the output, by the types of an observation and a back end alone
abbrev pub meant_heaps : Means → Strings → OutputHeaps
meant_heaps m s = record { head = s.head; heap = λ n. s.heap n (meant m n); stop = s.stop }

-- from the sender's opening on these strings were sent and counted: where lists are named and the value is shown, those
-- of the results that it took, or a front of them where the sink failed
pub record SentSoFar (m : Means) (s : Strings) (old now : DispatchView) (before after : SinkView) : Type 0 where
  pub same_plan : now.plan ≡ old.plan
  pub went : List (List ℕ)
  pub goes : SendsWhole before.sent after.sent old.sent now.sent went
  pub whole : now.broken ≡ false → m.names ≡ true → m.shows ≡ true
      → went ≡ output_before old.plan (meant_heaps m s) now.passed
  pub front : m.names ≡ true → m.shows ≡ true → IsFront went (output_before old.plan (meant_heaps m s) now.passed)
  pub kept : now.broken ≡ false → after.faults ≡ before.faults
  pub rises : now.broken ≡ true → Rises before.faults after.faults

-- all results were taken: what was sent and counted is the whole output, or a front of it where the sink failed
pub record HasSentAll (m : Means) (s : Strings) (old now : DispatchView) (before after : SinkView) : Type 0 where
  pub same_plan : now.plan ≡ old.plan
  pub went : List (List ℕ)
  pub goes : SendsWhole before.sent after.sent old.sent now.sent went
  pub whole : now.broken ≡ false → m.names ≡ true → m.shows ≡ true → went ≡ output_of old.plan (meant_heaps m s)
  pub front : m.names ≡ true → m.shows ≡ true → IsFront went (output_of old.plan (meant_heaps m s))
  pub kept : now.broken ≡ false → after.faults ≡ before.faults
  pub rises : now.broken ≡ true → Rises before.faults after.faults

-- the sender of a plan that took and sent nothing yet
pub record IsNewDispatch (plan : Plan) (v : DispatchView) : Type 0 where
  pub same_plan : v.plan ≡ plan
  pub sent_nothing : v.sent ≡ nothing
  pub passed_none : v.passed ≡ 0
  pub sound : v.broken ≡ false

-- the sender can begin: it took nothing yet, of a plan with some accumulation
pub record CanSend (v : DispatchView) : Type 0 where
  pub some : 0 < v.plan.accumulations
  pub passed_none : v.passed ≡ 0
  pub sound : v.broken ≡ false

-- some strings were sent, and just these were counted
pub record HasCounted (before after : Option (List (List ℕ))) (sent : Sent) : Type 0 where
  pub went : List (List ℕ)
  pub goes : SendsWhole before after nothing sent went
