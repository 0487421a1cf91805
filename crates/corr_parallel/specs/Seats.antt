-- What became of the sources of a run, each read to the end of its stream. This project's own.
use Rattle.std.specs.Prelude.{◌≡◌, ℕ, ◌<◌, Bool, true, List, length, slice_index_or, Option, Some, None, is_some}
use Rattle.corr_model.specs.declared.plan.Plan.{Plan}
use Rattle.corr_model.specs.PacketVerdicts.{report}
use Rattle.corr_model.specs.Streams.{ending, taken}
use Rattle.stream_feed.specs.declared.report.StreamReport.{StreamReport}
use Rattle.stream_feed.specs.Counting.{counts_of}
use Rattle.stream_feed.specs.Feeding.{FeedState, StandsFor, EndsAs}
use Rattle.corr_serial.specs.Sources.{KeepsSource, RisesIf}
use Rattle.corr_serial.specs.Hearing.{is_fault}
use Rattle.corr_threads.specs.Receivers.{ReceiverView, SourceTold}

-- a receiver of an antenna of the plan that took and placed nothing yet
pub record IsNewReceiver (plan : Plan) (antenna : ℕ) (v : ReceiverView) : Type 0 where
  pub same_plan : v.plan ≡ plan
  pub same_antenna : v.antenna ≡ antenna
  pub took_none : v.feed.report.taken ≡ 0
  pub placed_none : v.placed ≡ 0
  pub goes_on : v.feed.report.ended ≡ None

-- the source gave exactly the strings of its list that count, and the report is the list's
pub record ReadsAll (plan : Plan) (antenna : ℕ) (list : List (List ℕ)) (given : ℕ) (r : StreamReport) : Type 0 where
  pub exactly : given ≡ length (taken plan list)
  pub counts : counts_of r ≡ report plan antenna list
  pub ends : EndsAs r.ended (ending plan list)

-- the stream has ended, by a fault only where the source's count of faults rose; what is said of the source stays; and
-- where lists are named, all of its list that counts was read
pub record ReadsOut {S A B : Type 0} (names : Bool) (list : ℕ → List (List ℕ)) (plan : Plan) (antenna : ℕ)
    (begun : S → Bool) (at : S → A) (gives : S → B) (belongs : S → ℕ → Type 0) (given faults : S → ℕ) (old now : S)
    (r : StreamReport) : Type 0 where
  pub source : KeepsSource begun at gives belongs old now
  pub over : is_some r.ended ≡ true
  pub cause : RisesIf (is_fault r.ended) (faults old) (faults now)
  pub read : names ≡ true → ReadsAll plan antenna (list antenna) (given now) r

-- the seat's receiver can begin: it took nothing, and its source is begun and, where lists are named, is the one to
-- which its antenna's list belongs
pub record IsSeated {S : Type 0} (names : Bool) (named : Plan) (begun : S → Bool) (belongs : S → ℕ → Type 0)
    (given : S → ℕ) (source : S) (receiver : Option ReceiverView) : Type 0 where
  pub view : ReceiverView
  pub is : receiver ≡ Some view
  pub is_begun : begun source ≡ true
  pub plan_is : names ≡ true → view.plan ≡ named
  pub told : names ≡ true → SourceTold belongs given source view
  pub goes_on : view.feed.report.ended ≡ None

-- what became of a seat with this receiver
pub record LeavesSeat {S A B : Type 0} (names : Bool) (list : ℕ → List (List ℕ)) (begun : S → Bool) (at : S → A)
    (gives : S → B) (belongs : S → ℕ → Type 0) (given faults : S → ℕ) (before : ReceiverView) (old now : S)
    (receiver : Option ReceiverView) : Type 0 where
  pub view : ReceiverView
  pub is : receiver ≡ Some view
  pub reads : ReadsOut names list before.plan before.antenna begun at gives belongs given faults old now
      view.feed.report

-- the seat has the receiver, and its source as it was
pub record IsSeatOf {S : Type 0} (before : S) (v : ReceiverView) (source : S)
    (receiver : Option ReceiverView) : Type 0 where
  pub same_source : source ≡ before
  pub is : receiver ≡ Some v
