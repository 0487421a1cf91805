-- What the receiver of a stream shows, what it keeps, and its turns. This project's own.
use Rattle.std.specs.Prelude.{◌≡◌, ◌≢◌, ◌⊎◌, ℕ, ◌+◌, ◌≤◌, Bool, true, false, if◌then◌else◌, List, length, Option, Some, None}
use Rattle.std.specs.Prelude.{is_some}
use Rattle.corr_model.specs.declared.plan.Plan.{Plan}
use Rattle.corr_model.specs.declared.verdict.Ending.{Ending}
use Rattle.corr_model.specs.declared.verdict.Ending.TheVariants as endings
use Rattle.corr_model.specs.Plans.{Fits}
use Rattle.corr_model.specs.Streams.{ending, taken}
use Rattle.corr_model.specs.PacketVerdicts.{report}
use Rattle.corr_site.specs.Outside.{Rises}
use Rattle.slot_column.specs.Columns.{Hand}
use Rattle.stream_feed.specs.Counting.{counts_of}
use Rattle.stream_feed.specs.Feeding.{FeedState, StandsFor, IsOfList, EndsAs, due_of}
use Rattle.slot_ring.specs.declared.held.Held.{Held}
use Rattle.slot_ring.specs.declared.held.Kind.TheVariants.{Filling}
use Rattle.corr_threads.specs.Holding.{KeepsHeld}
use Rattle.corr_threads.specs.declared.turn.Turn.{Turn}
use Rattle.corr_threads.specs.declared.turn.Turn.TheVariants as turns

-- what a receiver shows: the feed of its stream, its hand, how many of its columns were placed, and what refused last
pub record ReceiverView : Type 0 where
  pub plan : Plan
  pub antenna : ℕ
  pub feed : FeedState
  pub hand : Hand
  pub placed : ℕ
  pub held : Option Held

-- how many columns lie in a hand
abbrev pub in_hand : Hand → ℕ
in_hand hand = if hand.is_closed then 1 else 0

-- the feed stands for some strings
pub record StandsForSome (f : FeedState) : Type 0 where
  pub strings : List (List ℕ)
  pub stands : StandsFor f strings

-- what a receiver's type keeps: it placed what its feed gave, less what is in the hand; and where lists are named, its
-- feed took a front of its antenna's list
pub record IsReceiver (names : Bool) (list : ℕ → List (List ℕ)) (v : ReceiverView) : Type 0 where
  pub fits : Fits v.plan
  pub feed_plan : v.feed.columns.plan ≡ v.plan
  pub feed_antenna : v.feed.columns.antenna ≡ v.antenna
  pub took : StandsForSome v.feed
  pub told : names ≡ true → IsOfList list v.feed
  pub hand_plan : v.hand.column.plan ≡ v.plan
  pub hand_number : v.hand.is_closed ≡ true → v.hand.column.number ≡ v.placed
  pub counted : v.feed.columns.given ≡ v.placed + in_hand v.hand
  pub most : v.feed.columns.given ≤ v.plan.accumulations

-- the source gives the observation's list of the antenna, and gave what the receiver took
pub record SourceTold {S : Type 0} (belongs : S → ℕ → Type 0) (given : S → ℕ) (source : S)
    (v : ReceiverView) : Type 0 where
  pub belongs_to : belongs source v.antenna
  pub as_many : given source ≡ v.feed.report.taken

-- a slot that shows this has no place for the column of a plan and number
abbrev pub RefusesColumn : Held → Plan → ℕ → Type 0
RefusesColumn held plan number = (held.plan ≢ plan) ⊎ (held.number ≢ number) ⊎ (held.kind ≢ Filling)

-- it has a column in its hand, for which what refused last has no place
pub record WaitsForPlace (v : ReceiverView) : Type 0 where
  pub has_column : v.hand.is_closed ≡ true
  pub shown : Held
  pub is_held : v.held ≡ Some shown
  pub refuses : RefusesColumn shown v.plan v.placed

-- plan and antenna stay
pub record KeepsStream (old new : ReceiverView) : Type 0 where
  pub same_plan : new.plan ≡ old.plan
  pub same_antenna : new.antenna ≡ old.antenna

-- it took one string more
pub record TakesOne (old new : ReceiverView) : Type 0 where
  pub one_more : new.feed.report.taken ≡ old.feed.report.taken + 1
  pub same_placed : new.placed ≡ old.placed

-- one of its columns more was placed
pub record PlacesOne (old new : ReceiverView) : Type 0 where
  pub one_more : new.placed ≡ old.placed + 1
  pub same_report : new.feed.report ≡ old.feed.report

-- its stream ended
pub record EndsStream (old new : ReceiverView) : Type 0 where
  pub was_going : old.feed.report.ended ≡ None
  pub ended : is_some new.feed.report.ended ≡ true
  pub same_taken : new.feed.report.taken ≡ old.feed.report.taken
  pub same_placed : new.placed ≡ old.placed

-- a column is in its hand, or due
abbrev pub HasColumn : ReceiverView → Type 0
HasColumn v = (v.hand.is_closed ≡ true) ⊎ (is_some (due_of v.feed) ≡ true)

-- no column is in its hand or due, and its stream goes on
pub record IsToRead (v : ReceiverView) : Type 0 where
  pub spare : v.hand.is_closed ≡ false
  pub none_due : due_of v.feed ≡ None
  pub goes_on : v.feed.report.ended ≡ None

-- it took one string more, or its stream ended
abbrev pub HasRead : ReceiverView → ReceiverView → Type 0
HasRead old new = TakesOne old new ⊎ EndsStream old new

-- a column that was in its hand or due was placed; else one string was taken, or its stream ended
abbrev pub HasMoved : ReceiverView → ReceiverView → Type 0
HasMoved old new = (HasColumn old × PlacesOne old new) ⊎ (IsToRead old × HasRead old new)

-- it took and placed nothing
pub record HasRested (old new : ReceiverView) : Type 0 where
  pub same_report : new.feed.report ≡ old.feed.report
  pub same_placed : new.placed ≡ old.placed

-- its stream has ended, and all its columns were placed
pub record HasPlacedAll (v : ReceiverView) : Type 0 where
  pub ended : is_some v.feed.report.ended ≡ true
  pub all : v.placed ≡ v.plan.accumulations

-- of this list all strings that count were taken: the report is the list's, and the stream ended as the list does, or
-- as its source did
pub record HasReadAll (list : List (List ℕ)) (v : ReceiverView) : Type 0 where
  pub exactly : v.feed.report.taken ≡ length (taken v.plan list)
  pub counts : counts_of v.feed.report ≡ report v.plan v.antenna list
  pub ends : EndsAs v.feed.report.ended (ending v.plan list)

-- a count of faults rises with an end by a fault, and stays with any other
abbrev pub FaultRises : Option Ending → ℕ → ℕ → Type 0
FaultRises (Some endings.Fault) before now = Rises before now
FaultRises (Some endings.End) before now = now ≡ before
FaultRises (Some endings.Stop) before now = now ≡ before
FaultRises (Some endings.Limit) before now = now ≡ before
FaultRises None before now = now ≡ before

-- an open stream ends by a fault only where its source's count of faults rose; else the count stays, and so does an end
abbrev pub FaultCause : Option Ending → Option Ending → ℕ → ℕ → Type 0
FaultCause None ended before now = FaultRises ended before now
FaultCause (Some how) ended before now = (ended ≡ Some how) × (now ≡ before)

-- why a turn answers this
abbrev pub ReceiverCause : ReceiverView → Turn → ReceiverView → Type 0
ReceiverCause old turns.Moved new = HasMoved old new
ReceiverCause old turns.Waits new = HasColumn old × WaitsForPlace new
ReceiverCause old turns.Done new = HasPlacedAll new

-- what a turn that does not move keeps
abbrev pub ReceiverRests : ReceiverView → Turn → ReceiverView → Type 0
ReceiverRests old turns.Moved new = Unit {0}
ReceiverRests old turns.Waits new = HasRested old new
ReceiverRests old turns.Done new = HasRested old new

-- a turn of a receiver
pub record ReceiverTurn (old : ReceiverView) (answer : Turn) (new : ReceiverView) : Type 0 where
  pub keeps : KeepsStream old new
  pub cause : ReceiverCause old answer new
  pub rests : ReceiverRests old answer new
  pub keeps_held : KeepsHeld answer old.held new.held

-- the hand has the column that was due
pub record FillsHand (old new : ReceiverView) : Type 0 where
  pub keeps : KeepsStream old new
  pub same_report : new.feed.report ≡ old.feed.report
  pub same_placed : new.placed ≡ old.placed
  pub is_closed : new.hand.is_closed ≡ true
  pub same_held : new.held ≡ old.held

-- why a put answers this
abbrev pub PutCause : ReceiverView → Turn → ReceiverView → Type 0
PutCause old turns.Moved new = new.placed ≡ old.placed + 1
PutCause old turns.Waits new = WaitsForPlace new × (new.placed ≡ old.placed)
PutCause old turns.Done new = ⊥

-- the column in the hand was placed, or stays there
pub record PutTurn (old : ReceiverView) (answer : Turn) (new : ReceiverView) : Type 0 where
  pub keeps : KeepsStream old new
  pub same_feed : new.feed ≡ old.feed
  pub cause : PutCause old answer new
  pub keeps_held : KeepsHeld answer old.held new.held

-- a string was taken, or the stream ended
pub record TakeTurn (old new : ReceiverView) : Type 0 where
  pub keeps : KeepsStream old new
  pub reads : HasRead old new
  pub same_held : new.held ≡ old.held
