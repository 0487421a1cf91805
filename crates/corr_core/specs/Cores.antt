-- What contracts see of a core, and what one step does, by its answer. This project's own.
use Rattle.std.specs.Prelude.{◌≡◌, ◌≢◌, ◌⊎◌, ◌<◌, ◌≤◌, ℕ, Bool, true, false, List, length, Option, Some}
use Rattle.corr_model.specs.declared.plan.Plan.{Plan}
use Rattle.corr_model.specs.declared.verdict.Ending.{Ending}
use Rattle.corr_model.specs.declared.verdict.Ending.TheVariants as endings
use Rattle.corr_model.specs.Visibilities.{Lists}
use Rattle.corr_site.specs.Outside.{Rises}
use Rattle.stream_feed.specs.Feeding.{IsNext, is_said}
use Rattle.vis_send.specs.declared.tally.Sent.{Sent}
use Rattle.vis_send.specs.Emitters.{Strings}
use Rattle.vis_send.specs.Sending.{SendsWhole, SendsFront}
use Rattle.corr_machine.specs.Machines.{State, Event, Packet, End, Put, Take, Store, Send, work_count, enabled, effect}
use Rattle.corr_machine.specs.Runs.{appends, FitsLists}
use Rattle.corr_core.specs.Parts.{PartsView, feed_in, takes_strings}
use Rattle.corr_core.specs.Standing.{Value, StandFor}
use Rattle.corr_core.specs.Sends.{heaps_by}
use Rattle.corr_core.specs.declared.event.Event.{Event as CoreEvent}
use Rattle.corr_core.specs.declared.event.Event.TheVariants as core_events
use Rattle.corr_core.specs.declared.event.Stepped.{Stepped}
use Rattle.corr_core.specs.declared.event.Stepped.TheVariants.{Moved, Idle, Failed}

-- a core: its parts, its back end, its emitter, and whether its sink failed
pub record CoreView (B E : Type 0) : Type 0 where
  pub parts : PartsView
  pub backend : B
  pub emit : E
  pub failed : Bool

-- the machine's event
abbrev pub event_of : CoreEvent → Event
event_of (core_events.Packet a b) = Packet a b.now
event_of (core_events.End a how) = End a
event_of (core_events.Put a) = Put a
event_of (core_events.Take w s) = Take w s
event_of (core_events.Store w) = Store w
event_of core_events.Send = Send

-- the event names a stream, a work and a slot that the plan has, and an end is one that can be said
abbrev pub IsInRange : Plan → CoreEvent → Type 0
IsInRange plan (core_events.Packet a b) = a < plan.antennas
IsInRange plan (core_events.End a how) = (a < plan.antennas) × ((how ≡ endings.End) ⊎ (how ≡ endings.Fault))
IsInRange plan (core_events.Put a) = a < plan.antennas
IsInRange plan (core_events.Take w s) = (w < work_count plan) × (s < plan.slots)
IsInRange plan (core_events.Store w) = w < work_count plan
IsInRange plan core_events.Send = Unit {0}

-- of the lists of an observation, a string that a stream takes is
-- the next, and an end that it takes comes after the last
abbrev pub IsNextOf : (ℕ → List (List ℕ)) → PartsView → CoreEvent → Type 0
IsNextOf list p (core_events.Packet a b) =
    takes_strings p a ≡ true → IsNext (list (feed_in p a).columns.antenna) (feed_in p a).report.taken b.now
IsNextOf list p (core_events.End a how) =
    takes_strings p a ≡ true → length (list (feed_in p a).columns.antenna) ≤ (feed_in p a).report.taken
IsNextOf list p other = Unit {0}

-- the answer of a step that appends nothing
abbrev pub stepped_of : Bool → Stepped
stepped_of true = Moved
stepped_of false = Idle

-- the event was enabled and no sink had failed: what the event appends was sent and counted, for all lists that the
-- state fits
pub record StepMoves (value : Value) (strings : Strings) (plan : Plan) (failed : Bool) (state : State) (e : Event)
    (before now : Option (List (List ℕ))) (sent_before sent : Sent) : Type 0 where
  pub was : failed ≡ false
  pub can : enabled plan state e ≡ true
  pub appended : (lists : Lists) → FitsLists plan state lists
      → SendsWhole before now sent_before sent (appends plan (heaps_by value strings plan lists) state e)

-- it was not enabled, or the sink had failed: nothing was sent
pub record StepWaits (plan : Plan) (failed : Bool) (state : State) (e : Event) (before now : Option (List (List ℕ)))
    (sent_before sent : Sent) : Type 0 where
  pub cannot : (failed ≡ true) ⊎ (enabled plan state e ≡ false)
  pub same : now ≡ before
  pub same_sent : sent ≡ sent_before

-- it was enabled, and the sink failed: a front of what it appends was sent, and just that front was counted
pub record StepFails (value : Value) (strings : Strings) (plan : Plan) (failed : Bool) (state : State) (e : Event)
    (before now : Option (List (List ℕ))) (sent_before sent : Sent) : Type 0 where
  pub was : failed ≡ false
  pub can : enabled plan state e ≡ true
  pub front : (lists : Lists) → FitsLists plan state lists
      → SendsFront before now sent_before sent (appends plan (heaps_by value strings plan lists) state e)

abbrev pub StepGives : Value → Strings → Plan → Bool → State → Event → Option (List (List ℕ)) → Option (List (List ℕ))
    → Sent → Sent → Stepped → Type 0
StepGives value strings plan failed state e before now sent_before sent Moved =
    StepMoves value strings plan failed state e before now sent_before sent
StepGives value strings plan failed state e before now sent_before sent Idle =
    StepWaits plan failed state e before now sent_before sent
StepGives value strings plan failed state e before now sent_before sent Failed =
    StepFails value strings plan failed state e before now sent_before sent

-- the state after a step, by its answer
abbrev pub state_after : Plan → State → Event → Stepped → State
state_after plan state e Idle = state
state_after plan state e other = effect plan state e

-- one step, by its answer, for a state that the parts stand for: what was sent, and what they stand for afterwards
pub record Steps (value : Value) (strings : Strings) (old now : PartsView) (failed : Bool) (state : State) (e : Event)
    (before after : Option (List (List ℕ))) (sent_before sent : Sent) (answer : Stepped) : Type 0 where
  pub stands_for : StandFor value now (state_after old.plan state e answer)
  pub gives : StepGives value strings old.plan failed state e before after sent_before sent answer

-- the core has failed where it had, or where the step failed
abbrev pub has_failed : Bool → Stepped → Bool
has_failed before Failed = true
has_failed before other = before

-- a step that fails raises the sink's count of faults, and no other does
abbrev pub StepHasCause : ℕ → ℕ → Stepped → Type 0
StepHasCause before now Failed = Rises before now
StepHasCause before now other = now ≡ before

-- how the stream of antenna a ended, where it has
abbrev pub end_of : PartsView → ℕ → Option Ending
end_of p a = (feed_in p a).report.ended

-- each stream has ended as it had
abbrev pub KeepsEnds : PartsView → PartsView → Type 0
KeepsEnds old now = (a : ℕ) → a < length old.feeds → end_of now a ≡ end_of old a

-- so has each but that of antenna a
abbrev pub KeepsOtherEnds : PartsView → PartsView → ℕ → Type 0
KeepsOtherEnds old now a = (b : ℕ) → b < length old.feeds → b ≢ a → end_of now b ≡ end_of old b

-- a string that the stream of antenna a took ends it by itself or not at all
abbrev pub EndsByString : PartsView → PartsView → ℕ → Bool → Type 0
EndsByString old now a true = (a < length old.feeds → is_said (end_of now a) ≡ false) × KeepsOtherEnds old now a
EndsByString old now a false = KeepsEnds old now

-- an end that it took ends it as was said
abbrev pub EndsAsSaid : PartsView → PartsView → ℕ → Ending → Bool → Type 0
EndsAsSaid old now a how true = (a < length old.feeds → end_of now a ≡ Some how) × KeepsOtherEnds old now a
EndsAsSaid old now a how false = KeepsEnds old now

-- the step moved
abbrev pub has_moved : Stepped → Bool
has_moved Moved = true
has_moved other = false

-- how the streams have ended after a step, by its answer; none but a Send fails
abbrev pub EndsAfter : PartsView → PartsView → CoreEvent → Stepped → Type 0
EndsAfter old now (core_events.Packet a b) answer = (answer ≢ Failed) × EndsByString old now a (has_moved answer)
EndsAfter old now (core_events.End a how) answer = (answer ≢ Failed) × EndsAsSaid old now a how (has_moved answer)
EndsAfter old now (core_events.Put a) answer = (answer ≢ Failed) × KeepsEnds old now
EndsAfter old now (core_events.Take w s) answer = (answer ≢ Failed) × KeepsEnds old now
EndsAfter old now (core_events.Store w) answer = (answer ≢ Failed) × KeepsEnds old now
EndsAfter old now core_events.Send answer = KeepsEnds old now
