-- Laws of runs over lists of events.
use Rattle.std.proofs.Common.{◌≡◌, ◌+◌, ◌<◌, Bool, true, false, cond, List, [], ◌∷◌, refl, sym, ap, ◌∙◌, subst}
use Rattle.std.proofs.lemmas.List.{get_or-replicate}
use Rattle.std.proofs.lemmas.Bool.{cond-true}
use Rattle.corr_model.specs.declared.plan.Plan.{Plan}
use Rattle.corr_model.specs.Visibilities.{Lists}
use Rattle.corr_machine.specs.Machines.{State, Event, opening, new_stream, enabled, effect, step, IsProper}
use Rattle.corr_machine.specs.Runs.{after, reached, OutputHeaps, output_of, appended, output_before, IsFront, done, StreamFits, FitsLists, IsNext}
use Rattle.corr_machine.proofs.Proper.{step_proper, opening_proper}
use Rattle.corr_machine.proofs.Progress.{event_done}
use Rattle.corr_machine.proofs.Sending.{run_appends, before_front, sent_within}
use Rattle.corr_machine.proofs.Reaching.{event_fits}

pub after_proper : (plan : Plan) (events : List Event) (state : State) → 0 < plan.slots → IsProper plan state
    → IsProper plan (after plan state events)
after_proper plan [] state some h = h
after_proper plan (e ∷ es) state some h =
    after_proper plan es (step plan state e) some (step_proper plan state e some h)

pub reached_proper : (plan : Plan) (events : List Event) → 0 < plan.slots → 0 < plan.packet_limit
    → IsProper plan (reached plan events)
reached_proper plan events some strings =
    after_proper plan events (opening plan) some (opening_proper plan some strings)

pub run_front : (plan : Plan) (heaps : OutputHeaps) (events : List Event)
    → appended plan heaps (opening plan) events ≡ output_before plan heaps (reached plan events).sent
run_front plan heaps events = run_appends plan heaps events (opening plan)

pub appended_front : (plan : Plan) (heaps : OutputHeaps) (events : List Event) → 0 < plan.slots → 0 < plan.packet_limit
    → 0 < plan.antennas → 0 < plan.accumulations
    → IsFront (appended plan heaps (opening plan) events) (output_of plan heaps)
appended_front plan heaps events some strings any all =
    let within = sent_within plan (reached plan events) any (reached_proper plan events some strings) in
    subst (λ l. IsFront l (output_of plan heaps)) (sym (run_front plan heaps events))
    (before_front plan heaps (reached plan events).sent all within)

pub step_done : (plan : Plan) (state : State) (e : Event) → 0 < plan.slots → IsProper plan state
    → enabled plan state e ≡ true → done plan (step plan state e) ≡ done plan state + 1
step_done plan state e some h on =
    ap (done plan) (cond-true (enabled plan state e) (effect plan state e) state on) ∙ event_done plan state e some h on

fits_or : (plan : Plan) (state : State) (lists : Lists) (e : Event) (on : Bool) → FitsLists plan state lists
    → (on ≡ true → FitsLists plan (effect plan state e) lists)
    → FitsLists plan (cond on (effect plan state e) state) lists
fits_or plan state lists e true h f = f refl
fits_or plan state lists e false h f = h

pub step_fits : (plan : Plan) (state : State) (lists : Lists) (e : Event) → IsProper plan state
    → FitsLists plan state lists → IsNext plan lists state e → FitsLists plan (step plan state e) lists
step_fits plan state lists e h fits next =
    fits_or plan state lists e (enabled plan state e) fits (event_fits plan state lists e h fits next)

pub opening_fits : (plan : Plan) (lists : Lists) → FitsLists plan (opening plan) lists
opening_fits plan lists a few =
    subst (λ x. StreamFits plan x (lists a)) (sym (get_or-replicate plan.antennas a new_stream new_stream few))
    (record { first = refl; all = λ e. absurd cc })
