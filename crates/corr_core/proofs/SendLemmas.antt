-- What is sent with a value, and what a step is by what its call did.
use Rattle.std.proofs.Common.{◌≡◌, ℕ, ◌%◌, ◌<◌, Bool, true, false, cond, eqb, List, [], Option, Some, None, refl, sym, ap, ◌∙◌, subst, inr, arith}
use Rattle.std.proofs.lemmas.List.{append-nil}
use Rattle.std.proofs.lemmas.Nat.{mod_below}
use Rattle.std.proofs.lemmas.Bool.{eqb-true, and_parts, cond-true}
use Rattle.corr_model.specs.declared.plan.Plan.{Plan}
use Rattle.corr_model.specs.Streams.{column}
use Rattle.corr_model.specs.Visibilities.{Lists}
use Rattle.vis_send.specs.declared.tally.Sent.{Sent}
use Rattle.vis_send.specs.Emitters.{Strings}
use Rattle.vis_send.specs.Sending.{SendsWhole}
use Rattle.corr_machine.specs.Machines.{State, Event, Send, stream_at, slot_for, is_done, enabled, IsProper}
use Rattle.corr_machine.specs.Runs.{OutputHeaps, strings_of, sent_with, appended_by, appends, FitsLists}
use Rattle.corr_machine.proofs.Proper.{full_put, not_filling_done}
use Rattle.corr_machine.proofs.ColumnLaws.{column_fits}
use Rattle.corr_core.specs.Parts.{PartsView}
use Rattle.corr_core.specs.Standing.{Value, values_of, StandFor, Happens}
use Rattle.corr_core.specs.Changes.{Sending}
use Rattle.corr_core.specs.Sends.{sent_together, heaps_by}
use Rattle.corr_core.specs.Cores.{Steps, stepped_of}
use Rattle.corr_core.proofs.AgreeLemmas.{map_numbers}

-- the value that is sent is that of all lists that the state fits
result_fits : (value : Value) (plan : Plan) (state : State) (lists : Lists) → 0 < plan.slots → IsProper plan state
    → FitsLists plan state lists → enabled plan state Send ≡ true
    → (values_of value plan (strings_of state)).result state.sent ≡ (values_of value plan lists).result state.sent
result_fits value plan state lists some h fits on =
    let n = state.sent in
    let s = n % plan.slots in
    let low = mod_below n plan.slots some in
    let z = slot_for plan state n in
    let parts = and_parts (eqb z.number n) (is_done z.kind) on in
    let full = (h.slot s low).full (not_filling_done z.kind parts.1) in
    ap value (map_numbers (λ a. column plan a (strings_of state a) n) (λ a. column plan a (lists a) n) 0 plan.antennas
    (λ a less.
    let few : a < plan.antennas = omega (arith, less) in
    let put = full_put plan state s a h low few full in
    let was = h.stream a few in
    column_fits plan a n (stream_at state a) (lists a) (fits a few)
    (omega (arith, put, was.closed, eqb-true z.number n parts.0))))

-- what is sent with the next value is what the machine's event appends
pub together_is : (value : Value) (strings : Strings) (old now : PartsView) (state : State) (lists : Lists)
    → StandFor value old state → FitsLists old.plan state lists
    → Sending value old now state → now.plan ≡ old.plan → now.outgoing.number ≡ old.sent
    → sent_together old.plan strings now.outgoing.number now.outgoing.out.sums
    ≡ appends old.plan (heaps_by value strings old.plan lists) state Send
together_is value strings old now state lists h fits sending same number =
    let plan = old.plan in
    let out = sending.out ∙ result_fits value plan state lists h.some h.stands_for.proper fits sending.can in
    ap (λ n. sent_together plan strings n now.outgoing.out.sums) (number ∙ h.stands_for.sent_is)
    ∙ ap (sent_together plan strings state.sent) out
    ∙ sym (cond-true (enabled plan state Send) (sent_with plan (heaps_by value strings plan lists) state.sent)
    [] sending.can)

pub nothing_more : (before : Option (List (List ℕ))) (sent : Sent) → SendsWhole before before sent sent []
nothing_more None sent = record { appended = refl; counted = refl }
nothing_more (Some k) sent = record { appended = ap Some (sym (append-nil k)); counted = refl }

none_either : (b : Bool) (l : List (List ℕ)) → l ≡ [] → cond b l [] ≡ []
none_either true l e = e
none_either false l e = refl

-- a step that appends nothing
pub steps_of : (value : Value) (strings : Strings) (old now : PartsView) (failed : Bool) (state : State) (e : Event)
    (before : Option (List (List ℕ))) (sent : Sent) (happened : Bool) → failed ≡ false
    → Happens value old.plan now state e happened
    → ((heaps : OutputHeaps) (n : ℕ) → appended_by old.plan heaps n e ≡ [])
    → Steps value strings old now failed state e before before sent sent (stepped_of happened)
steps_of value strings old now failed state e before sent true was h none = record {
  stands_for = h.1;
  gives = record {
    was = was;
    can = h.0;
    appended = λ lists fits.
        subst (SendsWhole before before sent sent)
        (sym (none_either (enabled old.plan state e) _ (none (heaps_by value strings old.plan lists) state.sent)))
        (nothing_more before sent);
  };
}
steps_of value strings old now failed state e before sent false was h none =
    record { stands_for = h.1; gives = record { cannot = inr h.0; same = refl; same_sent = refl } }
