-- A run from the machine's opening to its end.
use Rattle.std.proofs.Common.{◌≡◌, ◌≢◌, ◌⊎◌, ℕ, ◌+◌, ◌%◌, ◌<◌, ◌≤◌, ℤ, Bool, true, false, List, [], ◌∷◌, ◌++◌, length, take, get_or, replicate, Option, Some, None, Result, Ok, Err, refl, sym, ap, ◌∙◌, subst, inl, inr, arith, append_assoc, append-nil}
use Rattle.std.specs.Option.{is_some}
use Rattle.std.specs.Result.{IsErr}
use Rattle.std.proofs.lemmas.List.{get_or_default, get_or-replicate}
use Rattle.std.proofs.Math.Seq.{take-append_seam}
use Rattle.std.proofs.lemmas.Nat.{mod_below}
use Rattle.corr_model.specs.declared.plan.Plan.{Plan}
use Rattle.corr_model.specs.Plans.{Fits}
use Rattle.corr_model.specs.Streams.{ending, taken}
use Rattle.corr_model.specs.Visibilities.{Lists}
use Rattle.corr_model.proofs.StreamLawsTaken.{never_stopped, taken_open, taken_next, taken_past}
use Rattle.stream_feed.specs.Feeding.{FeedState, is_said}
use Rattle.vis_send.specs.declared.tally.Sent.{Sent}
use Rattle.vis_send.specs.Emitters.{Strings}
use Rattle.vis_send.specs.Sending.{SendsWhole, SendsFront}
use Rattle.vis_send.proofs.TallyLemmas.{front_more, whole_more}
use Rattle.corr_machine.specs.Machines.{StreamState, State, new_stream, opening, stream_at, work_at, work_count}
use Rattle.corr_machine.specs.Runs.{IsFront as IsFrontOf, OutputHeaps, output_before, output_of, sent_with, strings_of, StreamFits, FitsLists}
use Rattle.corr_machine.proofs.Sending.{before_next, before_all, before_front}
use Rattle.corr_core.specs.Parts.{PartsView, no_feed, feed_in}
use Rattle.corr_core.specs.Standing.{Value, StandFor}
use Rattle.corr_core.specs.Sends.{value_with, heaps_by}
use Rattle.corr_core.specs.Cores.{CoreView, end_of}
use Rattle.corr_serial.specs.Sources.{KeepsEach, RisesIf}
use Rattle.corr_serial.specs.Hearing.{is_fault, is_over, Hears, GoesOn}
use Rattle.corr_serial.specs.Outputs.{Meaning, output_by}
use Rattle.corr_serial.specs.Streams.{AreHeard, AllGoOn, AreOver}
use Rattle.corr_serial.specs.Runs.{RunsWhole, RunsFront, Runs}
use Rattle.corr_serial.specs.Rounds.{AllFree}
use Rattle.corr_serial.specs.Going.{ValuesOf, IsOwn, IsAt, Listens, AreListened, Goes, KeepsStreams, Breaks, Stays, part_of}
use Rattle.corr_serial.proofs.StepLemmas.{still_listened, streams_fit, feed_there, goes_still, goes_then, goes_as}
use Rattle.corr_serial.proofs.ListenLemmas.{end_open}

-- ---- the opening

opened : (plan : Plan) (a : ℕ) → a < plan.antennas → stream_at (opening plan) a ≡ new_stream
opened plan a few = get_or-replicate plan.antennas a new_stream new_stream few

pub opening_at : {B E : Type 0} (value : ValuesOf B) (core : CoreView B E)
    → StandFor (value_with (value core.backend) core.parts.plan) core.parts (opening core.parts.plan)
    → core.failed ≡ false
    → IsAt value core.parts.plan core.backend core 0 0 (opening core.parts.plan)
opening_at value core stands calm =
    let plan = core.parts.plan in
    record {
      own = record { same_plan = refl; same_backend = refl; calm = calm };
      stands_for = stands;
      number_is = refl;
      put_before = λ a low few. absurd (omega arith);
      put_rest = λ a high few. ap (λ (x : StreamState). x.put) (opened plan a few);
      free = λ w low. get_or-replicate (work_count plan) w None None low;
      counts = λ a few. subst (λ (x : StreamState). taken plan x.strings ≡ x.strings) (sym (opened plan a few))
          (taken_open plan [] (never_stopped plan) (omega arith));
    }

pub opening_listened : {B E S : Type 0} (value : ValuesOf B) (gives : S → Option (List (List ℕ))) (given faults : S → ℕ)
    (core : CoreView B E) (sources : List S)
    → IsAt value core.parts.plan core.backend core 0 0 (opening core.parts.plan)
    → AreListened gives given faults core.parts.plan sources sources core.parts (opening core.parts.plan)
opening_listened value gives given faults core sources h = record {
  as_many = refl;
  same_gives = record { each = λ a d. refl };
  each = λ a s few.
      let plan = core.parts.plan in
      let none = end_open value plan core.backend core 0 0 (opening plan) a h few
      (ap (λ (x : StreamState). x.ended) (opened plan a few)) in
      let empty : strings_of (opening plan) a ≡ [] = ap (λ (x : StreamState). x.strings) (opened plan a few) in
      record {
        told = λ all told zero. record {
          front = empty ∙ ap (λ n. take n all) (sym zero);
          within = omega (arith, zero);
          whole = λ e. absurd (let off = sym (ap is_said none) ∙ e in cc);
        };
        cause = subst (λ o. RisesIf (is_fault o) (faults (get_or sources a s)) (faults (get_or sources a s)))
            (sym none) refl;
      };
}

-- ---- what the streams heard

pub are_heard : {S : Type 0} (value : Value) (gives : S → Option (List (List ℕ))) (given faults : S → ℕ) (plan : Plan)
    (start now : List S) (p : PartsView) (state : State) → p.plan ≡ plan → StandFor value p state
    → ((a : ℕ) → a < plan.antennas → taken plan (strings_of state a) ≡ strings_of state a)
    → AreListened gives given faults plan start now p state
    → AreHeard plan gives given faults start now p.feeds (strings_of state)
are_heard value gives given faults plan start now p state same stands counts h = record {
  as_many = h.as_many;
  same_gives = h.same_gives;
  each = λ a s f few.
      let low : a < p.plan.antennas = subst (λ (k : Plan). a < k.antennas) (sym same) few in
      let there = feed_there value plan p state a same stands few in
      let here = h.each a s few in
      subst (λ q. Hears plan a (gives (get_or start a s)) (given (get_or start a s)) (given (get_or now a s))
      (faults (get_or start a s)) (faults (get_or now a s)) q (strings_of state a))
      (get_or_default p.feeds a (no_feed p.plan) f there)
      (record {
        heard = record {
          same_plan = stands.plans a low ∙ same;
          same_antenna = (stands.stands_for.stream a low).antenna;
          stands = stands.feeds a low;
          counts = counts a few;
        };
        told = here.told;
        cause = here.cause;
      });
}

none_or_some : {A : Type 0} (o : Option A) → (o ≡ None) ⊎ (is_some o ≡ true)
none_or_some None = inl refl
none_or_some (Some x) = inr refl

-- strings that all count are a front of those that count of a longer list
counting_front : (plan : Plan) (r s : List (List ℕ)) → taken plan s ≡ s → IsFrontOf s (taken plan (s ++ r))
counting_front plan [] s counts =
    record { rest = []; is = ap (taken plan) (append-nil s) ∙ counts ∙ sym (append-nil s) }
counting_front plan (b ∷ r) s counts = elim (none_or_some (ending plan s)) [
  | inr over ↦ record { rest = []; is = taken_past plan s (b ∷ r) over ∙ counts ∙ sym (append-nil s) }
  | inl still ↦
      let more = counting_front plan r (s ++ b ∷ []) (taken_next plan s b still) in
      record {
        rest = b ∷ more.rest;
        is = ap (taken plan) (sym (append_assoc s (b ∷ []) r)) ∙ more.is ∙ append_assoc s (b ∷ []) more.rest;
      }
]

stream_fits : (plan : Plan) (x : StreamState) (l : List (List ℕ)) (over : Bool) → taken plan x.strings ≡ x.strings
    → over ≡ x.ended → GoesOn plan x.strings over l → StreamFits plan x l
stream_fits plan x l over counts ended h =
    let front = counting_front plan h.rest x.strings counts in
    let is : taken plan l ≡ x.strings ++ front.rest = ap (taken plan) h.is ∙ front.is in
    record {
      first = sym (take-append_seam x.strings front.rest) ∙ ap (take (length x.strings)) (sym is);
      all = λ e. sym (h.whole (ended ∙ e));
    }

-- lists that go on from what the streams heard are lists that the state fits
pub go_on_fits : (value : Value) (plan : Plan) (p : PartsView) (state : State) (all : Lists) → p.plan ≡ plan
    → StandFor value p state → ((a : ℕ) → a < plan.antennas → taken plan (strings_of state a) ≡ strings_of state a)
    → AllGoOn plan p.feeds (strings_of state) all → FitsLists plan state all
go_on_fits value plan p state all same stands counts h a few =
    let low : a < p.plan.antennas = subst (λ (k : Plan). a < k.antennas) (sym same) few in
    stream_fits plan (stream_at state a) (all a) (is_over (feed_in p a)) (counts a few)
    (stands.stands_for.stream a low).ended (h.each a (no_feed p.plan) few)

-- ---- the whole run

-- what a run means, and the heaps of some lists
abbrev pub meaning_of : {B : Type 0} → ValuesOf B → B → Strings → Plan → Meaning
meaning_of value backend strings plan = record { strings = strings; value = value backend plan }

abbrev pub heaps_of_lists : {B : Type 0} → ValuesOf B → B → Strings → Plan → Lists → OutputHeaps
heaps_of_lists value backend strings plan all = heaps_by (value_with (value backend) plan) strings plan all

-- what was sent before a number, of some lists
abbrev pub sent_to : {B : Type 0} → ValuesOf B → B → Strings → Plan → ℕ → Lists → List (List ℕ)
sent_to value backend strings plan number all =
    output_before plan (heaps_by (value_with (value backend) plan) strings plan all) number

-- an accumulation more
pub goes_next : {B E S : Type 0} (value : ValuesOf B) (gives : S → Option (List (List ℕ))) (given faults : S → ℕ)
    (plan : Plan) (backend : B) (strings : Strings) (one two three : List S) (old first mid now : CoreView B E)
    (number : ℕ) (state : State) (before middle later after : Option (List (List ℕ)))
    (sent_before sent_middle sent_later sent : Sent)
    → (h : Goes value gives given faults plan backend one two old first number 0 state before middle sent_before
    sent_middle (sent_to value backend strings plan number))
    → (k : Goes value gives given faults plan backend two three first mid number plan.antennas h.next middle later
    sent_middle sent_later (λ all. []))
    → Stays value plan backend mid now (number + 1) 0 k.next later after sent_later sent
    (part_of value backend strings plan number)
    → Goes value gives given faults plan backend one three old now (number + 1) 0 state before after sent_before sent
    (sent_to value backend strings plan (number + 1))
goes_next value gives given faults plan backend strings one two three old first mid now number state before middle later
    after sent_before sent_middle sent_later sent h k s =
    let part = part_of value backend strings plan number in
    let still = goes_still value gives given faults plan backend three mid now (number + 1) 0 k.next later after
    sent_later sent part s in
    let second = goes_then value gives given faults plan backend two three three first mid now number plan.antennas
    (number + 1) 0 h.next middle later after sent_middle sent_later sent (λ all. []) part k still in
    goes_as value gives given faults plan backend one three old now (number + 1) 0 state before after sent_before sent
    (λ all. sent_to value backend strings plan number all ++ part all)
    (sent_to value backend strings plan (number + 1))
    (λ all. sym (before_next plan (heaps_by (value_with (value backend) plan) strings plan all) number))
    (goes_then value gives given faults plan backend one two three old first now number 0 (number + 1) 0 state before
    middle after sent_before sent_middle sent (sent_to value backend strings plan number) part h second)

module _ {B E S : Type 0} (value : ValuesOf B) (gives : S → Option (List (List ℕ))) (given faults : S → ℕ)
    (strings : Strings) (old : CoreView B E) (start : List S) (before : Option (List (List ℕ))) (sent_before : Sent)
    (at : IsAt value old.parts.plan old.backend old 0 0 (opening old.parts.plan))
    (some : 0 < old.parts.plan.accumulations) where
  -- all was sent, and each stream was heard to its end
  pub runs_whole : (now mid : CoreView B E) (later end : List S) (number : ℕ) (middle after : Option (List (List ℕ)))
      (sent_middle sent : Sent) → number ≡ old.parts.plan.accumulations
      → (h : Goes value gives given faults old.parts.plan old.backend start later old mid number 0
      (opening old.parts.plan) before middle sent_before sent_middle
      (sent_to value old.backend strings old.parts.plan number))
      → Goes value gives given faults old.parts.plan old.backend later end mid now old.parts.plan.accumulations 0 h.next
      middle after sent_middle sent (λ all. [])
      → ((a : ℕ) → a < old.parts.plan.antennas → is_some (end_of now.parts a) ≡ true)
      → RunsWhole (meaning_of value old.backend strings old.parts.plan) old.parts.plan gives given faults start end
      now.parts.feeds before after sent_before sent
  runs_whole now mid later end number middle after sent_middle sent all_sent h k over =
      let plan = old.parts.plan in
      let g = goes_then value gives given faults plan old.backend start later end old mid now number 0
      plan.accumulations 0 (opening plan) before middle after sent_before sent_middle sent
      (sent_to value old.backend strings plan number) (λ all. []) h k in
      let last = g.at in
      record {
        heard = strings_of g.next;
        are_heard = are_heard (value_with (value old.backend) plan) gives given faults plan start end now.parts g.next
            last.own.same_plan last.stands_for last.counts
            (g.listened start (opening_listened value gives given faults old start at));
        are_over = record {
          each = λ a f few.
              ap (λ q. is_over q) (sym
              (get_or_default now.parts.feeds a (no_feed now.parts.plan) f
              (feed_there (value_with (value old.backend) plan) plan now.parts g.next a last.own.same_plan
              last.stands_for few))) ∙ over a few;
        };
        sends = λ all go.
            subst (SendsWhole before after sent_before sent)
            (append-nil (output_before plan (heaps_of_lists value old.backend strings plan all) number) ∙ ap
            (output_before plan (heaps_of_lists value old.backend strings plan all)) all_sent ∙ before_all plan
            (heaps_of_lists value old.backend strings plan all) some)
            (g.sends all (go_on_fits (value_with (value old.backend) plan) plan now.parts g.next all last.own.same_plan
            last.stands_for last.counts go));
      }

  -- the sink failed at the heap of a number
  pub runs_front : (now first mid : CoreView B E) (later end : List S) (number : ℕ)
      (middle after : Option (List (List ℕ))) (sent_middle sent : Sent) → number < old.parts.plan.accumulations
      → (third : Option (List (List ℕ))) (sent_third : Sent)
      → (h : Goes value gives given faults old.parts.plan old.backend start later old first number 0
      (opening old.parts.plan) before middle sent_before sent_middle
      (sent_to value old.backend strings old.parts.plan number))
      → (k : Goes value gives given faults old.parts.plan old.backend later end first mid number old.parts.plan.antennas
      h.next middle third sent_middle sent_third (λ all. []))
      → Breaks value old.parts.plan old.backend strings mid now number k.next third after sent_third sent
      → RunsFront (meaning_of value old.backend strings old.parts.plan) old.parts.plan gives given faults start end
      now.parts.feeds before after sent_before sent
  runs_front now first mid later end number middle after sent_middle sent more third sent_third h k b =
      let plan = old.parts.plan in
      let counts : (a : ℕ) → a < plan.antennas → taken plan (strings_of b.next a) ≡ strings_of b.next a =
      λ a few. subst (λ l. taken plan l ≡ l) (sym (b.keeps.same a few).strings) (k.at.counts a few) in
      record {
        heard = strings_of b.next;
        are_heard = are_heard (value_with (value old.backend) plan) gives given faults plan start end now.parts b.next
            b.same_plan b.stands_for counts
            (still_listened gives given faults plan start end mid.parts now.parts k.next b.next b.keeps
            (k.listened start (h.listened start (opening_listened value gives given faults old start at))));
        sends = λ all go.
            let now_fits = go_on_fits (value_with (value old.backend) plan) plan now.parts b.next all b.same_plan
            b.stands_for counts go in
            let fits = streams_fit plan mid.parts now.parts k.next b.next all b.keeps now_fits in
            let was = output_before plan (heaps_of_lists value old.backend strings plan all) number in
            let part = sent_with plan (heaps_of_lists value old.backend strings plan all) number in
            let around = before_front plan (heaps_of_lists value old.backend strings plan all) (number + 1) some
            (omega (arith, more)) in
            front_more before third after sent_before sent_third sent (was ++ []) part around.rest
            (output_by (meaning_of value old.backend strings plan) plan all)
            (whole_more before middle third sent_before sent_middle sent_third was []
            (h.sends all (k.fits all fits)) (k.sends all fits)) (b.front all now_fits)
            (around.is ∙ ap (λ l. l ++ around.rest)
            (before_next plan (heaps_of_lists value old.backend strings plan all) number) ∙ append_assoc was part
            around.rest ∙ ap (λ l. l ++ (part ++ around.rest)) (sym (append-nil was)));
      }

-- an Err where a front was sent
pub err_runs : {S T E : Type 0} (m : Meaning) (plan : Plan) (gives : S → Option (List (List ℕ))) (given faults : S → ℕ)
    (start now : List S) (feeds : List FeedState) (before after : Option (List (List ℕ))) (first last : Sent)
    (x : Result T E)
    → IsErr x → RunsFront m plan gives given faults start now feeds before after first last
    → Runs m plan gives given faults start now feeds before after first last x
err_runs m plan gives given faults start now feeds before after first last (Ok x) is h = absurd cc
err_runs m plan gives given faults start now feeds before after first last (Err e) is h = h

-- ---- of a plan that fits

pub some_accumulations : (plan : Plan) → Fits plan → 0 < plan.accumulations
some_accumulations plan fits = fits.ranges.shape.accumulations.least_met

-- the slot of a number is one of the plan's
pub slot_within : (plan p q : Plan) (n : ℕ) → Fits plan → p ≡ plan → q ≡ plan → n % q.slots < p.slots
slot_within plan p q n fits same told =
    let some : 0 < plan.slots = fits.ranges.limit.slots.least_met in
    subst (λ (k : Plan). n % q.slots < k.slots) (sym same)
    (subst (λ (k : Plan). n % k.slots < plan.slots) (sym told) (mod_below n plan.slots some))

pub slot_is : (plan q : Plan) (n : ℕ) → q ≡ plan → n % q.slots ≡ n % plan.slots
slot_is plan q n told = ap (λ (k : Plan). n % k.slots) told

pub feeds_counted : (value : Value) (plan : Plan) (p : PartsView) (state : State) → p.plan ≡ plan
    → StandFor value p state → length p.feeds ≡ plan.antennas
feeds_counted value plan p state same stands = stands.stands_for.feed_count ∙ ap (λ (k : Plan). k.antennas) same

-- the last number, said otherwise
pub at_last : {B E : Type 0} (value : ValuesOf B) (plan : Plan) (backend : B) (core : CoreView B E) (number : ℕ)
    (state : State) → number ≡ plan.accumulations → IsAt value plan backend core number 0 state
    → IsAt value plan backend core plan.accumulations 0 state
at_last value plan backend core number state all h = subst (λ n. IsAt value plan backend core n 0 state) all h
