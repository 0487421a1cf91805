-- The seats of a run, before it and after it, and what it comes to.
use Rattle.std.proofs.Common.{◌≡◌, ℕ, ◌+◌, ◌-◌, ◌<◌, ◌≤◌, Bool, true, false, not, List, ◌++◌, length, get_or, take}
use Rattle.std.proofs.Common.{drop, Option, Some, None, refl, sym, ap, ◌∙◌, subst, arith}
use Rattle.std.proofs.lemmas.List.{get_or-take, get_or-drop, get_or_append_left, get_or-append_right, length-take-le}
use Rattle.std.proofs.lemmas.List.{length-append, length-drop}
use Rattle.corr_model.specs.declared.plan.Plan.{Plan}
use Rattle.stream_feed.specs.declared.report.StreamReport.{StreamReport}
use Rattle.slot_ring.specs.Means.{Means, meant}
use Rattle.vis_send.specs.declared.tally.Sent.{Sent}
use Rattle.vis_send.specs.Emitters.{Strings, output_of}
use Rattle.vis_send.specs.Marks.{nothing}
use Rattle.vis_send.specs.Sending.{SendsWhole}
use Rattle.corr_serial.specs.declared.outcome.Ran.{Ran}
use Rattle.corr_serial.specs.Sources.{AreBegun, AreSameFrom}
use Rattle.corr_serial.specs.Runs.{SendsBy, ran_as}
use Rattle.corr_core.specs.New.{Built}
use Rattle.corr_machine.specs.Runs.{IsFront}
use Rattle.corr_threads.specs.Dispatches.{DispatchView}
use Rattle.corr_threads.specs.Receivers.{ReceiverView, SourceTold}
use Rattle.corr_parallel.specs.Runs.{AreObserved}
use Rattle.corr_parallel.specs.Seats.{IsNewReceiver, IsSeated, IsSeatOf, LeavesSeat, ReadsOut}
use Rattle.corr_parallel.specs.Senders.{SinkView, HasCounted, HasSentAll, IsNewDispatch}
use Rattle.corr_parallel.proofs.ConcludeLemmas.{sends_by}

-- the first seats, with their new receivers, can begin
pub one_seated : {T S : Type 0} (names : Bool) (named plan : Plan) (source : T → S) (receiver : T → Option ReceiverView)
    (begun : S → Bool) (belongs : S → ℕ → Type 0) (given : S → ℕ) (receivers : List ReceiverView) (old seated : List T)
    → (names ≡ true → plan ≡ named) → plan.antennas ≤ length old → length seated ≡ plan.antennas
    → Built (IsNewReceiver plan) plan.antennas receivers
    → ((a : ℕ) (d : T) (v : ReceiverView) → a < length (take plan.antennas old)
    → IsSeatOf (source (get_or (take plan.antennas old) a d)) (get_or receivers a v) (source (get_or seated a d))
    (receiver (get_or seated a d)))
    → AreBegun (λ t. begun (source t)) plan.antennas old
    → (names ≡ true → AreObserved plan (λ t. belongs (source t)) (λ t. given (source t)) old) → ReceiverView
    → (a : ℕ) (d : T) → a < length seated
    → IsSeated names named begun belongs given (source (get_or seated a d)) (receiver (get_or seated a d))
one_seated names named plan source receiver begun belongs given receivers old seated same_plan enough many new sits are
    observed v a d within =
    let low : a < plan.antennas = omega (arith, within, many) in
    let here = sits a d v (let front = length-take-le plan.antennas old enough in omega (arith, front, low)) in
    let same : source (get_or seated a d) ≡ source (get_or old a d) =
    here.same_source ∙ ap source (get_or-take plan.antennas old a d low) in
    let is_new = new.each a v low in
    record {
      view = get_or receivers a v;
      is = here.is;
      is_begun = ap begun same ∙ are.each a d low;
      plan_is = λ n. is_new.same_plan ∙ same_plan n;
      told = λ n. record {
        belongs_to = subst (belongs (source (get_or seated a d))) (sym is_new.same_antenna)
            (subst (λ s. belongs s a) (sym same) ((observed n).belong a d low));
        as_many = ap given same ∙ (observed n).none_given a d low ∙ sym is_new.took_none;
      };
      goes_on = is_new.goes_on;
    }

-- those of a list that were handed in beside the first
pub same_later : {T : Type 0} (n : ℕ) (old own : List T) → length own ≡ n → AreSameFrom n old (own ++ drop n old)
same_later n old own many = record {
  each = λ a d high.
      let back : n + (a - n) ≡ a = omega (arith, high) in
      get_or-append_right own (drop n old) n a d many high ∙ get_or-drop n old (a - n) d
      ∙ ap (λ k. get_or old k d) back;
}

pub same_length : {T : Type 0} (n : ℕ) (old own : List T) → n ≤ length old → length own ≡ n
    → length (own ++ drop n old) ≡ length old
same_length n old own enough many =
    let sum = length-append own (drop n old) in
    let rest = length-drop n old in
    omega (arith, sum, rest, many, enough)

-- what became of each stream, by its seat and its report
module _ {T S A B : Type 0} (names : Bool) (list : ℕ → List (List ℕ)) (plan : Plan) (source : T → S)
    (receiver : T → Option ReceiverView) (begun : S → Bool) (at : S → A) (gives : S → B) (belongs : S → ℕ → Type 0)
    (given faults : S → ℕ) where
  read_out : (a : ℕ) (v : ReceiverView) (t w u : T) (r : StreamReport) → IsNewReceiver plan a v → source w ≡ source t
      → LeavesSeat names list begun at gives belongs given faults v (source w) (source u) (receiver u)
      → ((k : ReceiverView) → receiver u ≡ Some k → r ≡ k.feed.report)
      → ReadsOut names list plan a (λ x. begun (source x)) (λ x. at (source x)) (λ x. gives (source x))
      (λ x. belongs (source x)) (λ x. given (source x)) (λ x. faults (source x)) t u r
  read_out a v t w u r new same leaves reported =
      let e = reported leaves.view leaves.is in
      let reads : ReadsOut names list plan a begun at gives belongs given faults (source t) (source u) r
      = subst (λ x. ReadsOut names list plan a begun at gives belongs given faults x (source u) r) same
      (subst (ReadsOut names list plan a begun at gives belongs given faults (source w) (source u)) (sym e)
      (subst
      (λ p. ReadsOut names list p a begun at gives belongs given faults (source w)
      (source u) leaves.view.feed.report) new.same_plan
      (subst
      (λ k. ReadsOut names list v.plan k begun at gives belongs given faults (source w)
      (source u) leaves.view.feed.report) new.same_antenna leaves.reads))) in
      record {
        source = record {
          is_begun = reads.source.is_begun;
          same_at = reads.source.same_at;
          same_gives = reads.source.same_gives;
          still_belongs = reads.source.still_belongs;
        };
        over = reads.over;
        cause = reads.cause;
        read = reads.read;
      }

  pub reads_each : (receivers : List ReceiverView) (old seated own : List T) (reports taken : List StreamReport)
      → reports ≡ taken → Built (IsNewReceiver plan) plan.antennas receivers → plan.antennas ≤ length old
      → length seated ≡ plan.antennas → length own ≡ plan.antennas
      → ((a : ℕ) (d : T) (v : ReceiverView) → a < length (take plan.antennas old)
      → IsSeatOf (source (get_or (take plan.antennas old) a d)) (get_or receivers a v) (source (get_or seated a d))
      (receiver (get_or seated a d)))
      → ((a : ℕ) (d : T) (v : ReceiverView) → a < length seated → receiver (get_or seated a d) ≡ Some v
      → LeavesSeat names list begun at gives belongs given faults v (source (get_or seated a d))
      (source (get_or own a d)) (receiver (get_or own a d)))
      → ((a : ℕ) (d : T) (v : ReceiverView) (r : StreamReport) → a < length own → receiver (get_or own a d) ≡ Some v
      → get_or taken a r ≡ v.feed.report) → ReceiverView
      → (a : ℕ) (d : T) (r : StreamReport) → a < plan.antennas
      → ReadsOut names list plan a (λ x. begun (source x)) (λ x. at (source x)) (λ x. gives (source x))
      (λ x. belongs (source x)) (λ x. given (source x)) (λ x. faults (source x)) (get_or old a d)
      (get_or (own ++ drop plan.antennas old) a d) (get_or reports a r)
  reads_each receivers old seated own reports taken same new enough many_seated many sits leaves reported v0 a d r low =
      let v = get_or receivers a v0 in
      let here = sits a d v0 (let front = length-take-le plan.antennas old enough in omega (arith, front, low)) in
      let kept : source (get_or seated a d) ≡ source (get_or old a d) =
      here.same_source ∙ ap source (get_or-take plan.antennas old a d low) in
      let left = leaves a d v (omega (arith, many_seated, low)) here.is in
      let within : a < length own = omega (arith, many, low) in
      let own_here : get_or (own ++ drop plan.antennas old) a d ≡ get_or own a d =
      get_or_append_left own (drop plan.antennas old) d a within in
      subst
      (λ u. ReadsOut names list plan a (λ x. begun (source x)) (λ x. at (source x)) (λ x. gives (source x))
      (λ x. belongs (source x)) (λ x. given (source x)) (λ x. faults (source x)) (get_or old a d) u
      (get_or reports a r)) (sym own_here)
      (read_out a v (get_or old a d) (get_or seated a d) (get_or own a d) (get_or reports a r)
      (new.each a v0 low) kept left
      (λ k is. ap (λ l. get_or l a r) same ∙ reported a d k r within is))

-- what was sent, by how the run ended
pub ran_sends : (m : Means) (str : Plan → Strings) (plan : Plan) (old now : DispatchView) (before after : SinkView)
    (fault : Option ℕ) (ran : Ran) (sent : Sent) → IsNewDispatch plan old
    → HasSentAll m (str old.plan) old now before after
    → ran ≡ ran_as (not now.broken) fault → sent ≡ now.sent → m.names ≡ true → m.shows ≡ true
    → SendsBy ran before.sent after.sent sent (output_of (str plan) plan (meant m))
ran_sends m str plan old now before after fault ran sent new h is same n s =
    let out : output_of (str old.plan) old.plan (meant m) ≡ output_of (str plan) plan (meant m) =
    ap (λ p. output_of (str p) p (meant m)) new.same_plan in
    subst (λ k. SendsBy k before.sent after.sent sent (output_of (str plan) plan (meant m))) (sym is)
    (subst (λ t. SendsBy (ran_as (not now.broken) fault) before.sent after.sent t (output_of (str plan) plan (meant m)))
    (sym same)
    (subst (SendsBy (ran_as (not now.broken) fault) before.sent after.sent now.sent) out
    (sends_by now.broken fault before.sent after.sent old.sent now.sent h.went
    (output_of (str old.plan) old.plan (meant m)) new.sent_nothing h.goes (λ b. h.whole b n s) (h.front n s))))

pub ran_counted : (m : Means) (s : Strings) (plan : Plan) (old now : DispatchView) (before after : SinkView)
    (sent : Sent) → IsNewDispatch plan old → HasSentAll m s old now before after → sent ≡ now.sent
    → HasCounted before.sent after.sent sent
ran_counted m s plan old now before after sent new h same = record {
  went = h.went;
  goes = subst (λ t. SendsWhole before.sent after.sent nothing t h.went) (sym same)
      (subst (λ f. SendsWhole before.sent after.sent f now.sent h.went) new.sent_nothing h.goes);
}
