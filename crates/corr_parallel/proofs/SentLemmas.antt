-- What the sender sent, from turn to turn.
use Rattle.std.proofs.Common.{◌≡◌, ℕ, ℤ, ◌+◌, ◌<◌, ◌≤◌, Bool, true, false, List, [], ◌++◌, Option, refl, sym, ap, ◌∙◌}
use Rattle.std.proofs.Common.{subst, arith}
use Rattle.std.proofs.lemmas.Bool.{false≢true}
use Rattle.std.proofs.lemmas.List.{append-nil, append_assoc}
use Rattle.corr_model.specs.declared.plan.Plan.{Plan}
use Rattle.corr_site.specs.Outside.{Rises}
use Rattle.slot_ring.specs.Means.{Means, meant}
use Rattle.vis_send.specs.Emitters.{Strings}
use Rattle.vis_send.specs.Sending.{SendsWhole, SendsFront}
use Rattle.vis_send.specs.declared.tally.Sent.{Sent}
use Rattle.vis_send.proofs.TallyLemmas.{none_sent, whole_more}
use Rattle.corr_machine.specs.Runs.{IsFront, output_before, output_of, sent_with}
use Rattle.corr_machine.proofs.Sending.{before_next, before_all}
use Rattle.corr_core.specs.Sends.{sent_together}
use Rattle.corr_threads.specs.Dispatches.{DispatchView, DispatchTurn, PassesOn, PassesNone, SendsAll, SendsSome}
use Rattle.corr_threads.specs.Dispatches.{SendsNothing, SendsBy}
use Rattle.corr_threads.specs.declared.turn.Turn.{Turn}
use Rattle.corr_threads.specs.declared.turn.Turn.TheVariants as turns
use Rattle.corr_parallel.specs.Senders.{SinkView, SentSoFar, HasSentAll, meant_heaps}

front_nothing : (y : List (List ℕ)) → IsFront [] y
front_nothing y = record { rest = y; is = refl }

front_longer : (x y z : List (List ℕ)) → IsFront x y → IsFront x (y ++ z)
front_longer x y z f = record { rest = f.rest ++ z; is = ap (λ l. l ++ z) f.is ∙ append_assoc x f.rest z }

front_after : (w x y rest : List (List ℕ)) → y ≡ x ++ rest → IsFront (w ++ x) (w ++ y)
front_after w x y rest is = record { rest = rest; is = ap (λ l. w ++ l) is ∙ sym (append_assoc w x rest) }

front_whole : (x y : List (List ℕ)) → x ≡ y → IsFront x y
front_whole x y e = record { rest = []; is = sym e ∙ sym (append-nil x) }

-- before the first turn
pub sent_none : (m : Means) (s : Strings) (v : DispatchView) (before : SinkView) → v.passed ≡ 0 → v.broken ≡ false
    → SentSoFar m s v v before before
sent_none m s v before none sound = record {
  same_plan = refl;
  went = [];
  goes = none_sent before.sent v.sent;
  whole = λ b n h. ap (output_before v.plan (meant_heaps m s)) (sym none);
  front = λ n h. front_nothing (output_before v.plan (meant_heaps m s) v.passed);
  kept = λ b. refl;
  rises = λ b. absurd (false≢true (sym sound ∙ b));
}

-- the first results and one more
next_output : (m : Means) (s : Strings) (v w u : DispatchView) → u.passed ≡ w.passed + 1
    → output_before v.plan (meant_heaps m s) u.passed ≡ output_before v.plan (meant_heaps m s) w.passed
    ++ sent_with v.plan (meant_heaps m s) w.passed
next_output m s v w u more = ap (output_before v.plan (meant_heaps m s)) more
    ∙ before_next v.plan (meant_heaps m s) w.passed

-- what goes with a result, by the types alone
together_same : (m : Means) (str : Plan → Strings) (p q : Plan) (n : ℕ) (sums : List ℤ) → p ≡ q → sums ≡ meant m n
    → sent_together p (str p) n sums ≡ sent_with q (meant_heaps m (str q)) n
together_same m str p q n sums plan same = ap (λ k. sent_together k (str k) n sums) plan
    ∙ ap (λ x. sent_together q (str q) n x) same

module _ (m : Means) (str : Plan → Strings) (v w u : DispatchView) (b a z : SinkView)
    (so : SentSoFar m (str v.plan) v w b a) (plan : u.plan ≡ w.plan)
    (t : PassesOn m (str w.plan) w u a.sent z.sent a.faults z.faults) where
  to_next : output_before v.plan (meant_heaps m (str v.plan)) w.passed ++ sent_with v.plan
      (meant_heaps m (str v.plan)) w.passed ≡ output_before v.plan (meant_heaps m (str v.plan)) u.passed
  to_next = sym (next_output m (str v.plan) v w u t.one_more)

  here : w.broken ≡ false → m.names ≡ true → m.shows ≡ true
      → sent_together w.plan (str w.plan) w.passed u.outgoing.out.sums ≡ sent_with v.plan
      (meant_heaps m (str v.plan)) w.passed
  here was n h = together_same m str w.plan v.plan w.passed u.outgoing.out.sums so.same_plan (t.is_meant was n h).1

  sent_whole : w.broken ≡ false → u.broken ≡ false
      → SendsAll (sent_together w.plan (str w.plan) w.passed u.outgoing.out.sums) w u a.sent z.sent a.faults z.faults
      → SentSoFar m (str v.plan) v u b z
  sent_whole was is k =
      let whole : m.names ≡ true → m.shows ≡ true
      → so.went ++ sent_together w.plan (str w.plan) w.passed u.outgoing.out.sums ≡ output_before v.plan
      (meant_heaps m (str v.plan)) u.passed
      = λ n h. ap (λ l. l ++ sent_together w.plan (str w.plan) w.passed u.outgoing.out.sums) (so.whole was n h)
      ∙ ap (λ l. output_before v.plan (meant_heaps m (str v.plan)) w.passed ++ l) (here was n h) ∙ to_next in
      record {
        same_plan = plan ∙ so.same_plan;
        went = so.went ++ sent_together w.plan (str w.plan) w.passed u.outgoing.out.sums;
        goes = whole_more b.sent a.sent z.sent v.sent w.sent u.sent so.went _ so.goes k.sends;
        whole = λ e n h. whole n h;
        front = λ n h. front_whole _ _ (whole n h);
        kept = λ e. k.same_faults ∙ so.kept was;
        rises = λ e. absurd (false≢true (sym is ∙ e));
      }

  sent_front : w.broken ≡ false → u.broken ≡ true
      → SendsSome (sent_together w.plan (str w.plan) w.passed u.outgoing.out.sums) w u a.sent z.sent a.faults z.faults
      → SentSoFar m (str v.plan) v u b z
  sent_front was is k = record {
    same_plan = plan ∙ so.same_plan;
    went = so.went ++ k.sends.front;
    goes = whole_more b.sent a.sent z.sent v.sent w.sent u.sent so.went k.sends.front so.goes
        (record { appended = k.sends.appended; counted = k.sends.counted });
    whole = λ e. absurd (false≢true (sym e ∙ is));
    front = λ n h. subst (IsFront (so.went ++ k.sends.front)) to_next
        (subst
        (λ l. IsFront (l ++ k.sends.front)
        (output_before v.plan (meant_heaps m (str v.plan)) w.passed ++ sent_with v.plan
        (meant_heaps m (str v.plan)) w.passed)) (sym (so.whole was n h))
        (front_after (output_before v.plan (meant_heaps m (str v.plan)) w.passed) k.sends.front
        (sent_with v.plan (meant_heaps m (str v.plan)) w.passed) k.sends.rest
        (sym (here was n h) ∙ k.sends.whole)));
    kept = λ e. absurd (false≢true (sym e ∙ is));
    rises = λ e. subst (λ f. Rises f z.faults) (so.kept was) k.rises;
  }

  sent_silent : w.broken ≡ true → u.broken ≡ true → SendsNothing w u a.sent z.sent a.faults z.faults
      → SentSoFar m (str v.plan) v u b z
  sent_silent was is k = record {
    same_plan = plan ∙ so.same_plan;
    went = so.went;
    goes = subst (λ x. SendsWhole b.sent x v.sent u.sent so.went) (sym k.same)
        (subst (λ x. SendsWhole b.sent a.sent v.sent x so.went) (sym k.same_sent) so.goes);
    whole = λ e. absurd (false≢true (sym e ∙ is));
    front = λ n h. subst (IsFront so.went) to_next (front_longer so.went _ _ (so.front n h));
    kept = λ e. absurd (false≢true (sym e ∙ is));
    rises = λ e. subst (Rises b.faults) (sym k.same_faults) (so.rises was);
  }

  by_cases : (was is : Bool) → w.broken ≡ was → u.broken ≡ is
      → SendsBy was is (sent_together w.plan (str w.plan) w.passed u.outgoing.out.sums) w u a.sent z.sent a.faults
      z.faults
      → SentSoFar m (str v.plan) v u b z
  by_cases false false e f k = sent_whole e f k
  by_cases false true e f k = sent_front e f k
  by_cases true true e f k = sent_silent e f k
  by_cases true false e f k = absurd k

-- after a turn that moved
pub sent_moved : (m : Means) (str : Plan → Strings) (v w u : DispatchView) (b a z : SinkView)
    → SentSoFar m (str v.plan) v w b a → DispatchTurn m (str w.plan) w turns.Moved u a.sent z.sent a.faults z.faults
    → SentSoFar m (str v.plan) v u b z
sent_moved m str v w u b a z so t =
    by_cases m str v w u b a z so t.same_plan t.cause w.broken u.broken refl refl t.cause.goes

-- after one that did not
pub sent_still : (m : Means) (s : Strings) (v w u : DispatchView) (b a z : SinkView) → SentSoFar m s v w b a
    → u.plan ≡ w.plan → PassesNone w u a.sent z.sent a.faults z.faults → SentSoFar m s v u b z
sent_still m s v w u b a z so plan t = record {
  same_plan = plan ∙ so.same_plan;
  went = so.went;
  goes = subst (λ x. SendsWhole b.sent x v.sent u.sent so.went) (sym t.silent.same)
      (subst (λ x. SendsWhole b.sent a.sent v.sent x so.went) (sym t.silent.same_sent) so.goes);
  whole = λ e n h. so.whole (sym t.same_broken ∙ e) n h
      ∙ ap (output_before v.plan (meant_heaps m s)) (sym t.same_passed);
  front = λ n h. subst (λ k. IsFront so.went (output_before v.plan (meant_heaps m s) k)) (sym t.same_passed)
      (so.front n h);
  kept = λ e. t.silent.same_faults ∙ so.kept (sym t.same_broken ∙ e);
  rises = λ e. subst (Rises b.faults) (sym t.silent.same_faults) (so.rises (sym t.same_broken ∙ e));
}

-- when all results were taken
pub sent_all : (m : Means) (s : Strings) (v w : DispatchView) (b a : SinkView) → 0 < v.plan.accumulations
    → SentSoFar m s v w b a → w.passed ≡ w.plan.accumulations → HasSentAll m s v w b a
sent_all m s v w b a some so all =
    let last : output_before v.plan (meant_heaps m s) w.passed ≡ output_of v.plan (meant_heaps m s)
    = ap (output_before v.plan (meant_heaps m s)) (all ∙ ap (λ (p : Plan). p.accumulations) so.same_plan)
    ∙ before_all v.plan (meant_heaps m s) some in
    record {
      same_plan = so.same_plan;
      went = so.went;
      goes = so.goes;
      whole = λ e n h. so.whole e n h ∙ last;
      front = λ n h. subst (IsFront so.went) last (so.front n h);
      kept = so.kept;
      rises = so.rises;
    }

-- what the loop of the sender keeps
pub record Sends {K A : Type 0} (m : Means) (s : Strings) (begun : K → Bool) (at : K → A)
    (sent : K → Option (List (List ℕ))) (faults : K → ℕ) (old now : DispatchView) (before after : K) : Type 0 where
  pub is_begun : begun after ≡ true
  pub same_at : at after ≡ at before
  pub so : SentSoFar m s old now (record { sent = sent before; faults = faults before })
      (record { sent = sent after; faults = faults after })

pub sends_none : {K A : Type 0} (m : Means) (s : Strings) (begun : K → Bool) (at : K → A)
    (sent : K → Option (List (List ℕ))) (faults : K → ℕ) (v : DispatchView) (k : K) → begun k ≡ true → v.passed ≡ 0
    → v.broken ≡ false → Sends m s begun at sent faults v v k k
sends_none m s begun at sent faults v k is none sound = record {
  is_begun = is;
  same_at = refl;
  so = sent_none m s v (record { sent = sent k; faults = faults k }) none sound;
}

-- what was sent so far, after any turn
sent_on : (m : Means) (str : Plan → Strings) (v w u : DispatchView) (b a z : SinkView) (turn : Turn)
    → SentSoFar m (str v.plan) v w b a → DispatchTurn m (str w.plan) w turn u a.sent z.sent a.faults z.faults
    → SentSoFar m (str v.plan) v u b z
sent_on m str v w u b a z turns.Moved so t = sent_moved m str v w u b a z so t
sent_on m str v w u b a z turns.Waits so t = sent_still m (str v.plan) v w u b a z so t.same_plan t.cause.1
sent_on m str v w u b a z turns.Done so t = sent_still m (str v.plan) v w u b a z so t.same_plan t.cause.1

pub sends_on : {K A : Type 0} (m : Means) (str : Plan → Strings) (begun : K → Bool) (at : K → A)
    (sent : K → Option (List (List ℕ))) (faults : K → ℕ) (v w u : DispatchView) (k l n : K) (turn : Turn)
    → Sends m (str v.plan) begun at sent faults v w k l
    → DispatchTurn m (str w.plan) w turn u (sent l) (sent n) (faults l) (faults n) → begun n ≡ true → at n ≡ at l
    → Sends m (str v.plan) begun at sent faults v u k n
sends_on m str begun at sent faults v w u k l n turn h t is same = record {
  is_begun = is;
  same_at = same ∙ h.same_at;
  so = sent_on m str v w u (record { sent = sent k; faults = faults k }) (record { sent = sent l; faults = faults l })
      (record { sent = sent n; faults = faults n }) turn h.so t;
}

-- all results were taken when it is done
pub all_passed : (m : Means) (s : Strings) (w u : DispatchView) (a z : Option (List (List ℕ))) (f g : ℕ) (turn : Turn)
    → turn ≡ turns.Done → DispatchTurn m s w turn u a z f g → u.passed ≡ u.plan.accumulations
all_passed m s w u a z f g turn done t = (subst (λ k. DispatchTurn m s w k u a z f g) done t).cause.0
