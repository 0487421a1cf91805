-- The turns of a receiver, and what its type keeps.
use Rattle.std.proofs.Common.{◌≡◌, ℕ, ◌+◌, ◌<◌, ◌≤◌, Bool, true, false, cond, min, List, [], ◌∷◌, ◌++◌, ◌⊎◌, length}
use Rattle.std.proofs.Common.{take, drop, Option, Some, None, refl, sym, ap, ◌∙◌, subst, inl, inr, arith}
use Rattle.std.specs.Option.{is_some}
use Rattle.std.proofs.lemmas.Bool.{false≢true}
use Rattle.std.proofs.lemmas.List.{length-take, take-append-drop, take_all}
use Rattle.std.proofs.lemmas.Option.{slice_get_within, get_or_from_slice_get}
use Rattle.corr_model.specs.declared.plan.Plan.{Plan}
use Rattle.corr_model.specs.declared.verdict.Ending.{Ending}
use Rattle.corr_model.specs.Plans.{Fits}
use Rattle.corr_model.specs.Streams.{ending, floor, taken}
use Rattle.corr_model.specs.PacketVerdicts.{Report, report}
use Rattle.corr_model.proofs.StreamLawsTaken.{taken_past, ending_past}
use Rattle.corr_machine.proofs.Floors.{floor_within}
use Rattle.corr_model.proofs.VerdictLaws.{report_past}
use Rattle.corr_model.proofs.VerdictCounts.{length-packet_verdicts}
use Rattle.corr_site.specs.Outside.{NextGives, GaveAll}
use Rattle.corr_site.specs.declared.answers.Next.TheVariants as next
use Rattle.slot_column.specs.Columns.{Cells, Hand}
use Rattle.slot_ring.specs.declared.held.Held.{Held}
use Rattle.slot_ring.specs.Answers.{RefusesPut}
use Rattle.stream_feed.specs.declared.report.StreamReport.{StreamReport}
use Rattle.stream_feed.specs.Counting.{counts_of}
use Rattle.stream_feed.specs.Feeding.{FeedState, StandsFor, EndsAs, IsSameStream, IsNext, IsOfList, column_of, due_of}
use Rattle.stream_feed.specs.Feeding.{is_said}
use Rattle.stream_feed.proofs.PromiseLemmas.{below_floor, promise_new, promise_packet, promise_end, promise_give}
use Rattle.corr_threads.specs.Receivers.{ReceiverView, IsReceiver, RefusesColumn, HasReadAll, in_hand}

-- what refuses a column refuses its plan and number
pub refused_column : (held : Held) (c : Cells) (plan : Plan) (n : ℕ) → c.plan ≡ plan → c.number ≡ n → RefusesPut held c
    → RefusesColumn held plan n
refused_column held c plan n p m r =
    subst (λ q. RefusesColumn held q n) p (subst (λ k. RefusesColumn held c.plan k) m r)

-- ---- what the source gives

-- the string that it gives is the next of the list
pub next_told : (gives : Option (List (List ℕ))) (l : List (List ℕ)) (given now count len : ℕ) (buf : List ℕ)
    → gives ≡ Some l → given ≡ count
    → NextGives gives given now buf (next.Packet len) → IsNext l count (take len buf) × (now ≡ count + 1)
next_told gives l given now count len buf told same next' =
    let g = subst (λ k. NextGives k given now buf (next.Packet len)) told next' in
    let bytes = take len buf in (
      subst (λ n. IsNext l n bytes) same (record {
        within = slice_get_within l given bytes g.string;
        is = λ d. get_or_from_slice_get l given bytes d g.string;
      }),
      g.one_more ∙ ap (λ n. n + 1) same,
    )

gave_all : (l : List (List ℕ)) (given now count : ℕ) → given ≡ count → GaveAll l given now
    → (length l ≤ count) × (now ≡ count)
gave_all l given now count same g = (let all = g.all in omega (arith, all, same), g.kept ∙ same)

-- at its end all were given
pub end_told : (gives : Option (List (List ℕ))) (l : List (List ℕ)) (given now count : ℕ) (buf : List ℕ)
    → gives ≡ Some l → given ≡ count
    → NextGives gives given now buf next.End → (length l ≤ count) × (now ≡ count)
end_told gives l given now count buf told same next' =
    gave_all l given now count same (subst (λ k. NextGives k given now buf next.End) told next')

-- and at a failure, up to which it tells what it gives
pub failure_told : (gives : Option (List (List ℕ))) (l : List (List ℕ)) (given now count : ℕ) (buf : List ℕ)
    → gives ≡ Some l → given ≡ count
    → NextGives gives given now buf next.Failed → (length l ≤ count) × (now ≡ count)
failure_told gives l given now count buf told same next' =
    gave_all l given now count same (subst (λ k. NextGives k given now buf next.Failed) told next')

-- an end changes no count
pub same_taken : (r s : StreamReport) (how : Ending) → s ≡ record r { ended = Some how } → s.taken ≡ r.taken
same_taken r s how e = ap (λ (x : StreamReport). x.taken) e

-- ---- what its type keeps

-- nothing was taken of a feed that stands for no string
pub none_taken : (f : FeedState) → StandsFor f [] → f.report.taken ≡ 0
none_taken f s =
    let limit = f.columns.plan.packet_limit in
    let count : f.report.taken ≡ length (take {A = List ℕ} limit []) = ap (λ (r : Report). r.taken) s.report_is
    ∙ length-packet_verdicts f.columns.plan f.columns.antenna [] in
    let short : length (take {A = List ℕ} limit []) ≡ min limit 0 = length-take limit [] in
    omega (arith, count, short)

module _ (names : Bool) (list : ℕ → List (List ℕ)) where
  -- nothing was taken yet
  pub kept_new : (plan : Plan) (antenna : ℕ) (f : FeedState) (hand : Hand) → Fits plan → StandsFor f []
      → f.columns.plan ≡ plan → f.columns.antenna ≡ antenna → f.columns.given ≡ 0
      → f.report.ended ≡ None → hand.is_closed ≡ false → hand.column.plan ≡ plan
      → IsReceiver names list
      (record { plan = plan; antenna = antenna; feed = f; hand = hand; placed = 0; held = None })
  kept_new plan antenna f hand fits stands feed_plan feed_antenna given ended spare hand_plan = record {
    fits = fits;
    feed_plan = feed_plan;
    feed_antenna = feed_antenna;
    took = record { strings = []; stands = stands };
    told = λ named. promise_new list f stands (none_taken f stands) ended;
    hand_plan = hand_plan;
    hand_number = λ e. absurd (false≢true (sym spare ∙ e));
    counted = let none : in_hand hand ≡ 0 = ap (λ b. cond b 1 0) spare in omega (arith, given, none);
    most = omega (arith, given);
  }

  -- a string was taken
  pub kept_with_string : (v : ReceiverView) (g : FeedState) (b : List ℕ) → IsReceiver names list v
      → (names ≡ true → IsNext (list v.antenna) v.feed.report.taken b)
      → ((l : List (List ℕ)) → StandsFor v.feed l → StandsFor g (l ++ b ∷ [])) → IsSameStream v.feed g
      → g.report.taken ≡ v.feed.report.taken + 1 → is_said g.report.ended ≡ false
      → IsReceiver names list (record v { feed = g })
  kept_with_string v g b is next' on same counted own = record {
    fits = is.fits;
    feed_plan = same.same_plan ∙ is.feed_plan;
    feed_antenna = same.same_antenna ∙ is.feed_antenna;
    took = record { strings = is.took.strings ++ b ∷ []; stands = on is.took.strings is.took.stands };
    told = λ named. promise_packet list v.feed g b (is.told named)
        (subst (λ a. IsNext (list a) v.feed.report.taken b) (sym is.feed_antenna) (next' named)) on same.same_antenna
        counted own;
    hand_plan = is.hand_plan;
    hand_number = is.hand_number;
    counted = same.same_given ∙ is.counted;
    most = subst (λ n. n ≤ v.plan.accumulations) (sym same.same_given) is.most;
  }

  -- the source ended, or failed
  pub kept_at_end : (v : ReceiverView) (g : FeedState) (how : Ending) → IsReceiver names list v
      → (names ≡ true → length (list v.antenna) ≤ v.feed.report.taken)
      → ((l : List (List ℕ)) → StandsFor v.feed l → StandsFor g l) → IsSameStream v.feed g
      → g.report ≡ record v.feed.report { ended = Some how }
      → IsReceiver names list (record v { feed = g })
  kept_at_end v g how is last on same ended = record {
    fits = is.fits;
    feed_plan = same.same_plan ∙ is.feed_plan;
    feed_antenna = same.same_antenna ∙ is.feed_antenna;
    took = record { strings = is.took.strings; stands = on is.took.strings is.took.stands };
    told = λ named. promise_end list v.feed g (is.told named)
        (subst (λ a. length (list a) ≤ v.feed.report.taken) (sym is.feed_antenna) (last named)) on same.same_antenna
        (same_taken v.feed.report g.report how ended);
    hand_plan = is.hand_plan;
    hand_number = is.hand_number;
    counted = same.same_given ∙ is.counted;
    most = subst (λ n. n ≤ v.plan.accumulations) (sym same.same_given) is.most;
  }

  -- the column that was due lies in the hand
  pub kept_with_column : (v : ReceiverView) (g : FeedState) (hand : Hand) → IsReceiver names list v
      → v.hand.is_closed ≡ false → is_some (due_of v.feed) ≡ true
      → ((l : List (List ℕ)) → StandsFor v.feed l
      → hand.column ≡ column_of v.feed.columns.plan v.feed.columns.antenna l v.feed.columns.given)
      → ((l : List (List ℕ)) → StandsFor v.feed l → StandsFor g l) → g.columns.plan ≡ v.feed.columns.plan
      → g.columns.antenna ≡ v.feed.columns.antenna
      → g.columns.given ≡ v.feed.columns.given + 1 → g.report ≡ v.feed.report → hand.is_closed ≡ true
      → IsReceiver names list (record v { feed = g; hand = hand })
  kept_with_column v g hand is spare due column on same_plan same_antenna given same closed =
      let f = v.feed in
      let s = is.took.strings in
      let column_is = column s is.took.stands in
      let counted = is.counted in
      let none : in_hand v.hand ≡ 0 = ap (λ b. cond b 1 0) spare in
      let placed : f.columns.given ≡ v.placed = omega (arith, counted, none) in
      let low : f.columns.given < floor f.columns.plan f.columns.antenna s (is_some f.report.ended) =
      below_floor f s is.took.stands due in
      let most : floor f.columns.plan f.columns.antenna s (is_some f.report.ended) ≤ f.columns.plan.accumulations =
      floor_within f.columns.plan f.columns.antenna s (is_some f.report.ended) in
      let plan : f.columns.plan.accumulations ≡ v.plan.accumulations =
      ap (λ (p : Plan). p.accumulations) is.feed_plan in
      let one : in_hand hand ≡ 1 = ap (λ b. cond b 1 0) closed in
      record {
        fits = is.fits;
        feed_plan = same_plan ∙ is.feed_plan;
        feed_antenna = same_antenna ∙ is.feed_antenna;
        took = record { strings = s; stands = on s is.took.stands };
        told = λ named. promise_give list f g (is.told named) on same_antenna same;
        hand_plan = ap (λ (c : Cells). c.plan) column_is ∙ is.feed_plan;
        hand_number = λ e. ap (λ (c : Cells). c.number) column_is ∙ placed;
        counted = omega (arith, given, placed, one);
        most = omega (arith, given, low, most, plan);
      }

  -- the column in the hand was placed
  pub kept_placed : (v : ReceiverView) (spare : Hand) → IsReceiver names list v → v.hand.is_closed ≡ true
      → spare.is_closed ≡ false → spare.column.plan ≡ v.hand.column.plan
      → IsReceiver names list (record v { hand = spare; placed = v.placed + 1 })
  kept_placed v spare is closed is_spare same =
      let counted = is.counted in
      let one : in_hand v.hand ≡ 1 = ap (λ b. cond b 1 0) closed in
      let none : in_hand spare ≡ 0 = ap (λ b. cond b 1 0) is_spare in
      record {
        fits = is.fits;
        feed_plan = is.feed_plan;
        feed_antenna = is.feed_antenna;
        took = is.took;
        told = is.told;
        hand_plan = same ∙ is.hand_plan;
        hand_number = λ e. absurd (false≢true (sym is_spare ∙ e));
        counted = omega (arith, counted, one, none);
        most = is.most;
      }

-- ---- the whole list

-- a stream that ended by itself took all strings that count
read_own : (plan : Plan) (antenna : ℕ) (f : FeedState) (l rest : List (List ℕ))
    → counts_of f.report ≡ report plan antenna l → EndsAs f.report.ended (ending plan l)
    → is_some (ending plan l) ≡ true
    → (f.report.taken ≡ length (taken plan (l ++ rest))) × (counts_of f.report ≡ report plan antenna (l ++ rest))
    × EndsAs f.report.ended (ending plan (l ++ rest))
read_own plan antenna f l rest reported ends own = (
  ap (λ (r : Report). r.taken) reported ∙ length-packet_verdicts plan antenna l
      ∙ ap length (sym (taken_past plan l rest own)),
  reported ∙ sym (report_past plan antenna l rest own),
  subst (EndsAs f.report.ended) (sym (ending_past plan l rest own)) ends,
)

-- and one whose end was said took the whole list
read_said : (plan : Plan) (antenna : ℕ) (f : FeedState) (l : List (List ℕ)) → counts_of f.report ≡ report plan antenna l
    → EndsAs f.report.ended (ending plan l)
    → (f.report.taken ≡ length (taken plan l)) × (counts_of f.report ≡ report plan antenna l)
    × EndsAs f.report.ended (ending plan l)
read_said plan antenna f l reported ends =
    (ap (λ (r : Report). r.taken) reported ∙ length-packet_verdicts plan antenna l, reported, ends)

-- by itself, or as was said
ends_how : (ended own : Option Ending) → EndsAs ended own → is_some ended ≡ true
    → (is_some own ≡ true) ⊎ (is_said ended ≡ true)
ends_how ended (Some own) h e = inl refl
ends_how ended None (inl goes_on) e = absurd (false≢true (sym (ap is_some goes_on) ∙ e))
ends_how ended None (inr (inl end)) e = inr (ap is_said end)
ends_how ended None (inr (inr fault)) e = inr (ap is_said fault)

-- a stream that has ended took all strings of its list that count
pub read_all : (list : ℕ → List (List ℕ)) (v : ReceiverView) → IsOfList list v.feed → v.feed.columns.plan ≡ v.plan
    → v.feed.columns.antenna ≡ v.antenna → is_some v.feed.report.ended ≡ true → HasReadAll (list v.antenna) v
read_all list v is plan antenna ended =
    let f = v.feed in
    let all = list f.columns.antenna in
    let front = take f.report.taken all in
    let read : (f.report.taken ≡ length (taken f.columns.plan all))
    × (counts_of f.report ≡ report f.columns.plan f.columns.antenna all)
    × EndsAs f.report.ended (ending f.columns.plan all)
    = elim (ends_how f.report.ended (ending f.columns.plan front) is.stands.ends ended) [
      | inl own ↦ subst
          (λ l. (f.report.taken ≡ length (taken f.columns.plan l))
          × (counts_of f.report ≡ report f.columns.plan f.columns.antenna l)
          × EndsAs f.report.ended (ending f.columns.plan l))
          (take-append-drop f.report.taken all)
          (read_own f.columns.plan f.columns.antenna f front
          (drop f.report.taken all) is.stands.report_is is.stands.ends own)
      | inr said ↦ subst
          (λ l. (f.report.taken ≡ length (taken f.columns.plan l))
          × (counts_of f.report ≡ report f.columns.plan f.columns.antenna l)
          × EndsAs f.report.ended (ending f.columns.plan l))
          (take_all f.report.taken all (is.whole said))
          (read_said f.columns.plan f.columns.antenna f front is.stands.report_is is.stands.ends)
    ] in
    let at_plan =
    subst (λ p. (f.report.taken ≡ length (taken p all)) × (counts_of f.report ≡ report p f.columns.antenna all)
    × EndsAs f.report.ended (ending p all)) plan read in
    let at_antenna =
    subst (λ a. (f.report.taken ≡ length (taken v.plan (list a))) × (counts_of f.report ≡ report v.plan a (list a))
    × EndsAs f.report.ended (ending v.plan (list a))) antenna at_plan in
    record { exactly = at_antenna.0; counts = at_antenna.1; ends = at_antenna.2 }
