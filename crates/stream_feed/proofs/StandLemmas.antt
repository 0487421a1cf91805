-- What a feed stands for.
use Rattle.std.proofs.Common.{◌≡◌, ◌⊎◌, ◌≤◌, ◌+◌, ◌-◌, min, ℕ, Bool, true, false, cond, ◌||◌, ltb, leb, List, [], ◌∷◌, ◌++◌, length, map, Option, Some, None, is_some, refl, sym, ◌∙◌, ap, subst, arith, inl, inr}
use Rattle.std.specs.List.{filter_map}
use Rattle.std.proofs.lemmas.Bool.{cond_both, ltb-false}
use Rattle.std.proofs.lemmas.List.{length_push, take_all}
use Rattle.corr_model.specs.declared.plan.Plan.{Plan}
use Rattle.corr_model.specs.Plans.{Fits}
use Rattle.corr_model.specs.declared.verdict.Verdict.{Verdict}
use Rattle.corr_model.specs.declared.verdict.Ending.{Ending}
use Rattle.corr_model.specs.declared.verdict.Ending.TheVariants as endings
use Rattle.corr_model.specs.Lists.{fronts, in_turn, through_first}
use Rattle.corr_model.specs.Windows.{heard, heard_in, placed, placed_in}
use Rattle.corr_model.specs.Descriptors.{DescribedItem}
use Rattle.corr_model.specs.Tables.{TableStandsFor, bad_count}
use Rattle.corr_model.specs.Streams.{above_top, described_by, ended_by, ending, floor, floor_of, has_stopped, heaps, judge_next, stops, taken}
use Rattle.corr_model.specs.PacketVerdicts.{Report, evicted_count, packet_verdict, report, report_on}
use Rattle.corr_model.proofs.StreamLawsFloor.{floor_rises}
use Rattle.corr_model.proofs.StreamLawsTaken.{ending_open, heaps_of_taken, never_stopped, taken_all, taken_next, taken_open, whole_in_none}
use Rattle.corr_model.proofs.VerdictCounts.{length-packet_verdicts}
use Rattle.heap_window.specs.WindowStates.{WindowState}
use Rattle.stream_rules.specs.Marking.{MarksState, floor_by, open_floor}
use Rattle.corr_model.specs.Reports.{with_string}
use Rattle.stream_feed.specs.declared.stream.Heard.{Heard}
use Rattle.stream_feed.specs.declared.report.StreamReport.{StreamReport}
use Rattle.stream_feed.specs.Counting.{counts_of, nothing}
use Rattle.stream_feed.specs.Opening.{OpenState, no_columns}
use Rattle.stream_feed.specs.Judging.{Agrees}
use Rattle.stream_feed.proofs.OpenLemmas.{open_none}
use Rattle.stream_feed.specs.Feeding.{FeedState, IsWindowOf, EndsAs, Holds, Hears, StandsBy, StandsFor, KeepsHeard, due_of, going_on}

-- an ending of one's own
ends_own : (o : Option Ending) → EndsAs o o
ends_own None = inl refl
ends_own (Some e) = refl

-- a stream that goes on has a list that goes on
open_list : (o own : Option Ending) → EndsAs o own → o ≡ None → own ≡ None
open_list o None e n = refl
open_list o (Some own) e n = absurd (let f : Some own ≡ None = sym e ∙ n in cc)

-- a stream that has not ended, or that was said to have, with a list that has
or_ended : (o own : Option Ending) → EndsAs o own → (is_some o || is_some own) ≡ is_some o
or_ended None None e = refl
or_ended (Some x) None e = refl
or_ended None (Some own) e = absurd cc
or_ended (Some x) (Some own) e = refl

floor_cond : (plan : Plan) (m : MarksState) (b : Bool) (top : ℕ) → m.finished ≡ b → m.above ≡ top
    → floor_by plan m ≡ cond b plan.accumulations (min plan.accumulations (top - plan.lag))
floor_cond plan m b top is above =
    ap (λ c. cond c plan.accumulations (open_floor plan m.above)) is ∙ ap
    (λ k. cond b plan.accumulations (open_floor plan k)) above

-- the floor of the marks is that of the list
pub floor_is : (f : FeedState) (l : List (List ℕ)) → StandsFor f l
    → floor_by f.columns.plan f.marks ≡ floor f.columns.plan f.columns.antenna l (is_some f.report.ended)
floor_is f l s =
    let plan = f.columns.plan in
    let js = heaps plan f.columns.antenna l in
    let above : f.marks.above ≡ above_top plan js =
    s.holds.agrees.above ∙ ap (above_top plan) (heaps_of_taken plan f.columns.antenna l) in
    floor_cond plan f.marks (is_some f.report.ended) (above_top plan js) s.finished above
    ∙ ap (λ b. cond b plan.accumulations (floor_of plan js)) (sym (or_ended f.report.ended (ending plan l) s.ends))

none_below : (given floor : ℕ) → cond {A = Option ℕ} (ltb given floor) (Some given) None ≡ None → floor ≤ given
none_below given floor h = below (ltb given floor) refl h
  where
    below : (b : Bool) → ltb given floor ≡ b → cond {A = Option ℕ} b (Some given) None ≡ None → floor ≤ given
    below true is h = absurd cc
    below false is h = ltb-false given floor is

-- where nothing is due, as many columns were given as are below the open floor
pub none_due : (f : FeedState) (l : List (List ℕ)) → StandsFor f l → f.report.ended ≡ None → due_of f ≡ None
    → open_floor f.columns.plan f.marks.above ≡ f.columns.given
none_due f l s goes_on none =
    let plan = f.columns.plan in
    let low = none_below f.columns.given (floor_by plan f.marks) none in
    let same = floor_is f l s in
    let given = s.given in
    let is_open : floor_by plan f.marks ≡ open_floor plan f.marks.above =
    ap (λ b. cond b plan.accumulations (open_floor plan f.marks.above)) (s.finished ∙ ap is_some goes_on) in
    omega (arith, low, same, given, is_open)

-- a stream that goes on holds what its whole list defines
pub holds_all : (f : FeedState) (l : List (List ℕ)) → StandsFor f l → f.report.ended ≡ None
    → Holds f.window f.table f.marks f.columns l
holds_all f l s goes_on =
    subst (Holds f.window f.table f.marks f.columns)
    (taken_all f.columns.plan l (open_list f.report.ended (ending f.columns.plan l) s.ends goes_on)) s.holds

pub list_goes_on : (f : FeedState) (l : List (List ℕ)) → StandsFor f l → f.report.ended ≡ None
    → ending f.columns.plan l ≡ None
list_goes_on f l s goes_on = open_list f.report.ended (ending f.columns.plan l) s.ends goes_on

-- the number of strings taken
taken_is : (f : FeedState) (l : List (List ℕ)) → StandsFor f l → f.report.ended ≡ None → f.report.taken ≡ length l
taken_is f l s goes_on =
    ap (λ (r : Report). r.taken) s.report_is ∙ length-packet_verdicts f.columns.plan f.columns.antenna l ∙ ap length
    (taken_all f.columns.plan l (list_goes_on f l s goes_on))

-- where a stream is said to have ended, its floor is not lower
floor_more : (plan : Plan) (antenna : ℕ) (l : List (List ℕ)) (ended : Bool)
    → floor plan antenna l false ≤ floor plan antenna l ended
floor_more plan antenna l false = omega arith
floor_more plan antenna l true =
    let most : floor_of plan (heaps plan antenna l) ≤ plan.accumulations = omega arith in
    cond_both (is_some (ending plan l)) plan.accumulations (floor_of plan (heaps plan antenna l))
    (λ k. k ≤ plan.accumulations) (λ e. omega arith) (λ e. most)

ends_now : (plan : Plan) (l : List (List ℕ)) (b : List ℕ) (stop : Bool) (taken_now : ℕ)
    → stop ≡ has_stopped plan (l ++ b ∷ []) → taken_now ≡ length l + 1
    → ended_by stop (leb plan.packet_limit taken_now) ≡ ending plan (l ++ b ∷ [])
ends_now plan l b stop taken_now stops counted =
    ap (λ s. ended_by s (leb plan.packet_limit taken_now)) stops
    ∙ ap (λ n. ended_by (has_stopped plan (l ++ b ∷ [])) (leb plan.packet_limit n)) (counted ∙ sym (length_push l b))

-- the feed after one more string
pub stands_on : (f : FeedState) (l : List (List ℕ)) (b : List ℕ) (heard : Heard) (w : WindowState)
    (t : List DescribedItem) (m mn : MarksState) (c : OpenState) (r : StreamReport)
    → StandsFor f l → f.report.ended ≡ None
    → Hears f.columns.plan f.columns.antenna w t m c l b heard
    → c.plan ≡ f.columns.plan → c.antenna ≡ f.columns.antenna → c.given ≡ f.columns.given
    → counts_of r ≡ with_string (counts_of f.report) heard.verdict heard.evicts heard.bad
    → r.ended ≡ ended_by heard.stop (leb f.columns.plan.packet_limit r.taken)
    → mn ≡ record m { finished = is_some r.ended }
    → StandsFor (record { window = w; table = t; marks = mn; columns = c; report = r }) (l ++ b ∷ [])
stands_on f l b heard w t m mn c r s goes_on hears same_plan same_antenna same_given counted ended marks =
    let plan = f.columns.plan in
    let antenna = f.columns.antenna in
    let more = l ++ b ∷ [] in
    let on = list_goes_on f l s goes_on in
    let number : r.taken ≡ length l + 1 =
    ap (λ (k : Report). k.taken) counted ∙ ap (λ n. n + 1) (taken_is f l s goes_on) in
    let own : r.ended ≡ ending plan more = ended ∙ ends_now plan l b heard.stop r.taken hears.stops number in
    let agrees : Agrees mn c (heaps c.plan c.antenna more) = record {
      above = ap (λ (k : MarksState). k.above) marks ∙ hears.holds.agrees.above;
      are_open = hears.holds.agrees.are_open;
    } in
    let all : Holds w t mn c more =
    record { window_of = hears.holds.window_of; described = hears.holds.described; agrees = agrees } in
    let before : f.columns.given ≤ floor plan antenna l false =
    subst (λ o. f.columns.given ≤ floor plan antenna l (is_some o)) goes_on s.given in
    let rises = floor_rises plan antenna l (b ∷ []) in
    let rest = floor_more plan antenna more (is_some r.ended) in
    let given : c.given ≤ floor plan antenna more (is_some r.ended) = omega (arith, same_given, before, rises, rest) in
    let stands : StandsBy plan antenna (record { window = w; table = t; marks = mn; columns = c; report = r }) more =
    record {
      holds = subst (Holds w t mn c) (sym (taken_next plan l b on)) all;
      report_is = counted ∙ ap (λ k. with_string k heard.verdict heard.evicts heard.bad) s.report_is ∙ sym
          hears.report_is;
      ends = subst (EndsAs r.ended) own (ends_own r.ended);
      finished = ap (λ (k : MarksState). k.finished) marks;
      given = given;
    } in
    subst (λ q. StandsBy q c.antenna (record { window = w; table = t; marks = mn; columns = c; report = r }) more)
    (sym same_plan)
    (subst (λ a. StandsBy plan a (record { window = w; table = t; marks = mn; columns = c; report = r }) more)
    (sym same_antenna) stands)

said_ends : (own : Option Ending) (how : Ending) → own ≡ None → (how ≡ endings.End) ⊎ (how ≡ endings.Fault)
    → EndsAs (Some how) own
said_ends None how n (inl e) = inr (inl (ap Some e))
said_ends None how n (inr e) = inr (inr (ap Some e))
said_ends (Some own) how n h = absurd cc

-- the feed that was said to have ended
pub stands_ended : (f : FeedState) (l : List (List ℕ)) (how : Ending) (mn : MarksState) (r : StreamReport)
    → StandsFor f l → f.report.ended ≡ None → (how ≡ endings.End) ⊎ (how ≡ endings.Fault)
    → mn ≡ record f.marks { finished = true } → r ≡ record f.report { ended = Some how }
    → StandsFor (record f { marks = mn; report = r }) l
stands_ended f l how mn r s goes_on said marks reported =
    let plan = f.columns.plan in
    let antenna = f.columns.antenna in
    let ended : r.ended ≡ Some how = ap (λ (k : StreamReport). k.ended) reported in
    let before : f.columns.given ≤ floor plan antenna l false =
    subst (λ o. f.columns.given ≤ floor plan antenna l (is_some o)) goes_on s.given in
    let rest = floor_more plan antenna l (is_some r.ended) in
    record {
      holds = record {
        window_of = s.holds.window_of;
        described = s.holds.described;
        agrees = record {
          above = ap (λ (k : MarksState). k.above) marks ∙ s.holds.agrees.above;
          are_open = s.holds.agrees.are_open;
        };
      };
      report_is = ap counts_of reported ∙ s.report_is;
      ends = subst (λ o. EndsAs o (ending plan l)) (sym ended)
          (said_ends (ending plan l) how (list_goes_on f l s goes_on) said);
      finished = ap (λ (k : MarksState). k.finished) marks ∙ sym (ap is_some ended);
      given = omega (arith, before, rest);
    }

heard_none : (plan : Plan) → heard plan [] ≡ []
heard_none plan = ap (filter_map (heard_in plan.heap_limit))
    (let least : length {A = List ℕ} [] ≤ plan.packet_limit = omega arith in take_all plan.packet_limit [] least)

no_heaps : (plan : Plan) (antenna : ℕ) → heaps plan antenna [] ≡ []
no_heaps plan antenna = ap (λ ws. in_turn (judge_next plan antenna) (through_first stops ws)) (whole_in_none plan)

taken_none : (plan : Plan) → taken plan [] ≡ []
taken_none plan = let least : length {A = List ℕ} [] ≤ plan.packet_limit =
    omega arith in taken_open plan [] (never_stopped plan) least

report_none : (plan : Plan) (antenna : ℕ) → report plan antenna [] ≡ nothing
report_none plan antenna =
    ap (λ k. report_on (evicted_count plan.window (placed_in plan k))
    (bad_count plan (described_by (heaps plan antenna []))) (map (packet_verdict plan antenna) (fronts k)))
    (taken_none plan)
    ∙ ap (λ h. report_on (evicted_count plan.window (placed plan.window h))
    (bad_count plan (described_by (heaps plan antenna []))) []) (heard_none plan)
    ∙ ap (λ js. report_on 0 (bad_count plan (described_by js)) []) (no_heaps plan antenna)

-- a new feed stands for no string
pub stands_new : (plan : Plan) (antenna : ℕ) (w : WindowState) (t : List DescribedItem) (m : MarksState) (c : OpenState)
    (r : StreamReport) → Fits plan → IsWindowOf plan w [] → TableStandsFor plan t []
    → m ≡ record { above = 0; finished = false } → c ≡ no_columns plan antenna → counts_of r ≡ nothing → r.ended ≡ None
    → StandsFor (record { window = w; table = t; marks = m; columns = c; report = r }) []
stands_new plan antenna w t m c r fits window table marks is counted ended =
    let none = taken_none plan in
    let low = fits.ranges.limit.packet_limit.least_met in
    let goes_on : ending plan [] ≡ None = ending_open plan [] (never_stopped plan) low in
    let agrees : Agrees m (no_columns plan antenna) [] =
    record {
      above = ap (λ (k : MarksState). k.above) marks;
      are_open = open_none plan antenna fits.ranges.limit.lag.least_met;
    } in
    let holds : Holds w t m (no_columns plan antenna) [] = record {
      window_of = subst (IsWindowOf plan w) (sym (heard_none plan)) window;
      described = subst (λ js. TableStandsFor plan t (described_by js)) (sym (no_heaps plan antenna)) table;
      agrees = subst (Agrees m (no_columns plan antenna)) (sym (no_heaps plan antenna)) agrees;
    } in
    let least : 0 ≤ floor plan antenna [] (is_some r.ended) = omega arith in
    let stands : StandsFor
    (record { window = w; table = t; marks = m; columns = no_columns plan antenna; report = r }) [] = record {
      holds = subst (Holds w t m (no_columns plan antenna)) (sym none) holds;
      report_is = counted ∙ sym (report_none plan antenna);
      ends = subst (EndsAs r.ended) (sym goes_on) (inl ended);
      finished = ap (λ (k : MarksState). k.finished) marks ∙ sym (ap is_some ended);
      given = least;
    } in
    subst (λ k. StandsFor (record { window = w; table = t; marks = m; columns = k; report = r }) []) (sym is) stands

-- what a verdict keeps, but for the end
pub keeps_going : (v : Verdict) (t tn : List DescribedItem) (m h mn : MarksState) (c cn : OpenState) (e : Bool)
    → KeepsHeard v t m c tn h cn → mn ≡ record h { finished = e } → m.finished ≡ false
    → h.finished ≡ m.finished → KeepsHeard v t m c tn (going_on mn) cn
keeps_going v t tn m h mn c cn e keeps marks fresh same =
    let here : h ≡ going_on mn =
    ap {B = MarksState} (λ b. record h { finished = b }) (same ∙ fresh) ∙ sym
    (ap {B = MarksState} going_on marks) in
    subst (λ k. KeepsHeard v t m c tn k cn) here keeps
