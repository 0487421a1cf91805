-- What a feed holds after one more byte string.
use Rattle.std.proofs.Common.{◌≡◌, ◌≤◌, ◌+◌, ℕ, Bool, false, List, [], ◌∷◌, ◌++◌, Option, Some, None, is_some, sym, ◌∙◌, ap, subst, arith, cond}
use Rattle.std.specs.Option.{is_none}
use Rattle.corr_model.specs.declared.plan.Plan.{Plan}
use Rattle.corr_model.specs.declared.pointer.Refusal.{Refusal}
use Rattle.corr_model.specs.declared.verdict.Verdict.{Verdict}
use Rattle.corr_model.specs.declared.verdict.Verdict.TheVariants as verdicts
use Rattle.corr_model.specs.Packets.{Parts, refusal_of, parts_in, packet_in}
use Rattle.corr_model.specs.Windows.{heard, is_within, placed}
use Rattle.corr_model.specs.Lists.{last_one}
use Rattle.corr_model.specs.Assembly.{WholeHeap}
use Rattle.corr_model.specs.Descriptors.{DescribedItem}
use Rattle.corr_model.specs.Tables.{Sight, TableStandsFor, bad_count, readable_descriptors, sight}
use Rattle.corr_model.specs.PacketVerdicts.{next_evicted, next_outcome, heap_made, packet_verdict, report, verdict_by, verdict_of_last}
use Rattle.corr_model.specs.Streams.{JudgedHeap, above_top, cell_in, described_by, contents_of, contents_so_far, group_of, judged_as, judge_next, heaps, ending, stops, IsTableOf}
use Rattle.corr_model.proofs.Turns.{last_one_push}
use Rattle.corr_model.proofs.StreamMakes.{heard_made, heard_refused}
use Rattle.corr_model.proofs.StreamLawsTaken.{open_from_ending}
use Rattle.corr_model.proofs.VerdictLaws.{packet_verdict_packet, packet_verdict_refused}
use Rattle.heap_window.specs.WindowStates.{WindowState, StandsFor as WindowHolds}
use Rattle.heap_window.specs.Takes.{Takes, heard_with, outcome_of}
use Rattle.heap_window.specs.declared.take.Take.{Take}
use Rattle.stream_rules.specs.Marking.{MarksState}
use Rattle.corr_model.specs.Reports.{evicts_next, with_string}
use Rattle.corr_model.proofs.NextTable.{still_open, same_heaps, stopped_by, one_more, described_more, whole_by, whole_kept, whole_refused, table_made, table_kept, table_refused}
use Rattle.corr_model.proofs.NextReport.{report_packet, report_refused}
use Rattle.corr_model.proofs.Unreached.{unreached_cells}
use Rattle.stream_feed.specs.Opening.{OpenState}
use Rattle.stream_feed.specs.Judging.{Agrees, Judges}
use Rattle.stream_feed.specs.Feeding.{IsWindowOf, Holds, Hears}

-- a string with a refusal spells no packet
no_packet : (b : List ℕ) (why : Refusal) → refusal_of b ≡ Some why → packet_in b ≡ None
no_packet b why h = ap (λ o. cond (is_none o) (Some (parts_in b)) None) h

-- the string spells no packet
pub hears_refused : (window : WindowState) (table : List DescribedItem) (marks : MarksState) (c : OpenState)
    (l : List (List ℕ)) (b : List ℕ) (why : Refusal) → ending c.plan l ≡ None
    → refusal_of b ≡ Some why → Holds window table marks c l
    → Hears c.plan c.antenna window table marks c l b
    (record { verdict = verdicts.Refused why; stop = false; evicts = false; bad = 0 })
hears_refused window table marks c l b why goes_on refused holds =
    let none = no_packet b why refused in
    let is = packet_verdict_refused c.plan c.antenna l b why refused in
    let whole = whole_refused c.plan l b goes_on none in
    record {
      verdict_is = sym is;
      stops = sym (still_open c.plan l b goes_on whole);
      report_is = report_refused c.plan c.antenna l b goes_on none ∙ ap
          (λ v. with_string (report c.plan c.antenna l) v false 0) is;
      holds = record {
        window_of = subst (IsWindowOf c.plan window)
            (sym (heard_refused c.plan l b (open_from_ending c.plan l goes_on).1 none)) holds.window_of;
        described = table_refused c.plan c.antenna l b table goes_on none holds.described;
        agrees = subst (Agrees marks c) (sym (same_heaps c.plan l b goes_on whole c.antenna)) holds.agrees;
      };
    }

-- a window after one more packet of the string
module _ (plan : Plan) (old now : WindowState) (take : Take) (l : List (List ℕ)) (b : List ℕ) (p : Parts)
    (goes_on : ending plan l ≡ None) (spelled : packet_in b ≡ Some p)
    (is : IsWindowOf plan old (heard plan l)) (takes : Takes old p now take) where
  window_on : IsWindowOf plan now (heard plan (l ++ b ∷ []))
  window_on =
      let room = (open_from_ending plan l goes_on).1 in
      record {
        width = takes.window ∙ is.width;
        limit = takes.limit ∙ is.limit;
        stands = subst (WindowHolds now)
            (ap (λ n. heard_with n (heard plan l) p) is.limit ∙ sym (heard_made plan l b p room spelled))
            (takes.stands (heard plan l) is.stands);
      }

  outcome_is : next_outcome plan.heap_limit plan.window (heard plan l) p ≡ outcome_of take.what
  outcome_is =
      ap (λ n. next_outcome n plan.window (heard plan l) p) (sym is.limit) ∙ ap
      (λ n. next_outcome old.limit n (heard plan l) p) (sym is.width) ∙ sym (takes.what (heard plan l) is.stands)

  evicts_is : is_some (evicts_next plan (heard plan l) p) ≡ is_some take.evicted
  evicts_is = ap is_some (
      ap (λ n. cond (is_within n p) (next_evicted plan.window (placed plan.window (heard plan l)) p) None)
      (sym is.limit)
      ∙ ap (λ w. cond (is_within old.limit p) (next_evicted w (placed w (heard plan l)) p) None) (sym is.width)
      ∙ sym (takes.evicted (heard plan l) is.stands))

  verdict_on_packet : (antenna : ℕ)
      → packet_verdict plan antenna (l ++ b ∷ []) ≡ verdict_by (heaps plan antenna (l ++ b ∷ [])) (outcome_of take.what)
  verdict_on_packet antenna =
      packet_verdict_packet plan antenna l b p (open_from_ending plan l goes_on).1 spelled ∙ ap
      (verdict_by (heaps plan antenna (l ++ b ∷ []))) outcome_is

  report_on_packet : (antenna : ℕ) (v : Verdict) (evicts : Bool) (bad : ℕ)
      → v ≡ packet_verdict plan antenna (l ++ b ∷ []) → evicts ≡ is_some take.evicted
      → bad_count plan (described_by (heaps plan antenna (l ++ b ∷ [])))
      ≡ bad_count plan (described_by (heaps plan antenna l)) + bad
      → report plan antenna (l ++ b ∷ []) ≡ with_string (report plan antenna l) v evicts bad
  report_on_packet antenna v evicts bad verdict evicts_so bads =
      report_packet plan antenna l b p bad goes_on spelled bads
      ∙ ap (λ w. with_string (report plan antenna l) w (is_some (evicts_next plan (heard plan l) p)) bad) (sym verdict)
      ∙ ap (λ e. with_string (report plan antenna l) v e bad) (evicts_is ∙ sym evicts_so)

-- the string spells a packet that makes no heap whole
pub hears_part : (old now : WindowState) (take : Take) (table : List DescribedItem) (marks : MarksState) (c : OpenState)
    (l : List (List ℕ)) (b : List ℕ) (p : Parts) (v : Verdict) (evicts : Bool)
    → ending c.plan l ≡ None → packet_in b ≡ Some p → Takes old p now take → Holds old table marks c l
    → heap_made (outcome_of take.what) ≡ None
    → ((js : List JudgedHeap) → verdict_by js (outcome_of take.what) ≡ v) → evicts ≡ is_some take.evicted
    → Hears c.plan c.antenna now table marks c l b (record { verdict = v; stop = false; evicts = evicts; bad = 0 })
hears_part old now take table marks c l b p v evicts goes_on spelled takes holds none plain evicts_so =
    let made : heap_made (next_outcome c.plan.heap_limit c.plan.window (heard c.plan l) p) ≡ None =
    ap heap_made (outcome_is c.plan old now take l b p goes_on spelled holds.window_of takes) ∙ none in
    let whole = whole_kept c.plan l b goes_on p spelled made in
    let same = same_heaps c.plan l b goes_on whole c.antenna in
    let verdict : v ≡ packet_verdict c.plan c.antenna (l ++ b ∷ []) =
    sym (verdict_on_packet c.plan old now take l b p goes_on spelled holds.window_of takes c.antenna ∙ plain
    (heaps c.plan c.antenna (l ++ b ∷ []))) in
    let count = bad_count c.plan (described_by (heaps c.plan c.antenna l)) in
    let zero_more : count ≡ count + 0 = omega arith in
    record {
      verdict_is = verdict;
      stops = sym (still_open c.plan l b goes_on whole);
      report_is = report_on_packet c.plan old now take l b p goes_on spelled holds.window_of takes c.antenna v evicts 0
          verdict evicts_so (ap (λ js. bad_count c.plan (described_by js)) same ∙ zero_more);
      holds = record {
        window_of = window_on c.plan old now take l b p goes_on spelled holds.window_of takes;
        described = table_kept c.plan c.antenna l b p table goes_on spelled made holds.described;
        agrees = subst (Agrees marks c) (sym same) holds.agrees;
      };
    }

-- the string spells a packet that makes a heap whole
pub hears_heap : (old now : WindowState) (take : Take) (table more : List DescribedItem) (marks later : MarksState)
    (c cn : OpenState) (l : List (List ℕ)) (b : List ℕ) (p : Parts) (h : WholeHeap)
    (stop : Bool) (seen : Option Sight) (v : Verdict) (evicts : Bool) (bad : ℕ)
    → ending c.plan l ≡ None → packet_in b ≡ Some p → Takes old p now take → Holds old table marks c l
    → heap_made (outcome_of take.what) ≡ Some h
    → ((js : List JudgedHeap) → verdict_by js (outcome_of take.what) ≡ verdict_of_last (last_one js))
    → evicts ≡ is_some take.evicted
    → ((contents : List (List ℕ)) → TableStandsFor c.plan table contents
    → TableStandsFor c.plan more (contents ++ contents_of h))
    → ((contents : List (List ℕ)) → TableStandsFor c.plan table contents
    → bad_count c.plan (contents ++ contents_of h) ≡ bad_count c.plan contents + bad)
    → stop ≡ stops h
    → ((contents : List (List ℕ)) → TableStandsFor c.plan more contents
    → seen ≡ sight c.plan (readable_descriptors c.plan contents) (group_of h))
    → ((js : List JudgedHeap) → ((m u : ℕ) → above_top c.plan js ≤ m → cell_in js m u ≡ None) → Agrees marks c js
    → Judges later cn js (judged_as c.plan c.antenna js h seen) v)
    → cn.plan ≡ c.plan → cn.antenna ≡ c.antenna
    → Hears c.plan c.antenna now more later cn l b (record { verdict = v; stop = stop; evicts = evicts; bad = bad })
hears_heap old now take table more marks later c cn l b p h stop seen v evicts bad goes_on spelled takes holds some last
    evicts_so applies bads is_stop sees judges same_plan same_antenna =
    let js = heaps c.plan c.antenna l in
    let made : heap_made (next_outcome c.plan.heap_limit c.plan.window (heard c.plan l) p) ≡ Some h =
    ap heap_made (outcome_is c.plan old now take l b p goes_on spelled holds.window_of takes) ∙ some in
    let one = whole_by c.plan l b goes_on p spelled (Some h) made in
    let grown : heaps c.plan c.antenna (l ++ b ∷ []) ≡ js ++ judge_next c.plan c.antenna js h ∷ [] =
    one_more c.plan l b goes_on h one c.antenna in
    let table_stands : TableStandsFor c.plan more (contents_so_far js h) = applies (described_by js) holds.described in
    let seen_is = sees (contents_so_far js h) table_stands in
    let judged = judges js (λ m u far. unreached_cells c.plan c.antenna l m u far) holds.agrees in
    let same_judged : judged_as c.plan c.antenna js h seen ≡ judge_next c.plan c.antenna js h =
    ap (judged_as c.plan c.antenna js h) seen_is in
    let verdict : v ≡ packet_verdict c.plan c.antenna (l ++ b ∷ []) =
    judged.verdict_is ∙ ap (λ (j : JudgedHeap). j.verdict) same_judged
    ∙ sym (verdict_on_packet c.plan old now take l b p goes_on spelled holds.window_of takes c.antenna
    ∙ last (heaps c.plan c.antenna (l ++ b ∷ [])) ∙ ap (λ ks. verdict_of_last (last_one ks)) grown ∙ ap verdict_of_last
    (last_one_push js (judge_next c.plan c.antenna js h))) in
    let agrees : Agrees later cn (heaps c.plan c.antenna (l ++ b ∷ [])) =
    subst (Agrees later cn) (ap (λ j. js ++ j ∷ []) same_judged ∙ sym grown) judged.agrees in
    record {
      verdict_is = verdict;
      stops = is_stop ∙ sym (stopped_by c.plan l b goes_on h one);
      report_is = report_on_packet c.plan old now take l b p goes_on spelled holds.window_of takes c.antenna v evicts
          bad verdict evicts_so
          (ap (bad_count c.plan) (described_more c.plan l b goes_on h one c.antenna) ∙ bads (described_by js)
          holds.described);
      holds = record {
        window_of = subst (λ q. IsWindowOf q now (heard q (l ++ b ∷ []))) (sym same_plan)
            (window_on c.plan old now take l b p goes_on spelled holds.window_of takes);
        described = subst (λ q. IsTableOf q cn.antenna more (l ++ b ∷ [])) (sym same_plan)
            (subst (λ n. IsTableOf c.plan n more (l ++ b ∷ [])) (sym same_antenna)
            (table_made c.plan c.antenna l b p h more goes_on spelled made table_stands));
        agrees = subst (λ q. Agrees later cn (heaps q cn.antenna (l ++ b ∷ []))) (sym same_plan)
            (subst (λ n. Agrees later cn (heaps c.plan n (l ++ b ∷ []))) (sym same_antenna) agrees);
      };
    }
