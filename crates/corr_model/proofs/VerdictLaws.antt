-- The verdicts on packets and the report: what one more string brings, and what lies beyond the strings that count.
use Rattle.std.proofs.Common.{◌≡◌, ℕ, ◌+◌, ◌<◌, Bool, true, false, cond, ◌&&◌, List, [], ◌∷◌, ◌++◌, length, map, take, Option, Some, None, refl, sym, ap, ◌∙◌}
use Rattle.std.specs.List.{count_by, flat_map}
use Rattle.std.specs.Option.{is_some, option_and_then, option_map, unwrap_or}
use Rattle.std.proofs.Math.Seq.{take-append_seam}
use Rattle.std.proofs.lemmas.List.{map-append}
use Rattle.corr_model.specs.declared.plan.Plan.{Plan}
use Rattle.corr_model.specs.declared.pointer.Refusal.{Refusal}
use Rattle.corr_model.specs.declared.heap.DropCause.{DropCause}
use Rattle.corr_model.specs.declared.heap.DropCause.TheVariants.{PastLimit}
use Rattle.corr_model.specs.declared.verdict.Verdict.TheVariants as verdicts
use Rattle.corr_model.specs.Lists.{fronts, last_one, passes}
use Rattle.corr_model.specs.Packets.{Parts, packet_in, parts_in, refusal_of}
use Rattle.corr_model.specs.Windows.{PlacedPacket, heard, heard_in, is_opening, is_within, placed, place_next, placed_in}
use Rattle.corr_model.specs.Assembly.{Fate, Standing, Before, Whole, After, fates, heap_at, members_with, standing, whole_now, whole_with}
use Rattle.corr_model.specs.Streams.{JudgedHeap, contents_of, ending, heaps, taken}
use Rattle.corr_model.specs.Tables.{bad_count}
use Rattle.corr_model.specs.PacketVerdicts.{Part, Dropped, Report, kept_or_dropped, by_fate, by_standing, heap_made, outcome_with, next_outcome, evicted_of, next_evicted, verdict_by, last_outcome, verdict_after, packet_verdict, packet_verdicts, evicts, evicted_count, report_on, report}
use Rattle.corr_model.proofs.Turns.{fronts_push, last_one_push}
use Rattle.corr_model.proofs.PacketLaws.{chosen}
use Rattle.corr_model.proofs.Pushes.{placed_push}
use Rattle.corr_model.proofs.StreamPushes.{placed_in_push}
use Rattle.corr_model.proofs.StreamLawsCells.{count_push}
use Rattle.corr_model.proofs.StreamLawsTaken.{HasEnded, heaps_ended, heaps_of_taken, same_after_end, taken_all, taken_ended, taken_next, taken_of_taken}

-- a string more of an open list has a verdict more
pub packet_verdicts_push : (plan : Plan) (antenna : ℕ) (l : List (List ℕ)) (b : List ℕ) → ending plan l ≡ None
    → packet_verdicts plan antenna (l ++ b ∷ [])
    ≡ packet_verdicts plan antenna l ++ packet_verdict plan antenna (l ++ b ∷ []) ∷ []
packet_verdicts_push plan antenna l b open_yet =
    let each = packet_verdict plan antenna in
    ap (λ k. map each (fronts k)) (taken_next plan l b open_yet)
    ∙ ap (map each) (fronts_push l b)
    ∙ map-append each (fronts l) ((l ++ b ∷ []) ∷ [])
    ∙ ap (λ k. map each (fronts k) ++ each (l ++ b ∷ []) ∷ []) (sym (taken_all plan l open_yet))

-- the last string's verdict is by its refusal
pub packet_verdict_push : (plan : Plan) (antenna : ℕ) (l : List (List ℕ)) (b : List ℕ)
    → packet_verdict plan antenna (l ++ b ∷ []) ≡ verdict_after plan antenna (l ++ b ∷ []) b (refusal_of b)
packet_verdict_push plan antenna l b =
    ap (λ o. unwrap_or (option_map (λ bytes. verdict_after plan antenna (l ++ b ∷ []) bytes (refusal_of bytes)) o)
    verdicts.Part) (last_one_push l b)

-- a string that is no packet is refused
pub packet_verdict_refused : (plan : Plan) (antenna : ℕ) (l : List (List ℕ)) (b : List ℕ) (refusal : Refusal)
    → refusal_of b ≡ Some refusal
    → packet_verdict plan antenna (l ++ b ∷ []) ≡ verdicts.Refused refusal
packet_verdict_refused plan antenna l b refusal h =
    packet_verdict_push plan antenna l b ∙ ap (verdict_after plan antenna (l ++ b ∷ []) b) h

pub heard_by : (limit : ℕ) (b : List ℕ) (p : Parts) → packet_in b ≡ Some p → is_within limit p ≡ true
    → heard_in limit b ≡ Some p
heard_by limit b p h within = rw h (ap (λ w. cond w (Some p) None) within)

-- what a heard packet is, by those heard before it
pub last_outcome_push : (plan : Plan) (l : List (List ℕ)) (b : List ℕ) (p : Parts) → length l < plan.packet_limit
    → heard_in plan.heap_limit b ≡ Some p
    → last_outcome plan.window (placed_in plan (l ++ b ∷ []))
    ≡ outcome_with plan.window (placed plan.window (heard plan l ++ p ∷ []))
    (place_next plan.window (placed plan.window (heard plan l)) p)
last_outcome_push plan l b p room is =
    let window = plan.window in
    let before = placed_in plan l in
    let next = place_next window before p in
    ap (last_outcome window) (placed_in_push plan l b p room is)
    ∙ ap (λ o. unwrap_or (option_map (outcome_with window (before ++ next ∷ [])) o) Part) (last_one_push before next)
    ∙ ap (λ ps. outcome_with window ps next) (sym (placed_push window (heard plan l) p))

by_limit : (plan : Plan) (antenna : ℕ) (l : List (List ℕ)) (b : List ℕ) (p : Parts) → length l < plan.packet_limit
    → packet_in b ≡ Some p
    → (within : Bool) → is_within plan.heap_limit p ≡ within → (js : List JudgedHeap)
    → cond within (verdict_by js (last_outcome plan.window (placed_in plan (l ++ b ∷ [])))) (verdicts.Dropped PastLimit)
    ≡ verdict_by js (cond within
    (outcome_with plan.window (placed plan.window (heard plan l ++ p ∷ []))
    (place_next plan.window (placed plan.window (heard plan l)) p)) (Dropped PastLimit))
by_limit plan antenna l b p room h true is js =
    ap (verdict_by js) (last_outcome_push plan l b p room (heard_by plan.heap_limit b p h is))
by_limit plan antenna l b p room h false is js = refl

made_fate : (o : Option DropCause) → heap_made (kept_or_dropped o) ≡ None
made_fate None = refl
made_fate (Some cause) = refl

made_none : (o : Option Fate) → heap_made (by_fate o) ≡ None
made_none None = refl
made_none (Some f) = made_fate f.cause

made_by : (counter : ℕ) (ms : List PlacedPacket) (s : Standing)
    → heap_made (by_standing counter ms s) ≡ heap_at counter s
made_by counter ms Before = made_none (last_one (fates ms))
made_by counter ms (Whole front) = refl
made_by counter ms After = refl

made_within : (window : ℕ) (h : List Parts) (p : Parts)
    → heap_made (outcome_with window (placed window (h ++ p ∷ [])) (place_next window (placed window h) p))
    ≡ whole_now window (placed window (h ++ p ∷ []))
made_within window h p =
    let ps = placed window (h ++ p ∷ []) in
    let next = place_next window (placed window h) p in
    let last : last_one ps ≡ Some next = ap last_one (placed_push window h p) ∙ last_one_push (placed window h) next in
    made_by p.counter (members_with window ps next) (standing (members_with window ps next)) ∙ sym
    (ap (option_and_then (whole_with window ps)) last)

made_limit : (within : Bool) (window : ℕ) (h : List Parts) (p : Parts)
    → heap_made (cond within (outcome_with window (placed window (h ++ p ∷ [])) (place_next window (placed window h) p))
    (Dropped PastLimit))
    ≡ cond within (whole_now window (placed window (h ++ p ∷ []))) None
made_limit true window h p = made_within window h p
made_limit false window h p = refl

-- the heap that is made is the one that is whole at the packet
pub made_whole : (limit window : ℕ) (h : List Parts) (p : Parts)
    → heap_made (next_outcome limit window h p)
    ≡ cond (is_within limit p) (whole_now window (placed window (h ++ p ∷ []))) None
made_whole limit window h p = made_limit (is_within limit p) window h p

-- a packet's verdict is by what it is to its heap after those heard before it
pub packet_verdict_packet : (plan : Plan) (antenna : ℕ) (l : List (List ℕ)) (b : List ℕ) (p : Parts)
    → length l < plan.packet_limit → packet_in b ≡ Some p
    → packet_verdict plan antenna (l ++ b ∷ [])
    ≡ verdict_by (heaps plan antenna (l ++ b ∷ [])) (next_outcome plan.heap_limit plan.window (heard plan l) p)
packet_verdict_packet plan antenna l b p room h =
    let read = chosen (refusal_of b) (parts_in b) p h in
    let js = heaps plan antenna (l ++ b ∷ []) in
    let outcome = last_outcome plan.window (placed_in plan (l ++ b ∷ [])) in
    packet_verdict_push plan antenna l b
    ∙ ap (verdict_after plan antenna (l ++ b ∷ []) b) read.0
    ∙ ap (λ q. cond (is_within plan.heap_limit q) (verdict_by js outcome) (verdicts.Dropped PastLimit)) read.1
    ∙ by_limit plan antenna l b p room h (is_within plan.heap_limit p) refl js

-- no verdict after the end
pub packet_verdicts_ended : (plan : Plan) (antenna : ℕ) (l : List (List ℕ)) (b : List ℕ) → HasEnded plan l
    → packet_verdicts plan antenna (l ++ b ∷ []) ≡ packet_verdicts plan antenna l
packet_verdicts_ended plan antenna l b end =
    ap (λ k. map (packet_verdict plan antenna) (fronts k)) (taken_ended plan l b end)

pub packet_verdicts_past : (plan : Plan) (antenna : ℕ) (l rest : List (List ℕ)) → is_some (ending plan l) ≡ true
    → packet_verdicts plan antenna (l ++ rest) ≡ packet_verdicts plan antenna l
packet_verdicts_past plan antenna l rest h =
    same_after_end plan (packet_verdicts plan antenna) (packet_verdicts_ended plan antenna) l rest h

pub packet_verdicts_of_taken : (plan : Plan) (antenna : ℕ) (l : List (List ℕ))
    → packet_verdicts plan antenna (taken plan l) ≡ packet_verdicts plan antenna l
packet_verdicts_of_taken plan antenna l = ap (λ k. map (packet_verdict plan antenna) (fronts k)) (taken_of_taken plan l)

-- the report on strings that all count, and their heaps
report_of : Plan → ℕ → List (List ℕ) → List JudgedHeap → Report
report_of plan antenna k js =
    report_on (evicted_count plan.window (placed_in plan k)) (bad_count plan (flat_map (λ j. contents_of j.heap) js))
    (map (packet_verdict plan antenna) (fronts k))

same_report : (plan : Plan) (antenna : ℕ) (k l : List (List ℕ)) → taken plan k ≡ taken plan l
    → heaps plan antenna k ≡ heaps plan antenna l → report plan antenna k ≡ report plan antenna l
unfolding report_of
same_report plan antenna k l strings judged =
    ap (λ s. report_of plan antenna s (heaps plan antenna k)) strings ∙ ap
    (report_of plan antenna (taken plan l)) judged

pub report_of_taken : (plan : Plan) (antenna : ℕ) (l : List (List ℕ))
    → report plan antenna (taken plan l) ≡ report plan antenna l
report_of_taken plan antenna l =
    same_report plan antenna (taken plan l) l (taken_of_taken plan l) (heaps_of_taken plan antenna l)

pub report_past : (plan : Plan) (antenna : ℕ) (l rest : List (List ℕ)) → is_some (ending plan l) ≡ true
    → report plan antenna (l ++ rest) ≡ report plan antenna l
report_past plan antenna l rest h =
    same_after_end plan (report plan antenna)
    (λ k b end. same_report plan antenna (k ++ b ∷ []) k (taken_ended plan k b end)
    (heaps_ended plan antenna k b end)) l rest h

both : (b : Bool) (o : Option ℕ) → (b && is_some o) ≡ is_some (cond b o None)
both true o = refl
both false o = refl

-- a heard packet more evicts, where it opens a heap and one leaves that is not whole
pub evicted_push : (window : ℕ) (h : List Parts) (p : Parts)
    → evicted_count window (placed window (h ++ p ∷ []))
    ≡ evicted_count window (placed window h) + cond (is_some (next_evicted window (placed window h) p)) 1 0
evicted_push window h p =
    let before = placed window h in
    let next = place_next window before p in
    let last : evicts window (before ++ next ∷ []) ≡ is_some (next_evicted window before p) =
    ap (passes (λ q. q.opens && is_some (evicted_of window (take q.place (before ++ next ∷ [])))))
    (last_one_push before next)
    ∙ ap (λ ps. next.opens && is_some (evicted_of window ps)) (take-append_seam before (next ∷ []))
    ∙ both (is_opening window before p) (evicted_of window before) in
    ap (evicted_count window) (placed_push window h p)
    ∙ ap (count_by (evicts window)) (fronts_push before next)
    ∙ count_push (evicts window) (fronts before) (before ++ next ∷ [])
    ∙ ap (λ b. evicted_count window before + cond b 1 0) last
