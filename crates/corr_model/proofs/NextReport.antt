-- What one more string does to the report.
use Rattle.std.proofs.Common.{◌≡◌, ◌+◌, ℕ, Bool, true, false, List, [], ◌∷◌, ◌++◌, Some, None, refl, sym, ◌∙◌, ap, cond, add-zero}
use Rattle.std.specs.Option.{is_some}
use Rattle.std.proofs.lemmas.List.{length_push}
use Rattle.corr_model.specs.declared.plan.Plan.{Plan}
use Rattle.corr_model.specs.declared.verdict.Verdict.{Verdict}
use Rattle.corr_model.specs.Packets.{Parts, packet_in}
use Rattle.corr_model.specs.Windows.{heard, is_within, placed, placed_in}
use Rattle.corr_model.specs.Tables.{bad_count}
use Rattle.corr_model.specs.Streams.{described_by, ending, heaps, taken}
use Rattle.corr_model.specs.PacketVerdicts.{evicted_count, next_evicted, packet_verdict, packet_verdicts, report, report_on}
use Rattle.corr_model.specs.PacketVerdicts.{is_refused, is_dropped, is_stale, is_undescribed, is_foreign, is_before_start, is_off_grid, is_wild, is_beyond, is_late, is_twice, is_used}
use Rattle.corr_model.proofs.StreamLawsCells.{count_push}
use Rattle.corr_model.proofs.StreamLawsTaken.{open_from_ending, taken_all, taken_next}
use Rattle.corr_model.proofs.StreamMakes.{heard_made, heard_refused}
use Rattle.corr_model.proofs.VerdictLaws.{evicted_push, packet_verdicts_push}
use Rattle.corr_model.specs.Reports.{bit, with_string, evicts_next}
use Rattle.corr_model.proofs.NextTable.{same_heaps, whole_refused}

-- a verdict more is counted once
report_on_push : (evicted bad : ℕ) (vs : List Verdict) (v : Verdict) (evicts : Bool) (more : ℕ)
    → report_on (evicted + bit evicts) (bad + more) (vs ++ v ∷ [])
    ≡ with_string (report_on evicted bad vs) v evicts more
report_on_push evicted bad vs v evicts more =
    rw (length_push vs v)
    (rw (count_push is_refused vs v) (rw (count_push is_dropped vs v) (rw (count_push is_stale vs v)
    (rw (count_push is_undescribed vs v)
    (rw (count_push is_foreign vs v) (rw (count_push is_before_start vs v) (rw (count_push is_off_grid vs v)
    (rw (count_push is_wild vs v)
    (rw (count_push is_beyond vs v)
    (rw (count_push is_late vs v) (rw (count_push is_twice vs v) (rw (count_push is_used vs v) refl))))))))))))

-- what is reported of a string more, by what it evicts and the bad descriptors that it brings
report_next : (plan : Plan) (antenna : ℕ) (l : List (List ℕ)) (b : List ℕ) (evicts : Bool) (bad : ℕ)
    → ending plan l ≡ None
    → evicted_count plan.window (placed_in plan (l ++ b ∷ []))
    ≡ evicted_count plan.window (placed_in plan l) + bit evicts
    → bad_count plan (described_by (heaps plan antenna (l ++ b ∷ [])))
    ≡ bad_count plan (described_by (heaps plan antenna l)) + bad
    → report plan antenna (l ++ b ∷ [])
    ≡ with_string (report plan antenna l) (packet_verdict plan antenna (l ++ b ∷ [])) evicts bad
report_next plan antenna l b evicts bad goes_on evictions bads =
    let v = packet_verdict plan antenna (l ++ b ∷ []) in
    let vs = packet_verdicts plan antenna l in
    let before : evicted_count plan.window (placed_in plan (taken plan l))
    ≡ evicted_count plan.window (placed_in plan l) =
    ap (λ k. evicted_count plan.window (placed_in plan k)) (taken_all plan l goes_on) in
    let now : evicted_count plan.window (placed_in plan (taken plan (l ++ b ∷ [])))
    ≡ evicted_count plan.window (placed_in plan (taken plan l)) + bit evicts =
    ap (λ k. evicted_count plan.window (placed_in plan k)) (taken_next plan l b goes_on) ∙ evictions ∙ ap
    (λ n. n + bit evicts) (sym before) in
    ap (λ e. report_on e (bad_count plan (described_by (heaps plan antenna (l ++ b ∷ []))))
    (packet_verdicts plan antenna (l ++ b ∷ []))) now
    ∙ ap (λ d. report_on (evicted_count plan.window (placed_in plan (taken plan l)) + bit evicts) d
    (packet_verdicts plan antenna (l ++ b ∷ []))) bads
    ∙ ap (report_on (evicted_count plan.window (placed_in plan (taken plan l)) + bit evicts)
    (bad_count plan (described_by (heaps plan antenna l)) + bad)) (packet_verdicts_push plan antenna l b goes_on)
    ∙ report_on_push (evicted_count plan.window (placed_in plan (taken plan l)))
    (bad_count plan (described_by (heaps plan antenna l))) vs v evicts bad

-- a packet's eviction, within the limit or past it
evictions_by : (plan : Plan) (h k : List Parts) (p : Parts) (within : Bool) → k ≡ cond within (h ++ p ∷ []) h
    → evicted_count plan.window (placed plan.window k)
    ≡ evicted_count plan.window (placed plan.window h)
    + bit (is_some (cond within (next_evicted plan.window (placed plan.window h) p) None))
evictions_by plan h k p true is =
    ap (λ j. evicted_count plan.window (placed plan.window j)) is ∙ evicted_push plan.window h p
evictions_by plan h k p false is =
    ap (λ j. evicted_count plan.window (placed plan.window j)) is ∙ sym
    (add-zero (evicted_count plan.window (placed plan.window h)))

pub report_packet : (plan : Plan) (antenna : ℕ) (l : List (List ℕ)) (b : List ℕ) (p : Parts) (bad : ℕ)
    → ending plan l ≡ None → packet_in b ≡ Some p
    → bad_count plan (described_by (heaps plan antenna (l ++ b ∷ [])))
    ≡ bad_count plan (described_by (heaps plan antenna l)) + bad
    → report plan antenna (l ++ b ∷ [])
    ≡ with_string (report plan antenna l) (packet_verdict plan antenna (l ++ b ∷ []))
    (is_some (evicts_next plan (heard plan l) p)) bad
report_packet plan antenna l b p bad goes_on spelled bads =
    report_next plan antenna l b (is_some (evicts_next plan (heard plan l) p)) bad goes_on
    (evictions_by plan (heard plan l) (heard plan (l ++ b ∷ [])) p (is_within plan.heap_limit p)
    (heard_made plan l b p (open_from_ending plan l goes_on).1 spelled)) bads

pub report_refused : (plan : Plan) (antenna : ℕ) (l : List (List ℕ)) (b : List ℕ) → ending plan l ≡ None
    → packet_in b ≡ None
    → report plan antenna (l ++ b ∷ [])
    ≡ with_string (report plan antenna l) (packet_verdict plan antenna (l ++ b ∷ [])) false 0
report_refused plan antenna l b goes_on none =
    let same = heard_refused plan l b (open_from_ending plan l goes_on).1 none in
    let heaps_are = same_heaps plan l b goes_on (whole_refused plan l b goes_on none) antenna in
    report_next plan antenna l b false 0 goes_on
    (ap (λ h. evicted_count plan.window (placed plan.window h)) same ∙ sym
    (add-zero (evicted_count plan.window (placed_in plan l))))
    (ap (λ js. bad_count plan (described_by js)) heaps_are ∙ sym
    (add-zero (bad_count plan (described_by (heaps plan antenna l)))))
