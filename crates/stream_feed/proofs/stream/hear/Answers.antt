use Rattle.std.proofs.Common.{ℕ, List, ◌≡◌, refl, sym, ap, subst}
use Rattle.std.specs.Prelude.{option_map}
use Rattle.corr_model.specs.Tables.{TableStandsFor, readable_descriptors, sight}
use Rattle.corr_model.specs.Streams.{group_of}
use Rattle.corr_model.specs.PacketVerdicts.{heap_made, verdict_by}
use Rattle.heap_assembly.specs.Heaps.{whole_of}
use Rattle.heap_window.specs.Takes.{outcome_of}
use Rattle.item_group.specs.Looking.{said}
use Rattle.stream_feed.specs.declared.stream.Heard.{Heard}
use Rattle.stream_feed.specs.Feeding.{Hears}
use Rattle.stream_feed.proofs.FeedLemmas.{hears_refused, hears_part, hears_heap}
use Rattle.stream_feed.specs.Keeping.{KeepsWindow, opens_after}
use Rattle.stream_feed.proofs.KeepLemmas.{keeps_stale, keeps_dropped, keeps_of_heap}
use Rattle.stream_feed.proofs.AnswerLemmas.{frame_of, keeps_heard}
use Rattle.stream_feed.proofs.stream.hear.Goals as goal

pub returns-in-Err-clause-hears : goal.returns-in-Err-clause-hears
returns-in-Err-clause-hears c = λ l goes_on none_due holds.
    subst (Hears c.args.columns.now.plan c.args.columns.now.antenna c.args.window.now c.args.table.now c.args.marks.now
    c.args.columns.now l c.args.bytes.now) (sym c.part.ensures)
    (hears_refused c.args.window.now c.args.table.now c.args.marks.now c.args.columns.now l c.args.bytes.now
    c.in-Err.refusal goes_on c.in-Err.ensures.found holds)

pub returns-in-Part-clause-hears : goal.returns-in-Part-clause-hears
returns-in-Part-clause-hears c = λ l goes_on none_due holds.
    subst (Hears c.args.columns.now.plan c.args.columns.now.antenna c.take.follows.lender-at-none c.args.table.now
    c.args.marks.now c.args.columns.now l c.args.bytes.now) (sym c.part-in-Part.ensures)
    (hears_part c.args.window.now c.take.follows.lender-at-none c.take.result c.args.table.now c.args.marks.now
    c.args.columns.now l c.args.bytes.now c.in-Ok.packet _ _ goes_on c.in-Ok.ensures.found
    c.take.follows.holds-at-none holds (ap (λ w. heap_made (outcome_of w)) c.in-Part.is)
    (λ js. ap (λ w. verdict_by js (outcome_of w)) c.in-Part.is) c.is_some-evicts.ensures)

pub returns-in-Stale-clause-hears : goal.returns-in-Stale-clause-hears
returns-in-Stale-clause-hears c = λ l goes_on none_due holds.
    subst (Hears c.args.columns.now.plan c.args.columns.now.antenna c.take.follows.lender-at-none c.args.table.now
    c.args.marks.now c.args.columns.now l c.args.bytes.now) (sym c.part-in-Stale.ensures)
    (hears_part c.args.window.now c.take.follows.lender-at-none c.take.result c.args.table.now c.args.marks.now
    c.args.columns.now l c.args.bytes.now c.in-Ok.packet _ _ goes_on c.in-Ok.ensures.found
    c.take.follows.holds-at-none holds (ap (λ w. heap_made (outcome_of w)) c.in-Stale.is)
    (λ js. ap (λ w. verdict_by js (outcome_of w)) c.in-Stale.is) c.is_some-evicts.ensures)

pub returns-in-Dropped-clause-hears : goal.returns-in-Dropped-clause-hears
returns-in-Dropped-clause-hears c = λ l goes_on none_due holds.
    subst (Hears c.args.columns.now.plan c.args.columns.now.antenna c.take.follows.lender-at-none c.args.table.now
    c.args.marks.now c.args.columns.now l c.args.bytes.now) (sym c.part-in-Dropped.ensures)
    (hears_part c.args.window.now c.take.follows.lender-at-none c.take.result c.args.table.now c.args.marks.now
    c.args.columns.now l c.args.bytes.now c.in-Ok.packet _ _ goes_on c.in-Ok.ensures.found
    c.take.follows.holds-at-none holds (ap (λ w. heap_made (outcome_of w)) c.in-Dropped.is)
    (λ js. ap (λ w. verdict_by js (outcome_of w)) c.in-Dropped.is) c.is_some-evicts.ensures)

pub returns-in-Whole-clause-hears : goal.returns-in-Whole-clause-hears
returns-in-Whole-clause-hears c = λ l goes_on none_due holds.
    let frame = frame_of c.judge_heap.result _ _ _ _ c.judge_heap.ensures.keeps in
    hears_heap c.args.window.now c.take.follows.lender-at-none c.take.result c.args.table.now c.apply-applied.new.self
    c.args.marks.now c.judge_heap.new.marks c.args.columns.now c.judge_heap.new.columns
    l c.args.bytes.now c.in-Ok.packet (whole_of c.in-Whole.heap) c.look-look.result.stop
    (option_map said c.look-look.result.sight) c.judge_heap.result c.is_some-evicts.result _
    goes_on c.in-Ok.ensures.found c.take.follows.holds-at-none holds (ap (λ w. heap_made (outcome_of w)) c.in-Whole.is)
    (λ js. ap (λ w. verdict_by js (outcome_of w)) c.in-Whole.is) c.is_some-evicts.ensures
    (c.apply-applied.ensures.stands c.args.columns.now.plan) (c.apply-applied.ensures.bad c.args.columns.now.plan)
    c.look-look.ensures.stop
    (subst (λ q. (contents : List (List ℕ)) → TableStandsFor q c.apply-applied.new.self contents
    → option_map said c.look-look.result.sight
    ≡ sight q (readable_descriptors q contents) (group_of (whole_of c.in-Whole.heap))) c.plan.ensures.value
    c.look-look.ensures.sight)
    (λ js unreached a. c.judge_heap.ensures.judges js (whole_of c.in-Whole.heap) c.look-look.ensures.stop none_due
    unreached a) frame.same_plan frame.same_antenna

pub returns-in-Whole-clause-keeps : goal.returns-in-Whole-clause-keeps
returns-in-Whole-clause-keeps c =
    keeps_heard c.judge_heap.result _ _ _ _ _ _ c.judge_heap.ensures.of_heap c.judge_heap.ensures.keeps

pub returns-in-Err-clause-window : goal.returns-in-Err-clause-window
returns-in-Err-clause-window c = λ l fits is.
    subst (λ (h : Heard). KeepsWindow h.verdict (opens_after c.args.columns.now.plan l c.args.bytes.now)
    c.args.window.now c.args.window.now) (sym c.part.ensures) refl

pub returns-in-Part-clause-window : goal.returns-in-Part-clause-window
returns-in-Part-clause-window c = λ l fits is.
    subst (λ (h : Heard). KeepsWindow h.verdict (opens_after c.args.columns.now.plan l c.args.bytes.now)
    c.args.window.now c.take.follows.lender-at-none) (sym c.part-in-Part.ensures) tt

pub returns-in-Stale-clause-window : goal.returns-in-Stale-clause-window
returns-in-Stale-clause-window c = λ l fits is.
    subst (λ (h : Heard). KeepsWindow h.verdict (opens_after c.args.columns.now.plan l c.args.bytes.now)
    c.args.window.now c.take.follows.lender-at-none) (sym c.part-in-Stale.ensures)
    (keeps_stale c.args.columns.now.plan c.args.window.now c.take.follows.lender-at-none c.take.result l
    c.args.bytes.now c.in-Ok.packet c.in-Ok.ensures.found fits.ranges.limit.window.least_met is
    c.take.follows.holds-at-none c.in-Stale.is)

pub returns-in-Dropped-clause-window : goal.returns-in-Dropped-clause-window
returns-in-Dropped-clause-window c = λ l fits is.
    subst (λ (h : Heard). KeepsWindow h.verdict (opens_after c.args.columns.now.plan l c.args.bytes.now)
    c.args.window.now c.take.follows.lender-at-none) (sym c.part-in-Dropped.ensures)
    (keeps_dropped c.args.columns.now.plan c.args.window.now c.take.follows.lender-at-none c.take.result l
    c.args.bytes.now c.in-Ok.packet c.in-Ok.ensures.found fits.ranges.limit.window.least_met is
    c.take.follows.holds-at-none _ c.in-Dropped.is)

pub returns-in-Whole-clause-window : goal.returns-in-Whole-clause-window
returns-in-Whole-clause-window c = λ l fits is. keeps_of_heap c.judge_heap.result _ _ _ c.judge_heap.ensures.of_heap
