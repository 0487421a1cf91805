use Rattle.std.proofs.Common.{◌++◌, ◌∷◌, [], leb, is_some, sym, ap, ◌∙◌, subst}
use Rattle.corr_model.specs.declared.plan.Plan.{Plan}
use Rattle.corr_model.specs.Streams.{ended_by}
use Rattle.corr_model.specs.PacketVerdicts.{packet_verdict}
use Rattle.stream_rules.specs.Marking.{MarksState}
use Rattle.stream_feed.specs.Feeding.{FeedState, StandsFor, KeepsHeard, due_of, going_on}
use Rattle.stream_feed.specs.Keeping.{KeepsWindow, opens_after}
use Rattle.stream_feed.proofs.StandLemmas.{list_goes_on, none_due, holds_all, keeps_going, stands_on}
use Rattle.stream_feed.proofs.stream.Stream.packet.Goals as goal

pub returns-clause-verdict : goal.returns-clause-verdict
returns-clause-verdict c = λ l s.
    let f : FeedState = record {
      window = c.self.inside.window;
      table = c.self.inside.table;
      marks = c.self.inside.marks;
      columns = c.self.inside.columns;
      report = c.self.inside.report;
    } in
    let sf : StandsFor f l = subst (λ (k : FeedState). StandsFor k l) (sym c.self.view_is) s in
    let on = ap (λ (k : FeedState). k.report.ended) c.self.view_is ∙ c.requires.goes_on in
    let due = ap due_of c.self.view_is ∙ c.requires.given in
    let h = c.hear-heard.ensures.hears l (list_goes_on f l sf on) (none_due f l sf on due) (holds_all f l sf on) in
    h.verdict_is ∙ ap (λ (k : FeedState). packet_verdict k.columns.plan k.columns.antenna (l ++ c.args.bytes.now ∷ []))
    c.self.view_is

pub returns-clause-stands : goal.returns-clause-stands
returns-clause-stands c = λ l s.
    let f : FeedState = record {
      window = c.self.inside.window;
      table = c.self.inside.table;
      marks = c.self.inside.marks;
      columns = c.self.inside.columns;
      report = c.self.inside.report;
    } in
    let sf : StandsFor f l = subst (λ (k : FeedState). StandsFor k l) (sym c.self.view_is) s in
    let on = ap (λ (k : FeedState). k.report.ended) c.self.view_is ∙ c.requires.goes_on in
    let due = ap due_of c.self.view_is ∙ c.requires.given in
    let h = c.hear-heard.ensures.hears l (list_goes_on f l sf on) (none_due f l sf on due) (holds_all f l sf on) in
    let frame = c.hear-heard.ensures.frame in
    let m : MarksState = c.hear-heard.new.marks in
    stands_on f l c.args.bytes.now c.hear-heard.result c.hear-heard.new.window c.hear-heard.new.table
    c.hear-heard.new.marks c.mark_end.new.marks c.hear-heard.new.columns
    (record c.with-report.result { ended = c.ending_after-ended.result }) sf on h frame.same_plan frame.same_antenna
    frame.same_given c.with-report.ensures.counts
    (c.ending_after-ended.ensures.value ∙ ap
    (λ (p : Plan). ended_by c.hear-heard.result.stop (leb p.packet_limit c.with-report.result.taken))
    c.plan.ensures.value)
    (c.mark_end.ensures ∙ ap {B = MarksState} (λ e. record m { finished = e }) c.is_some.ensures)

pub returns-clause-keeps : goal.returns-clause-keeps
returns-clause-keeps c =
    let on = ap (λ (k : FeedState). k.report.ended) c.self.view_is ∙ c.requires.goes_on in
    subst (λ (k : FeedState). KeepsHeard c.hear-heard.result.verdict k.table k.marks k.columns c.hear-heard.new.table
    (going_on c.mark_end.new.marks) c.hear-heard.new.columns) c.self.view_is
    (keeps_going c.hear-heard.result.verdict c.self.inside.table c.hear-heard.new.table c.self.inside.marks
    c.hear-heard.new.marks c.mark_end.new.marks c.self.inside.columns c.hear-heard.new.columns _
    c.hear-heard.ensures.keeps c.mark_end.ensures (c.self.invariant.finished ∙ ap is_some on)
    c.hear-heard.ensures.frame.same_end)

pub returns-clause-window : goal.returns-clause-window
returns-clause-window c = λ l s.
    let f : FeedState = record {
      window = c.self.inside.window;
      table = c.self.inside.table;
      marks = c.self.inside.marks;
      columns = c.self.inside.columns;
      report = c.self.inside.report;
    } in
    let sf : StandsFor f l = subst (λ (k : FeedState). StandsFor k l) (sym c.self.view_is) s in
    let on = ap (λ (k : FeedState). k.report.ended) c.self.view_is ∙ c.requires.goes_on in
    subst (λ (k : FeedState). KeepsWindow c.hear-heard.result.verdict (opens_after k.columns.plan l c.args.bytes.now)
    k.window c.hear-heard.new.window) c.self.view_is
    (c.hear-heard.ensures.window l c.self.invariant.fits (holds_all f l sf on).window_of)
