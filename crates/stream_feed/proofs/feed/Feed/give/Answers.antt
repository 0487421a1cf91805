use Rattle.std.proofs.Common.{is_some, sym, ap, ◌∙◌, subst}
use Rattle.slot_column.specs.Columns.{Hand}
use Rattle.stream_feed.specs.Feeding.{FeedState, StandsFor, due_of, column_of}
use Rattle.stream_feed.proofs.PromiseLemmas.{told_column}
use Rattle.stream_feed.proofs.feed.Feed.give.Goals as goal

pub give-requires-clause-told : goal.give-requires-clause-told
give-requires-clause-told g c = λ named d.
    told_column g.O.Observation.list c.self.inside.stream g.O.Observation.plan d (c.self.invariant named)
    (ap (λ (k : FeedState). is_some (due_of k)) c.self.view_is ∙ c.requires.due)
    (ap (λ (k : FeedState). k.columns.plan) c.self.view_is ∙ c.requires.same_plan named) c.plan-plan.ensures.as_many
    c.plan-plan.ensures.some

pub returns-clause-closed : goal.returns-clause-closed
returns-clause-closed g c = ap (λ (h : Hand). h.is_closed) (c.give.ensures.hand c.args.hand.now.column)

pub returns-clause-column : goal.returns-clause-column
returns-clause-column g c = λ l s.
    let d = c.args.hand.now.column in
    ap (λ (h : Hand). h.column) (c.give.ensures.hand d)
    ∙ c.give.ensures.column l d (subst (λ (k : FeedState). StandsFor k l) (sym c.self.view_is) s)
    ∙ ap (λ (k : FeedState). column_of k.columns.plan k.columns.antenna l k.columns.given) c.self.view_is
