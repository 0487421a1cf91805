use Rattle.std.proofs.Common.{is_some, sym, ap, ◌∙◌, subst}
use Rattle.stream_feed.specs.Opening.{OpenState}
use Rattle.stream_feed.specs.Feeding.{FeedState, StandsFor, due_of, next_given, column_of}
use Rattle.stream_feed.proofs.PromiseLemmas.{due_column, stands_given, given_plan, given_antenna}
use Rattle.stream_feed.proofs.stream.Stream.give.Goals as goal

pub returns-clause-column : goal.returns-clause-column
returns-clause-column g c = λ l d s.
    let f : FeedState = record {
      window = c.self.inside.window;
      table = c.self.inside.table;
      marks = c.self.inside.marks;
      columns = c.self.inside.columns;
      report = c.self.inside.report;
    } in
    let sf : StandsFor f l = subst (λ (k : FeedState). StandsFor k l) (sym c.self.view_is) s in
    ap (λ (k : FeedState). next_given k.columns d) (sym c.self.view_is)
    ∙ due_column f l d sf c.plan.ensures.as_many c.plan.ensures.some
    ∙ ap (λ (k : FeedState). column_of k.columns.plan k.columns.antenna l k.columns.given) c.self.view_is

pub returns-clause-stands : goal.returns-clause-stands
returns-clause-stands g c = λ l s.
    let f : FeedState = record {
      window = c.self.inside.window;
      table = c.self.inside.table;
      marks = c.self.inside.marks;
      columns = c.self.inside.columns;
      report = c.self.inside.report;
    } in
    let sf : StandsFor f l = subst (λ (k : FeedState). StandsFor k l) (sym c.self.view_is) s in
    let due = ap (λ (k : FeedState). is_some (due_of k)) c.self.view_is ∙ c.requires.due in
    subst (λ (o : OpenState). StandsFor (record f { columns = o }) l) (sym c.give.ensures.columns)
    (stands_given f l sf due c.plan.ensures.as_many c.plan.ensures.some)

pub returns-clause-same_plan : goal.returns-clause-same_plan
returns-clause-same_plan g c =
    ap (λ (o : OpenState). o.plan) c.give.ensures.columns ∙ given_plan c.self.inside.columns ∙ ap
    (λ (k : FeedState). k.columns.plan) c.self.view_is

pub returns-clause-same_antenna : goal.returns-clause-same_antenna
returns-clause-same_antenna g c =
    ap (λ (o : OpenState). o.antenna) c.give.ensures.columns ∙ given_antenna c.self.inside.columns ∙ ap
    (λ (k : FeedState). k.columns.antenna) c.self.view_is
