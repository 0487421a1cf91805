use Rattle.std.proofs.Common.{Some, refl, sym, ap, ◌∙◌, subst}
use Rattle.stream_feed.specs.Feeding.{FeedState, StandsFor}
use Rattle.stream_feed.proofs.StandLemmas.{stands_ended}
use Rattle.stream_feed.proofs.stream.Stream.end.Goals as goal

pub returns-clause-stands : goal.returns-clause-stands
returns-clause-stands c = λ l s.
    let f : FeedState = record {
      window = c.self.inside.window;
      table = c.self.inside.table;
      marks = c.self.inside.marks;
      columns = c.self.inside.columns;
      report = c.self.inside.report;
    } in
    let sf : StandsFor f l = subst (λ (k : FeedState). StandsFor k l) (sym c.self.view_is) s in
    let on = ap (λ (k : FeedState). k.report.ended) c.self.view_is ∙ c.requires.goes_on in
    stands_ended f l c.args.how c.finish.new.self (record c.self.inside.report { ended = Some c.args.how }) sf on
    c.requires.how c.finish.ensures refl
