use Rattle.std.proofs.Common.{ap, ◌∙◌}
use Rattle.stream_feed.specs.Feeding.{FeedState, due_by}
use Rattle.stream_rules.specs.Marking.{floor_by}
use Rattle.stream_feed.proofs.StandLemmas.{floor_is}
use Rattle.stream_feed.proofs.feed.Feed.due.Goals as goal

pub returns-clause-floor : goal.returns-clause-floor
returns-clause-floor g c =
    λ l s. c.due.ensures ∙ ap (λ (k : FeedState). due_by k.columns.given (floor_by k.columns.plan k.marks))
    c.self.view_is ∙ ap (due_by c.args.self.now.columns.given) (floor_is c.args.self.now l s)
