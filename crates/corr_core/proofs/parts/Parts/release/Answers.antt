use Rattle.corr_core.specs.Parts.{PartsView}
use Rattle.corr_core.proofs.ChangeLemmas.{release_refused}
use Rattle.corr_core.proofs.parts.Parts.release.Goals as goal

pub returns-in-Not : goal.returns-in-Not
returns-in-Not g c =
    let seen : PartsView =
    record {
      plan = c.self.inside.plan;
      feeds = c.self.inside.feeds.items;
      hands = c.self.inside.hands.items;
      ring = c.self.inside.ring;
      works = c.self.inside.works.items;
      outgoing = c.self.inside.outgoing;
      sent =
          c.self.inside.sent;
    } in
    release_refused seen c.args.self.now _ _ _ c.self.view_is c.in-Not.ensures
