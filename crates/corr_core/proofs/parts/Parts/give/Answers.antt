use Rattle.std.proofs.Common.{◌≡◌, ◌<◌, length, ap, ◌∙◌, arith}
use Rattle.std.proofs.lemmas.List.{get_or_default}
use Rattle.corr_core.specs.Parts.{PartsView, no_feed, feed_in}
use Rattle.corr_core.proofs.ChangeLemmas.{hand_got}
use Rattle.corr_core.proofs.parts.Parts.give.Goals as goal

pub returns : goal.returns
returns g c =
    let seen : PartsView =
    record {
      plan = c.self.inside.plan;
      feeds = c.self.inside.feeds.items;
      hands = c.self.inside.hands.items;
      ring = c.self.inside.ring;
      works = c.self.inside.works.items;
      outgoing = c.self.inside.outgoing;
      sent =
          c.self.inside.sent;
    } in
    let a = c.args.antenna in
    let same = ap (λ (k : PartsView). k.plan.antennas) c.self.view_is in
    let few : a < seen.plan.antennas = omega (arith, c.requires.in_range, same) in
    let low : a < length seen.feeds = omega (arith, few, c.self.invariant.feed_count) in
    let read : c.index_mut.result.now ≡ feed_in seen a =
    c.index_mut.ensures.value ∙ get_or_default seen.feeds a _ (no_feed seen.plan) low in
    let e = c.give.ensures in
    hand_got seen c.args.self.now a c.index_mut.result.now c.give.new.self c.give.new.hand c.self.view_is read
    (record {
      stood = e.stands;
      plan = e.same_plan;
      antenna = e.same_antenna;
      ended = e.report;
      given = e.given;
      closed = e.closed;
      hand_plan = e.hand_plan;
      column = e.column;
    })
