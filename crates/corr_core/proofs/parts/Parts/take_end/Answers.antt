use Rattle.std.proofs.Common.{◌≡◌, ◌<◌, length, ap, ◌∙◌, arith}
use Rattle.std.specs.Option.{is_some}
use Rattle.std.proofs.lemmas.List.{get_or_default}
use Rattle.stream_feed.specs.declared.report.StreamReport.{StreamReport}
use Rattle.stream_feed.specs.Feeding.{FeedState}
use Rattle.corr_core.specs.Parts.{PartsView, no_feed, feed_in}
use Rattle.corr_core.specs.Changes.{TookEnd}
use Rattle.corr_core.proofs.SoundLemmas.{sound_feed}
use Rattle.corr_core.proofs.ChangeLemmas.{feed_changed}
use Rattle.corr_core.proofs.parts.Parts.take_end.Goals as goal

pub invariant_of-self : goal.invariant_of-self
invariant_of-self g c =
    let seen : PartsView =
    record {
      plan = c.self.inside.plan;
      feeds = c.self.inside.feeds.items;
      hands = c.self.inside.hands.items;
      ring = c.self.inside.ring;
      works = c.self.inside.works.items;
      outgoing = c.self.inside.outgoing;
      sent =
          c.self.inside.sent;
    } in
    let a = c.args.antenna in
    let same = ap (λ (k : PartsView). k.plan.antennas) c.self.view_is in
    let few : a < seen.plan.antennas = omega (arith, c.requires.in_range, same) in
    let low : a < length seen.feeds = omega (arith, few, c.self.invariant.feed_count) in
    let read : c.index_mut.result.now ≡ feed_in seen a =
    c.index_mut.ensures.value ∙ get_or_default seen.feeds a _ (no_feed seen.plan) low in
    sound_feed g.O.Observation.names g.O.Observation.plan seen a c.end.new.self c.self.invariant few
    (c.end.ensures.same.same_plan ∙ ap (λ (f : FeedState). f.columns.plan) read ∙ c.self.invariant.feed_plans a few)

pub returns : goal.returns
returns g c =
    let seen : PartsView =
    record {
      plan = c.self.inside.plan;
      feeds = c.self.inside.feeds.items;
      hands = c.self.inside.hands.items;
      ring = c.self.inside.ring;
      works = c.self.inside.works.items;
      outgoing = c.self.inside.outgoing;
      sent =
          c.self.inside.sent;
    } in
    let a = c.args.antenna in
    let same = ap (λ (k : PartsView). k.plan.antennas) c.self.view_is in
    let few : a < seen.plan.antennas = omega (arith, c.requires.in_range, same) in
    let low : a < length seen.feeds = omega (arith, few, c.self.invariant.feed_count) in
    let read : c.index_mut.result.now ≡ feed_in seen a =
    c.index_mut.ensures.value ∙ get_or_default seen.feeds a _ (no_feed seen.plan) low in
    feed_changed seen c.args.self.now a c.index_mut.result.now c.end.new.self (λ f g. TookEnd f g c.args.how)
    c.self.view_is read
    (record {
      stood = c.end.ensures.stands;
      ended = ap (λ (r : StreamReport). is_some r.ended) c.end.ensures.ended;
      said = ap (λ (r : StreamReport). r.ended) c.end.ensures.ended;
      same = c.end.ensures.same;
    })
