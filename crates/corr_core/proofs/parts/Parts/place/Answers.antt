use Rattle.std.proofs.Common.{◌<◌, length, ap, ◌∙◌, arith}
use Rattle.std.proofs.lemmas.List.{get_or_default}
use Rattle.slot_ring.specs.Means.{spare_hand}
use Rattle.corr_core.specs.Parts.{PartsView}
use Rattle.corr_core.proofs.PutLemmas.{hand_put}
use Rattle.corr_core.proofs.parts.Parts.place.Goals as goal

pub returns : goal.returns
returns g c =
    let seen : PartsView =
    record {
      plan = c.self.inside.plan;
      feeds = c.self.inside.feeds.items;
      hands = c.self.inside.hands.items;
      ring = c.self.inside.ring;
      works = c.self.inside.works.items;
      outgoing = c.self.inside.outgoing;
      sent =
          c.self.inside.sent;
    } in
    let a = c.args.antenna in
    let same = ap (λ (k : PartsView). k.plan.antennas) c.self.view_is in
    let few : a < seen.plan.antennas = omega (arith, c.requires.in_range, same) in
    let low : a < length seen.hands = omega (arith, few, c.self.invariant.hand_count) in
    hand_put seen c.args.self.now a c.index_mut.result.now c.put_hand.new.hand c.put_hand.new.ring c.put_hand.result
    c.self.view_is
    (c.index_mut.ensures.value ∙ get_or_default seen.hands a _ (spare_hand seen.plan) low) c.put_hand.ensures
