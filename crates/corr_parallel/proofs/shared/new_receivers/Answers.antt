use Rattle.std.proofs.Common.{◌≡◌, ap}
use Rattle.slot_column.specs.Columns.{Hand}
use Rattle.slot_ring.specs.Means.{spare_hand}
use Rattle.corr_core.specs.New.{IsNewFeed}
use Rattle.corr_core.proofs.NewLemmas.{built_more}
use Rattle.corr_parallel.proofs.SharedLemmas.{taken_new, new_receiver}
use Rattle.corr_parallel.proofs.shared.new_receivers.Goals as goal

pub new-requires-clause-stands : goal.new-requires-clause-stands
new-requires-clause-stands g c =
    let k = taken_new (IsNewFeed c.args.plan.now) _ _ _ _ _ _ _ _ c.requires.feeds c.loop-antenna.invariant.1
    c.next_of-feed.ensures.items c.next_of-feed.ensures.len c.loop-antenna-test.true in
    k.0.stands

pub new-requires-clause-plan : goal.new-requires-clause-plan
new-requires-clause-plan g c =
    let k = taken_new (IsNewFeed c.args.plan.now) _ _ _ _ _ _ _ _ c.requires.feeds c.loop-antenna.invariant.1
    c.next_of-feed.ensures.items c.next_of-feed.ensures.len c.loop-antenna-test.true in
    k.0.same_plan

pub new-requires-clause-antenna : goal.new-requires-clause-antenna
new-requires-clause-antenna g c =
    let k = taken_new (IsNewFeed c.args.plan.now) _ _ _ _ _ _ _ _ c.requires.feeds c.loop-antenna.invariant.1
    c.next_of-feed.ensures.items c.next_of-feed.ensures.len c.loop-antenna-test.true in
    k.0.same_antenna

pub new-requires-clause-given : goal.new-requires-clause-given
new-requires-clause-given g c =
    let k = taken_new (IsNewFeed c.args.plan.now) _ _ _ _ _ _ _ _ c.requires.feeds c.loop-antenna.invariant.1
    c.next_of-feed.ensures.items c.next_of-feed.ensures.len c.loop-antenna-test.true in
    k.0.given

pub new-requires-clause-ended : goal.new-requires-clause-ended
new-requires-clause-ended g c =
    let k = taken_new (IsNewFeed c.args.plan.now) _ _ _ _ _ _ _ _ c.requires.feeds c.loop-antenna.invariant.1
    c.next_of-feed.ensures.items c.next_of-feed.ensures.len c.loop-antenna-test.true in
    k.0.goes_on

pub new-requires-clause-spare : goal.new-requires-clause-spare
new-requires-clause-spare g c =
    let k = taken_new (λ a (h : Hand). h ≡ spare_hand c.args.plan.now) _ _ _ _ _ _ _ _ c.requires.hands
    c.loop-antenna.invariant.2 c.next_of-hand.ensures.items c.next_of-hand.ensures.len c.loop-antenna-test.true in
    ap (λ (h : Hand). h.is_closed) k.0

pub new-requires-clause-hand_plan : goal.new-requires-clause-hand_plan
new-requires-clause-hand_plan g c =
    let k = taken_new (λ a (h : Hand). h ≡ spare_hand c.args.plan.now) _ _ _ _ _ _ _ _ c.requires.hands
    c.loop-antenna.invariant.2 c.next_of-hand.ensures.items c.next_of-hand.ensures.len c.loop-antenna-test.true in
    ap (λ (h : Hand). h.column.plan) k.0

pub loop-antenna-preserved : goal.loop-antenna-preserved
loop-antenna-preserved g c =
    let feed = taken_new (IsNewFeed c.args.plan.now) _ _ _ _ _ _ _ _ c.requires.feeds c.loop-antenna.invariant.1
    c.next_of-feed.ensures.items c.next_of-feed.ensures.len c.loop-antenna-test.true in
    let hand = taken_new (λ a (h : Hand). h ≡ spare_hand c.args.plan.now) _ _ _ _ _ _ _ _ c.requires.hands
    c.loop-antenna.invariant.2 c.next_of-hand.ensures.items c.next_of-hand.ensures.len c.loop-antenna-test.true in (
      built_more _ _ _ _ _ _ _ _ _ _ c.loop-antenna.invariant.0
          (new_receiver _ _ _ _ _ feed.0 c.in_ok-receiver.ensures) c.push_reserved.ensures.items
          c.push_reserved.ensures.len c.push_reserved.ensures.capacity,
      feed.1,
      hand.1,
    )
