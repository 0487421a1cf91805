use Rattle.std.proofs.Common.{arith}
use Rattle.corr_core.proofs.NewLemmas.{built_none, built_more, built_all}
use Rattle.corr_core.proofs.prepared.new_feeds.Goals as goal

pub loop-antenna-init : goal.loop-antenna-init
loop-antenna-init g c =
    let room = c.in_ok-feeds.ensures.exact in built_none _ _ _ _ _ c.in_ok-feeds.ensures.items c.in_ok-feeds.ensures.len
    (omega (arith, room))

pub push_reserved-requires : goal.push_reserved-requires
push_reserved-requires g c =
    let counted = c.loop-antenna.invariant.counted in
    let fits_in = c.loop-antenna.invariant.fits_in in
    omega arith

pub loop-antenna-preserved : goal.loop-antenna-preserved
loop-antenna-preserved g c =
    let feed = c.in_ok-feed.ensures in
    built_more _ _ _ _ _ _ _ _ _ _ c.loop-antenna.invariant
    (record {
      stands = feed.stands;
      same_plan = feed.plan;
      same_antenna = feed.antenna;
      given = feed.given;
      goes_on = feed.ended;
    })
    c.push_reserved.ensures.items c.push_reserved.ensures.len c.push_reserved.ensures.capacity

pub returns : goal.returns
returns g c = built_all _ _ _ _ _ c.loop-antenna.antenna c.loop-antenna.invariant (omega arith)
