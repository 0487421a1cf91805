use Rattle.std.proofs.Common.{arith}
use Rattle.corr_core.proofs.NewLemmas.{built_none, built_more, built_all}
use Rattle.corr_core.proofs.prepared.new_works.Goals as goal

pub loop-init : goal.loop-init
loop-init g c = let room =
    c.in_ok-works.ensures.exact in built_none _ _ _ _ _ c.in_ok-works.ensures.items c.in_ok-works.ensures.len
    (omega (arith, room))

pub push_reserved-requires : goal.push_reserved-requires
push_reserved-requires g c =
    let counted = c.loop.invariant.counted in
    let fits_in = c.loop.invariant.fits_in in
    omega arith

pub loop-preserved : goal.loop-preserved
loop-preserved g c =
    built_more _ _ _ _ _ _ _ _ _ _ c.loop.invariant c.in_ok-work.ensures c.push_reserved.ensures.items
    c.push_reserved.ensures.len c.push_reserved.ensures.capacity

pub returns : goal.returns
returns g c = built_all _ _ _ _ _ c.loop.counter c.loop.invariant (omega arith)
