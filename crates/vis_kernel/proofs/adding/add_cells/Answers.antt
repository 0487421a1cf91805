use Rattle.std.proofs.Common.{◌*◌, ◌^◌, arith}
use Rattle.vis_kernel.proofs.KernelLemmas.{are_small_more, cells_none, cells_next, cells_room, cells_more, cells_all, cells_small}
use Rattle.vis_kernel.proofs.adding.add_cells.Goals as goal

pub loop-channel-init : goal.loop-channel-init
loop-channel-init c = cells_none _ _ _ _

pub add_products-requires-clause-room : goal.add_products-requires-clause-room
add_products-requires-clause-room c =
    let room = cells_room _ _ _ _ _ _ c.loop-channel.invariant in
    let long = c.requires.room in
    omega arith

pub add_products-requires-clause-sums : goal.add_products-requires-clause-sums
add_products-requires-clause-sums c = cells_next _ _ _ _ _ _ _ c.loop-channel.invariant c.requires.sums

pub add_products-requires-clause-products : goal.add_products-requires-clause-products
add_products-requires-clause-products c =
    let few = c.requires.fits.ranges.shape.spectra.most_met in
    are_small_more _ (c.args.plan.now.spectra * 2 ^ 15) (2 ^ 40) (omega arith) c.channel_products-sum.ensures.are_small

pub loop-channel-preserved : goal.loop-channel-preserved
loop-channel-preserved c =
    cells_more _ _ _ _ _ _ _ _ c.loop-channel.invariant (omega arith) c.requires.room c.channel_products-sum.ensures
    c.add_products.ensures

pub returns-clause-value : goal.returns-clause-value
returns-clause-value c = cells_all _ _ _ _ _ _ c.loop-channel.invariant (omega arith) c.requires.room

pub returns-clause-small : goal.returns-clause-small
returns-clause-small c = cells_small _ _ _ _ _ _ c.loop-channel.invariant (omega arith)
