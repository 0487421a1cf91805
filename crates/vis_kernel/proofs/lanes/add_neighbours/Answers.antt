use Rattle.vis_kernel.proofs.LaneLemmas.{products_fit, lanes_added}
use Rattle.vis_kernel.proofs.lanes.add_neighbours.Goals as goal

pub overflow_mul-products : goal.overflow_mul-products
overflow_mul-products c = products_fit c.args.x c.args.y c.requires.first c.requires.second

pub returns : goal.returns
returns c = lanes_added c.args.sums c.args.x c.args.y c.requires.sums c.requires.first c.requires.second
