use Rattle.vis_kernel.proofs.LaneLemmas.{lanes_crossed}
use Rattle.vis_kernel.proofs.lanes.cross.Goals as goal

pub returns : goal.returns
returns c = lanes_crossed c.args.y c.requires
