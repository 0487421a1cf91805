use Rattle.vis_kernel.proofs.LaneLemmas.{lanes_turned}
use Rattle.vis_kernel.proofs.lanes.turn.Goals as goal

pub returns : goal.returns
returns c = lanes_turned c.args.x c.requires
