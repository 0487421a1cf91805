use Rattle.vis_kernel.proofs.LaneLemmas.{odd_fits, even_kept, odd_kept}
use Rattle.vis_kernel.proofs.lanes.halves.Goals as goal

pub overflow_add-result-2 : goal.overflow_add-result-2
overflow_add-result-2 c = odd_fits c.args.sums c.requires

pub returns-clause-even : goal.returns-clause-even
returns-clause-even c = even_kept c.args.sums c.requires

pub returns-clause-odd : goal.returns-clause-odd
returns-clause-odd c = odd_kept c.args.sums c.requires
