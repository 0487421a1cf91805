use Rattle.corr_report.proofs.PairLemmas.{pair_is}
use Rattle.corr_report.proofs.decode.antennas_of.Goals as goal

pub returns : goal.returns
returns c = pair_is _ _ _ c.pair.ensures.order c.pair.ensures.in_range c.pair.ensures.number
