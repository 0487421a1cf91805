use Rattle.corr_tools.proofs.DecodeLemmas.{ends_whole, ends_without}
use Rattle.corr_tools.proofs.decoding.end_of.Goals as goal

pub returns-in-Ok-clause-ends : goal.returns-in-Ok-clause-ends
returns-in-Ok-clause-ends c = ends_whole c.args.reader.now c.args.count c.in-Ok.ensures

pub returns-in-Err-clause-ends : goal.returns-in-Err-clause-ends
returns-in-Err-clause-ends c = ends_without c.args.reader.now c.args.count _ c.in-Err.ensures
