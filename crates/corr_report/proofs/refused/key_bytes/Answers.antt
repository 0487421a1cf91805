use Rattle.std.proofs.Common.{◌≤◌, length, arith}
use Rattle.corr_report.proofs.KeyLemmas.{key_short}
use Rattle.corr_report.proofs.refused.key_bytes.Goals as goal

pub returns-clause-short : goal.returns-clause-short
returns-clause-short c = grind (arith, key_short c.args.key, c.name.ensures, c.as_bytes.ensures)
