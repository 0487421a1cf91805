use Rattle.std.proofs.Common.{ap}
use Rattle.std.proofs.lemmas.Bool.{true≢false}
use Rattle.corr_model.specs.Examples.{small_plan}
use Rattle.corr_model.specs.Lists.{passes}
use Rattle.corr_model.specs.Tables.{is_voltages}
use Rattle.corr_model.proofs.examples.tables.other_tables.Goals as goal

-- the earlier voltages have the plan's shape, and the later ones another
pub returns-clause-earlier : goal.returns-clause-earlier
returns-clause-earlier c = λ h. true≢false (ap (passes (is_voltages small_plan)) (h.each 0x4300))
