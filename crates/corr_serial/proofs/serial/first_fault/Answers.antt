use Rattle.corr_serial.proofs.SerialLemmas.{none_failed_yet, none_failed_at, first_failed_at, none_failed_all}
use Rattle.corr_serial.proofs.serial.first_fault.Goals as goal

pub loop-antenna-init : goal.loop-antenna-init
loop-antenna-init c = none_failed_yet _

pub returns-then-is_fault : goal.returns-then-is_fault
returns-then-is_fault c =
    first_failed_at _ _ _ _ c.loop-antenna.invariant c.loop-antenna-test.true c.is_fault.ensures c.if-is_fault.true

pub loop-antenna-preserved : goal.loop-antenna-preserved
loop-antenna-preserved c =
    none_failed_at _ _ _ _ c.loop-antenna.invariant c.loop-antenna-test.true c.is_fault.ensures c.if-is_fault.false

pub returns : goal.returns
returns c = none_failed_all _ _ c.loop-antenna.invariant c.loop-antenna-test.false
