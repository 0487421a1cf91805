use Rattle.corr_serial.proofs.SerialLemmas.{NoneFailed}
use Rattle.corr_serial.proofs.serial.first_fault.Given as goal

abbrev pub invariant-loop-antenna : goal.invariant-loop-antenna
invariant-loop-antenna l = NoneFailed l.antenna l.reports
