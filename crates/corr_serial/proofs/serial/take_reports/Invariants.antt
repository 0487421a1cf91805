use Rattle.corr_serial.proofs.SerialLemmas.{HasReports}
use Rattle.corr_serial.proofs.serial.take_reports.Given as goal

abbrev pub invariant-loop-antenna : goal.invariant-loop-antenna
invariant-loop-antenna g l = HasReports l.core.parts.feeds l.antenna l.reports
