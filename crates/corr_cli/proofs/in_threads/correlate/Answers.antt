use Rattle.std.proofs.Common.{sym, subst}
use Rattle.corr_cli.specs.Texts.{IsPrintable}
use Rattle.corr_serial.specs.Runs.{known}
use Rattle.corr_cli.specs.Runs.{IsOverBegun, RunsPlan}
use Rattle.corr_cli.proofs.RunLemmas.{comes_by, over_by, printable_by}
use Rattle.corr_cli.proofs.in_threads.correlate.Goals as goal

pub returns-clause-runs : goal.returns-clause-runs
returns-clause-runs g c =
    let call = c.correlate_threads-outcome in
    let says = call.ensures in
    subst (RunsPlan c.args.telling c.args.ready.plan _) (sym c.answer_of.ensures)
    (comes_by c.args.ready.plan _ call.result.sent c.requires.fits says.begun says.sink_begun c.args.telling
    call.result.ran call.result.reports says.sends says.counted (λ whole. says.taken) says.reports
    (λ whole. says.whole_reports) says.cause)

pub returns-clause-printable : goal.returns-clause-printable
returns-clause-printable g c =
    let S = g.S.PacketSource in
    let call = c.correlate_threads-outcome in
    let says = call.ensures in
    subst IsPrintable (sym c.answer_of.ensures)
    (printable_by c.args.ready.plan (known g.O.Observation.names (λ s. S.gives s.source)) (λ s. S.given s.source)
    (λ s. S.faults s.source) _ _ c.args.telling call.result.ran call.result.sent call.result.reports c.requires.fits
    says.reports (λ whole. says.whole_reports))

pub returns-clause-over : goal.returns-clause-over
returns-clause-over g c =
    let call = c.correlate_threads-outcome in
    subst IsOverBegun (sym c.answer_of.ensures)
    (over_by c.args.telling call.result.ran call.result.sent call.result.reports)
