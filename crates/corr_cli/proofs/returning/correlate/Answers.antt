use Rattle.std.proofs.Common.{sym, subst}
use Rattle.corr_cli.specs.Texts.{IsPrintable}
use Rattle.corr_cli.specs.Runs.{IsOverBegun, RunsPlan}
use Rattle.corr_cli.proofs.RunLemmas.{comes_by, over_by, printable_by}
use Rattle.corr_cli.proofs.returning.correlate.Goals as goal

pub returns-clause-runs : goal.returns-clause-runs
returns-clause-runs g c =
    let call = c.correlate_serial-outcome in
    let says = call.ensures in
    subst (RunsPlan c.args.telling c.args.prepared.plan _) (sym c.answer_of.ensures)
    (comes_by c.args.prepared.plan _ call.result.sent c.requires.fits says.begun says.sink_begun c.args.telling
    call.result.ran call.result.reports says.sends (λ known. says.counted) says.taken says.reports
    says.whole_reports says.cause)

pub returns-clause-printable : goal.returns-clause-printable
returns-clause-printable g c =
    let S = g.S.PacketSource in
    let call = c.correlate_serial-outcome in
    let says = call.ensures in
    subst IsPrintable (sym c.answer_of.ensures)
    (printable_by c.args.prepared.plan S.gives S.given S.faults _ _ c.args.telling call.result.ran call.result.sent
    call.result.reports c.requires.fits says.reports says.whole_reports)

pub returns-clause-over : goal.returns-clause-over
returns-clause-over g c =
    let call = c.correlate_serial-outcome in
    subst IsOverBegun (sym c.answer_of.ensures)
    (over_by c.args.telling call.result.ran call.result.sent call.result.reports)
