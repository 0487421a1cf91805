use Rattle.std.proofs.Common.{◌≡◌, ◌<◌, ◌≤◌, length, sym, ap, ◌∙◌, arith}
use Rattle.corr_model.specs.declared.plan.Plan.{Plan}
use Rattle.corr_serial.specs.Outputs.{Meaning}
use Rattle.corr_serial.specs.Runs.{ran_as}
use Rattle.corr_serial.proofs.OutcomeLemmas.{concludes}
use Rattle.corr_serial.proofs.serial.run_reported.Goals as goal

pub take_reports-requires-clause-reports : goal.take_reports-requires-clause-reports
take_reports-requires-clause-reports g c =
    c.requires.prepared.one_each ∙ sym (ap (λ (p : Plan). p.antennas) c.run-answer.ensures.plan)

pub take_reports-requires-clause-feeds : goal.take_reports-requires-clause-feeds
take_reports-requires-clause-feeds g c =
    c.run-answer.ensures.feeds ∙ sym (ap (λ (p : Plan). p.antennas) c.run-answer.ensures.plan)

pub first_fault-requires : goal.first_fault-requires
first_fault-requires g c =
    let many = c.take_reports.ensures.as_many in
    let same = c.run-answer.ensures.feeds in
    let most = c.requires.prepared.fits.ranges.shape.antennas.most_met in
    omega (arith, many, same, most)

pub returns-clause-concludes : goal.returns-clause-concludes
returns-clause-concludes g c =
    let S = g.S.PacketSource in
    let plan = c.args.core.now.parts.plan in
    let m : Meaning = record { strings = g.E.Emit.strings plan; value = g.B.Backend.value c.args.core.now.backend plan }
    in
    let least = c.requires.prepared.fits.ranges.shape.antennas.least_met in
    let feeds = c.run-answer.new.core.parts.feeds in
    let many : length feeds ≡ plan.antennas = c.run-answer.ensures.feeds in
    let enough = c.requires.enough in
    let some : 0 < length c.args.sources.now = omega (arith, least, enough) in
    let one : 0 < length feeds = omega (arith, least, many) in
    concludes m plan S.gives S.given S.faults _ _ feeds _ _ _ _ _ _ _ c.run-answer.result c.first_fault.result
    c.ran_as.result some one many c.run-answer.ensures.sources.later c.take_reports.ensures c.first_fault.ensures
    c.run-answer.ensures.cause c.run-answer.ensures.runs c.requires.prepared.sent
    (c.ran_as.ensures ∙ ap (λ b. ran_as b c.first_fault.result) c.is_ok.ensures.value)
