use Rattle.std.proofs.Common.{◌≡◌, ◌<◌, ◌≤◌, length, ap, ◌∙◌, sym, arith}
use Rattle.std.proofs.lemmas.List.{get_or_default}
use Rattle.corr_model.specs.declared.plan.Plan.{Plan}
use Rattle.corr_core.specs.Parts.{feed_in, no_feed}
use Rattle.corr_serial.proofs.SerialLemmas.{reports_none, reports_more, reports_all}
use Rattle.corr_serial.proofs.serial.take_reports.Goals as goal

pub loop-antenna-init : goal.loop-antenna-init
loop-antenna-init g c = reports_none _ _ (c.requires.reports ∙ sym c.requires.feeds)

pub loop-antenna-preserved : goal.loop-antenna-preserved
loop-antenna-preserved g c =
    let p = c.args.core.now.parts in
    let a = c.loop-antenna.antenna in
    let lt : a < length p.feeds = let told = ap (λ (k : Plan). k.antennas) c.plan.ensures in let low =
    c.loop-antenna-test.true in let many = c.requires.feeds in omega (arith, told, low, many) in
    reports_more p.feeds a _ (feed_in p a) _ c.loop-antenna.invariant lt
    (get_or_default p.feeds a (no_feed p.plan) (feed_in p a) lt) c.report.ensures

pub returns : goal.returns
returns g c =
    let p = c.args.core.now.parts in
    let all : length p.feeds ≤ c.loop-antenna.antenna = let told =
    ap (λ (k : Plan). k.antennas) c.plan.ensures in let past = c.loop-antenna-test.false in let many =
    c.requires.feeds in omega (arith, told, past, many) in
    reports_all _ _ _ c.loop-antenna.invariant all
