use Rattle.std.proofs.Common.{◌≡◌, ◌∙◌, ap, arith, length}
use Rattle.corr_model.specs.declared.plan.Plan.{Plan}
use Rattle.corr_serial.proofs.NewLemmas.{reports_none, reports_more}
use Rattle.corr_serial.proofs.prepared.new_reports.Goals as goal

pub loop-antenna-init : goal.loop-antenna-init
loop-antenna-init g c =
    let room = c.in_ok-reports.ensures.exact in
    let told = ap (λ (p : Plan). p.antennas) c.plan.ensures in
    reports_none _ _ _ _ c.in_ok-reports.ensures.items c.in_ok-reports.ensures.len (omega (arith, room, told))

pub push_reserved-requires : goal.push_reserved-requires
push_reserved-requires g c =
    let counted = c.loop-antenna.invariant.counted in
    let fits_in = c.loop-antenna.invariant.fits_in in
    let told = ap (λ (p : Plan). p.antennas) c.plan.ensures in
    let low = c.loop-antenna-test.true in
    omega (arith, counted, fits_in, told, low)

pub loop-antenna-preserved : goal.loop-antenna-preserved
loop-antenna-preserved g c =
    reports_more _ _ _ _ _ _ _ _ _ c.loop-antenna.invariant c.push_reserved.ensures.items c.push_reserved.ensures.len
    c.push_reserved.ensures.capacity

pub returns : goal.returns
returns g c =
    let told = ap (λ (p : Plan). p.antennas) c.plan.ensures in
    let all : c.loop-antenna.antenna ≡ c.args.core.now.parts.plan.antennas = omega (arith, told) in
    c.loop-antenna.invariant.many ∙ all
