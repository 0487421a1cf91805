use Rattle.std.proofs.Common.{◌≡◌, ◌+◌, ◌*◌, ◌≤◌, refl, ap, sym, ◌∙◌, arith}
use Rattle.std.proofs.lemmas.Nat.{mul-le}
use Rattle.corr_model.proofs.OutputPackets.{timestamp_fits}
use Rattle.vis_send.proofs.sender.first_timestamp.Goals as goal

pub overflow_mul-result : goal.overflow_mul-result
overflow_mul-result c =
    let shape = c.requires.fits.ranges.shape in
    let most = shape.accumulations.most_met in
    let heaps = shape.heaps.most_met in
    let small = mul-le c.args.number c.from.result 1048576 4096 (omega arith) (omega arith) in
    omega arith

pub overflow_mul-result-2 : goal.overflow_mul-result-2
overflow_mul-result-2 c =
    let plan = c.args.plan.now in
    let fits = timestamp_fits plan.start c.args.number plan.heaps plan.step plan.accumulations (omega arith)
    c.requires.fits.joint.end_of_grid in
    let same = ap (λ h. c.args.number * h * plan.step) c.from.ensures in
    omega arith

pub overflow_add-result : goal.overflow_add-result
overflow_add-result c =
    let plan = c.args.plan.now in
    let fits = timestamp_fits plan.start c.args.number plan.heaps plan.step plan.accumulations (omega arith)
    c.requires.fits.joint.end_of_grid in
    let same = ap (λ h. c.args.number * h * plan.step) c.from.ensures in
    omega arith

pub returns : goal.returns
returns c = ap (λ h. c.args.plan.now.start + c.args.number * h * c.args.plan.now.step) c.from.ensures
