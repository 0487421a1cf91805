use Rattle.std.proofs.Common.{◌<◌, ◌≤◌, [], arith}
use Rattle.vis_read.specs.Views.{view_of}
use Rattle.corr_tools.specs.Decoding.{channels_text}
use Rattle.corr_tools.proofs.TextLemmas.{numbered_all, numbered_front, numbered_next}
use Rattle.corr_tools.proofs.views.print_baselines.Goals as goal

pub returns-in-Err-clause-written : goal.returns-in-Err-clause-written
returns-in-Err-clause-written g c =
    let low : c.loop-baseline.baseline < (view_of c.args.view.now).sizes.baselines =
    omega (arith, c.baselines-count.ensures.value) in
    numbered_front (channels_text (view_of c.args.view.now)) [] (view_of c.args.view.now).sizes.baselines
    c.loop-baseline.baseline _ _ _ _ _ low c.loop-baseline.invariant c.in-Err.ensures.written

pub loop-baseline-preserved : goal.loop-baseline-preserved
loop-baseline-preserved g c =
    let low : c.loop-baseline.baseline < (view_of c.args.view.now).sizes.baselines =
    omega (arith, c.baselines-count.ensures.value) in
    numbered_next (channels_text (view_of c.args.view.now)) [] (view_of c.args.view.now).sizes.baselines
    c.loop-baseline.baseline _ _ _ _ _ _ low c.loop-baseline.invariant c.in_default.ensures.written
    c.in_default.ensures.cause.kept

pub returns-clause-written : goal.returns-clause-written
returns-clause-written g c =
    let past : (view_of c.args.view.now).sizes.baselines ≤ c.loop-baseline.baseline =
    omega (arith, c.baselines-count.ensures.value) in
    numbered_all (channels_text (view_of c.args.view.now)) [] (view_of c.args.view.now).sizes.baselines
    c.loop-baseline.baseline _ _ _ _ past c.loop-baseline.invariant
