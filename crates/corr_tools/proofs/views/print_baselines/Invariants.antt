use Rattle.std.proofs.Common.{◌-◌, []}
use Rattle.corr_model.specs.Lists.{numbers}
use Rattle.vis_read.specs.Views.{view_of}
use Rattle.corr_tools.specs.Decoding.{channels_text}
use Rattle.corr_tools.proofs.TextLemmas.{Lines}
use Rattle.corr_tools.proofs.views.print_baselines.Given as goal

abbrev pub invariant-loop-baseline : goal.invariant-loop-baseline
invariant-loop-baseline g l =
    let P = g.P.TextSink in
    let count = (view_of l.view).sizes.baselines in
    Lines (channels_text (view_of l.view)) [] (numbers 0 count) (numbers 0 l.baseline)
    (numbers l.baseline (count - l.baseline)) (P.written l.fn.print) (P.written l.print) (P.faults l.fn.print)
    (P.faults l.print)
