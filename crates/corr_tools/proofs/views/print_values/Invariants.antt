use Rattle.std.proofs.Common.{◌-◌, []}
use Rattle.corr_model.specs.Lists.{numbers}
use Rattle.vis_read.specs.Views.{view_of}
use Rattle.corr_report.specs.Decoded.{channel_text}
use Rattle.corr_tools.proofs.TextLemmas.{Lines}
use Rattle.corr_tools.proofs.views.print_values.Given as goal

abbrev pub invariant-loop-channel : goal.invariant-loop-channel
invariant-loop-channel g l =
    let P = g.P.TextSink in
    let count = (view_of l.view).sizes.channels in
    Lines (λ channel. channel_text (view_of l.view) channel l.fn.baseline) [] (numbers 0 count) (numbers 0 l.channel)
    (numbers l.channel (count - l.channel)) (P.written l.fn.print) (P.written l.print) (P.faults l.fn.print)
    (P.faults l.print)
