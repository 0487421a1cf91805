use Rattle.std.proofs.Common.{◌<◌, ◌≤◌, [], arith}
use Rattle.vis_read.specs.Views.{view_of}
use Rattle.corr_report.specs.Decoded.{channel_text}
use Rattle.corr_tools.proofs.TextLemmas.{numbered_all, numbered_front, numbered_next}
use Rattle.corr_tools.proofs.views.print_values.Goals as goal

pub returns-in-Err-clause-written : goal.returns-in-Err-clause-written
returns-in-Err-clause-written g c =
    let low : c.loop-channel.channel < (view_of c.args.view.now).sizes.channels =
    omega (arith, c.channels-count.ensures.value) in
    numbered_front (λ channel. channel_text (view_of c.args.view.now) channel c.args.baseline) []
    (view_of c.args.view.now).sizes.channels c.loop-channel.channel _ _ _ _ _ low c.loop-channel.invariant
    c.in-Err.ensures.written

pub loop-channel-preserved : goal.loop-channel-preserved
loop-channel-preserved g c =
    let low : c.loop-channel.channel < (view_of c.args.view.now).sizes.channels =
    omega (arith, c.channels-count.ensures.value) in
    numbered_next (λ channel. channel_text (view_of c.args.view.now) channel c.args.baseline) []
    (view_of c.args.view.now).sizes.channels c.loop-channel.channel _ _ _ _ _ _ low c.loop-channel.invariant
    c.in_default.ensures.written c.in_default.ensures.cause.kept

pub returns-clause-written : goal.returns-clause-written
returns-clause-written g c =
    let past : (view_of c.args.view.now).sizes.channels ≤ c.loop-channel.channel =
    omega (arith, c.channels-count.ensures.value) in
    numbered_all (λ channel. channel_text (view_of c.args.view.now) channel c.args.baseline) []
    (view_of c.args.view.now).sizes.channels c.loop-channel.channel _ _ _ _ past c.loop-channel.invariant
