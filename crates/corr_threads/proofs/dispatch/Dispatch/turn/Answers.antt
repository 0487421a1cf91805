use Rattle.std.proofs.Common.{◌+◌, ◌<◌, ◌∙◌, refl, sym, ap, subst, Some, is_err, arith}
use Rattle.vis_shape.specs.Sums.{Sums}
use Rattle.slot_ring.specs.Answers.{RefusesSend}
use Rattle.slot_ring.specs.Means.{Means}
use Rattle.vis_send.specs.Sending.{Tallies}
use Rattle.corr_core.specs.Sends.{sent_together}
use Rattle.corr_threads.specs.Dispatches.{DispatchView, DispatchTurn}
use Rattle.corr_threads.specs.declared.turn.Turn.TheVariants as turns
use Rattle.corr_threads.proofs.DispatchLemmas.{meant_as, turn_silent, turn_sent, turn_waits}
use Rattle.corr_threads.proofs.dispatch.Dispatch.turn.Goals as goal

pub returns-then-self-clause-turn : goal.returns-then-self-clause-turn
returns-then-self-clause-turn g c =
    let O = g.O.Observation in
    let B = g.B.Backend in
    let strings = g.E.Emit.strings in
    let m : Means = record { names = O.names; plan = O.plan; list = O.list; shows = B.shows; fixed = B.fixed } in
    let i = c.self.inside in
    let v : DispatchView = record {
      plan = i.plan;
      outgoing = i.outgoing;
      sent = g.E.Emit.tally i.emit;
      passed = i.passed;
      broken = i.broken;
      held = i.held;
    } in
    let out = c.send.new.outgoing in
    let now : DispatchView = record v { outgoing = out; passed = v.passed + 1 } in
    let sent = g.K.PacketSink.sent c.args.sink.now in
    let f = g.K.PacketSink.faults c.args.sink.now in
    let below : v.passed < v.plan.accumulations = omega (arith, c.from.ensures, c.if-self-from.false) in
    subst (λ o. DispatchTurn m (strings o.plan) o turns.Moved now sent sent f f) c.self.view_is
    (turn_silent m (strings v.plan) v out sent f c.if-self.true below c.in-Given.ensures)

pub returns-else-self-clause-turn : goal.returns-else-self-clause-turn
returns-else-self-clause-turn g c =
    let O = g.O.Observation in
    let B = g.B.Backend in
    let strings = g.E.Emit.strings in
    let m : Means = record { names = O.names; plan = O.plan; list = O.list; shows = B.shows; fixed = B.fixed } in
    let i = c.self.inside in
    let v : DispatchView = record {
      plan = i.plan;
      outgoing = i.outgoing;
      sent = g.E.Emit.tally i.emit;
      passed = i.passed;
      broken = i.broken;
      held = i.held;
    } in
    let out = c.send.new.outgoing in
    let written = c.emit_with-written in
    let tally = g.E.Emit.tally written.new.emit in
    let now : DispatchView = record v {
      outgoing = out;
      sent = tally;
      broken = is_err written.result;
      passed = v.passed + 1;
    } in
    let sent = g.K.PacketSink.sent c.args.sink.now in
    let f = g.K.PacketSink.faults c.args.sink.now in
    let sent_after = g.K.PacketSink.sent written.new.sink in
    let f_after = g.K.PacketSink.faults written.new.sink in
    let sums = (g.B.Out.Made.shown c.out-out.result.now).sums in
    let same = ap {A = Sums} (λ o. o.sums) c.out-out.ensures.out in
    let below : v.passed < v.plan.accumulations = omega (arith, c.from.ensures, c.if-self-from.false) in
    let given = c.in-Given.ensures in
    let plan = given.same_plan ∙ c.self.invariant.same_plan in
    let of_next = c.out-out.ensures.value given.is_computed in
    let meant = meant_as m _ v.plan _ v.passed _ out.out.sums plan given.same_number refl of_next in
    let strings_of = sent_together v.plan (strings v.plan) v.passed in
    let tallies = written.ensures.sent in
    let sends = subst (λ k. Tallies sent sent_after v.sent tally written.result (strings_of k)) same tallies in
    let sound = c.if-self.false in
    let cause = written.ensures.cause in
    let old = c.args.self.now in
    let turned = turn_sent m (strings v.plan) v out tally sent sent_after f f_after written.result
    sound below given meant sends cause in
    subst (λ b. DispatchTurn m (strings old.plan) old turns.Moved (record now { broken = b }) sent sent_after f f_after)
    (sym c.is_err-self-inside.ensures.value)
    (subst (λ o. DispatchTurn m (strings o.plan) o turns.Moved now sent sent_after f f_after) c.self.view_is turned)

pub returns-in-Not-clause-turn : goal.returns-in-Not-clause-turn
returns-in-Not-clause-turn g c =
    let O = g.O.Observation in
    let B = g.B.Backend in
    let strings = g.E.Emit.strings in
    let m : Means = record { names = O.names; plan = O.plan; list = O.list; shows = B.shows; fixed = B.fixed } in
    let i = c.self.inside in
    let v : DispatchView = record {
      plan = i.plan;
      outgoing = i.outgoing;
      sent = g.E.Emit.tally i.emit;
      passed = i.passed;
      broken = i.broken;
      held = i.held;
    } in
    let out = c.send.new.outgoing in
    let now : DispatchView = record v { outgoing = out; held = Some c.in-Not.held } in
    let sent = g.K.PacketSink.sent c.args.sink.now in
    let f = g.K.PacketSink.faults c.args.sink.now in
    let below : v.passed < v.plan.accumulations = omega (arith, c.from.ensures, c.if-self-from.false) in
    let refuses = subst (λ p. RefusesSend c.in-Not.held p v.passed) c.self.invariant.same_plan c.in-Not.ensures.0 in
    subst (λ o. DispatchTurn m (strings o.plan) o turns.Waits now sent sent f f) c.self.view_is
    (turn_waits m (strings v.plan) v out c.in-Not.held sent f below refuses c.in-Not.ensures.1)
