use Rattle.std.proofs.Common.{◌≡◌, sym, ap, ◌∙◌, subst}
use Rattle.corr_machine.specs.Machines.{Send}
use Rattle.corr_core.specs.declared.event.Stepped.TheVariants.{Moved, Idle, Failed}
use Rattle.corr_serial.specs.Rounds.{before_send}
use Rattle.corr_serial.proofs.StepLemmas.{turned, stands_as}
use Rattle.corr_serial.proofs.TurnLemmas.{pass_moved, pass_failed, pass_idle, before_sending, ends_kept}
use Rattle.corr_serial.proofs.running.pass.Goals as goal

pub returns-in-Failed-clause-passes : goal.returns-in-Failed-clause-passes
returns-in-Failed-clause-passes g c = λ plan backend number state at there.
    let K = g.K.PacketSink in
    let E = g.E.Emit in
    let value = g.B.Backend.value in
    let old = c.args.core.now in
    let one = c.step.new.self in
    let mid = c.step-2.new.self in
    let now = c.step-3.new.self in
    let e1 = c.step.ensures in
    let e2 = c.step-2.ensures in
    let e3 = c.in-Failed.ensures in
    let last = before_send plan state in
    let b = before_sending value E.strings plan backend old one mid number c.args.slot state (K.sent c.args.sink.now)
    (K.sent c.step.new.sink) (K.sent c.step-2.new.sink) (E.tally old.emit) (E.tally one.emit) (E.tally mid.emit)
    c.step.result c.step-2.result at there
    e1.plan e1.backend e1.failed e1.ends.0 e1.ends.1 e1.steps e2.plan e2.backend e2.failed e2.ends.0
    e2.ends.1 e2.steps in
    let t = turned value E.strings plan backend mid now.parts last Send (K.sent c.step-2.new.sink)
    (K.sent c.step-3.new.sink) (E.tally mid.emit) (E.tally now.emit) Failed b.own
    (e3.steps last (stands_as value plan backend mid last b.own b.stands)) in
    pass_failed value (E.strings plan) plan backend old mid now number state (K.sent c.args.sink.now)
    (K.sent c.step-2.new.sink) (K.sent c.step-3.new.sink) (E.tally old.emit) (E.tally mid.emit) (E.tally now.emit)
    at b.own b.sent b.ends e3.plan e3.backend
    (ends_kept value plan backend mid now.parts last b.own.same_plan b.stands e3.ends) t

pub returns-in-Moved-clause-passes : goal.returns-in-Moved-clause-passes
returns-in-Moved-clause-passes g c = λ plan backend number state at there.
    let K = g.K.PacketSink in
    let E = g.E.Emit in
    let value = g.B.Backend.value in
    let old = c.args.core.now in
    let one = c.step.new.self in
    let mid = c.step-2.new.self in
    let now = c.step-3.new.self in
    let e1 = c.step.ensures in
    let e2 = c.step-2.ensures in
    let e3 = c.in-Moved.ensures in
    let last = before_send plan state in
    let b = before_sending value E.strings plan backend old one mid number c.args.slot state (K.sent c.args.sink.now)
    (K.sent c.step.new.sink) (K.sent c.step-2.new.sink) (E.tally old.emit) (E.tally one.emit) (E.tally mid.emit)
    c.step.result c.step-2.result at there
    e1.plan e1.backend e1.failed e1.ends.0 e1.ends.1 e1.steps e2.plan e2.backend e2.failed e2.ends.0
    e2.ends.1 e2.steps in
    let t = turned value E.strings plan backend mid now.parts last Send (K.sent c.step-2.new.sink)
    (K.sent c.step-3.new.sink) (E.tally mid.emit) (E.tally now.emit) Moved b.own
    (e3.steps last (stands_as value plan backend mid last b.own b.stands)) in
    pass_moved value (E.strings plan) plan backend old mid now number state (K.sent c.args.sink.now)
    (K.sent c.step-2.new.sink) (K.sent c.step-3.new.sink) (E.tally old.emit) (E.tally mid.emit) (E.tally now.emit)
    at b.own b.sent b.ends e3.plan e3.backend
    (ends_kept value plan backend mid now.parts last b.own.same_plan b.stands e3.ends) e3.failed t

pub returns-in-Idle-clause-passes : goal.returns-in-Idle-clause-passes
returns-in-Idle-clause-passes g c = λ plan backend number state at there.
    let K = g.K.PacketSink in
    let E = g.E.Emit in
    let value = g.B.Backend.value in
    let old = c.args.core.now in
    let one = c.step.new.self in
    let mid = c.step-2.new.self in
    let now = c.step-3.new.self in
    let e1 = c.step.ensures in
    let e2 = c.step-2.ensures in
    let e3 = c.in-Idle.ensures in
    let last = before_send plan state in
    let b = before_sending value E.strings plan backend old one mid number c.args.slot state (K.sent c.args.sink.now)
    (K.sent c.step.new.sink) (K.sent c.step-2.new.sink) (E.tally old.emit) (E.tally one.emit) (E.tally mid.emit)
    c.step.result c.step-2.result at there
    e1.plan e1.backend e1.failed e1.ends.0 e1.ends.1 e1.steps e2.plan e2.backend e2.failed e2.ends.0
    e2.ends.1 e2.steps in
    let t = turned value E.strings plan backend mid now.parts last Send (K.sent c.step-2.new.sink)
    (K.sent c.step-3.new.sink) (E.tally mid.emit) (E.tally now.emit) Idle b.own
    (e3.steps last (stands_as value plan backend mid last b.own b.stands)) in
    pass_idle value (E.strings plan) plan backend old mid now number state (K.sent c.args.sink.now)
    (K.sent c.step-2.new.sink) (K.sent c.step-3.new.sink) (E.tally old.emit) (E.tally mid.emit) (E.tally now.emit)
    at b.own b.sent b.ends e3.plan e3.backend
    (ends_kept value plan backend mid now.parts last b.own.same_plan b.stands e3.ends) t
