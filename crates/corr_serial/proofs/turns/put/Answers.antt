use Rattle.std.proofs.Common.{◌≡◌, sym, ap, ◌∙◌, subst}
use Rattle.corr_machine.specs.Machines.{Put}
use Rattle.corr_serial.specs.Going.{Puts}
use Rattle.corr_serial.proofs.StepLemmas.{turned, stands_as, calm_after}
use Rattle.corr_serial.proofs.TurnLemmas.{put_turn}
use Rattle.corr_serial.proofs.turns.put.Goals as goal

pub returns-clause-puts : goal.returns-clause-puts
returns-clause-puts g c = λ plan backend number state at few more.
    let K = g.K.PacketSink in
    let E = g.E.Emit in
    let value = g.B.Backend.value in
    let old = c.args.core.now in
    let now = c.step-stepped.new.self in
    let a = c.args.antenna in
    let e = c.step-stepped.ensures in
    let t = turned value E.strings plan backend old now.parts state (Put a) _ _ _ _ c.step-stepped.result at.own
    (e.steps state (stands_as value plan backend old state at.own at.stands_for)) in
    subst (λ b. Puts value plan backend old now number a state (K.sent c.args.sink.now) (K.sent c.step-stepped.new.sink)
    (E.tally old.emit) (E.tally now.emit) b) (sym c.has_moved.ensures)
    (put_turn value (E.strings plan) plan backend old now number a state _ _ _ _ c.step-stepped.result at few more
    e.plan e.backend e.failed t e.ends.0 e.ends.1)

pub returns-clause-calm : goal.returns-clause-calm
returns-clause-calm g c =
    calm_after _ _ c.step-stepped.result c.step-stepped.ensures.ends.0 c.step-stepped.ensures.cause
