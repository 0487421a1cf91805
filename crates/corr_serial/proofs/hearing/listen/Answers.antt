use Rattle.std.proofs.Common.{◌≡◌, ◌<◌, sym, ap, ◌∙◌, subst, arith}
use Rattle.corr_model.specs.declared.plan.Plan.{Plan}
use Rattle.corr_model.specs.declared.verdict.Ending.TheVariants.{End as Ended, Fault}
use Rattle.corr_machine.specs.Machines.{Packet, End}
use Rattle.corr_serial.proofs.HearLemmas.{at_end, at_failure}
use Rattle.corr_serial.proofs.StepLemmas.{turned, stands_as, calm_after}
use Rattle.corr_serial.proofs.ListenLemmas.{string_on, end_on, few_in}
use Rattle.corr_serial.proofs.hearing.listen.Goals as goal

pub returns-in-Packet-clause-listens : goal.returns-in-Packet-clause-listens
returns-in-Packet-clause-listens g c = λ plan backend number turn state at ready.
    let S = g.S.PacketSource in
    let K = g.K.PacketSink in
    let E = g.E.Emit in
    let value = g.B.Backend.value in
    let old = c.args.core.now in
    let now = c.step.new.self in
    let a = c.args.antenna in
    let e = c.step.ensures in
    let t = turned value E.strings plan backend old now.parts state (Packet a c.split_at.result.0.now) _ _ _ _
    c.step.result at.own (e.steps state (stands_as value plan backend old state at.own at.stands_for)) in
    string_on value (E.strings plan) plan backend old now number turn state a (S.gives c.args.source.now) _ _ _ _ _ _ _
    _ at (few_in value plan backend old number turn state a at c.requires.in_range) ready e.plan e.backend
    c.split_at.result.0.now _ c.in-Packet.len c.step.result e.failed t e.ends.0 e.ends.1 c.in-Packet.ensures.given
    c.split_at.ensures.front c.in-Packet.ensures.cause

pub returns-in-Packet-clause-calm : goal.returns-in-Packet-clause-calm
returns-in-Packet-clause-calm g c = calm_after _ _ c.step.result c.step.ensures.ends.0 c.step.ensures.cause

pub returns-in-End-clause-listens : goal.returns-in-End-clause-listens
returns-in-End-clause-listens g c = λ plan backend number turn state at ready.
    let S = g.S.PacketSource in
    let E = g.E.Emit in
    let value = g.B.Backend.value in
    let old = c.args.core.now in
    let now = c.step-in-End.new.self in
    let a = c.args.antenna in
    let e = c.step-in-End.ensures in
    let t = turned value E.strings plan backend old now.parts state (End a) _ _ _ _ c.step-in-End.result at.own
    (e.steps state (stands_as value plan backend old state at.own at.stands_for)) in
    end_on value (E.strings plan) plan backend old now number turn state a (S.gives c.args.source.now) _ _ _ _ _ _ _ _
    at (few_in value plan backend old number turn state a at c.requires.in_range) ready e.plan e.backend
    Ended c.step-in-End.result e.failed t e.ends.0 e.ends.1 (at_end _ _ _ _ c.in-End.ensures.given)
    c.in-End.ensures.cause

pub returns-in-End-clause-calm : goal.returns-in-End-clause-calm
returns-in-End-clause-calm g c =
    calm_after _ _ c.step-in-End.result c.step-in-End.ensures.ends.0 c.step-in-End.ensures.cause

pub returns-in-Failed-clause-listens : goal.returns-in-Failed-clause-listens
returns-in-Failed-clause-listens g c = λ plan backend number turn state at ready.
    let S = g.S.PacketSource in
    let E = g.E.Emit in
    let value = g.B.Backend.value in
    let old = c.args.core.now in
    let now = c.step-in-Failed.new.self in
    let a = c.args.antenna in
    let e = c.step-in-Failed.ensures in
    let t = turned value E.strings plan backend old now.parts state (End a) _ _ _ _ c.step-in-Failed.result at.own
    (e.steps state (stands_as value plan backend old state at.own at.stands_for)) in
    end_on value (E.strings plan) plan backend old now number turn state a (S.gives c.args.source.now) _ _ _ _ _ _ _ _
    at (few_in value plan backend old number turn state a at c.requires.in_range) ready e.plan e.backend
    Fault c.step-in-Failed.result e.failed t e.ends.0 e.ends.1 (at_failure _ _ _ _ c.in-Failed.ensures.given)
    c.in-Failed.ensures.cause

pub returns-in-Failed-clause-calm : goal.returns-in-Failed-clause-calm
returns-in-Failed-clause-calm g c =
    calm_after _ _ c.step-in-Failed.result c.step-in-Failed.ensures.ends.0 c.step-in-Failed.ensures.cause
