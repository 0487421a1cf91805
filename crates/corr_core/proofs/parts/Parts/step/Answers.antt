use Rattle.std.proofs.Common.{false, refl, sym, subst}
use Rattle.corr_machine.specs.Machines.{Packet, End, Put, Take, Store}
use Rattle.corr_core.specs.Sends.{value_with}
use Rattle.corr_core.specs.Cores.{Steps, event_of}
use Rattle.corr_core.proofs.SendLemmas.{steps_of}
use Rattle.std.proofs.Common.{◌≢◌}
use Rattle.corr_core.specs.declared.event.Stepped.TheVariants.{Failed}
use Rattle.corr_core.specs.Cores.{EndsAfter, EndsByString, EndsAsSaid, KeepsEnds, has_moved}
use Rattle.corr_core.proofs.EndLemmas.{string_after, said_after, kept_after}
use Rattle.corr_core.proofs.parts.Parts.step.Goals as goal

pub returns-in-Packet-clause-steps : goal.returns-in-Packet-clause-steps
returns-in-Packet-clause-steps g c = λ state h.
    let old = c.args.self.now in
    let value = value_with (g.B.Backend.value c.args.backend.now) old.plan in
    let strings = g.E.Emit.strings old.plan in
    let sent = g.K.PacketSink.sent c.args.sink.now in
    let tally = g.E.Emit.tally c.args.emit.now in
    subst (λ e. Steps value strings old c.packet.new.self false state (event_of e) sent sent tally tally c.of.result)
    (sym c.in-Packet.is)
    (subst (λ r. Steps value strings old c.packet.new.self false state
    (Packet c.in-Packet.antenna c.in-Packet.bytes.now) sent sent tally tally r) (sym c.of.ensures)
    (steps_of value strings old c.packet.new.self false state (Packet c.in-Packet.antenna c.in-Packet.bytes.now) sent
    tally c.packet.result refl (c.packet.ensures.happens value state h) (λ heaps n. refl)))

pub returns-in-End-clause-steps : goal.returns-in-End-clause-steps
returns-in-End-clause-steps g c = λ state h.
    let old = c.args.self.now in
    let value = value_with (g.B.Backend.value c.args.backend.now) old.plan in
    let strings = g.E.Emit.strings old.plan in
    let sent = g.K.PacketSink.sent c.args.sink.now in
    let tally = g.E.Emit.tally c.args.emit.now in
    subst (λ e. Steps value strings old c.end.new.self false state (event_of e) sent sent tally tally
    c.of-in-End.result) (sym c.in-End.is)
    (subst (λ r. Steps value strings old c.end.new.self false state (End c.in-End.antenna) sent sent tally tally r)
    (sym c.of-in-End.ensures)
    (steps_of value strings old c.end.new.self false state (End c.in-End.antenna) sent tally c.end.result refl
    (c.end.ensures.happens value state h) (λ heaps n. refl)))

pub returns-in-Put-clause-steps : goal.returns-in-Put-clause-steps
returns-in-Put-clause-steps g c = λ state h.
    let old = c.args.self.now in
    let value = value_with (g.B.Backend.value c.args.backend.now) old.plan in
    let strings = g.E.Emit.strings old.plan in
    let sent = g.K.PacketSink.sent c.args.sink.now in
    let tally = g.E.Emit.tally c.args.emit.now in
    subst (λ e. Steps value strings old c.put.new.self false state (event_of e) sent sent tally tally
    c.of-in-Put.result) (sym c.in-Put.is)
    (subst (λ r. Steps value strings old c.put.new.self false state (Put c.in-Put.antenna) sent sent tally tally r)
    (sym c.of-in-Put.ensures)
    (steps_of value strings old c.put.new.self false state (Put c.in-Put.antenna) sent tally c.put.result refl
    (c.put.ensures.happens value state h) (λ heaps n. refl)))

pub returns-in-Take-clause-steps : goal.returns-in-Take-clause-steps
returns-in-Take-clause-steps g c = λ state h.
    let old = c.args.self.now in
    let value = value_with (g.B.Backend.value c.args.backend.now) old.plan in
    let strings = g.E.Emit.strings old.plan in
    let sent = g.K.PacketSink.sent c.args.sink.now in
    let tally = g.E.Emit.tally c.args.emit.now in
    subst (λ e. Steps value strings old c.take.new.self false state (event_of e) sent sent tally tally
    c.of-in-Take.result) (sym c.in-Take.is)
    (subst (λ r. Steps value strings old c.take.new.self false state (Take c.in-Take.work c.in-Take.slot) sent sent
    tally tally r) (sym c.of-in-Take.ensures)
    (steps_of value strings old c.take.new.self false state (Take c.in-Take.work c.in-Take.slot) sent tally
    c.take.result refl (c.take.ensures.happens state h) (λ heaps n. refl)))

pub returns-in-Store-clause-steps : goal.returns-in-Store-clause-steps
returns-in-Store-clause-steps g c = λ state h.
    let old = c.args.self.now in
    let value = value_with (g.B.Backend.value c.args.backend.now) old.plan in
    let strings = g.E.Emit.strings old.plan in
    let sent = g.K.PacketSink.sent c.args.sink.now in
    let tally = g.E.Emit.tally c.args.emit.now in
    subst (λ e. Steps value strings old c.store.new.self false state (event_of e) sent sent tally tally
    c.of-in-Store.result) (sym c.in-Store.is)
    (subst (λ r. Steps value strings old c.store.new.self false state (Store c.in-Store.work) sent sent tally tally r)
    (sym c.of-in-Store.ensures)
    (steps_of value strings old c.store.new.self false state (Store c.in-Store.work) sent tally c.store.result refl
    (c.store.ensures.happens value state h) (λ heaps n. refl)))

pub returns-in-Send-clause-steps : goal.returns-in-Send-clause-steps
returns-in-Send-clause-steps g c = λ state h.
    let old = c.args.self.now in
    let value = value_with (g.B.Backend.value c.args.backend.now) old.plan in
    let strings = g.E.Emit.strings old.plan in
    subst (λ e. Steps value strings old c.send.new.self false state (event_of e) (g.K.PacketSink.sent c.args.sink.now)
    (g.K.PacketSink.sent c.send.new.sink) (g.E.Emit.tally c.args.emit.now) (g.E.Emit.tally c.send.new.emit)
    c.send.result) (sym c.in-Send.is)
    (c.send.ensures.steps value state h)

pub returns-in-Packet-clause-ends : goal.returns-in-Packet-clause-ends
returns-in-Packet-clause-ends g c =
    let old = c.args.self.now in
    let now = c.packet.new.self in
    subst (λ e. EndsAfter old now e c.of.result) (sym c.in-Packet.is)
    (subst (λ r. (r ≢ Failed) × EndsByString old now c.in-Packet.antenna (has_moved r)) (sym c.of.ensures)
    (string_after old now c.in-Packet.antenna c.packet.result c.packet.ensures.ends))

pub returns-in-End-clause-ends : goal.returns-in-End-clause-ends
returns-in-End-clause-ends g c =
    let old = c.args.self.now in
    let now = c.end.new.self in
    subst (λ e. EndsAfter old now e c.of-in-End.result) (sym c.in-End.is)
    (subst (λ r. (r ≢ Failed) × EndsAsSaid old now c.in-End.antenna c.in-End.how (has_moved r))
    (sym c.of-in-End.ensures) (said_after old now c.in-End.antenna c.in-End.how c.end.result c.end.ensures.ends))

pub returns-in-Put-clause-ends : goal.returns-in-Put-clause-ends
returns-in-Put-clause-ends g c =
    let old = c.args.self.now in
    let now = c.put.new.self in
    subst (λ e. EndsAfter old now e c.of-in-Put.result) (sym c.in-Put.is)
    (subst (λ r. (r ≢ Failed) × KeepsEnds old now) (sym c.of-in-Put.ensures)
    (kept_after old now c.put.result c.put.ensures.ends))

pub returns-in-Take-clause-ends : goal.returns-in-Take-clause-ends
returns-in-Take-clause-ends g c =
    let old = c.args.self.now in
    let now = c.take.new.self in
    subst (λ e. EndsAfter old now e c.of-in-Take.result) (sym c.in-Take.is)
    (subst (λ r. (r ≢ Failed) × KeepsEnds old now) (sym c.of-in-Take.ensures)
    (kept_after old now c.take.result c.take.ensures.ends))

pub returns-in-Store-clause-ends : goal.returns-in-Store-clause-ends
returns-in-Store-clause-ends g c =
    let old = c.args.self.now in
    let now = c.store.new.self in
    subst (λ e. EndsAfter old now e c.of-in-Store.result) (sym c.in-Store.is)
    (subst (λ r. (r ≢ Failed) × KeepsEnds old now) (sym c.of-in-Store.ensures)
    (kept_after old now c.store.result c.store.ensures.ends))

pub returns-in-Send-clause-ends : goal.returns-in-Send-clause-ends
returns-in-Send-clause-ends g c =
    subst (λ e. EndsAfter c.args.self.now c.send.new.self e c.send.result) (sym c.in-Send.is) c.send.ensures.ends
