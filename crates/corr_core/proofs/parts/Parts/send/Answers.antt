use Rattle.std.proofs.Common.{ap, ◌∙◌, subst, refl, inr}
use Rattle.vis_send.specs.Sending.{SendsWhole, SendsFront}
use Rattle.corr_core.specs.Changes.{SendsNext}
use Rattle.corr_core.specs.Sends.{sent_together}
use Rattle.corr_core.proofs.SendLemmas.{together_is}
use Rattle.corr_core.proofs.parts.Parts.send.Goals as goal

pub returns-then-not-next_value-clause-steps : goal.returns-then-not-next_value-clause-steps
returns-then-not-next_value-clause-steps g c = λ value state h.
    let old = c.args.self.now in
    let waits = subst (SendsNext value old c.next_value.new.self state) c.if-not-next_value.true
    (c.next_value.ensures.next value state h) in
    record { stands_for = waits.1; gives = record { cannot = inr waits.0; same = refl; same_sent = refl } }

pub returns-in-Ok-clause-steps : goal.returns-in-Ok-clause-steps
returns-in-Ok-clause-steps g c = λ value state h.
    let old = c.args.self.now in
    let next = c.next_value.new.self in
    let e = c.next_value.ensures in
    let strings = g.E.Emit.strings old.plan in
    let sending = subst (SendsNext value old next state) c.if-not-next_value.false (e.next value state h) in
    let number = e.number c.if-not-next_value.false in
    record {
      stands_for = sending.stands_for;
      gives = record {
        was = refl;
        can = sending.can;
        appended = λ lists fits.
            subst (SendsWhole (g.K.PacketSink.sent c.args.sink.now) (g.K.PacketSink.sent c.emit_value.new.sink)
            (g.E.Emit.tally c.args.emit.now) (g.E.Emit.tally c.emit_value.new.emit))
            (ap (λ p. sent_together p (g.E.Emit.strings p) next.outgoing.number next.outgoing.out.sums) e.plan ∙
            together_is value strings old next state lists h fits sending e.plan number)
            c.in-Ok.ensures.sent;
      };
    }

pub returns-in-Err-clause-steps : goal.returns-in-Err-clause-steps
returns-in-Err-clause-steps g c = λ value state h.
    let old = c.args.self.now in
    let next = c.next_value.new.self in
    let e = c.next_value.ensures in
    let strings = g.E.Emit.strings old.plan in
    let sending = subst (SendsNext value old next state) c.if-not-next_value.false (e.next value state h) in
    let number = e.number c.if-not-next_value.false in
    record {
      stands_for = sending.stands_for;
      gives = record {
        was = refl;
        can = sending.can;
        front = λ lists fits.
            subst (SendsFront (g.K.PacketSink.sent c.args.sink.now) (g.K.PacketSink.sent c.emit_value.new.sink)
            (g.E.Emit.tally c.args.emit.now) (g.E.Emit.tally c.emit_value.new.emit))
            (ap (λ p. sent_together p (g.E.Emit.strings p) next.outgoing.number next.outgoing.out.sums) e.plan ∙
            together_is value strings old next state lists h fits sending e.plan number)
            c.in-Err.ensures.sent;
      };
    }
