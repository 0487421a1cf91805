use Rattle.std.proofs.Common.{◌∙◌, ◌≤◌, sym, ap, subst, length, take}
use Rattle.stream_feed.specs.Feeding.{IsNext}
use Rattle.corr_model.specs.declared.verdict.Ending.TheVariants as endings
use Rattle.corr_threads.specs.Receivers.{ReceiverView, SourceTold}
use Rattle.corr_threads.proofs.ReceiverLemmas.{next_told, end_told, failure_told, same_taken, kept_with_string}
use Rattle.corr_threads.proofs.ReceiverLemmas.{kept_at_end}
use Rattle.corr_threads.proofs.receiver.Receiver.take.Goals as goal

pub packet-requires-clause-next : goal.packet-requires-clause-next
packet-requires-clause-next g c = λ named.
    let i = c.self.inside in
    let list = g.O.Observation.list in
    let told = subst (SourceTold g.S.PacketSource.belongs g.S.PacketSource.given c.args.source.now) (sym c.self.view_is)
    (c.requires.told named) in
    let tells = g.met.S.PacketSource.belongs_tells c.args.source.now i.antenna told.belongs_to in
    let next = next_told _ (list i.antenna) _ _ i.feed.report.taken c.in-Packet.len _ tells told.as_many
    c.in-Packet.ensures.given in
    let bytes = c.split_at.ensures.front ∙ ap (take c.in-Packet.len) c.deref.ensures in
    subst (λ a. IsNext (list a) i.feed.report.taken c.split_at.result.0.now) (sym c.self.invariant.feed_antenna)
    (subst (IsNext (list i.antenna) i.feed.report.taken) (sym bytes) next.0)

pub invariant_of-self : goal.invariant_of-self
invariant_of-self g c =
    let i = c.self.inside in
    let list = g.O.Observation.list in
    let v : ReceiverView =
    record { plan = i.plan; antenna = i.antenna; feed = i.feed; hand = i.hand; placed = i.placed; held = i.held } in
    kept_with_string g.O.Observation.names list v c.packet.new.self c.split_at.result.0.now c.self.invariant
    (λ named.
    let told = subst (SourceTold g.S.PacketSource.belongs g.S.PacketSource.given c.args.source.now) (sym c.self.view_is)
    (c.requires.told named) in
    let tells = g.met.S.PacketSource.belongs_tells c.args.source.now i.antenna told.belongs_to in
    let next = next_told _ (list i.antenna) _ _ i.feed.report.taken c.in-Packet.len _ tells told.as_many
    c.in-Packet.ensures.given in
    let bytes = c.split_at.ensures.front ∙ ap (take c.in-Packet.len) c.deref.ensures in
    subst (IsNext (list i.antenna) i.feed.report.taken) (sym bytes) next.0)
    c.packet.ensures.stands c.packet.ensures.same c.packet.ensures.taken c.packet.ensures.own

pub returns-in-Packet-clause-told : goal.returns-in-Packet-clause-told
returns-in-Packet-clause-told g c = λ named.
    let i = c.self.inside in
    let told = subst (SourceTold g.S.PacketSource.belongs g.S.PacketSource.given c.args.source.now) (sym c.self.view_is)
    (c.requires.told named) in
    let tells = g.met.S.PacketSource.belongs_tells c.args.source.now i.antenna told.belongs_to in
    let next = next_told _ (g.O.Observation.list i.antenna) _ _ i.feed.report.taken c.in-Packet.len _ tells told.as_many
    c.in-Packet.ensures.given in
    record {
      belongs_to = c.in-Packet.ensures.belongs i.antenna told.belongs_to;
      as_many = next.1
          ∙ sym c.packet.ensures.taken;
    }

pub end-requires-clause-last : goal.end-requires-clause-last
end-requires-clause-last g c = λ named.
    let i = c.self.inside in
    let list = g.O.Observation.list in
    let told = subst (SourceTold g.S.PacketSource.belongs g.S.PacketSource.given c.args.source.now) (sym c.self.view_is)
    (c.requires.told named) in
    let tells = g.met.S.PacketSource.belongs_tells c.args.source.now i.antenna told.belongs_to in
    let end = end_told _ (list i.antenna) _ _ i.feed.report.taken _ tells told.as_many c.in-End.ensures.given in
    subst (λ a. length (list a) ≤ i.feed.report.taken) (sym c.self.invariant.feed_antenna) end.0

pub invariant_of-self-in-End : goal.invariant_of-self-in-End
invariant_of-self-in-End g c =
    let i = c.self.inside in
    let v : ReceiverView =
    record { plan = i.plan; antenna = i.antenna; feed = i.feed; hand = i.hand; placed = i.placed; held = i.held } in
    kept_at_end g.O.Observation.names g.O.Observation.list v c.end.new.self endings.End c.self.invariant
    (λ named.
    let told = subst (SourceTold g.S.PacketSource.belongs g.S.PacketSource.given c.args.source.now) (sym c.self.view_is)
    (c.requires.told named) in
    let tells = g.met.S.PacketSource.belongs_tells c.args.source.now i.antenna told.belongs_to in
    (end_told _ (g.O.Observation.list i.antenna) _ _ i.feed.report.taken _ tells told.as_many c.in-End.ensures.given).0)
    c.end.ensures.stands c.end.ensures.same c.end.ensures.ended

pub returns-in-End-clause-told : goal.returns-in-End-clause-told
returns-in-End-clause-told g c = λ named.
    let i = c.self.inside in
    let told = subst (SourceTold g.S.PacketSource.belongs g.S.PacketSource.given c.args.source.now) (sym c.self.view_is)
    (c.requires.told named) in
    let tells = g.met.S.PacketSource.belongs_tells c.args.source.now i.antenna told.belongs_to in
    let end = end_told _ (g.O.Observation.list i.antenna) _ _ i.feed.report.taken _ tells told.as_many
    c.in-End.ensures.given in
    record {
      belongs_to = c.in-End.ensures.belongs i.antenna told.belongs_to;
      as_many = end.1
          ∙ sym (same_taken i.feed.report c.end.new.self.report endings.End c.end.ensures.ended);
    }

pub end-requires-in-Failed-clause-last : goal.end-requires-in-Failed-clause-last
end-requires-in-Failed-clause-last g c = λ named.
    let i = c.self.inside in
    let list = g.O.Observation.list in
    let told = subst (SourceTold g.S.PacketSource.belongs g.S.PacketSource.given c.args.source.now) (sym c.self.view_is)
    (c.requires.told named) in
    let tells = g.met.S.PacketSource.belongs_tells c.args.source.now i.antenna told.belongs_to in
    let end = failure_told _ (list i.antenna) _ _ i.feed.report.taken _ tells told.as_many c.in-Failed.ensures.given in
    subst (λ a. length (list a) ≤ i.feed.report.taken) (sym c.self.invariant.feed_antenna) end.0

pub invariant_of-self-in-Failed : goal.invariant_of-self-in-Failed
invariant_of-self-in-Failed g c =
    let i = c.self.inside in
    let v : ReceiverView =
    record { plan = i.plan; antenna = i.antenna; feed = i.feed; hand = i.hand; placed = i.placed; held = i.held } in
    kept_at_end g.O.Observation.names g.O.Observation.list v c.end-in-Failed.new.self endings.Fault c.self.invariant
    (λ named.
    let told = subst (SourceTold g.S.PacketSource.belongs g.S.PacketSource.given c.args.source.now) (sym c.self.view_is)
    (c.requires.told named) in
    let tells = g.met.S.PacketSource.belongs_tells c.args.source.now i.antenna told.belongs_to in
    (failure_told _ (g.O.Observation.list i.antenna) _ _ i.feed.report.taken _ tells told.as_many
    c.in-Failed.ensures.given).0)
    c.end-in-Failed.ensures.stands c.end-in-Failed.ensures.same c.end-in-Failed.ensures.ended

pub returns-in-Failed-clause-told : goal.returns-in-Failed-clause-told
returns-in-Failed-clause-told g c = λ named.
    let i = c.self.inside in
    let told = subst (SourceTold g.S.PacketSource.belongs g.S.PacketSource.given c.args.source.now) (sym c.self.view_is)
    (c.requires.told named) in
    let tells = g.met.S.PacketSource.belongs_tells c.args.source.now i.antenna told.belongs_to in
    let end = failure_told _ (g.O.Observation.list i.antenna) _ _ i.feed.report.taken _ tells told.as_many
    c.in-Failed.ensures.given in
    record {
      belongs_to = c.in-Failed.ensures.belongs i.antenna told.belongs_to;
      as_many = end.1
          ∙ sym (same_taken i.feed.report c.end-in-Failed.new.self.report endings.Fault c.end-in-Failed.ensures.ended);
    }
