use Rattle.std.proofs.Common.{◌∙◌, ap, is_some}
use Rattle.stream_feed.specs.Feeding.{due_of}
use Rattle.corr_threads.specs.Receivers.{ReceiverView}
use Rattle.corr_threads.proofs.ReceiverLemmas.{kept_with_column}
use Rattle.corr_threads.proofs.receiver.Receiver.fill.Goals as goal

pub invariant_of-self : goal.invariant_of-self
invariant_of-self g c =
    let i = c.self.inside in
    let v : ReceiverView =
    record { plan = i.plan; antenna = i.antenna; feed = i.feed; hand = i.hand; placed = i.placed; held = i.held } in
    kept_with_column g.O.Observation.names g.O.Observation.list v c.give.new.self c.give.new.hand c.self.invariant
    (ap (λ w. w.hand.is_closed) c.self.view_is ∙ c.requires.spare)
    (ap (λ w. is_some (due_of w.feed)) c.self.view_is ∙ c.requires.due)
    c.give.ensures.column c.give.ensures.stands c.give.ensures.same_plan c.give.ensures.same_antenna
    c.give.ensures.given c.give.ensures.report c.give.ensures.closed
