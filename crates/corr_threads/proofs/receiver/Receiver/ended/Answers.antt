use Rattle.std.proofs.Common.{◌∙◌, sym, ap, is_some, subst}
use Rattle.corr_threads.specs.Receivers.{ReceiverView, HasReadAll}
use Rattle.corr_threads.proofs.ReceiverLemmas.{read_all}
use Rattle.corr_threads.proofs.receiver.Receiver.ended.Goals as goal

pub returns-clause-whole : goal.returns-clause-whole
returns-clause-whole g c = λ named ended.
    let i = c.self.inside in
    let v : ReceiverView =
    record { plan = i.plan; antenna = i.antenna; feed = i.feed; hand = i.hand; placed = i.placed; held = i.held } in
    let is = c.self.invariant in
    subst (λ w. HasReadAll (g.O.Observation.list w.antenna) w) c.self.view_is
    (read_all g.O.Observation.list v (is.told named) is.feed_plan is.feed_antenna
    (ap is_some (sym c.ended.ensures.value) ∙ ended))
