use Rattle.std.proofs.Common.{◌++◌, ◌∷◌, [], sym, ap, ◌∙◌, subst}
use Rattle.corr_model.specs.PacketVerdicts.{packet_verdict}
use Rattle.stream_feed.specs.Feeding.{FeedState, StandsFor, IsNext}
use Rattle.stream_feed.specs.Keeping.{KeepsWindow, opens_after}
use Rattle.stream_feed.proofs.PromiseLemmas.{promise_packet}
use Rattle.stream_feed.proofs.feed.Feed.packet.Goals as goal

pub invariant_of-self : goal.invariant_of-self
invariant_of-self g c = λ named.
    promise_packet g.O.Observation.list c.self.inside.stream c.packet.new.self c.args.bytes.now (c.self.invariant named)
    (subst (λ (k : FeedState). IsNext (g.O.Observation.list k.columns.antenna) k.report.taken c.args.bytes.now)
    (sym c.self.view_is) (c.requires.next named))
    c.packet.ensures.stands c.packet.ensures.same.same_antenna c.packet.ensures.taken c.packet.ensures.own

pub returns-clause-verdict : goal.returns-clause-verdict
returns-clause-verdict g c = λ l s.
    c.packet.ensures.verdict l (subst (λ (k : FeedState). StandsFor k l) (sym c.self.view_is) s)
    ∙ ap (λ (k : FeedState). packet_verdict k.columns.plan k.columns.antenna (l ++ c.args.bytes.now ∷ []))
    c.self.view_is

pub returns-clause-window : goal.returns-clause-window
returns-clause-window g c = λ l s.
    subst (λ (k : FeedState). KeepsWindow c.packet.result (opens_after k.columns.plan l c.args.bytes.now) k.window
    c.packet.new.self.window) c.self.view_is
    (c.packet.ensures.window l (subst (λ (k : FeedState). StandsFor k l) (sym c.self.view_is) s))
