use Rattle.std.proofs.Common.{◌≡◌, ◌<◌, ◌≤◌, subst, arith}
use Rattle.corr_core.specs.Parts.{PartsView}
use Rattle.corr_core.proofs.WorkLemmas.{send_past, release_is, some_antennas}
use Rattle.corr_core.proofs.EndLemmas.{released_ends}
use Rattle.corr_core.proofs.parts.Parts.next_value.Goals as goal

pub returns-then-self-from-clause-next : goal.returns-then-self-from-clause-next
returns-then-self-from-clause-next g c = λ value state h.
    let past : c.self.inside.plan.accumulations ≤ c.self.inside.sent =
    omega (arith, c.if-self-from.true, c.from.ensures) in
    send_past value c.args.self.now state
    (subst (λ (k : PartsView). 0 < k.plan.antennas) c.self.view_is (some_antennas _ c.self.invariant.fits)) h
    (subst (λ (k : PartsView). k.plan.accumulations ≤ k.sent) c.self.view_is past)

pub returns-clause-next : goal.returns-clause-next
returns-clause-next g c = λ value state h.
    release_is value c.args.self.now c.release.new.self state c.release.result h
    (subst (λ (k : PartsView). k.outgoing.plan ≡ k.plan) c.self.view_is c.self.invariant.outgoing_plan)
    c.release.ensures

pub returns-clause-ends : goal.returns-clause-ends
returns-clause-ends g c = released_ends c.args.self.now c.release.new.self c.release.result c.release.ensures
