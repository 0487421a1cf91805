use Rattle.std.proofs.Common.{◌≡◌, true, sym, subst}
use Rattle.corr_model.specs.Windows.{is_within}
use Rattle.heap_assembly.specs.Inside.{IsSound}
use Rattle.heap_assembly.specs.Steps.{Steps}
use Rattle.heap_assembly.proofs.SoundLemmas.{end_within}
use Rattle.heap_assembly.proofs.StepLemmas.{step_stands, step_answer}
use Rattle.heap_assembly.proofs.live.Live.add.Goals as goal

pub returns-clause-stands : goal.returns-clause-stands
returns-clause-stands c =
    let e = c.args.self.now in
    let new = c.step.new.self in
    let a = c.step.result in
    λ ms q is. step_stands e q new a (subst IsSound c.self.view_is c.self.invariant) c.requires.not_whole
    (end_within e.limit q.packet (subst (λ p. is_within e.limit p ≡ true) (sym is) c.requires.within))
    (subst (λ p. Steps e p new a) (sym is) c.step.ensures) ms

pub returns-clause-answer : goal.returns-clause-answer
returns-clause-answer c =
    let e = c.args.self.now in
    let new = c.step.new.self in
    let a = c.step.result in
    λ ms q is. step_answer e q new a (subst IsSound c.self.view_is c.self.invariant) c.requires.not_whole
    (end_within e.limit q.packet (subst (λ p. is_within e.limit p ≡ true) (sym is) c.requires.within))
    (subst (λ p. Steps e p new a) (sym is) c.step.ensures) ms q.packet.counter
