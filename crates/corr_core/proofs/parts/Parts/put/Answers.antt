use Rattle.std.proofs.Common.{◌≡◌, ◌<◌, true, false, sym, ◌∙◌, subst}
use Rattle.corr_model.specs.declared.plan.Plan.{Plan}
use Rattle.corr_machine.specs.Machines.{Put}
use Rattle.corr_core.specs.Parts.{hand_in}
use Rattle.corr_core.specs.Standing.{Happens}
use Rattle.corr_core.proofs.PutLemmas.{put_waits, put_happens}
use Rattle.corr_core.proofs.EndLemmas.{put_ends}
use Rattle.corr_core.proofs.parts.Parts.put.Goals as goal

pub returns-then-not-has_column-clause-happens : goal.returns-then-not-has_column-clause-happens
returns-then-not-has_column-clause-happens g c = λ value state h.
    let filled = c.fill_hand.ensures.fills value state h in
    let spare : (hand_in c.fill_hand.new.self c.args.antenna).is_closed ≡ false =
    sym c.has_column.ensures ∙ c.if-not-has_column.true in
    put_waits value c.args.self.now.plan c.fill_hand.new.self state c.args.antenna filled.stands_for
    (filled.filled spare)

pub returns-clause-happens : goal.returns-clause-happens
returns-clause-happens g c = λ value state h.
    let filled = c.fill_hand.ensures.fills value state h in
    let closed : (hand_in c.fill_hand.new.self c.args.antenna).is_closed ≡ true =
    sym c.has_column.ensures ∙ c.if-not-has_column.false in
    let few = subst (λ (p : Plan). c.args.antenna < p.antennas) (sym c.fill_hand.ensures.plan) c.requires.in_range in
    subst (λ p. Happens value p c.place.new.self state (Put c.args.antenna) c.place.result) c.fill_hand.ensures.plan
    (put_happens value c.fill_hand.new.self c.place.new.self state c.args.antenna c.place.result filled.stands_for few
    closed c.place.ensures)

pub returns-clause-ends : goal.returns-clause-ends
returns-clause-ends g c =
    put_ends c.args.self.now c.fill_hand.new.self c.place.new.self c.args.antenna c.place.result
    c.fill_hand.ensures.ends c.place.ensures
