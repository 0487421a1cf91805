use Rattle.std.proofs.Common.{not, sym, ◌∙◌}
use Rattle.std.specs.Option.{is_some}
use Rattle.std.proofs.lemmas.Bool.{and_parts, not-true}
use Rattle.stream_feed.specs.Feeding.{due_of}
use Rattle.corr_core.specs.Parts.{feed_in, hand_in}
use Rattle.corr_core.proofs.PutLemmas.{got_filled, not_filled}
use Rattle.corr_core.proofs.EndLemmas.{got_ends}
use Rattle.corr_core.proofs.parts.Parts.fill_hand.Goals as goal

pub returns-then-can_give-clause-fills : goal.returns-then-can_give-clause-fills
returns-then-can_give-clause-fills g c = λ value state h.
    let p = c.args.self.now in
    let a = c.args.antenna in
    let can = and_parts (not (hand_in p a).is_closed) (is_some (due_of (feed_in p a)))
    (sym c.can_give.ensures ∙ c.if-can_give.true) in
    got_filled value p c.give.new.self state a h c.requires.in_range (not-true (hand_in p a).is_closed can.0) can.1
    c.give.ensures

pub returns-else-can_give-clause-fills : goal.returns-else-can_give-clause-fills
returns-else-can_give-clause-fills g c = λ value state h.
    not_filled value c.args.self.now state c.args.antenna h c.requires.in_range
    (sym c.can_give.ensures ∙ c.if-can_give.false)

pub returns-then-can_give-clause-ends : goal.returns-then-can_give-clause-ends
returns-then-can_give-clause-ends g c = got_ends c.args.self.now c.give.new.self c.args.antenna c.give.ensures
