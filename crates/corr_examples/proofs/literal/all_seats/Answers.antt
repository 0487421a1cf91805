use Rattle.std.proofs.Common.{sym, subst}
use Rattle.corr_examples.specs.Literals.{WillGive, literal_list}
use Rattle.corr_examples.proofs.SeatLemmas.{are_new_push, are_new_two}
use Rattle.corr_examples.proofs.literal.all_seats.Goals as goal

pub loop-init : goal.loop-init
loop-init g c =
    let first = subst (λ s. WillGive s (literal_list 0)) (sym c.seat_of-first.ensures) c.in_ok-first_source.ensures in
    let other = subst (λ s. WillGive s (literal_list 1)) (sym c.seat_of-other.ensures) c.in_ok-other_source.ensures in
    rw c.in_ok-seats.ensures.items
    (are_new_two (λ s. s.source.source) c.seat_of-first.result c.seat_of-other.result first other)

pub loop-preserved : goal.loop-preserved
loop-preserved g c =
    rw c.in_ok-push.ensures.items
    (are_new_push (λ s. s.source.source) c.loop.seats.items c.spare_seat.result c.loop.invariant
    c.spare_seat.ensures)
