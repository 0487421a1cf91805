use Rattle.std.proofs.Common.{◌∙◌, ap, false, arith}
use Rattle.slot_column.specs.Columns.{Cells}
use Rattle.corr_core.proofs.NewLemmas.{built_none, built_more, built_all}
use Rattle.corr_core.proofs.prepared.new_hands.Goals as goal

pub loop-init : goal.loop-init
loop-init g c = let room =
    c.in_ok-hands.ensures.exact in built_none _ _ _ _ _ c.in_ok-hands.ensures.items c.in_ok-hands.ensures.len
    (omega (arith, room))

pub push_reserved-requires : goal.push_reserved-requires
push_reserved-requires g c =
    let counted = c.loop.invariant.counted in
    let fits_in = c.loop.invariant.fits_in in
    omega arith

pub loop-preserved : goal.loop-preserved
loop-preserved g c =
    built_more _ _ _ _ _ _ _ _ _ _ c.loop.invariant
    (c.spare.ensures ∙ ap (λ (k : Cells). record { column = k; is_closed = false }) c.in_ok-column.ensures)
    c.push_reserved.ensures.items c.push_reserved.ensures.len c.push_reserved.ensures.capacity

pub returns : goal.returns
returns g c = built_all _ _ _ _ _ c.loop.counter c.loop.invariant (omega arith)
