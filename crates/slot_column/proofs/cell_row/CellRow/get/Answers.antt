use Rattle.std.proofs.Common.{◌≡◌, ◌<◌, ◌∙◌, sym, ap, arith, length, is_some, get_or, Some, None, false, true, slice_range, ◌*◌, ◌+◌, List, ℕ}
use Rattle.slot_column.proofs.RowLemmas.{cell_marked, in_row, has_room}
use Rattle.slot_column.proofs.cell_row.CellRow.get.Goals as goal

pub index-requires : goal.index-requires
index-requires c = let inside = in_row _ _ _ _ _ c.self.view_is c.requires in omega arith

pub returns-then-not-index-clause-value : goal.returns-then-not-index-clause-value
returns-then-not-index-clause-value c =
    let inside = in_row _ _ _ _ _ c.self.view_is c.requires in
    cell_marked _ _ _ _ _ _ false c.self.view_is inside c.index.ensures c.if-not-index.true

pub overflow_mul-at : goal.overflow_mul-at
overflow_mul-at c =
    let room = has_room _ _ _ _ _ c.self.invariant c.self.view_is c.requires in
    let ends = room.ends in
    let small = room.small in
    omega arith

pub part-requires : goal.part-requires
part-requires c =
    let room = has_room _ _ _ _ _ c.self.invariant c.self.view_is c.requires in
    let ends = room.ends in
    let same = ap {B = ℕ} length c.deref.ensures.value in
    omega arith

pub returns-clause-value : goal.returns-clause-value
returns-clause-value c =
    let inside = in_row _ _ _ _ _ c.self.view_is c.requires in
    ap Some (c.part.ensures.value ∙ ap
    (λ xs. slice_range xs (c.args.t * c.self.inside.width) (c.args.t * c.self.inside.width + c.self.inside.width))
    c.deref.ensures.value)
    ∙ cell_marked _ _ _ _ _ _ true c.self.view_is inside c.index.ensures c.if-not-index.false

pub returns-clause-whole : goal.returns-clause-whole
returns-clause-whole c = c.part.ensures.len ∙ ap {B = ℕ} (λ r. r.width) c.self.view_is
