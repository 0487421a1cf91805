use Rattle.std.proofs.Common.{◌≡◌, ◌<◌, ◌∙◌, sym, ap, arith, length, get_or, Some, None, false, true, slice_set, take, drop, ◌++◌, ◌*◌, ◌+◌, List, ℕ}
use Rattle.std.proofs.lemmas.List.{with_items_is}
use Rattle.slot_column.proofs.RowLemmas.{in_row, has_room, row_put_shown}
use Rattle.slot_column.proofs.cell_row.CellRow.put.Goals as goal

pub overflow_mul-t : goal.overflow_mul-t
overflow_mul-t c =
    let room = has_room _ _ _ _ _ c.self.invariant c.self.view_is c.requires.in_range in
    let ends = room.ends in
    let small = room.small in
    omega arith

pub put_bytes-requires : goal.put_bytes-requires
put_bytes-requires c =
    let room = has_room _ _ _ _ _ c.self.invariant c.self.view_is c.requires.in_range in
    let ends = room.ends in
    let same = ap {B = ℕ} length c.deref_mut.ensures.value in
    let wide : c.self.inside.width ≡ c.args.self.now.width = ap {B = ℕ} (λ r. r.width) c.self.view_is in
    let whole = c.requires.whole in
    omega arith

pub index_mut-requires : goal.index_mut-requires
index_mut-requires c = let inside = in_row _ _ _ _ _ c.self.view_is c.requires.in_range in omega arith

pub returns-clause-cells : goal.returns-clause-cells
returns-clause-cells c =
    let inside = in_row _ _ _ _ _ c.self.view_is c.requires.in_range in
    let wide : c.self.inside.width ≡ c.args.self.now.width = ap {B = ℕ} (λ r. r.width) c.self.view_is in
    let at = c.args.t * c.self.inside.width in
    let s = c.args.samples.now in
    row_put_shown _ _ c.put_bytes.new.bytes _ _ _ _ _ (ap (λ r. r.cells) c.self.view_is) inside c.self.invariant.room
    (c.requires.whole ∙ sym wide)
    (c.put_bytes.ensures ∙ ap (λ xs. take at xs ++ (s ++ drop (at + length s) xs)) c.deref_mut.ensures.value)
    (with_items_is c.self.inside.bytes c.put_bytes.new.bytes (omega arith))
