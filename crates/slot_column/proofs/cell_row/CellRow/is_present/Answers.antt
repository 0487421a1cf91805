use Rattle.std.proofs.Common.{◌≡◌, ◌<◌, ◌∙◌, sym, ap, arith, length, is_some, get_or, None, false}
use Rattle.slot_column.proofs.RowLemmas.{length-row, get_or-row, some_of, present_at, in_row}
use Rattle.slot_column.proofs.cell_row.CellRow.is_present.Goals as goal

pub index-requires : goal.index-requires
index-requires c = let inside = in_row _ _ _ _ _ c.self.view_is c.requires in omega arith

pub returns : goal.returns
returns c =
    let inside = in_row _ _ _ _ _ c.self.view_is c.requires in
    present_at _ _ _ _ _ _ c.self.view_is inside c.index.ensures
