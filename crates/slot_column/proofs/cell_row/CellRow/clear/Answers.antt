use Rattle.std.proofs.Common.{◌≡◌, ◌∙◌, sym, ap, arith, length, replicate, None, ℕ, Option, List}
use Rattle.std.specs.Vec.{vec_len}
use Rattle.slot_column.proofs.RowLemmas.{row_none, length-row}
use Rattle.slot_column.proofs.cell_row.CellRow.clear.Goals as goal

pub returns-clause-cells : goal.returns-clause-cells
returns-clause-cells c =
    let long : length c.args.self.now.cells ≡ length c.self.inside.present.items =
    sym (ap (λ r. length r.cells) c.self.view_is) ∙ length-row _ _ _ in
    let same : vec_len c.self.inside.present ≡ length c.args.self.now.cells = omega arith in
    row_none _ _ _ _ (c.fill.ensures.items (λ y h. h)) ∙ ap (λ n. replicate n None) same
