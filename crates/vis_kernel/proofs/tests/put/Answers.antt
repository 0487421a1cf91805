use Rattle.std.proofs.Common.{◌≡◌, ℕ, List, ap}
use Rattle.slot_column.specs.Columns.{Cells, Places}
use Rattle.slot_column.specs.declared.column.Placed.{Placed}
use Rattle.slot_column.specs.declared.column.Placed.TheVariants.{New, Twice}
use Rattle.vis_kernel.proofs.tests.put.Goals as goal

plan_stays : (old new : Cells) (t : ℕ) (samples : List ℕ) (answer : Placed) → Places old t samples answer new
    → new.plan ≡ old.plan
plan_stays old new t samples New h = ap (λ c. c.plan) h.1
plan_stays old new t samples Twice h = ap (λ c. c.plan) h.1

pub returns : goal.returns
returns c = plan_stays c.args.column.now c.place.new.self c.args.t c.args.samples.now c.place.result c.place.ensures
