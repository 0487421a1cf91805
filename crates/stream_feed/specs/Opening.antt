-- The columns that a stream has open. This project's own.
use Rattle.std.specs.Prelude.{◌≡◌, ◌≢◌, ℕ, ◌+◌, ◌%◌, ◌<◌, ◌≤◌, ◌==◌, if◌then◌else◌, List, length, map, get_or, slice_set, None}
use Rattle.corr_model.specs.declared.plan.Plan.{Plan}
use Rattle.corr_model.specs.Plans.{Fits}
use Rattle.corr_model.specs.Lists.{numbers}
use Rattle.corr_model.specs.Streams.{JudgedHeap, cell_in}
use Rattle.slot_column.specs.declared.column.Placed.{Placed}
use Rattle.slot_column.specs.Columns.{Cells, Places, empty_column}

-- the open columns: whose they are, how many were given, the columns
-- by their numbers modulo the lag, and one ahead of them
pub record OpenState : Type 0 where
  pub plan : Plan
  pub antenna : ℕ
  pub given : ℕ
  pub columns : List Cells
  pub ahead : Cells

-- the columns are of this plan
abbrev pub AreOfPlan : Plan → List Cells → Type 0
AreOfPlan plan cs = (k : ℕ) (d : Cells) → k < length cs → (get_or cs k d).plan ≡ plan

-- what the open columns keep
pub record IsSoundOpen (o : OpenState) : Type 0 where
  pub fits : Fits o.plan
  pub antenna : o.antenna < o.plan.antennas
  pub given : o.given ≤ o.plan.accumulations
  pub as_many : length o.columns ≡ o.plan.lag
  pub of_plan : AreOfPlan o.plan o.columns
  pub ahead_plan : o.ahead.plan ≡ o.plan

-- the columns of a stream that used no heap
abbrev pub no_columns : Plan → ℕ → OpenState
no_columns plan antenna = record {
  plan = plan;
  antenna = antenna;
  given = 0;
  columns = map (empty_column plan antenna) (numbers 0 plan.lag);
  ahead = empty_column plan antenna plan.lag;
}

-- the samples are put into the column at the place of n
pub record PlacesWithin (old : OpenState) (n t : ℕ) (samples : List ℕ) (answer : Placed)
    (new : OpenState) : Type 0 where
  pub before : Cells
  pub after : Cells
  pub is_before : (d : Cells) → get_or old.columns (n % old.plan.lag) d ≡ before
  pub changed : Places before t samples answer after
  pub rest : new ≡ record old { columns = slice_set old.columns (n % old.plan.lag) after }

-- the samples are put into an empty column of n, which is the one ahead
pub record PlacesAhead (old : OpenState) (n t : ℕ) (samples : List ℕ) (answer : Placed) (new : OpenState) : Type 0 where
  pub after : Cells
  pub changed : Places (empty_column old.plan old.antenna n) t samples answer after
  pub rest : new ≡ record old { ahead = after }

-- the columns with that of this number at a place: the one ahead, where it is that, else an empty one
abbrev pub renewed : OpenState → ℕ → ℕ → OpenState
renewed o place next =
    if o.ahead.number == next
    then record o { columns = slice_set o.columns place o.ahead; ahead = empty_column o.plan o.antenna (next + 1) }
    else record o { columns = slice_set o.columns place (empty_column o.plan o.antenna next) }

-- the columns after one was given: at its place is the one that comes a lag later
abbrev pub after_given : OpenState → OpenState
after_given o = record (renewed o (o.given % o.plan.lag) (o.given + o.plan.lag)) { given = o.given + 1 }

-- the column of an accumulation by these heaps
abbrev pub column_by : Plan → ℕ → List JudgedHeap → ℕ → Cells
column_by plan antenna js n =
    record { plan = plan; antenna = antenna; number = n; cells = map (cell_in js n) (numbers 0 plan.heaps) }

-- the open columns are those of these heaps, and what is past them is empty
pub record AreOpen (o : OpenState) (js : List JudgedHeap) : Type 0 where
  pub each : (n : ℕ) (d : Cells) → o.given ≤ n → n < o.given + o.plan.lag
      → get_or o.columns (n % o.plan.lag) d ≡ column_by o.plan o.antenna js n
  pub ahead_is : o.ahead ≡ column_by o.plan o.antenna js o.ahead.number
  pub past : o.given + o.plan.lag ≤ o.ahead.number
  pub rest : (n t : ℕ) → o.given + o.plan.lag ≤ n → n ≢ o.ahead.number → cell_in js n t ≡ None
