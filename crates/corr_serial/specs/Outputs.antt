-- The output of a run, for any back end and any emitter. This project's own.
use Rattle.std.specs.Prelude.{ℕ, ℤ, List, Option}
use Rattle.corr_model.specs.declared.plan.Plan.{Plan}
use Rattle.corr_model.specs.Visibilities.{Lists}
use Rattle.vis_back.specs.Sets.{columns_of}
use Rattle.vis_send.specs.Emitters.{Strings, output_of}

-- what a run means: the strings that its emitter sends, and the value that its back end gives to the columns of all
-- antennas over a range of timestamps
pub record Meaning : Type 0 where
  pub strings : Strings
  pub value : List (List (Option (List ℕ))) → ℕ → ℕ → List ℤ

-- the value of an accumulation: that of the columns that the lists define, over all timestamps
abbrev pub value_of : Meaning → Plan → Lists → ℕ → List ℤ
value_of m plan lists n = m.value (columns_of plan lists n) 0 plan.heaps

-- its heap
abbrev pub heap_of : Meaning → Plan → Lists → ℕ → List (List ℕ)
heap_of m plan lists n = m.strings.heap n (value_of m plan lists n)

-- the whole output of these lists: the head, the heap of each accumulation in order, the stop
abbrev pub output_by : Meaning → Plan → Lists → List (List ℕ)
output_by m plan lists = output_of m.strings plan (value_of m plan lists)
