-- What a core sends with a number. This project's own.
use Rattle.std.specs.Prelude.{◌+◌, ◌==◌, ◌++◌, ℕ, ℤ, if◌then◌else◌, List, [], Option}
use Rattle.corr_model.specs.declared.plan.Plan.{Plan}
use Rattle.corr_model.specs.Visibilities.{Lists}
use Rattle.vis_send.specs.Emitters.{Strings}
use Rattle.corr_machine.specs.Runs.{OutputHeaps}
use Rattle.corr_core.specs.Standing.{Value, values_of}

-- the value of all timestamps, by the value of a range
abbrev pub value_with : (Plan → List (List (Option (List ℕ))) → ℕ → ℕ → List ℤ) → Plan → Value
value_with value plan = λ columns. value plan columns 0 plan.heaps

-- the heap of a number with these sums: before the first the head, after the last the stop
abbrev pub sent_together : Plan → Strings → ℕ → List ℤ → List (List ℕ)
sent_together plan strings n sums =
    (if n == 0 then strings.head else [])
    ++ (strings.heap n sums ++ (if n + 1 == plan.accumulations then strings.stop else []))

-- the heaps of the output of some lists, by what a back end and an emitter make of them
abbrev pub heaps_by : Value → Strings → Plan → Lists → OutputHeaps
heaps_by value strings plan lists = record {
  head = strings.head;
  heap = λ n. strings.heap n ((values_of value plan lists).result n);
  stop = strings.stop;
}
