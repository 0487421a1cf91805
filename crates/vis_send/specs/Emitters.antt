-- What an emitter sends for a plan, and its whole output. This project's own.
use Rattle.std.specs.Prelude.{ℕ, ℤ, List, ◌++◌}
use Rattle.std.specs.List.{flat_map}
use Rattle.corr_model.specs.declared.plan.Plan.{Plan}
use Rattle.corr_model.specs.Lists.{numbers}
use Rattle.corr_model.specs.Outputs.{head_packets, stop_packets}
use Rattle.vis_shape.specs.Payloads.{sums_packets}

-- the byte strings of the head, of an accumulation by its number and the sums of its value, and of the stop
pub record Strings : Type 0 where
  pub head : List (List ℕ)
  pub heap : ℕ → List ℤ → List (List ℕ)
  pub stop : List (List ℕ)

-- the whole output of these strings, for the sums of each accumulation's value: the head, the heap of each
-- accumulation in order, the stop
abbrev pub output_of : Strings → Plan → (ℕ → List ℤ) → List (List ℕ)
output_of strings plan values =
    strings.head ++ (flat_map (λ n. strings.heap n (values n)) (numbers 0 plan.accumulations) ++ strings.stop)

-- the strings of a sender: the descriptor heap, the visibility heap of a value's sums, the stop heap
abbrev pub sender_strings : Plan → Strings
sender_strings plan = record { head = head_packets plan; heap = sums_packets plan; stop = stop_packets plan }
