-- Baselines and their numbers. The order is this project's own.
use Rattle.std.specs.Prelude.{ℕ, ◌+◌, ◌*◌, ◌/◌}

-- the number of the baseline of antennas i and j, i not greater than j
abbrev pub baseline_number : ℕ → ℕ → ℕ
baseline_number i j = j * (j + 1) / 2 + i
