-- The visibility heap of a value: its sums as bytes, by channel, baseline and product, and then its missing counts.
-- SPEAD protocol definition, version 4: packets and item pointers. The order of the numbers is this project's own.
use Rattle.std.specs.Prelude.{ℕ, ◌+◌, ◌*◌, ℤ, List, ◌++◌, take, drop}
use Rattle.std.specs.Int.{bytes_high_first, cast_unsigned}
use Rattle.std.specs.Int.{w32}
use Rattle.std.specs.List.{flat_map}
use Rattle.corr_model.specs.declared.plan.Plan.{Plan}
use Rattle.corr_model.specs.Plans.{baselines}
use Rattle.corr_model.specs.Lists.{numbers}
use Rattle.corr_model.specs.Outputs.{signed_bytes, packets_of, visibility_pointers}
use Rattle.vis_shape.specs.Shapes.{block}

-- the eight numbers of a baseline at a channel
abbrev pub line : Plan → List ℤ → ℕ → ℕ → List ℤ
line plan values c b = take 8 (drop (b * block plan + 8 * c) values)

-- the same as bytes
abbrev pub line_bytes : Plan → List ℤ → ℕ → ℕ → List ℕ
line_bytes plan values c b = flat_map signed_bytes (line plan values c b)

-- the values of a channel, by baseline and product
abbrev pub channel_bytes : Plan → List ℤ → ℕ → List ℕ
channel_bytes plan values c = flat_map (line_bytes plan values c) (numbers 0 (baselines plan))

-- all values, by channel, baseline and product
abbrev pub values_bytes : Plan → List ℤ → List ℕ
values_bytes plan values = flat_map (channel_bytes plan values) (numbers 0 plan.channels)

-- a missing count
abbrev pub count_bytes : ℤ → List ℕ
count_bytes z = bytes_high_first 4 (cast_unsigned w32 z)

-- the payload of a value's sums
abbrev pub sums_payload : Plan → List ℤ → List ℕ
sums_payload plan sums =
    values_bytes plan (take (baselines plan * block plan) sums)
    ++ flat_map count_bytes (drop (baselines plan * block plan) sums)

-- the visibility heap of a value's sums, counter n + 2
abbrev pub sums_packets : Plan → ℕ → List ℤ → List (List ℕ)
sums_packets plan n sums = packets_of plan (n + 2) (visibility_pointers plan n) (sums_payload plan sums)
