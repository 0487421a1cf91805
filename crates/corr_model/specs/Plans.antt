-- The ranges of a plan, its joint rules and the bytes that it reserves. This project's own.
use Rattle.std.specs.Prelude.{◌≡◌, ℕ, ◌+◌, ◌*◌, ◌/◌, ◌%◌, ◌-◌, ◌^◌, ◌≤◌, max, false}
use Rattle.corr_model.specs.declared.plan.Plan.{Plan}

-- the value is at least `least` and at most `most`
pub record IsWithin (value least most : ℕ) : Type 0 where
  pub least_met : least ≤ value
  pub most_met : value ≤ most

-- the bytes of a heap's samples: channel, spectrum, polarisation, real and imaginary part
abbrev pub sample_bytes : Plan → ℕ
sample_bytes p = 4 * p.channels * p.spectra

-- the baselines of so many antennas, each with itself included
abbrev pub baseline_count : ℕ → ℕ
baseline_count antennas = antennas * (antennas + 1) / 2

-- the baselines of a plan
abbrev pub baselines : Plan → ℕ
baselines p = baseline_count p.antennas

-- the bytes of a column: for each timestamp its samples and a mark
abbrev pub column_bytes : Plan → ℕ
column_bytes p = p.heaps * (sample_bytes p + 1)

-- the bytes of one accumulation's visibilities: 4 products of two numbers of 8 bytes each
abbrev pub value_bytes : Plan → ℕ
value_bytes p = 64 * p.channels * baselines p

-- the bytes of one accumulation's values and missing counts
abbrev pub visibility_bytes : Plan → ℕ
visibility_bytes p = value_bytes p + 4 * baselines p

-- the bytes of a map with a bit for each byte of a heap: the least number E with 8·E at least the heap limit
abbrev pub map_bytes : Plan → ℕ
map_bytes p = (p.heap_limit + 7) / 8

-- the bytes of one stream: its window's heaps with their maps, its open columns and its hand
abbrev pub stream_bytes : Plan → ℕ
stream_bytes p = p.window * (p.heap_limit + map_bytes p) + (p.lag + 2) * column_bytes p

-- the bytes of a slot or of a work: a column of each antenna and a result
abbrev pub result_bytes : Plan → ℕ
result_bytes p = p.antennas * column_bytes p + visibility_bytes p

-- the bytes that a run reserves: the streams, the slots, the works and the outgoing result
abbrev pub reserved : Plan → ℕ
reserved p = p.antennas * stream_bytes p + p.slots * result_bytes p + max 1 p.workers * result_bytes p
    + visibility_bytes p

-- the fields that give a run its shape are in their ranges
pub record HasShapeRanges (p : Plan) : Type 0 where
  pub antennas : IsWithin p.antennas 1 64
  pub channels : IsWithin p.channels 1 4096
  pub spectra : IsWithin p.spectra 1 4096
  pub heaps : IsWithin p.heaps 1 4096
  pub step : IsWithin p.step 1 (2 ^ 40)
  pub start : p.start ≤ 2 ^ 48 - 1
  pub accumulations : IsWithin p.accumulations 1 1048576

-- the fields that limit a run are in their ranges
pub record HasLimitRanges (p : Plan) : Type 0 where
  pub lag : IsWithin p.lag 1 16
  pub leap : p.leap ≤ 2 ^ 48 - 1
  pub window : IsWithin p.window 1 64
  pub slots : IsWithin p.slots 1 64
  pub workers : p.workers ≤ 64
  pub packet : IsWithin p.packet 64 8192
  pub packet_in_eights : p.packet % 8 ≡ 0
  pub heap_limit : IsWithin p.heap_limit 1 2097152
  pub packet_limit : IsWithin p.packet_limit 1 (2 ^ 40)

-- every field that a setting gives is in its range: all but the number of beams
pub record HasRanges (p : Plan) : Type 0 where
  pub shape : HasShapeRanges p
  pub limit : HasLimitRanges p

-- a heap's samples are at most 2^20 bytes and fit the heap limit, and the timestamp one step past the last fits 48 bits
pub record HasJointRules (p : Plan) : Type 0 where
  pub samples : sample_bytes p ≤ 1048576
  pub end_of_grid : p.start + p.accumulations * p.heaps * p.step ≤ 2 ^ 48 - 1
  pub heap_limit : sample_bytes p ≤ p.heap_limit

-- a plan that a run can have: its ranges, its number of beams, its joint rules and at most 2^30 bytes reserved
pub record Fits (p : Plan) : Type 0 where
  pub ranges : HasRanges p
  pub beams : p.beams ≤ 64
  pub joint : HasJointRules p
  pub memory : reserved p ≤ 2 ^ 30

-- the plan of an observation that names none
abbrev pub no_plan : Plan
no_plan = record {
  antennas = 0;
  channels = 0;
  spectra = 0;
  heaps = 0;
  accumulations = 0;
  lag = 0;
  window = 0;
  slots = 0;
  workers = 0;
  packet = 0;
  heap_limit = 0;
  beams = 0;
  step = 0;
  start = 0;
  leap = 0;
  packet_limit = 0;
  preset = false;
}
