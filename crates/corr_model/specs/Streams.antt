-- The heaps of one stream and their verdicts, its end and its floor; cells and columns.
-- SPEAD protocol definition, version 4: stream control item 6 with 2 is the end of a stream. The grid of timestamps,
-- the verdicts and their order, the floor, lag and leap, the packet limit, cells and columns are this project's own.
use Rattle.std.specs.Prelude.{ℕ, ◌+◌, ◌-◌, ◌/◌, ◌%◌, min, max, Bool, true, false, not, ◌&&◌, ◌||◌, ◌==◌, nat_lt, nat_le, if◌then◌else◌, List, [], ◌++◌, length, take, map, filter, find, fold, Option, Some, None, is_some, option_map, unwrap_or}
use Rattle.std.specs.List.{flat_map, list_any}
use Rattle.corr_model.specs.declared.plan.Plan.{Plan}
use Rattle.corr_model.specs.declared.verdict.Verdict.{Verdict}
use Rattle.corr_model.specs.declared.verdict.Verdict.TheVariants.{Undescribed, Foreign, BeforeStart, OffGrid, Wild, Beyond, Late, Twice, Used, Stop}
use Rattle.corr_model.specs.declared.verdict.Ending.{Ending}
use Rattle.corr_model.specs.declared.verdict.Ending.TheVariants as endings
use Rattle.corr_model.specs.Lists.{in_turn, fronts, through_first, numbers, passes}
use Rattle.corr_model.specs.Windows.{placed_in}
use Rattle.corr_model.specs.Assembly.{WholeHeap, whole_heaps}
use Rattle.corr_model.specs.Items.{Group, number_item, descriptor_contents}
use Rattle.corr_model.specs.Descriptors.{DescribedItem}
use Rattle.corr_model.specs.Tables.{Sight, sight, readable_descriptors, TableStandsFor}

-- the items of a whole heap
abbrev pub group_of : WholeHeap → Group
group_of heap = record { pointers = heap.pointers; payload = heap.payload }

-- the contents of the descriptors of a heap
abbrev pub contents_of : WholeHeap → List (List ℕ)
contents_of heap = descriptor_contents (group_of heap)

-- the whole heaps of a list, in order
abbrev pub whole_in : Plan → List (List ℕ) → List WholeHeap
whole_in plan l = whole_heaps plan.window (placed_in plan l)

-- a stop heap: its number of stream control is 2
abbrev pub stops : WholeHeap → Bool
stops heap = passes (λ n. n == 2) (number_item (group_of heap) 6)

-- a whole heap, what it says where it is readable, and its verdict
pub record JudgedHeap : Type 0 where
  pub heap : WholeHeap
  pub seen : Option Sight
  pub verdict : Verdict

-- how many steps a timestamp is after the start
abbrev pub grid : Plan → ℕ → ℕ
grid plan timestamp = (timestamp - plan.start) / plan.step

-- one more than the accumulation of a heap on the grid, whatever became of it
abbrev pub reach : Plan → JudgedHeap → ℕ
reach plan j = unwrap_or (option_map (λ s. grid plan s.timestamp / plan.heaps + 1) j.seen) 0

-- the verdict is Beyond, Late, Twice or Used: the heap counts for the greatest accumulation
abbrev pub raises : Verdict → Bool
raises Beyond = true
raises Late = true
raises Twice = true
raises (Used n t) = true
raises other = false

-- one more than the greatest accumulation of the heaps that were Beyond, Late, Twice or Used, or 0 before any
abbrev pub above_top : Plan → List JudgedHeap → ℕ
above_top plan js = fold max 0 (map (reach plan) (filter (λ j. raises j.verdict) js))

-- the floor by these heaps: one more than the greatest accumulation, less the lag, and at most all accumulations
abbrev pub floor_of : Plan → List JudgedHeap → ℕ
floor_of plan js = min plan.accumulations (above_top plan js - plan.lag)

-- used at accumulation n and place t
abbrev pub is_used_at : ℕ → ℕ → Verdict → Bool
is_used_at n t (Used m u) = (m == n) && (u == t)
is_used_at n t other = false

-- the verdict at accumulation n and place t by the earlier heaps, the first that applies: Wild past the guard, Beyond
-- the last, Late below the floor, Twice where one was used there, else Used
abbrev pub verdict_at : Plan → List JudgedHeap → ℕ → ℕ → Verdict
verdict_at plan js n t =
    if nat_lt 0 plan.leap && nat_le (above_top plan js + plan.leap) n then Wild
    else (if nat_le plan.accumulations n then Beyond
    else (if nat_lt n (floor_of plan js) then Late
    else (if list_any (λ j. is_used_at n t j.verdict) js then Twice
    else Used n t)))

-- the verdict of a heap that says this, the first that applies: Undescribed, Foreign, BeforeStart, OffGrid, else that
-- of its accumulation and place
abbrev pub heap_verdict : Plan → ℕ → List JudgedHeap → Option Sight → Verdict
heap_verdict plan antenna js None = Undescribed
heap_verdict plan antenna js (Some s) =
    if not (s.antenna == antenna) then Foreign s.antenna
    else (if nat_lt s.timestamp plan.start then BeforeStart
    else (if not ((s.timestamp - plan.start) % plan.step == 0) then OffGrid
    else verdict_at plan js (grid plan s.timestamp / plan.heaps) (grid plan s.timestamp % plan.heaps)))

-- a heap that says this: Stop for a stop heap, else its verdict by the earlier ones
abbrev pub judged_as : Plan → ℕ → List JudgedHeap → WholeHeap → Option Sight → JudgedHeap
judged_as plan antenna js heap seen = record {
  heap = heap;
  seen = seen;
  verdict = if stops heap then Stop else heap_verdict plan antenna js seen;
}

-- the contents of the descriptors of these heaps, in order
abbrev pub described_by : List JudgedHeap → List (List ℕ)
described_by js = flat_map (λ j. contents_of j.heap) js

-- the descriptors so far: those of the earlier heaps and its own
abbrev pub contents_so_far : List JudgedHeap → WholeHeap → List (List ℕ)
contents_so_far js heap = described_by js ++ contents_of heap

-- a whole heap with what it says by the descriptors so far, its own included, and its verdict by the earlier heaps
abbrev pub judge_next : Plan → ℕ → List JudgedHeap → WholeHeap → JudgedHeap
judge_next plan antenna js heap =
    judged_as plan antenna js heap (sight plan (readable_descriptors plan (contents_so_far js heap)) (group_of heap))

-- the whole heaps up to and including the first stop heap, each with its verdict
abbrev pub heaps : Plan → ℕ → List (List ℕ) → List JudgedHeap
heaps plan antenna l = in_turn (judge_next plan antenna) (through_first stops (whole_in plan l))

-- the table of a list: its entries stand for the descriptors of the list's judged heaps
abbrev pub IsTableOf : Plan → ℕ → List DescribedItem → List (List ℕ) → Type 0
IsTableOf plan antenna entries l = TableStandsFor plan entries (described_by (heaps plan antenna l))

-- a stop heap is whole within these strings
abbrev pub has_stopped : Plan → List (List ℕ) → Bool
has_stopped plan l = list_any stops (whole_in plan l)

-- ended by a stop heap, else by the limit, else open
abbrev pub ended_by : Bool → Bool → Option Ending
ended_by stopped full = if stopped then Some endings.Stop else (if full then Some endings.Limit else None)

-- how a list ends by itself: by a stop heap, else by as many strings as the limit, else it is open
abbrev pub ending : Plan → List (List ℕ) → Option Ending
ending plan l = ended_by (has_stopped plan l) (nat_le plan.packet_limit (length l))

-- the strings that count: up to and including the one at which a stop heap is whole, or, where there is none, the first
-- `packet_limit`
abbrev pub taken : Plan → List (List ℕ) → List (List ℕ)
taken plan l = unwrap_or (find (has_stopped plan) (fronts l)) (take plan.packet_limit l)

-- all accumulations where the stream has ended or is said to have, else the floor by its heaps; what is below it is
-- closed
abbrev pub floor : Plan → ℕ → List (List ℕ) → Bool → ℕ
floor plan antenna l ended =
    if ended || is_some (ending plan l) then plan.accumulations else floor_of plan (heaps plan antenna l)

-- the samples of a readable heap
abbrev pub samples_of : JudgedHeap → List ℕ
samples_of j = unwrap_or (option_map (λ s. s.samples) j.seen) []

-- the samples of the heap among these that was used at accumulation n and place t, or none
abbrev pub cell_in : List JudgedHeap → ℕ → ℕ → Option (List ℕ)
cell_in js n t = option_map samples_of (find (λ j. is_used_at n t j.verdict) js)

-- the samples of the heap that was used at accumulation n and place t, or none
abbrev pub cell : Plan → ℕ → List (List ℕ) → ℕ → ℕ → Option (List ℕ)
cell plan antenna l n t = cell_in (heaps plan antenna l) n t

-- the cells of accumulation n, by place
abbrev pub column : Plan → ℕ → List (List ℕ) → ℕ → List (Option (List ℕ))
column plan antenna l n = map (cell plan antenna l n) (numbers 0 plan.heaps)
