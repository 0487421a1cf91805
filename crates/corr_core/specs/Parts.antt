-- What contracts see of the parts of a core. This project's own.
use Rattle.std.specs.Prelude.{◌≡◌, ◌≢◌, ℕ, ◌<◌, Bool, true, false, not, ◌&&◌, List, [], length, slice_index_or, slice_set, None, is_none}
use Rattle.corr_model.specs.declared.plan.Plan.{Plan}
use Rattle.corr_model.specs.Plans.{Fits}
use Rattle.slot_column.specs.Columns.{Hand}
use Rattle.stream_feed.specs.declared.report.StreamReport.{StreamReport}
use Rattle.stream_feed.specs.Opening.{no_columns}
use Rattle.stream_feed.specs.Feeding.{FeedState, due_of}
use Rattle.slot_ring.specs.declared.work.Stage.TheVariants.{Taken}
use Rattle.slot_ring.specs.Means.{spare_hand}
use Rattle.slot_ring.specs.Slots.{View, WorkView, OutgoingView, empty_slot, free_work}
use Rattle.slot_ring.specs.Rings.{RingView}
use Rattle.corr_machine.specs.Machines.{work_count}

-- the parts of a core but for its back end and its emitter: a feed and a hand for each antenna, the ring, the works,
-- the value that goes out, and the number of the next one
pub record PartsView : Type 0 where
  pub plan : Plan
  pub feeds : List FeedState
  pub hands : List Hand
  pub ring : RingView
  pub works : List WorkView
  pub outgoing : OutgoingView
  pub sent : ℕ

-- a report in which nothing is counted
abbrev pub no_report : StreamReport
no_report = record {
  taken = 0;
  refused = 0;
  dropped = 0;
  stale = 0;
  evicted = 0;
  baddesc = 0;
  undescribed = 0;
  foreign = 0;
  before = 0;
  offgrid = 0;
  wild = 0;
  beyond = 0;
  late = 0;
  twice = 0;
  used = 0;
  ended = None;
}

-- a feed, a slot, that are none of the core's
abbrev pub no_feed : Plan → FeedState
no_feed plan = record {
  window = record { window = 0; limit = 0; heaps = [] };
  table = [];
  marks = record { above = 0; finished = false };
  columns = no_columns plan 0;
  report = no_report;
}

abbrev pub no_slot_of : Plan → View
no_slot_of plan = empty_slot plan 0 0

-- the feed and the hand of antenna a, work w, slot s
abbrev pub feed_in : PartsView → ℕ → FeedState
feed_in p a = slice_index_or p.feeds a (no_feed p.plan)

abbrev pub hand_in : PartsView → ℕ → Hand
hand_in p a = slice_index_or p.hands a (spare_hand p.plan)

abbrev pub work_in : PartsView → ℕ → WorkView
work_in p w = slice_index_or p.works w (free_work p.plan 0)

abbrev pub slot_in : RingView → ℕ → View
slot_in r s = slice_index_or r.slots s (no_slot_of r.plan)

-- the ring with slot s as said
abbrev pub ring_with : RingView → ℕ → View → RingView
ring_with r s x = record r { slots = slice_set r.slots s x }

-- the parts are as many as the plan says, and of its plan, which is the one that an observation names where it does;
-- and no work has columns whose value it has not computed
pub record IsSoundParts (names : Bool) (named : Plan) (p : PartsView) : Type 0 where
  pub fits : Fits p.plan
  pub named_plan : names ≡ true → p.plan ≡ named
  pub feed_count : length p.feeds ≡ p.plan.antennas
  pub hand_count : length p.hands ≡ p.plan.antennas
  pub work_count_is : length p.works ≡ work_count p.plan
  pub ring_plan : p.ring.plan ≡ p.plan
  pub feed_plans : (a : ℕ) → a < p.plan.antennas → (feed_in p a).columns.plan ≡ p.plan
  pub hand_plans : (a : ℕ) → a < p.plan.antennas → (hand_in p a).column.plan ≡ p.plan
  pub work_plans : (w : ℕ) → w < work_count p.plan → (work_in p w).plan ≡ p.plan
  pub computed : (w : ℕ) → w < work_count p.plan → (work_in p w).stage ≢ Taken
  pub outgoing_plan : p.outgoing.plan ≡ p.plan

-- the stream takes strings: nothing is in its hand, it has not ended, and no column is due
abbrev pub is_ready_feed : FeedState → Bool
is_ready_feed f = is_none f.report.ended && is_none (due_of f)

abbrev pub takes_strings : PartsView → ℕ → Bool
takes_strings p a = not (hand_in p a).is_closed && is_ready_feed (feed_in p a)
