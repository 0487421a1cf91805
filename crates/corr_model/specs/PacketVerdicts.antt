-- What a packet is to its heap, the verdict on each string of a stream, and the report on a stream.
-- This project's own.
use Rattle.std.specs.Prelude.{ℕ, ◌+◌, ◌-◌, Bool, true, false, not, ◌&&◌, ◌||◌, nat_lt, if◌then◌else◌, List, [], ◌∷◌, ◌++◌, length, take, map, count_by, slice_get, Option, Some, None, is_some, option_and_then, option_map, unwrap_or}
use Rattle.corr_model.specs.declared.plan.Plan.{Plan}
use Rattle.corr_model.specs.declared.pointer.Refusal.{Refusal}
use Rattle.corr_model.specs.declared.heap.DropCause.{DropCause}
use Rattle.corr_model.specs.declared.heap.DropCause.TheVariants.{PastLimit}
use Rattle.corr_model.specs.declared.verdict.Verdict.{Verdict}
use Rattle.corr_model.specs.declared.verdict.Verdict.TheVariants as verdicts
use Rattle.corr_model.specs.Lists.{fronts, last_one, passes}
use Rattle.corr_model.specs.Packets.{Parts, refusal_of, parts_in}
use Rattle.corr_model.specs.Windows.{PlacedPacket, is_within, openings, is_opening, place_next, members, placed, placed_in}
use Rattle.corr_model.specs.Assembly.{Fate, kept, fates, whole_front, WholeHeap, heap_of, Standing, Before, Whole, After, standing, members_with}
use Rattle.corr_model.specs.Streams.{JudgedHeap, described_by, heaps, taken}
use Rattle.corr_model.specs.Tables.{bad_count}

-- what a packet is to its heap
pub data Outcome : Type 0 where
  Part : Outcome  -- it is kept, and the heap is not whole yet
  Makes : (heap : WholeHeap) → Outcome  -- the heap is whole at it
  Stale : Outcome  -- the heap was whole before
  Dropped : (cause : DropCause) → Outcome  -- the heap does not keep it

-- kept, or dropped for this cause
abbrev pub kept_or_dropped : Option DropCause → Outcome
kept_or_dropped None = Part
kept_or_dropped (Some cause) = Dropped cause

-- what a member of this fate is to a heap that is not whole
abbrev pub by_fate : Option Fate → Outcome
by_fate None = Part
by_fate (Some fate) = kept_or_dropped fate.cause

-- what the last of these members is to their heap, by its standing
abbrev pub by_standing : ℕ → List PlacedPacket → Standing → Outcome
by_standing counter ms Before = by_fate (last_one (fates ms))
by_standing counter ms (Whole front) = Makes (heap_of counter (kept front))
by_standing counter ms After = Stale

-- what the last of these members is to their heap, which has this counter
abbrev pub member_outcome : ℕ → List PlacedPacket → Outcome
member_outcome counter ms = by_standing counter ms (standing ms)

-- what q, the last of these heard packets, is to its heap
abbrev pub outcome_with : ℕ → List PlacedPacket → PlacedPacket → Outcome
outcome_with window ps q = member_outcome q.packet.counter (members_with window ps q)

-- what a packet is after these heard packets: dropped past the limit, else what it is to its heap
abbrev pub next_outcome : ℕ → ℕ → List Parts → Parts → Outcome
next_outcome limit window h p =
    if is_within limit p then outcome_with window (placed window (h ++ p ∷ [])) (place_next window (placed window h) p)
    else Dropped PastLimit

-- the heap that is whole at the packet, if one is
abbrev pub heap_made : Outcome → Option WholeHeap
heap_made (Makes heap) = Some heap
heap_made Part = None
heap_made Stale = None
heap_made (Dropped cause) = None

-- the opening that has to leave the window at the next one: the one W openings before it, if there are so many
abbrev pub leaving : ℕ → List PlacedPacket → Option PlacedPacket
leaving window before =
    if nat_lt (length (openings before)) window then None
    else slice_get (openings before) (length (openings before) - window)

-- after these packets, the counter of the heap that an opening
-- evicts: that of the heap that leaves, where it is not whole
abbrev pub evicted_of : ℕ → List PlacedPacket → Option ℕ
evicted_of window before =
    option_and_then (λ o. if is_some (whole_front (members window before o)) then None else Some o.packet.counter)
    (leaving window before)

-- the counter of the heap that a heard packet evicts, where it opens a heap and the heap that leaves is not whole
abbrev pub next_evicted : ℕ → List PlacedPacket → Parts → Option ℕ
next_evicted window before p = if is_opening window before p then evicted_of window before else None

-- the verdict of the heap that was judged last
abbrev pub verdict_of_last : Option JudgedHeap → Verdict
verdict_of_last None = verdicts.Part
verdict_of_last (Some j) = j.verdict

-- the verdict of a packet by what it is to its heap; where it
-- makes the heap whole, that is the last of the judged heaps
abbrev pub verdict_by : List JudgedHeap → Outcome → Verdict
verdict_by js Part = verdicts.Part
verdict_by js (Makes heap) = verdict_of_last (last_one js)
verdict_by js Stale = verdicts.Stale
verdict_by js (Dropped cause) = verdicts.Dropped cause

-- what the last of these heard packets is to its heap
abbrev pub last_outcome : ℕ → List PlacedPacket → Outcome
last_outcome window ps = unwrap_or (option_map (outcome_with window ps) (last_one ps)) Part

-- the verdict of the last string of these, which has this refusal, if it has one: refused, or dropped past the limit,
-- or else that of its packet
abbrev pub verdict_after : Plan → ℕ → List (List ℕ) → List ℕ → Option Refusal → Verdict
verdict_after plan antenna l bytes (Some refusal) = verdicts.Refused refusal
verdict_after plan antenna l bytes None =
    if is_within plan.heap_limit (parts_in bytes)
    then verdict_by (heaps plan antenna l) (last_outcome plan.window (placed_in plan l))
    else verdicts.Dropped PastLimit

-- the verdict of the last of these strings, all of which count
abbrev pub packet_verdict : Plan → ℕ → List (List ℕ) → Verdict
packet_verdict plan antenna l =
    unwrap_or (option_map (λ bytes. verdict_after plan antenna l bytes (refusal_of bytes)) (last_one l)) verdicts.Part

-- the verdict of each string that counts, in order
abbrev pub packet_verdicts : Plan → ℕ → List (List ℕ) → List Verdict
packet_verdicts plan antenna l = map (packet_verdict plan antenna) (fronts (taken plan l))

-- the last of these heard packets opens a heap, and the heap that leaves is not whole
abbrev pub evicts : ℕ → List PlacedPacket → Bool
evicts window ps = passes (λ q. q.opens && is_some (evicted_of window (take q.place ps))) (last_one ps)

-- the number of heaps that were evicted while they were not whole
abbrev pub evicted_count : ℕ → List PlacedPacket → ℕ
evicted_count window ps = count_by (evicts window) (fronts ps)

-- what is reported of a stream: the number of strings that counted, of heaps that were evicted and not whole, of bad
-- descriptors, and of strings by verdict
pub record Report : Type 0 where
  pub taken : ℕ
  pub refused : ℕ
  pub dropped : ℕ
  pub stale : ℕ
  pub evicted : ℕ
  pub baddesc : ℕ
  pub undescribed : ℕ
  pub foreign : ℕ
  pub before : ℕ
  pub offgrid : ℕ
  pub wild : ℕ
  pub beyond : ℕ
  pub late : ℕ
  pub twice : ℕ
  pub used : ℕ

-- the verdict is that of a string that is no packet
abbrev pub is_refused : Verdict → Bool
is_refused (verdicts.Refused refusal) = true
is_refused other = false

-- the verdict is that of a packet that no heap keeps
abbrev pub is_dropped : Verdict → Bool
is_dropped (verdicts.Dropped cause) = true
is_dropped other = false

-- the verdict is that of a heap of another antenna
abbrev pub is_foreign : Verdict → Bool
is_foreign (verdicts.Foreign antenna) = true
is_foreign other = false

-- the verdict is that of a heap that is used
abbrev pub is_used : Verdict → Bool
is_used (verdicts.Used n t) = true
is_used other = false

-- the verdict is that of a packet whose heap was whole before
abbrev pub is_stale : Verdict → Bool
is_stale verdicts.Stale = true
is_stale other = false

-- the verdict is that of a heap that is not readable
abbrev pub is_undescribed : Verdict → Bool
is_undescribed verdicts.Undescribed = true
is_undescribed other = false

-- the verdict is that of a heap whose timestamp is before the start
abbrev pub is_before_start : Verdict → Bool
is_before_start verdicts.BeforeStart = true
is_before_start other = false

-- the verdict is that of a heap whose timestamp is not on the grid of steps
abbrev pub is_off_grid : Verdict → Bool
is_off_grid verdicts.OffGrid = true
is_off_grid other = false

-- the verdict is that of a heap that is too far ahead
abbrev pub is_wild : Verdict → Bool
is_wild verdicts.Wild = true
is_wild other = false

-- the verdict is that of a heap past the last accumulation
abbrev pub is_beyond : Verdict → Bool
is_beyond verdicts.Beyond = true
is_beyond other = false

-- the verdict is that of a heap below the floor
abbrev pub is_late : Verdict → Bool
is_late verdicts.Late = true
is_late other = false

-- the verdict is that of a heap at whose place another was used
abbrev pub is_twice : Verdict → Bool
is_twice verdicts.Twice = true
is_twice other = false

-- the verdict is that of a packet that is kept, and its heap is not whole yet
abbrev pub is_part : Verdict → Bool
is_part verdicts.Part = true
is_part other = false

-- the verdict is that of a stop heap
abbrev pub is_stop : Verdict → Bool
is_stop verdicts.Stop = true
is_stop other = false

-- the verdict is that of a whole heap: it is no refusal and no drop, not stale and no part
abbrev pub is_of_heap : Verdict → Bool
is_of_heap v = not (is_refused v || is_dropped v || is_stale v || is_part v)

-- the number of strings that a report counts by their verdicts
abbrev pub counted : Report → ℕ
counted r =
    r.refused + r.dropped + r.stale + r.undescribed + r.foreign + r.before + r.offgrid + r.wild + r.beyond + r.late
    + r.twice + r.used

-- the report on these verdicts
abbrev pub report_on : ℕ → ℕ → List Verdict → Report
report_on evicted baddesc vs = record {
  taken = length vs;
  refused = count_by is_refused vs;
  dropped = count_by is_dropped vs;
  stale = count_by is_stale vs;
  evicted = evicted;
  baddesc = baddesc;
  undescribed = count_by is_undescribed vs;
  foreign = count_by is_foreign vs;
  before = count_by is_before_start vs;
  offgrid = count_by is_off_grid vs;
  wild = count_by is_wild vs;
  beyond = count_by is_beyond vs;
  late = count_by is_late vs;
  twice = count_by is_twice vs;
  used = count_by is_used vs;
}

-- the report on a stream
abbrev pub report : Plan → ℕ → List (List ℕ) → Report
report plan antenna l =
    report_on (evicted_count plan.window (placed_in plan (taken plan l)))
    (bad_count plan (described_by (heaps plan antenna l)))
    (packet_verdicts plan antenna l)
