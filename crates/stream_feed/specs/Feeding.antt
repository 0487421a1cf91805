-- What a feed holds, by the byte strings that it took. This project's own.
use Rattle.std.specs.Prelude.{◌≡◌, ◌⊎◌, ℕ, ◌%◌, ◌<◌, ◌≤◌, Bool, true, false, nat_lt, if◌then◌else◌, List, [], ◌∷◌, ◌++◌, length, take, get_or, Option, Some, None, is_some}
use Rattle.corr_model.specs.declared.plan.Plan.{Plan}
use Rattle.corr_model.specs.declared.verdict.Verdict.{Verdict}
use Rattle.corr_model.specs.declared.verdict.Verdict.TheVariants as verdicts
use Rattle.corr_model.specs.declared.verdict.Ending.{Ending}
use Rattle.corr_model.specs.declared.verdict.Ending.TheVariants as endings
use Rattle.corr_model.specs.Plans.{Fits}
use Rattle.corr_model.specs.Packets.{Parts}
use Rattle.corr_model.specs.Windows.{heard}
use Rattle.corr_model.specs.Descriptors.{DescribedItem}
use Rattle.corr_model.specs.Streams.{IsTableOf, column, ending, floor, has_stopped, heaps, taken}
use Rattle.corr_model.specs.PacketVerdicts.{packet_verdict, report}
use Rattle.heap_window.specs.WindowStates.{WindowState, StandsFor as WindowHolds}
use Rattle.slot_column.specs.Columns.{Cells}
use Rattle.stream_rules.specs.Marking.{MarksState, floor_by}
use Rattle.corr_model.specs.Reports.{with_string}
use Rattle.stream_feed.specs.declared.report.StreamReport.{StreamReport}
use Rattle.stream_feed.specs.declared.stream.Heard.{Heard}
use Rattle.stream_feed.specs.Counting.{AreFew, counts_of}
use Rattle.stream_feed.specs.Opening.{OpenState}
use Rattle.stream_feed.specs.Judging.{Agrees, AreSame, KeepsBy}

-- a feed: its window, its table, its marks, its open columns and its report
pub record FeedState : Type 0 where
  pub window : WindowState
  pub table : List DescribedItem
  pub marks : MarksState
  pub columns : OpenState
  pub report : StreamReport

-- what a feed keeps: nothing is counted more often than strings are taken, the marks know of the end, and an open
-- stream has room for a string
pub record IsSoundFeed (f : FeedState) : Type 0 where
  pub fits : Fits f.columns.plan
  pub few : AreFew f.report
  pub finished : f.marks.finished ≡ is_some f.report.ended
  pub room : f.report.ended ≡ None → f.report.taken < f.columns.plan.packet_limit

-- the window is one of the plan, and stands for these heard packets
pub record IsWindowOf (plan : Plan) (window : WindowState) (h : List Parts) : Type 0 where
  pub width : window.window ≡ plan.window
  pub limit : window.limit ≡ plan.heap_limit
  pub stands : WindowHolds window h

-- window, table, marks and columns are those of the list
pub record Holds (window : WindowState) (table : List DescribedItem) (marks : MarksState) (columns : OpenState)
    (l : List (List ℕ)) : Type 0 where
  pub window_of : IsWindowOf columns.plan window (heard columns.plan l)
  pub described : IsTableOf columns.plan columns.antenna table l
  pub agrees : Agrees marks columns (heaps columns.plan columns.antenna l)

-- how a feed ended, where its list ends so by itself: so, and where it does not, not at all or as it was said
abbrev pub EndsAs : Option Ending → Option Ending → Type 0
EndsAs ended (Some own) = ended ≡ Some own
EndsAs ended None = (ended ≡ None) ⊎ ((ended ≡ Some endings.End) ⊎ (ended ≡ Some endings.Fault))

-- the end was said, by the source's end or its fault
abbrev pub is_said : Option Ending → Bool
is_said (Some endings.End) = true
is_said (Some endings.Fault) = true
is_said (Some endings.Stop) = false
is_said (Some endings.Limit) = false
is_said None = false

-- the feed stands for the list of an antenna: window, table, marks and open columns are those of the strings that
-- count, the report is the list's, and it ended as the list does, or as
-- it was said. Of its columns those given are below the floor
pub record StandsBy (plan : Plan) (antenna : ℕ) (f : FeedState) (l : List (List ℕ)) : Type 0 where
  pub holds : Holds f.window f.table f.marks f.columns (taken plan l)
  pub report_is : counts_of f.report ≡ report plan antenna l
  pub ends : EndsAs f.report.ended (ending plan l)
  pub finished : f.marks.finished ≡ is_some f.report.ended
  pub given : f.columns.given ≤ floor plan antenna l (is_some f.report.ended)

-- the feed stands for the list of its antenna by its plan
abbrev pub StandsFor : FeedState → List (List ℕ) → Type 0
StandsFor f l = StandsBy f.columns.plan f.columns.antenna f l

-- of so many columns given, the number of the one that is due: that number where it is below the floor
abbrev pub due_by : ℕ → ℕ → Option ℕ
due_by given floor = if nat_lt given floor then Some given else None

-- the number of the column that is due: the first that was not given, where it is below the floor
abbrev pub due_of : FeedState → Option ℕ
due_of f = due_by f.columns.given (floor_by f.columns.plan f.marks)

-- what becomes of a string after these: its verdict, whether it ends the stream, and what the report, window, table,
-- marks and columns are with it
pub record Hears (plan : Plan) (antenna : ℕ) (window : WindowState) (table : List DescribedItem) (marks : MarksState)
    (columns : OpenState) (l : List (List ℕ)) (b : List ℕ) (heard : Heard) : Type 0 where
  pub verdict_is : heard.verdict ≡ packet_verdict plan antenna (l ++ b ∷ [])
  pub stops : heard.stop ≡ has_stopped plan (l ++ b ∷ [])
  pub report_is : report plan antenna (l ++ b ∷ [])
      ≡ with_string (report plan antenna l) heard.verdict heard.evicts heard.bad
  pub holds : Holds window table marks columns (l ++ b ∷ [])

-- table, marks and columns are as they were
pub record AreSameBehind (table : List DescribedItem) (marks : MarksState) (columns : OpenState)
    (table_now : List DescribedItem) (marks_now : MarksState) (columns_now : OpenState) : Type 0 where
  pub same_table : table_now ≡ table
  pub same : AreSame marks columns marks_now columns_now

-- what a verdict keeps: one on a packet that makes no heap whole keeps table, marks and columns, and one on a heap what
-- it keeps of these
abbrev pub KeepsHeard : Verdict → List DescribedItem → MarksState → OpenState → List DescribedItem → MarksState
    → OpenState → Type 0
KeepsHeard (verdicts.Refused refusal) t m c tn mn cn = AreSameBehind t m c tn mn cn
KeepsHeard (verdicts.Dropped cause) t m c tn mn cn = AreSameBehind t m c tn mn cn
KeepsHeard verdicts.Stale t m c tn mn cn = AreSameBehind t m c tn mn cn
KeepsHeard verdicts.Part t m c tn mn cn = AreSame m c mn cn
KeepsHeard other t m c tn mn cn = KeepsBy other m c mn cn

-- plan, antenna and the number of given columns are as they were
pub record IsSameStream (old new : FeedState) : Type 0 where
  pub same_plan : new.columns.plan ≡ old.columns.plan
  pub same_antenna : new.columns.antenna ≡ old.columns.antenna
  pub same_given : new.columns.given ≡ old.columns.given

-- the column that the feed gives next
abbrev pub next_given : OpenState → Cells → Cells
next_given o d = get_or o.columns (o.given % o.plan.lag) d

-- the column of an accumulation that a list defines
abbrev pub column_of : Plan → ℕ → List (List ℕ) → ℕ → Cells
column_of plan antenna l n = record { plan = plan; antenna = antenna; number = n; cells = column plan antenna l n }

-- the string is the next of the list after so many
pub record IsNext (all : List (List ℕ)) (count : ℕ) (b : List ℕ) : Type 0 where
  pub within : count < length all
  pub is : (d : List ℕ) → get_or all count d ≡ b

-- the feed stands for the first strings of its antenna's list, and for all of them where its end was said
pub record IsOfList (list : ℕ → List (List ℕ)) (f : FeedState) : Type 0 where
  pub stands : StandsFor f (take f.report.taken (list f.columns.antenna))
  pub whole : is_said f.report.ended ≡ true → length (list f.columns.antenna) ≤ f.report.taken

-- the marks of a stream that goes on
abbrev pub going_on : MarksState → MarksState
going_on m = record m { finished = false }
