-- What a whole heap does to the marks and the open columns. This project's own.
use Rattle.std.specs.Prelude.{◌≡◌, ℕ, ◌+◌, ◌<◌, ◌≤◌, max, List, [], ◌∷◌, ◌++◌}
use Rattle.corr_model.specs.declared.verdict.Verdict.{Verdict}
use Rattle.corr_model.specs.declared.verdict.Verdict.TheVariants as verdicts
use Rattle.corr_model.specs.Streams.{JudgedHeap, above_top}
use Rattle.slot_column.specs.declared.column.Placed.{Placed}
use Rattle.slot_column.specs.declared.column.Placed.TheVariants.{New, Twice}
use Rattle.stream_rules.specs.Marking.{MarksState}
use Rattle.stream_feed.specs.Opening.{OpenState, PlacesWithin, PlacesAhead, AreOpen}

-- marks and open columns are those of these heaps
pub record Agrees (marks : MarksState) (columns : OpenState) (js : List JudgedHeap) : Type 0 where
  pub above : marks.above ≡ above_top columns.plan js
  pub are_open : AreOpen columns js

-- the heap has this verdict, and marks and columns are those with it
pub record Judges (marks : MarksState) (columns : OpenState) (js : List JudgedHeap) (j : JudgedHeap)
    (verdict : Verdict) : Type 0 where
  pub verdict_is : verdict ≡ j.verdict
  pub agrees : Agrees marks columns (js ++ j ∷ [])

-- marks and columns are as they were
pub record AreSame (marks : MarksState) (columns : OpenState) (marks_now : MarksState)
    (columns_now : OpenState) : Type 0 where
  pub same_marks : marks_now ≡ marks
  pub same_columns : columns_now ≡ columns

-- the columns are as they were, and the stream goes on as it did
pub record KeepsColumns (marks : MarksState) (columns : OpenState) (marks_now : MarksState)
    (columns_now : OpenState) : Type 0 where
  pub same_columns : columns_now ≡ columns
  pub same_end : marks_now.finished ≡ marks.finished

-- plan, antenna and the number of given columns are as they were, and the stream goes on as it did
pub record KeepsFrame (marks : MarksState) (columns : OpenState) (marks_now : MarksState)
    (columns_now : OpenState) : Type 0 where
  pub same_plan : columns_now.plan ≡ columns.plan
  pub same_antenna : columns_now.antenna ≡ columns.antenna
  pub same_given : columns_now.given ≡ columns.given
  pub same_end : marks_now.finished ≡ marks.finished

-- what a verdict keeps: only Beyond, Twice and Used raise the marks, and only Used changes a column
abbrev pub KeepsBy : Verdict → MarksState → OpenState → MarksState → OpenState → Type 0
KeepsBy (verdicts.Used n t) m c mn cn = KeepsFrame m c mn cn
KeepsBy verdicts.Beyond m c mn cn = KeepsColumns m c mn cn
KeepsBy verdicts.Twice m c mn cn = KeepsColumns m c mn cn
KeepsBy other m c mn cn = AreSame m c mn cn

-- the verdict on the samples that were placed
abbrev pub verdict_on : ℕ → ℕ → Placed → Verdict
verdict_on n t New = verdicts.Used n t
verdict_on n t Twice = verdicts.Twice

-- the samples are placed, and the marks raised
pub record PlacesHeap (m : MarksState) (c : OpenState) (n t : ℕ) (samples : List ℕ) (mn : MarksState) (cn : OpenState)
    (verdict : Verdict) : Type 0 where
  pub answer : Placed
  pub verdict_is : verdict ≡ verdict_on n t answer
  pub marks : mn ≡ record m { above = max m.above (n + 1) }
  pub within : n < c.given + c.plan.lag → PlacesWithin c n t samples answer cn
  pub ahead : c.given + c.plan.lag ≤ n → PlacesAhead c n t samples answer cn
