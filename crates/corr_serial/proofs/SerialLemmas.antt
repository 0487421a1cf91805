-- The reports of a run, and the first stream that failed.
use Rattle.std.proofs.Common.{◌≡◌, ◌<◌, ◌≤◌, ◌+◌, ℕ, Bool, true, false, List, length, get_or, set, Option, Some, None, refl, sym, ◌∙◌, ap, subst, arith, inl, inr}
use Rattle.std.proofs.lemmas.List.{length-set, get_or_default}
use Rattle.std.proofs.lemmas.Bool.{cases_lt}
use Rattle.stream_feed.specs.declared.report.StreamReport.{StreamReport}
use Rattle.stream_feed.specs.Feeding.{FeedState}
use Rattle.corr_serial.specs.Hearing.{is_fault}
use Rattle.corr_serial.specs.Runs.{AreReportsOf, IsFirst}
use Rattle.corr_serial.proofs.SetLemmas.{each_set, read_at}

-- the first so many reports are those of their feeds
pub record HasReports (feeds : List FeedState) (i : ℕ) (reports : List StreamReport) : Type 0 where
  pub as_many : length reports ≡ length feeds
  pub each : (a : ℕ) (f : FeedState) (r : StreamReport) → a < i → a < length feeds
      → get_or reports a r ≡ (get_or feeds a f).report

pub reports_none : (feeds : List FeedState) (reports : List StreamReport) → length reports ≡ length feeds
    → HasReports feeds 0 reports
reports_none feeds reports many = record { as_many = many; each = λ a f r low lt. absurd (omega arith) }

pub reports_more : (feeds : List FeedState) (i : ℕ) (reports : List StreamReport) (q : FeedState) (x : StreamReport)
    → HasReports feeds i reports → i < length feeds → q ≡ get_or feeds i q → x ≡ q.report
    → HasReports feeds (i + 1) (set reports i x)
reports_more feeds i reports q x h lt is report_is = record {
  as_many = length-set reports i x ∙ h.as_many;
  each = λ a f r low few.
      each_set (λ b y. b < i + 1 → b < length feeds → y ≡ (get_or feeds b f).report) reports i x r
      (let many = h.as_many in omega (arith, many, lt))
      (λ u v. report_is ∙ ap (λ (z : FeedState). z.report) (sym (read_at feeds i q f lt is)))
      (λ b apart u v. h.each b f r (omega arith) v) a low few;
}

pub reports_all : (feeds : List FeedState) (i : ℕ) (reports : List StreamReport) → HasReports feeds i reports
    → length feeds ≤ i → AreReportsOf feeds reports
reports_all feeds i reports h all = record { as_many = h.as_many; each = λ a f r lt. h.each a f r (omega arith) lt }

-- none of the first so many ended by a fault
pub record NoneFailed (i : ℕ) (reports : List StreamReport) : Type 0 where
  pub each : (a : ℕ) (r : StreamReport) → a < i → a < length reports → is_fault (get_or reports a r).ended ≡ false

pub none_failed_yet : (reports : List StreamReport) → NoneFailed 0 reports
none_failed_yet reports = record { each = λ a r low lt. absurd (omega arith) }

pub none_failed_more : (i : ℕ) (reports : List StreamReport) (x : StreamReport) → NoneFailed i reports
    → i < length reports → x ≡ get_or reports i x → is_fault x.ended ≡ false → NoneFailed (i + 1) reports
none_failed_more i reports x h lt is off = record {
  each = λ a r low few. elim (cases_lt a i) [
    | inl below ↦ h.each a r below few
    | inr high ↦ let same : i ≡ a =
        omega arith in subst (λ b. is_fault (get_or reports b r).ended ≡ false) same
        (ap (λ (y : StreamReport). is_fault y.ended) (read_at reports i x r lt is) ∙ off)
  ];
}

pub first_failed : (i : ℕ) (reports : List StreamReport) (x : StreamReport) → NoneFailed i reports → i < length reports
    → x ≡ get_or reports i x → is_fault x.ended ≡ true → IsFirst reports i
first_failed i reports x h lt is on = record {
  within = lt;
  fault = λ r. ap (λ (y : StreamReport). is_fault y.ended) (read_at reports i x r lt is) ∙ on;
  before = λ a r low. h.each a r low (omega (arith, low, lt));
}

-- the same of a report that was read with some default
pub first_failed_at : (i : ℕ) (reports : List StreamReport) (d : StreamReport) (b : Bool) → NoneFailed i reports
    → i < length reports → b ≡ is_fault (get_or reports i d).ended → b ≡ true → IsFirst reports i
first_failed_at i reports d b h lt e on =
    first_failed i reports (get_or reports i d) h lt (get_or_default reports i d (get_or reports i d) lt) (sym e ∙ on)

pub none_failed_at : (i : ℕ) (reports : List StreamReport) (d : StreamReport) (b : Bool) → NoneFailed i reports
    → i < length reports → b ≡ is_fault (get_or reports i d).ended → b ≡ false → NoneFailed (i + 1) reports
none_failed_at i reports d b h lt e off =
    none_failed_more i reports (get_or reports i d) h lt
    (get_or_default reports i d (get_or reports i d) lt) (sym e ∙ off)

pub none_failed_all : (i : ℕ) (reports : List StreamReport) → NoneFailed i reports → length reports ≤ i
    → (a : ℕ) (r : StreamReport) → a < length reports → is_fault (get_or reports a r).ended ≡ false
none_failed_all i reports h all a r lt = h.each a r (omega arith) lt
