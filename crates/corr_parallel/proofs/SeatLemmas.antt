-- Seats that get their receivers one by one, and give their reports.
use Rattle.std.proofs.Common.{◌≡◌, ◌≢◌, ℕ, ◌+◌, ◌<◌, ◌≤◌, List, ◌∷◌, length, get_or, set, Option, Some, None, refl, sym}
use Rattle.std.proofs.Common.{ap, ◌∙◌, subst, arith, inl, inr}
use Rattle.std.specs.Prelude.{MatchOption}
use Rattle.std.proofs.lemmas.List.{length-set, get_or-set_other, get_or_default}
use Rattle.stream_feed.specs.declared.report.StreamReport.{StreamReport}
use Rattle.corr_serial.proofs.SetLemmas.{each_set, read_at}
use Rattle.corr_threads.specs.Receivers.{ReceiverView}
use Rattle.corr_parallel.specs.Seats.{IsSeatOf}
use Rattle.corr_parallel.proofs.SharedLemmas.{Left, left_next}

-- the first n seats have their receivers, and the others are as they were
pub record SeatedTo {T S : Type 0} (source : T → S) (receiver : T → Option ReceiverView) (receivers : List ReceiverView)
    (before now : List T) (n : ℕ) : Type 0 where
  pub as_many : length now ≡ length before
  pub seated : (a : ℕ) (d : T) (v : ReceiverView) → a < n → a < length before
      → IsSeatOf (source (get_or before a d)) (get_or receivers a v) (source (get_or now a d))
      (receiver (get_or now a d))
  pub rest : (a : ℕ) (d : T) → n ≤ a → get_or now a d ≡ get_or before a d

pub seated_none : {T S : Type 0} (source : T → S) (receiver : T → Option ReceiverView) (receivers : List ReceiverView)
    (seats : List T) → SeatedTo source receiver receivers seats seats 0
seated_none source receiver receivers seats =
    record { as_many = refl; seated = λ a d v low few. absurd (omega arith); rest = λ a d high. refl }

-- the next of a list that is not at its end
pub next_some : {X : Type 0} (items rest after : List X) (len later n : ℕ) (r : Option X) → Left items rest len n
    → n < length items
    → MatchOption r ((len ≡ 0) × (later ≡ 0)) (λ x. (rest ≡ x ∷ after) × (later + 1 ≡ len))
    → ((v : X) → r ≡ Some (get_or items n v)) × Left items after later (n + 1)
next_some items rest after len later n None h low step =
    absurd (let none = step.0 in let m = h.counted in omega (arith, none, m, low))
next_some items rest after len later n (Some x) h low step =
    let k = left_next items rest after x len later n h step.0 step.1 low in
    (λ v. ap Some (k.0 ∙ get_or_default items n x v low), k.1)

pub seated_more : {T S : Type 0} (source : T → S) (receiver : T → Option ReceiverView) (receivers : List ReceiverView)
    (before now : List T) (n : ℕ) (x y : T) (r : Option ReceiverView) → SeatedTo source receiver receivers before now n
    → n < length before
    → x ≡ get_or now n x → source y ≡ source x → receiver y ≡ r → ((v : ReceiverView) → r ≡ Some (get_or receivers n v))
    → SeatedTo source receiver receivers before (set now n y) (n + 1)
seated_more source receiver receivers before now n x y r h low is_x same is_r next =
    let within : n < length now = let many = h.as_many in omega (arith, many, low) in
    record {
      as_many = length-set now n y ∙ h.as_many;
      seated = λ a d v under few. each_set
          (λ b t. b < n + 1 → b < length before
          → IsSeatOf (source (get_or before b d)) (get_or receivers b v) (source t) (receiver t)) now n y d within
          (λ u w. record {
            same_source = same
                ∙ ap source (sym (read_at now n x d within is_x) ∙ h.rest n d (omega arith));
            is = is_r ∙ next v;
          })
          (λ b apart u w. h.seated b d v (omega (arith, apart, u)) w) a under few;
      rest = λ a d high. get_or-set_other now n a y d (λ e. omega (arith, e, high)) ∙ h.rest a d (omega (arith, high));
    }

-- the first n reports are those of the seats' receivers
pub record ReportedTo {T : Type 0} (receiver : T → Option ReceiverView) (seats : List T) (reports : List StreamReport)
    (n : ℕ) : Type 0 where
  pub as_many : length reports ≡ length seats
  pub each : (a : ℕ) (d : T) (v : ReceiverView) (r : StreamReport) → a < n → a < length seats
      → receiver (get_or seats a d) ≡ Some v → get_or reports a r ≡ v.feed.report

pub reported_none : {T : Type 0} (receiver : T → Option ReceiverView) (seats : List T) (reports : List StreamReport)
    → length reports ≡ length seats → ReportedTo receiver seats reports 0
reported_none receiver seats reports many = record { as_many = many; each = λ a d v r low few is. absurd (omega arith) }

pub reported_more : {T : Type 0} (receiver : T → Option ReceiverView) (seats : List T) (reports : List StreamReport)
    (n : ℕ) (x : T) (y : StreamReport) → ReportedTo receiver seats reports n → n < length seats
    → x ≡ get_or seats n x → ((v : ReceiverView) → receiver x ≡ Some v → y ≡ v.feed.report)
    → ReportedTo receiver seats (set reports n y) (n + 1)
reported_more receiver seats reports n x y h low is_x is_y =
    let within : n < length reports = let many = h.as_many in omega (arith, many, low) in
    record {
      as_many = length-set reports n y ∙ h.as_many;
      each = λ a d v r under few is. each_set
          (λ b z. b < n + 1 → b < length seats → receiver (get_or seats b d) ≡ Some v → z ≡ v.feed.report) reports n y r
          within
          (λ u k e. is_y v (ap receiver (sym (read_at seats n x d low is_x)) ∙ e))
          (λ b apart u k e. h.each b d v r (omega (arith, apart, u)) k e) a under few is;
    }
