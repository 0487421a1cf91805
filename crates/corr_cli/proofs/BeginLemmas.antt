-- Lists of sources in which one source after another changes.
use Rattle.std.proofs.Common.{◌≡◌, ◌≢◌, ◌<◌, ◌≤◌, ◌+◌, ◌⊎◌, ℕ, Bool, true, false, List, length, get_or, set, Option, Some, None, Result, Ok, Err, sym, ◌∙◌, ap, subst, arith, inl, inr}
use Rattle.std.specs.Result.{is_err}
use Rattle.std.proofs.Math.ListN.{length-set}
use Rattle.std.proofs.lemmas.List.{get_or-set_same, get_or-set_other, get_or_default}
use Rattle.std.proofs.lemmas.Bool.{cases_lt}
use Rattle.corr_site.specs.declared.place.Place.{Place}
use Rattle.corr_site.specs.Outside.{Begins, IsPlaced, HasCause}
use Rattle.corr_serial.specs.Sources.{AreBegun, KeepsEach, KeepsBelonging, AreSameFrom}
use Rattle.corr_cli.specs.Beginning.{ArePlaced, IsNowAt}

-- a number is another one or not
pub cases_same : (m n : ℕ) → (m ≡ n) ⊎ (m ≢ n)
cases_same m n = elim (cases_lt m n) [
  | inl less ↦ inr (λ e. omega arith)
  | inr more ↦ elim (cases_lt n m) [ inl less ↦ inr (λ e. omega arith) | inr other ↦ inl (omega arith) ]
]

-- what holds of the source that changed, and of the others as they were, holds of each
pub each_set : {S : Type 0} (P : ℕ → S → Type 0) (xs : List S) (i : ℕ) (y d : S) → i < length xs → P i y
    → ((a : ℕ) → a ≢ i → P a (get_or xs a d)) → (a : ℕ) → P a (get_or (set xs i y) a d)
each_set {S} P xs i y d within here others a = elim (cases_same a i) [
  | inl same ↦ subst (λ k. P k (get_or (set xs i y) k d)) (sym same)
      (subst (P i) (sym (get_or-set_same xs i y d within)) here)
  | inr apart ↦ subst (P a) (sym (get_or-set_other xs i a y d apart)) (others a apart)
]

-- the source that was read at a place, with any default
pub read_at : {S : Type 0} (xs : List S) (i : ℕ) (x d : S) → i < length xs → x ≡ get_or xs i x → get_or xs i d ≡ x
read_at xs i x d within is = sym (is ∙ get_or_default xs i x d within)

module _ {S : Type 0} (old now : List S) (i : ℕ) (x y : S) (within : i < length now) (is : x ≡ get_or now i x) where
  pub keeps_set : {A : Type 0} (said : S → A) → said y ≡ said x → KeepsEach said old now
      → KeepsEach said old (set now i y)
  keeps_set said same k = record {
    each = λ a d. each_set (λ a s. said s ≡ said (get_or old a d)) now i y d within
        (same ∙ (ap said (sym (read_at now i x d within is)) ∙ k.each i d)) (λ b apart. k.each b d) a;
  }

  pub belonging_set : (belongs : S → ℕ → Type 0) → ((antenna : ℕ) → belongs x antenna → belongs y antenna)
      → KeepsBelonging belongs old now → KeepsBelonging belongs old (set now i y)
  belonging_set belongs stays k = record {
    each = λ a d antenna. each_set (λ a s. belongs (get_or old a d) antenna → belongs s antenna) now i y d within
        (λ before. stays antenna
        (subst (λ s. belongs s antenna) (read_at now i x d within is) (k.each i d antenna before)))
        (λ b apart. k.each b d antenna) a;
  }

  pub same_from_set : AreSameFrom i old now → AreSameFrom (i + 1) old (set now i y)
  same_from_set k = record {
    each = λ a d past. let apart : a ≢ i =
        λ e. omega arith in let beyond : i ≤ a = omega arith in get_or-set_other now i a y d apart ∙ k.each a d beyond;
  }

  pub begun_set : (begun : S → Bool) (count : ℕ) → begun y ≡ true → AreBegun begun count now
      → AreBegun begun count (set now i y)
  begun_set begun count here k = record {
    each = λ a d. each_set (λ a s. a < count → begun s ≡ true) now i y d within (λ below. here)
        (λ b apart. k.each b d) a;
  }

  -- what is told of the source that was read
  pub at_old : {A : Type 0} (said : S → A) → AreSameFrom i old now → (d : S) → said (get_or old i d) ≡ said x
  at_old said k d = let beyond : i ≤ i = omega arith in ap said (sym (k.each i d beyond) ∙ read_at now i x d within is)

-- after the first i sources are begun
pub record HasBegun {S : Type 0} (gives : S → Option (List (List ℕ))) (given : S → ℕ) (begun : S → Bool)
    (at : S → Option (Option (ℕ × Place))) (belongs : S → ℕ → Type 0) (faults : S → ℕ)
    (places : List Place) (old now : List S) (i : ℕ) : Type 0 where
  pub same_length : length now ≡ length old
  pub later : AreSameFrom i old now
  pub same_gives : KeepsEach gives old now
  pub same_given : KeepsEach given old now
  pub still_belong : KeepsBelonging belongs old now
  pub are_begun : AreBegun begun i now
  pub are_placed : ArePlaced at places i old now
  pub same_faults : KeepsEach faults old now

begun_result : {T E : Type 0} (r : Result T E) (b : Bool) → false ≡ is_err r → Begins r b → b ≡ true
begun_result (Ok x) b ok h = h
begun_result (Err e) b ok h = absurd cc

kept_result : {T E : Type 0} (r : Result T E) (before now : ℕ) → false ≡ is_err r → HasCause before now r → now ≡ before
kept_result (Ok x) before now ok h = h.kept
kept_result (Err e) before now ok h = absurd cc

pub placed_result : {P T E : Type 0} (before now : Option (Option P)) (r : Result T E) (place : P) → false ≡ is_err r
    → IsPlaced before now r place → IsNowAt before now (Some place)
placed_result None now r place ok h = h
placed_result (Some before) now (Ok x) place ok h = h
placed_result (Some before) now (Err e) place ok h = absurd cc

-- one more source is begun
pub begins_on : {S T E : Type 0} (gives : S → Option (List (List ℕ))) (given : S → ℕ) (begun : S → Bool)
    (at : S → Option (Option (ℕ × Place))) (belongs : S → ℕ → Type 0) (faults : S → ℕ)
    (places : List Place) (old now : List S) (i : ℕ) (x y : S) (q : Place) (r : Result T E)
    → HasBegun gives given begun at belongs faults places old now i → i < length now → x ≡ get_or now i x
    → i < length places → q ≡ get_or places i q → false ≡ is_err r → gives y ≡ gives x → given y ≡ given x
    → Begins r (begun y) → IsPlaced (at x) (at y) r (i, q)
    → ((a : ℕ) → belongs x a → belongs y a) → HasCause (faults x) (faults y) r
    → HasBegun gives given begun at belongs faults places old (set now i y) (i + 1)
begins_on gives given begun at belongs faults places old now i x y q r h within is inside q_is ok same_gives same_given
    begins place belong cause =
    let here : begun y ≡ true = begun_result r (begun y) ok begins in
    let placed : (p : Place) → IsNowAt (at x) (at y) (Some (i, get_or places i p)) =
    λ p. placed_result (at x) (at y) r (i, get_or places i p) ok
    (subst (λ k. IsPlaced (at x) (at y) r (i, k)) (q_is ∙ get_or_default places i q p inside) place) in
    record {
      same_length = length-set now i y ∙ h.same_length;
      later = same_from_set old now i x y within is h.later;
      same_gives = keeps_set old now i x y within is gives same_gives h.same_gives;
      same_given = keeps_set old now i x y within is given same_given h.same_given;
      still_belong = belonging_set old now i x y within is belongs belong h.still_belong;
      are_begun = record {
        each =
            λ a d. each_set (λ b s. b < i + 1 → begun s ≡ true) now i y d within (λ below. here)
            (λ b apart below. h.are_begun.each b d (omega arith)) a;
      };
      are_placed = record {
        each = λ a d p. each_set (λ b s. b < i + 1 → IsNowAt (at (get_or old b d)) (at s) (Some (b, get_or places b p)))
            now i y d within
            (λ below. subst (λ o. IsNowAt o (at y) (Some (i, get_or places i p)))
            (sym (at_old old now i x y within is at h.later d)) (placed p))
            (λ b apart below. h.are_placed.each b d p (omega arith)) a;
      };
      same_faults = keeps_set old now i x y within is faults (kept_result r (faults x) (faults y) ok cause)
          h.same_faults;
    }
