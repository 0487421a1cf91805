-- Lists in which one element after another changes.
use Rattle.std.proofs.Common.{◌≡◌, ◌≢◌, ◌⊎◌, ◌<◌, ◌≤◌, ℕ, Bool, true, false, cond, eqb, List, length, get_or, set, sym, ◌∙◌, ap, subst, arith, inl, inr}
use Rattle.std.proofs.lemmas.List.{get_or-set_same, get_or-set_other, get_or_default}
use Rattle.std.proofs.lemmas.Bool.{cases_lt, cond-true, cond-false, eq-eqb, ne_eqb}

-- a number is another one or not
pub cases_same : (m n : ℕ) → (m ≡ n) ⊎ (m ≢ n)
cases_same m n = elim (cases_lt m n) [
  | inl less ↦ inr (λ e. omega arith)
  | inr more ↦ elim (cases_lt n m) [ inl less ↦ inr (λ e. omega arith) | inr other ↦ inl (omega arith) ]
]

-- what is said by number, but for one number
abbrev pub put : {L : Type 0} → (ℕ → L) → ℕ → L → ℕ → L
put h i m a = cond (eqb a i) m (h a)

pub put_here : {L : Type 0} (h : ℕ → L) (i : ℕ) (m : L) → put h i m i ≡ m
put_here h i m = let same : i ≡ i = omega arith in cond-true (eqb i i) m (h i) (eq-eqb i i same)

pub put_other : {L : Type 0} (h : ℕ → L) (i a : ℕ) (m : L) → a ≢ i → put h i m a ≡ h a
put_other h i a m apart = cond-false (eqb a i) m (h a) (ne_eqb a i apart)

-- what holds of the element that changed, and of the others as they were, holds of each
pub each_set : {S : Type 0} (P : ℕ → S → Type 0) (xs : List S) (i : ℕ) (y d : S) → i < length xs → P i y
    → ((a : ℕ) → a ≢ i → P a (get_or xs a d)) → (a : ℕ) → P a (get_or (set xs i y) a d)
each_set {S} P xs i y d within here others a = elim (cases_same a i) [
  | inl same ↦ subst (λ k. P k (get_or (set xs i y) k d)) (sym same)
      (subst (P i) (sym (get_or-set_same xs i y d within)) here)
  | inr apart ↦ subst (P a) (sym (get_or-set_other xs i a y d apart)) (others a apart)
]

-- the element that was read at a place, with any default
pub read_at : {S : Type 0} (xs : List S) (i : ℕ) (x d : S) → i < length xs → x ≡ get_or xs i x → get_or xs i d ≡ x
read_at xs i x d within is = sym (is ∙ get_or_default xs i x d within)

-- the same of two lists and of what is said by number
pub each_put : {S F L : Type 0} (P : ℕ → S → F → L → Type 0) (ss : List S) (fs : List F) (h : ℕ → L) (i : ℕ) (y s : S)
    (g f : F) (m : L) → i < length ss → i < length fs
    → P i y g m → ((a : ℕ) → a ≢ i → P a (get_or ss a s) (get_or fs a f) (h a)) → (a : ℕ)
    → P a (get_or (set ss i y) a s) (get_or (set fs i g) a f) (put h i m a)
each_put P ss fs h i y s g f m low high here others a = elim (cases_same a i) [
  | inl same ↦ subst (λ k. P k (get_or (set ss i y) k s) (get_or (set fs i g) k f) (put h i m k)) (sym same)
      (subst (λ u. P i u (get_or (set fs i g) i f) (put h i m i)) (sym (get_or-set_same ss i y s low))
      (subst (λ u. P i y u (put h i m i)) (sym (get_or-set_same fs i g f high))
      (subst (λ u. P i y g u) (sym (put_here h i m)) here)))
  | inr apart ↦
      subst (λ u. P a u (get_or (set fs i g) a f) (put h i m a)) (sym (get_or-set_other ss i a y s apart))
      (subst (λ u. P a (get_or ss a s) u (put h i m a)) (sym (get_or-set_other fs i a g f apart))
      (subst (λ u. P a (get_or ss a s) (get_or fs a f) u) (sym (put_other h i a m apart)) (others a apart)))
]

-- and back: of the element that changed, and of the others
pub at_put : {F L : Type 0} (Q : F → L → Type 0) (fs : List F) (h : ℕ → L) (i : ℕ) (g f : F) (m : L) → i < length fs
    → Q (get_or (set fs i g) i f) (put h i m i) → Q g m
at_put Q fs h i g f m low q =
    subst (λ u. Q g u) (put_here h i m) (subst (λ u. Q u (put h i m i)) (get_or-set_same fs i g f low) q)

pub off_put : {F L : Type 0} (Q : F → L → Type 0) (fs : List F) (h : ℕ → L) (i a : ℕ) (g f : F) (m : L) → a ≢ i
    → Q (get_or (set fs i g) a f) (put h i m a) → Q (get_or fs a f) (h a)
off_put Q fs h i a g f m apart q =
    subst (λ u. Q (get_or fs a f) u) (put_other h i a m apart)
    (subst (λ u. Q u (put h i m a)) (get_or-set_other fs i a g f apart) q)
