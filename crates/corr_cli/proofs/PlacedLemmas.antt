-- Sources and a sink that are begun at their own places.
use Rattle.std.proofs.Common.{◌≡◌, ◌<◌, ◌≤◌, ◌+◌, ℕ, Bool, true, false, List, length, get_or, Option, Some, None, sym, ◌∙◌, ap, subst, arith, inl, inr}
use Rattle.std.specs.List.{All}
use Rattle.std.proofs.lemmas.List.Elements.{All-get_or}
use Rattle.std.proofs.lemmas.Bool.{cases_lt}
use Rattle.corr_site.specs.declared.place.Place.{Place}
use Rattle.corr_serial.specs.Sources.{AreSameFrom, KeepsEach}
use Rattle.corr_cli.specs.Beginning.{IsNowAt, ArePlaced, ArePlacedBefore, AreBegunBefore}
use Rattle.corr_cli.specs.Placing.{IsAtOwn, AreAtOwn}
use Rattle.corr_cli.proofs.BeginLemmas.{cases_same}

pub own_of : {P : Type 0} (before now : Option (Option P)) (begun : Bool) (own : P) → IsNowAt before now (Some own)
    → IsAtOwn begun now own
own_of None now begun own h = λ is told e. absurd (let both : None ≡ Some told = sym h ∙ e in cc)
own_of (Some before) now begun own h = λ is told e. let both : Some (Some own) ≡ Some told = sym h ∙ e in cc

-- what is not begun is at no other place
pub not_begun : {P : Type 0} (begun : Bool) (at : Option (Option P)) (own : P) → begun ≡ false → IsAtOwn begun at own
not_begun begun at own un = λ is told e. absurd (let both : true ≡ false = sym is ∙ un in cc)

module _ {S : Type 0} (begun : S → Bool) (at : S → Option (Option (ℕ × Place))) (places : List Place) (old now : List S)
    (none : All (λ s. begun s ≡ false) old) (same : length now ≡ length old) where
  -- a source that is as it was is not begun
  as_before : (count a : ℕ) (d : S) → AreSameFrom count old now → count ≤ a → a < length now
      → begun (get_or now a d) ≡ false
  as_before count a d later past within =
      ap begun (later.each a d past) ∙ All-get_or (λ s. begun s ≡ false) old a d (omega (arith, within, same)) none

  -- no source was begun
  pub none_placed : AreSameFrom 0 old now → AreAtOwn begun at places now
  none_placed later = record {
    each = λ a d p below within.
        not_begun (begun (get_or now a d)) (at (get_or now a d)) (a, get_or places a p)
        (as_before 0 a d later (omega arith) within);
    others = λ a d past within. as_before 0 a d later (omega arith) within;
  }

  -- all sources were begun
  pub all_placed : ArePlaced at places (length places) old now → AreSameFrom (length places) old now
      → AreAtOwn begun at places now
  all_placed placed later = record {
    each = λ a d p below within.
        own_of (at (get_or old a d)) (at (get_or now a d)) (begun (get_or now a d)) (a, get_or places a p)
        (placed.each a d p below);
    others = λ a d past within. as_before (length places) a d later past within;
  }

  -- the sources before one that failed were begun
  pub some_placed : (failed : ℕ) → failed < length places → ArePlacedBefore at places failed old now
      → AreBegunBefore begun failed now → AreSameFrom (failed + 1) old now → AreAtOwn begun at places now
  some_placed failed inside placed unbegun later = record {
    each = λ a d p below within. elim (cases_lt a failed) [
      | inl before ↦ own_of (at (get_or old a d)) (at (get_or now a d)) (begun (get_or now a d)) (a, get_or places a p)
          (placed.before.each a d p before)
      | inr past ↦ not_begun (begun (get_or now a d)) (at (get_or now a d)) (a, get_or places a p)
          (elim (cases_same a failed) [
            | inl is ↦ subst (λ k. begun (get_or now k d) ≡ false) (sym is) (unbegun.not_begun d)
            | inr apart ↦ as_before (failed + 1) a d later (omega (arith, past, apart)) within
          ])
    ];
    others = λ a d past within. as_before (failed + 1) a d later (omega (arith, past, inside)) within;
  }

-- what came later moved no source
pub placed_later : {S : Type 0} (at : S → Option (Option (ℕ × Place))) (places : List Place) (count : ℕ)
    (old mid now : List S) → ArePlaced at places count old mid → KeepsEach at mid now
    → ArePlaced at places count old now
placed_later at places count old mid now placed keeps =
    record {
      each = λ a d p within.
          moved (at (get_or old a d)) (at (get_or mid a d)) (at (get_or now a d)) (Some (a, get_or places a p))
          (keeps.each a d) (placed.each a d p within);
    }
  where
    moved : (before mid now : Option (Option (ℕ × Place))) (place : Option (ℕ × Place)) → now ≡ mid
        → IsNowAt before mid place → IsNowAt before now place
    moved None mid now place same h = same ∙ h
    moved (Some before) mid now place same h = same ∙ h

pub same_later : {S : Type 0} (count : ℕ) (old mid now : List S) → AreSameFrom count old mid → AreSameFrom count mid now
    → AreSameFrom count old now
same_later count old mid now first second = record { each = λ a d past. second.each a d past ∙ first.each a d past }
