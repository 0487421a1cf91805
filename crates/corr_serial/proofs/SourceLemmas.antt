-- What stays of the sources of a run.
use Rattle.std.proofs.Common.{◌≡◌, ◌<◌, ◌≤◌, ℕ, Bool, true, List, length, get_or, set, refl, sym, ◌∙◌, ap, subst, arith}
use Rattle.std.proofs.lemmas.List.{get_or-set_other}
use Rattle.corr_serial.specs.Sources.{AreBegun, KeepsEach, KeepsBelonging, AreSameFrom, KeepsSource, KeepsSources}
use Rattle.corr_serial.proofs.SetLemmas.{each_set, read_at}

module _ {S : Type 0} (old now : List S) (i : ℕ) (x y : S) (within : i < length now) (is : x ≡ get_or now i x) where
  pub keeps_set : {A : Type 0} (said : S → A) → said y ≡ said x → KeepsEach said old now
      → KeepsEach said old (set now i y)
  keeps_set said same k = record {
    each = λ a d. each_set (λ a s. said s ≡ said (get_or old a d)) now i y d within
        (same ∙ (ap said (sym (read_at now i x d within is)) ∙ k.each i d)) (λ b apart. k.each b d) a;
  }

  belonging_set : (belongs : S → ℕ → Type 0) → ((antenna : ℕ) → belongs x antenna → belongs y antenna)
      → KeepsBelonging belongs old now → KeepsBelonging belongs old (set now i y)
  belonging_set belongs stays k = record {
    each = λ a d antenna. each_set (λ a s. belongs (get_or old a d) antenna → belongs s antenna) now i y d within
        (λ before. stays antenna
        (subst (λ s. belongs s antenna) (read_at now i x d within is) (k.each i d antenna before)))
        (λ b apart. k.each b d antenna) a;
  }

  -- one more source was read
  pub sources_on : {A B : Type 0} (begun : S → Bool) (at : S → A) (gives : S → B) (belongs : S → ℕ → Type 0) (count : ℕ)
      → i < count → KeepsSource begun at gives belongs x y
      → KeepsSources begun at gives belongs count old now → KeepsSources begun at gives belongs count old (set now i y)
  sources_on begun at gives belongs count few s k = record {
    later = record { each = λ a d past. get_or-set_other now i a y d (λ e. omega arith) ∙ k.later.each a d past };
    are_begun = record {
      each =
          λ a d. each_set (λ a s. a < count → begun s ≡ true) now i y d within (λ below. s.is_begun)
          (λ b apart. k.are_begun.each b d) a;
    };
    same_at = keeps_set at s.same_at k.same_at;
    same_gives = keeps_set gives s.same_gives k.same_gives;
    still_belong = belonging_set belongs s.still_belongs k.still_belong;
  }

-- nothing was read yet
pub sources_as_they_were : {S A B : Type 0} (begun : S → Bool) (at : S → A) (gives : S → B) (belongs : S → ℕ → Type 0)
    (count : ℕ) (sources : List S) → AreBegun begun count sources
    → KeepsSources begun at gives belongs count sources sources
sources_as_they_were begun at gives belongs count sources are_begun = record {
  later = record { each = λ a d past. refl };
  are_begun = are_begun;
  same_at = record { each = λ a d. refl };
  same_gives = record { each = λ a d. refl };
  still_belong = record { each = λ a d antenna h. h };
}

-- what stays twice stays
pub sources_then : {S A B : Type 0} (begun : S → Bool) (at : S → A) (gives : S → B) (belongs : S → ℕ → Type 0)
    (count : ℕ) (old mid now : List S) → KeepsSources begun at gives belongs count old mid
    → KeepsSources begun at gives belongs count mid now → KeepsSources begun at gives belongs count old now
sources_then begun at gives belongs count old mid now h k = record {
  later = record { each = λ a d past. k.later.each a d past ∙ h.later.each a d past };
  are_begun = k.are_begun;
  same_at = record { each = λ a d. k.same_at.each a d ∙ h.same_at.each a d };
  same_gives = record { each = λ a d. k.same_gives.each a d ∙ h.same_gives.each a d };
  still_belong = record { each = λ a d antenna b. k.still_belong.each a d antenna (h.still_belong.each a d antenna b) };
}
