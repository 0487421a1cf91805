-- What is appended to a list that is told or not, step by step.
use Rattle.std.proofs.Common.{◌≡◌, Option, Some, None, List, [], ◌++◌, refl, ap, ◌∙◌}
use Rattle.std.proofs.lemmas.List.{append_assoc, append-nil}
use Rattle.corr_site.specs.Outside.{appended, Appended}

-- to append nothing changes nothing
pub appended_nothing : {X : Type 0} (told : Option (List X)) → Appended told [] told
appended_nothing None = refl
appended_nothing {X} (Some before) = ap (λ (l : List X). Some l) (rw append-nil refl)

-- to append twice is to append both
pub appended_twice : {X : Type 0} (told : Option (List X)) (front back : List X)
    → appended (appended told front) back ≡ appended told (front ++ back)
appended_twice None front back = refl
appended_twice {X} (Some before) front back = ap (λ (l : List X). Some l) (rw append_assoc refl)

-- what two steps append, they append one after the other
pub Appended-then : {X : Type 0} (told middle now : Option (List X)) (front back : List X) → Appended told front middle
    → Appended middle back now → Appended told (front ++ back) now
Appended-then told middle now front back first second = second ∙ rw first (appended_twice told front back)
