-- What a source gives.
use Rattle.std.proofs.Common.{◌≡◌, ℕ, ◌+◌, ◌<◌, ◌≤◌, Bool, true, false, List, [], ◌∷◌, ◌++◌, length, get_or, take, Option, Some, None, refl, sym, ap, ◌∙◌, subst, arith}
use Rattle.std.proofs.lemmas.List.{take_more}
use Rattle.std.proofs.lemmas.Option.{slice_get_within, get_or_from_slice_get}
use Rattle.corr_model.specs.declared.verdict.Ending.{Ending}
use Rattle.corr_model.specs.declared.verdict.Ending.TheVariants as endings
use Rattle.corr_site.specs.Outside.{NextGives, GivesString, GaveAll}
use Rattle.corr_site.specs.declared.answers.Next.TheVariants as next
use Rattle.stream_feed.specs.Feeding.{is_said}
use Rattle.corr_serial.specs.Hearing.{is_fault, IsFront}

-- an end that was not said is no fault
pub own_is_no_fault : (o : Option Ending) → is_said o ≡ false → is_fault o ≡ false
own_is_no_fault (Some endings.Fault) e = absurd cc
own_is_no_fault (Some endings.End) e = refl
own_is_no_fault (Some endings.Stop) e = refl
own_is_no_fault (Some endings.Limit) e = refl
own_is_no_fault None e = refl

-- one more string was given
pub given_more : (all l : List (List ℕ)) (given now : ℕ) (bytes : List ℕ) (o p : Option Ending) → IsFront all given o l
    → GivesString all given now bytes → is_said p ≡ false → IsFront all now p (l ++ bytes ∷ [])
given_more all l given now bytes o p h g own =
    let low : given < length all = slice_get_within all given bytes g.string in
    let here : get_or all given [] ≡ bytes = get_or_from_slice_get all given bytes [] g.string in
    record {
      front = ap (λ k. k ++ bytes ∷ []) h.front ∙
          (sym (ap (λ b. take given all ++ b ∷ []) here) ∙
          (sym (take_more all given [] low) ∙ ap (λ n. take n all) (sym g.one_more)));
      within = let more = g.one_more in omega arith;
      whole = λ e. absurd (let off = sym own ∙ e in cc);
    }

-- what is given of strings that are told
pub told_given : (gives : Option (List (List ℕ))) (all : List (List ℕ)) (given now len : ℕ) (buf bytes : List ℕ)
    → gives ≡ Some all → NextGives gives given now buf (next.Packet len)
    → bytes ≡ take len buf → GivesString all given now bytes
told_given gives all given now len buf bytes told next' front =
    subst (GivesString all given now) (sym front) (subst (λ g. NextGives g given now buf (next.Packet len)) told next')

-- what a source that gave all tells
pub at_end : (gives : Option (List (List ℕ))) (given now : ℕ) (buf : List ℕ) → NextGives gives given now buf next.End
    → (all : List (List ℕ)) → gives ≡ Some all → GaveAll all given now
at_end gives given now buf h all e = subst (λ g. NextGives g given now buf next.End) e h

pub at_failure : (gives : Option (List (List ℕ))) (given now : ℕ) (buf : List ℕ)
    → NextGives gives given now buf next.Failed → (all : List (List ℕ)) → gives ≡ Some all → GaveAll all given now
at_failure gives given now buf h all e = subst (λ g. NextGives g given now buf next.Failed) e h
