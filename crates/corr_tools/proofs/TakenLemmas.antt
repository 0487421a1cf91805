-- Byte strings that are taken of a source, one after another.
use Rattle.std.proofs.Common.{◌≡◌, ℕ, zero, suc, ◌+◌, ◌-◌, ◌≤◌, List, [], ◌∷◌, ◌++◌, length, Option, Some, take, drop, take-add, refl, sym, ap, subst, ◌∙◌, arith}
use Rattle.std.specs.List.{slice_get}
use Rattle.std.proofs.lemmas.List.{length-append, length-drop, take_all}
use Rattle.corr_site.specs.Outside.{NextGives, GivesString, GaveAll}
use Rattle.corr_site.specs.declared.answers.Next.TheVariants as next
use Rattle.corr_tools.specs.Taking.{TakesAll, TakesFirst}

-- so many strings were taken, the first that were to come
pub record IsTaking (gives : Option (List (List ℕ))) (given now count : ℕ) (taken : List (List ℕ)) : Type 0 where
  pub as_many : length taken ≡ count
  pub counted : (strings : List (List ℕ)) → gives ≡ Some strings → now ≡ given + count
  pub front : (strings : List (List ℕ)) → gives ≡ Some strings → taken ≡ take count (drop given strings)

pub none_taken : (gives : Option (List (List ℕ))) (given : ℕ) → IsTaking gives given given 0 []
none_taken gives given = record { as_many = refl; counted = λ strings told. omega arith; front = λ strings told. refl }

-- one more at the end of a front
take_next : {A : Type 0} (count : ℕ) (xs : List A) (x : A) → slice_get xs count ≡ Some x
    → take (suc count) xs ≡ take count xs ++ x ∷ []
take_next zero [] x h = absurd cc
take_next zero (y ∷ ys) x h = let same : y ≡ x = cc in ap (λ z. z ∷ []) same
take_next (suc count) [] x h = absurd cc
take_next (suc count) (y ∷ ys) x h = ap (λ l. y ∷ l) (take_next count ys x h)

-- a place behind some others
get_behind : {A : Type 0} (given count : ℕ) (xs : List A)
    → slice_get (drop given xs) count ≡ slice_get xs (given + count)
get_behind zero count xs = ap (slice_get xs) (let e : count ≡ 0 + count = omega arith in e)
get_behind (suc given) count [] = refl
get_behind (suc given) count (x ∷ xs) =
    get_behind given count xs ∙ ap (slice_get (x ∷ xs))
    (let e : suc (given + count) ≡ suc given + count = omega arith in e)

string_next : (given mid now count : ℕ) (strings : List (List ℕ)) (bytes : List ℕ) → mid ≡ given + count
    → GivesString strings mid now bytes
    → take (count + 1) (drop given strings) ≡ take count (drop given strings) ++ bytes ∷ []
string_next given mid now count strings bytes place h =
    let one : count + 1 ≡ suc count = omega arith in
    ap (λ n. take n (drop given strings)) one ∙ take_next count (drop given strings) bytes
    (get_behind given count strings ∙ ap (slice_get strings) (sym place) ∙ h.string)

told_string : (gives : Option (List (List ℕ))) (strings : List (List ℕ)) (mid now n : ℕ) (buf bytes : List ℕ)
    → gives ≡ Some strings → NextGives gives mid now buf (next.Packet n) → bytes ≡ take n buf
    → GivesString strings mid now bytes
told_string gives strings mid now n buf bytes told h front =
    subst (GivesString strings mid now) (sym front) (subst (λ g. NextGives g mid now buf (next.Packet n)) told h)

pub took_more : (gives : Option (List (List ℕ))) (given mid now count n : ℕ) (taken : List (List ℕ))
    (buf bytes : List ℕ) → IsTaking gives given mid count taken → NextGives gives mid now buf (next.Packet n)
    → bytes ≡ take n buf
    → IsTaking gives given now (count + 1) (taken ++ bytes ∷ [])
took_more gives given mid now count n taken buf bytes h k front = record {
  as_many = omega (arith, length-append taken (bytes ∷ []), h.as_many);
  counted = λ strings told. let one =
      (told_string gives strings mid now n buf bytes told k front).one_more in let before =
      h.counted strings told in omega arith;
  front = λ strings told.
      ap (λ l. l ++ bytes ∷ []) (h.front strings told)
      ∙ sym (string_next given mid now count strings bytes (h.counted strings told)
      (told_string gives strings mid now n buf bytes told k front));
}

pub at_end : (gives : Option (List (List ℕ))) (mid now : ℕ) (buf : List ℕ) → NextGives gives mid now buf next.End
    → (strings : List (List ℕ)) → gives ≡ Some strings → GaveAll strings mid now
at_end gives mid now buf h strings told = subst (λ g. NextGives g mid now buf next.End) told h

pub at_failure : (gives : Option (List (List ℕ))) (mid now : ℕ) (buf : List ℕ) → NextGives gives mid now buf next.Failed
    → (strings : List (List ℕ)) → gives ≡ Some strings → GaveAll strings mid now
at_failure gives mid now buf h strings told = subst (λ g. NextGives g mid now buf next.Failed) told h

-- any two fronts that reach the end are the same
both_all : {A : Type 0} (count limit : ℕ) (xs : List A) → length xs ≤ count → count ≤ limit
    → take count xs ≡ take limit xs
both_all count limit xs long few = take_all count xs long ∙ sym (take_all limit xs (omega arith))

-- the source ended, or failed
pub took_all : (gives : Option (List (List ℕ))) (given mid now count limit : ℕ) (taken : List (List ℕ))
    → IsTaking gives given mid count taken
    → ((strings : List (List ℕ)) → gives ≡ Some strings → GaveAll strings mid now) → count ≤ limit
    → TakesAll gives given now limit taken
took_all gives given mid now count limit taken h ends few = record {
  few = omega (arith, h.as_many);
  counted = λ strings told. let kept = (ends strings told).kept in let before =
      h.counted strings told in omega (arith, h.as_many);
  all = λ strings told.
      let whole = (ends strings told).all in
      let before = h.counted strings told in
      h.front strings told ∙ both_all count limit (drop given strings) (omega (arith, length-drop given strings)) few;
}

-- as many were taken as may be
pub took_limit : (gives : Option (List (List ℕ))) (given now count limit : ℕ) (taken : List (List ℕ))
    → IsTaking gives given now count taken → count ≡ limit → TakesAll gives given now limit taken
took_limit gives given now count limit taken h full = record {
  few = omega (arith, h.as_many);
  counted = λ strings told. let before = h.counted strings told in omega (arith, h.as_many);
  all = λ strings told. h.front strings told ∙ ap (λ n. take n (drop given strings)) full;
}

-- some were taken, and there may be more
pub took_first : (gives : Option (List (List ℕ))) (given now count limit : ℕ) (taken : List (List ℕ))
    → IsTaking gives given now count taken → count ≤ limit → TakesFirst gives given now limit taken
took_first gives given now count limit taken h few = record {
  few = omega (arith, h.as_many);
  counted = λ strings told. let before = h.counted strings told in omega (arith, h.as_many);
  first = λ strings told.
      let all = drop given strings in
      let split : limit ≡ count + (limit - count) = omega arith in
      record {
        rest = take (limit - count) (drop count all);
        splits = ap (λ n. take n all) split ∙ take-add count (limit - count) all ∙ ap
            (λ l. l ++ take (limit - count) (drop count all)) (sym (h.front strings told));
      };
}
