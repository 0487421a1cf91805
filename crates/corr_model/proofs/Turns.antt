-- Laws of the words on lists: one more element at the end, and what a longer list keeps.
use Rattle.std.proofs.Common.{◌≡◌, Bool, true, false, cond, ◌||◌, List, [], ◌∷◌, ◌++◌, map, Option, Some, None, refl, sym, ap, ◌∙◌, subst}
use Rattle.std.specs.List.{filter_map, cons_option, list_any}
use Rattle.std.specs.Option.{option_to_list}
use Rattle.std.proofs.lemmas.List.{append_assoc, append-nil, map-append}
use Rattle.std.proofs.lemmas.List.Sums.{fold_push}
use Rattle.std.proofs.lemmas.List.Elements.{filter_map-append}
use Rattle.std.proofs.lemmas.Bool.{or_parts, cond-false}
use Rattle.corr_model.specs.Lists.{in_turn, fronts, through_first, last_one}

-- an element more comes by the rule
pub in_turn_push : {A B : Type 0} (rule : List B → A → B) (xs : List A) (x : A)
    → in_turn rule (xs ++ x ∷ []) ≡ in_turn rule xs ++ rule (in_turn rule xs) x ∷ []
in_turn_push rule xs x = fold_push _ [] xs x

-- the whole list is its last front
pub fronts_push : {A : Type 0} → (xs : List A) (x : A) → fronts (xs ++ x ∷ []) ≡ fronts xs ++ (xs ++ x ∷ []) ∷ []
fronts_push [] x = refl
fronts_push (y ∷ ys) x =
    ap (λ fs. (y ∷ []) ∷ map (λ front. y ∷ front) fs) (fronts_push ys x)
    ∙ ap (λ fs. (y ∷ []) ∷ fs) (map-append (λ front. y ∷ front) (fronts ys) ((ys ++ x ∷ []) ∷ []))

single : {B : Type 0} (o : Option B) → cons_option o [] ≡ option_to_list o
single None = refl
single (Some y) = refl

pub filter_map_push : {A B : Type 0} (f : A → Option B) (xs : List A) (x : A)
    → filter_map f (xs ++ x ∷ []) ≡ filter_map f xs ++ option_to_list (f x)
filter_map_push f xs x = filter_map-append f xs (x ∷ []) ∙ ap (λ ys. filter_map f xs ++ ys) (single (f x))

pub last_one_push : {A : Type 0} (xs : List A) (x : A) → last_one (xs ++ x ∷ []) ≡ Some x
last_one_push xs x = fold_push _ None xs x

from_here : {A : Type 0} (P : List A → Type 0) → ((xs : List A) (x : A) → P xs → P (xs ++ x ∷ []))
    → (front rest : List A) → P front → P (front ++ rest)
from_here P step front [] h = subst P (sym (append-nil front)) h
from_here P step front (x ∷ rest) h =
    subst P (append_assoc front (x ∷ []) rest) (from_here P step (front ++ x ∷ []) rest (step front x h))

-- what holds of a list, and stays with an element more, holds of each longer list
pub by_pushes_from : {A : Type 0} (P : List A → Type 0) → ((xs : List A) (x : A) → P xs → P (xs ++ x ∷ []))
    → (front rest : List A) → P front → P (front ++ rest)
by_pushes_from P step front rest h = from_here P step front rest h

-- what holds of no element, and stays with an element more, holds of each list
pub by_pushes : {A : Type 0} (P : List A → Type 0) → P [] → ((xs : List A) (x : A) → P xs → P (xs ++ x ∷ []))
    → (xs : List A) → P xs
by_pushes P none step xs = from_here P step [] xs none

-- what the rule keeps holds of what is said in turn
pub in_turn_keeps : {A B : Type 0} (P : List B → Type 0) (rule : List B → A → B) → P []
    → ((before : List B) (x : A) → P before → P (before ++ rule before x ∷ [])) → (xs : List A) → P (in_turn rule xs)
in_turn_keeps P rule none step xs =
    by_pushes (λ ys. P (in_turn rule ys)) none
    (λ ys y h. subst P (sym (in_turn_push rule ys y)) (step (in_turn rule ys) y h)) xs

-- none has passed: all stand
pub through_first_open : {A : Type 0} (test : A → Bool) → (xs ys : List A) → list_any test xs ≡ false
    → through_first test (xs ++ ys) ≡ xs ++ through_first test ys
through_first_open test [] ys h = refl
through_first_open test (x ∷ xs) ys h =
    let parts = or_parts (test x) (list_any test xs) h in
    ap (λ zs. x ∷ zs) (cond-false (test x) [] (through_first test (xs ++ ys)) parts.0 ∙ through_first_open test
    xs ys parts.1)

done_after : {A : Type 0} (b c : Bool) (xs ys : List A) → (b || c) ≡ true → (c ≡ true → xs ≡ ys)
    → cond b [] xs ≡ cond b [] ys
done_after true c xs ys h same = refl
done_after false c xs ys h same = same h

-- one has passed: nothing comes after
pub through_first_done : {A : Type 0} (test : A → Bool) → (xs ys : List A) → list_any test xs ≡ true
    → through_first test (xs ++ ys) ≡ through_first test xs
through_first_done test [] ys h = absurd cc
through_first_done test (x ∷ xs) ys h =
    ap (λ zs. x ∷ zs) (done_after (test x) (list_any test xs) (through_first test (xs ++ ys)) (through_first test xs) h
    (through_first_done test xs ys))

-- all stand where none passes
pub through_first_none : {A : Type 0} (test : A → Bool) → (xs : List A) → list_any test xs ≡ false
    → through_first test xs ≡ xs
through_first_none test xs h =
    ap (through_first test) (sym (append-nil xs)) ∙ through_first_open test xs [] h ∙ append-nil xs
