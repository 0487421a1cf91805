-- The strings that count: an open list counts whole, and after its end nothing more does.
use Rattle.std.proofs.Common.{◌≡◌, ℕ, ◌<◌, ◌≤◌, Bool, true, false, leb, ◌⊎◌, List, [], ◌∷◌, ◌++◌, length, take, Option, Some, None, refl, sym, ap, ◌∙◌, arith, inl, inr}
use Rattle.std.specs.List.{filter_map, list_any, find}
use Rattle.std.specs.Option.{option_or, unwrap_or, is_some}
use Rattle.std.proofs.lemmas.List.{take_all, take-append-le, length_push}
use Rattle.std.proofs.lemmas.List.Folds.{find-append}
use Rattle.std.proofs.lemmas.Bool.{le-leb, lt-leb, leb-true, leb-false, cases_lt, cases_Bool, false_from_ne_true}
use Rattle.corr_model.specs.declared.plan.Plan.{Plan}
use Rattle.corr_model.specs.Lists.{fronts, in_turn, through_first}
use Rattle.corr_model.specs.Windows.{heard_in, placed}
use Rattle.corr_model.specs.Assembly.{whole_heaps}
use Rattle.corr_model.specs.Streams.{whole_in, stops, judge_next, heaps, has_stopped, ending, ended_by, taken}
use Rattle.corr_model.proofs.Turns.{fronts_push, by_pushes, by_pushes_from}
use Rattle.corr_model.proofs.StreamPushes.{whole_in_past, stopped_stays, heaps_stopped, heaps_past}

-- no string makes no heap whole
pub whole_in_none : (plan : Plan) → whole_in plan [] ≡ []
whole_in_none plan =
    let least : length {A = List ℕ} [] ≤ plan.packet_limit = omega arith in
    ap (λ k. whole_heaps plan.window (placed plan.window (filter_map (heard_in plan.heap_limit) k)))
    (take_all plan.packet_limit [] least)

pub never_stopped : (plan : Plan) → has_stopped plan [] ≡ false
never_stopped plan = ap (list_any stops) (whole_in_none plan)

-- an earlier list had not stopped where a later one has not
pub open_before : (plan : Plan) (l rest : List (List ℕ)) → has_stopped plan (l ++ rest) ≡ false
    → has_stopped plan l ≡ false
open_before plan l rest h =
    false_from_ne_true (has_stopped plan l) (λ stopped. let later = stopped_stays plan l rest stopped in cc)

find_last : (plan : Plan) (l : List (List ℕ)) (b : List ℕ)
    → find (has_stopped plan) (fronts (l ++ b ∷ []))
    ≡ option_or (find (has_stopped plan) (fronts l)) (find (has_stopped plan) ((l ++ b ∷ []) ∷ []))
find_last plan l b =
    ap (find (has_stopped plan)) (fronts_push l b) ∙ find-append (has_stopped plan) (fronts l) ((l ++ b ∷ []) ∷ [])

find_one_open : (plan : Plan) (k : List (List ℕ)) → has_stopped plan k ≡ false → find (has_stopped plan) (k ∷ []) ≡ None
find_one_open plan k h = rw h refl

find_one : (plan : Plan) (k : List (List ℕ)) → has_stopped plan k ≡ true → find (has_stopped plan) (k ∷ []) ≡ Some k
find_one plan k h = rw h refl

-- no front of an open list has stopped
pub none_stopped : (plan : Plan) (l : List (List ℕ)) → has_stopped plan l ≡ false
    → find (has_stopped plan) (fronts l) ≡ None
none_stopped plan =
    by_pushes (λ l. has_stopped plan l ≡ false → find (has_stopped plan) (fronts l) ≡ None) (λ h. refl)
    (λ l b before h.
    find_last plan l b ∙ ap (λ o. option_or o (find (has_stopped plan) ((l ++ b ∷ []) ∷ [])))
    (before (open_before plan l (b ∷ []) h)) ∙ find_one_open plan (l ++ b ∷ []) h)

found_by : (o p : Option (List (List ℕ))) (k : List (List ℕ)) → p ≡ Some k → is_some (option_or o p) ≡ true
found_by (Some j) p k h = refl
found_by None p k h = ap is_some h

found_on : (o p : Option (List (List ℕ))) → is_some o ≡ true → option_or o p ≡ o
found_on (Some j) p h = refl
found_on None p h = absurd cc

-- some front of a list that has stopped has
pub some_stopped : (plan : Plan) (l : List (List ℕ)) → has_stopped plan l ≡ true
    → is_some (find (has_stopped plan) (fronts l)) ≡ true
some_stopped plan =
    by_pushes (λ l. has_stopped plan l ≡ true → is_some (find (has_stopped plan) (fronts l)) ≡ true)
    (λ h. absurd (let never = never_stopped plan in cc))
    (λ l b before h. ap is_some (find_last plan l b) ∙ found_by (find (has_stopped plan) (fronts l)) _ (l ++ b ∷ [])
    (find_one plan (l ++ b ∷ []) h))

-- an open list counts whole
pub taken_open : (plan : Plan) (l : List (List ℕ)) → has_stopped plan l ≡ false → length l ≤ plan.packet_limit
    → taken plan l ≡ l
taken_open plan l h room =
    ap (λ o. unwrap_or o (take plan.packet_limit l)) (none_stopped plan l h) ∙ take_all plan.packet_limit l room

-- a string after an open list below the limit counts too
pub taken_push : (plan : Plan) (l : List (List ℕ)) (b : List ℕ) → has_stopped plan l ≡ false
    → length l < plan.packet_limit → taken plan (l ++ b ∷ []) ≡ l ++ b ∷ []
taken_push plan l b h room =
    let longer : length (l ++ b ∷ []) ≤ plan.packet_limit = omega (arith, length_push l b) in
    elim (cases_Bool (has_stopped plan (l ++ b ∷ []))) [
      | inl stopped ↦ ap (λ o. unwrap_or o (take plan.packet_limit (l ++ b ∷ [])))
          (find_last plan l b ∙ ap (λ o. option_or o (find (has_stopped plan) ((l ++ b ∷ []) ∷ [])))
          (none_stopped plan l h) ∙ find_one plan (l ++ b ∷ []) stopped)
      | inr still ↦ taken_open plan (l ++ b ∷ []) still longer
    ]

same_default : (o : Option (List (List ℕ))) (j k : List (List ℕ)) → is_some o ≡ true → unwrap_or o j ≡ unwrap_or o k
same_default (Some i) j k h = refl
same_default None j k h = absurd cc

-- after a stop heap no string counts
pub taken_stopped : (plan : Plan) (l : List (List ℕ)) (b : List ℕ) → has_stopped plan l ≡ true
    → taken plan (l ++ b ∷ []) ≡ taken plan l
taken_stopped plan l b h =
    let some = some_stopped plan l h in
    let found = find (has_stopped plan) (fronts l) in
    ap (λ o. unwrap_or o (take plan.packet_limit (l ++ b ∷ []))) (find_last plan l b ∙ found_on found _ some)
    ∙ same_default found (take plan.packet_limit (l ++ b ∷ [])) (take plan.packet_limit l) some

-- from the limit on a list has stopped where it had
pub stopped_past : (plan : Plan) (l rest : List (List ℕ)) → plan.packet_limit ≤ length l
    → has_stopped plan (l ++ rest) ≡ has_stopped plan l
stopped_past plan l rest full = ap (list_any stops) (whole_in_past plan l rest full)

-- after as many strings as the limit no string counts
pub taken_full : (plan : Plan) (l : List (List ℕ)) (b : List ℕ) → plan.packet_limit ≤ length l
    → taken plan (l ++ b ∷ []) ≡ taken plan l
taken_full plan l b full =
    let same = stopped_past plan l (b ∷ []) full in
    elim (cases_Bool (has_stopped plan l)) [
      | inl stopped ↦ taken_stopped plan l b stopped
      | inr still ↦ ap (λ o. unwrap_or o (take plan.packet_limit (l ++ b ∷ [])))
          (none_stopped plan (l ++ b ∷ []) (same ∙ still))
          ∙ take-append-le plan.packet_limit l (b ∷ []) full
          ∙ ap (λ o. unwrap_or o (take plan.packet_limit l)) (sym (none_stopped plan l still))
    ]

-- a list that has ended by itself: by a stop heap or at the limit
pub data HasEnded (plan : Plan) (l : List (List ℕ)) : Type 0 where
  ByStop : has_stopped plan l ≡ true → HasEnded plan l
  ByLimit : plan.packet_limit ≤ length l → HasEnded plan l

-- no string counts after the end
pub taken_ended : (plan : Plan) (l : List (List ℕ)) (b : List ℕ) → HasEnded plan l
    → taken plan (l ++ b ∷ []) ≡ taken plan l
taken_ended plan l b (ByStop h) = taken_stopped plan l b h
taken_ended plan l b (ByLimit h) = taken_full plan l b h

-- nothing is judged after the end
pub heaps_ended : (plan : Plan) (antenna : ℕ) (l : List (List ℕ)) (b : List ℕ) → HasEnded plan l
    → heaps plan antenna (l ++ b ∷ []) ≡ heaps plan antenna l
heaps_ended plan antenna l b (ByStop h) = heaps_stopped plan antenna l (b ∷ []) h
heaps_ended plan antenna l b (ByLimit h) = heaps_past plan antenna l (b ∷ []) h

-- a list is open below the limit, or has ended
pub cases_ended : (plan : Plan) (l : List (List ℕ))
    → ((has_stopped plan l ≡ false) × (length l < plan.packet_limit)) ⊎ HasEnded plan l
cases_ended plan l =
    elim (cases_Bool (has_stopped plan l)) [
      | inl stopped ↦ inr (ByStop stopped)
      | inr still ↦ elim (cases_lt (length l) plan.packet_limit)
          [ inl room ↦ inl (still, room) | inr full ↦ inr (ByLimit full) ]
    ]

-- what a string after the end can't change is the same of what counts
pub same_of_taken : {A : Type 0} (plan : Plan) (f : List (List ℕ) → A)
    → ((l : List (List ℕ)) (b : List ℕ) → HasEnded plan l → f (l ++ b ∷ []) ≡ f l)
    → (l : List (List ℕ)) → f (taken plan l) ≡ f l
same_of_taken plan f stays =
    let least : length {A = List ℕ} [] ≤ plan.packet_limit = omega arith in
    by_pushes (λ l. f (taken plan l) ≡ f l) (ap f (taken_open plan [] (never_stopped plan) least))
    (λ l b before. elim (cases_ended plan l) [
      | inl h ↦ ap f (taken_push plan l b h.0 h.1)
      | inr h ↦ ap f (taken_ended plan l b h) ∙ before ∙ sym (stays l b h)
    ])

-- what lies beyond the strings that count says nothing of the heaps
pub heaps_of_taken : (plan : Plan) (antenna : ℕ) (l : List (List ℕ))
    → heaps plan antenna (taken plan l) ≡ heaps plan antenna l
heaps_of_taken plan antenna = same_of_taken plan (heaps plan antenna) (heaps_ended plan antenna)

-- the strings that count all count
pub taken_of_taken : (plan : Plan) (l : List (List ℕ)) → taken plan (taken plan l) ≡ taken plan l
taken_of_taken plan = same_of_taken plan (taken plan) (taken_ended plan)

-- how a list ends, by cases
pub ending_open : (plan : Plan) (l : List (List ℕ)) → has_stopped plan l ≡ false → length l < plan.packet_limit
    → ending plan l ≡ None
ending_open plan l h room =
    ap (λ s. ended_by s (leb plan.packet_limit (length l))) h ∙ ap (ended_by false)
    (lt-leb plan.packet_limit (length l) room)

ended_cases : (s f : Bool) → ended_by s f ≡ None → (s ≡ false) × (f ≡ false)
ended_cases true f h = absurd cc
ended_cases false true h = absurd cc
ended_cases false false h = (refl, refl)

ended_some : (s f : Bool) → is_some (ended_by s f) ≡ true → (s ≡ true) ⊎ (f ≡ true)
ended_some true f h = inl refl
ended_some false true h = inr refl
ended_some false false h = absurd cc

-- a list with no end is open below the limit
pub open_from_ending : (plan : Plan) (l : List (List ℕ)) → ending plan l ≡ None
    → (has_stopped plan l ≡ false) × (length l < plan.packet_limit)
open_from_ending plan l h =
    let parts = ended_cases (has_stopped plan l) (leb plan.packet_limit (length l)) h in
    (parts.0, leb-false plan.packet_limit (length l) parts.1)

-- a list with an end has ended
pub ended_from_ending : (plan : Plan) (l : List (List ℕ)) → is_some (ending plan l) ≡ true → HasEnded plan l
ended_from_ending plan l h =
    elim (ended_some (has_stopped plan l) (leb plan.packet_limit (length l)) h) [
      | inl stopped ↦ ByStop stopped
      | inr full ↦ ByLimit (leb-true plan.packet_limit (length l) full)
    ]

-- a list that has ended ends so with a string more
pub ending_stays : (plan : Plan) (l : List (List ℕ)) (b : List ℕ) → HasEnded plan l
    → ending plan (l ++ b ∷ []) ≡ ending plan l
ending_stays plan l b (ByStop h) =
    ap (λ s. ended_by s (leb plan.packet_limit (length (l ++ b ∷ [])))) (stopped_stays plan l (b ∷ []) h) ∙ ap
    (λ s. ended_by s (leb plan.packet_limit (length l))) (sym h)
ending_stays plan l b (ByLimit h) =
    let longer : plan.packet_limit ≤ length (l ++ b ∷ []) = omega (arith, length_push l b) in
    ap (λ s. ended_by s (leb plan.packet_limit (length (l ++ b ∷ [])))) (stopped_past plan l (b ∷ []) h)
    ∙ ap (ended_by (has_stopped plan l))
    (le-leb plan.packet_limit (length (l ++ b ∷ [])) longer ∙ sym (le-leb plan.packet_limit (length l) h))

-- a list that has ended still has with a string more
pub ended_stays : (plan : Plan) (l : List (List ℕ)) (b : List ℕ) → HasEnded plan l → HasEnded plan (l ++ b ∷ [])
ended_stays plan l b (ByStop h) = ByStop (stopped_stays plan l (b ∷ []) h)
ended_stays plan l b (ByLimit h) = ByLimit (omega (arith, length_push l b))

-- what a string after the end can't change, no longer list can
pub same_after_end : {A : Type 0} (plan : Plan) (f : List (List ℕ) → A)
    → ((l : List (List ℕ)) (b : List ℕ) → HasEnded plan l → f (l ++ b ∷ []) ≡ f l)
    → (l rest : List (List ℕ)) → is_some (ending plan l) ≡ true → f (l ++ rest) ≡ f l
same_after_end plan f stays l rest ended =
    (by_pushes_from (λ k. HasEnded plan k × (f k ≡ f l)) (λ k b h. (ended_stays plan k b h.0, stays k b h.0 ∙ h.1)) l
    rest (ended_from_ending plan l ended, refl)).1

-- an open list, as its ending says, counts whole
pub taken_all : (plan : Plan) (l : List (List ℕ)) → ending plan l ≡ None → taken plan l ≡ l
taken_all plan l h =
    let go = open_from_ending plan l h in
    let room : length l ≤ plan.packet_limit = omega arith in
    taken_open plan l go.0 room

-- and so does it with a string more
pub taken_next : (plan : Plan) (l : List (List ℕ)) (b : List ℕ) → ending plan l ≡ None
    → taken plan (l ++ b ∷ []) ≡ l ++ b ∷ []
taken_next plan l b h = let go = open_from_ending plan l h in taken_push plan l b go.0 go.1

-- after the end no longer list counts more
pub taken_past : (plan : Plan) (l rest : List (List ℕ)) → is_some (ending plan l) ≡ true
    → taken plan (l ++ rest) ≡ taken plan l
taken_past plan l rest h = same_after_end plan (taken plan) (taken_ended plan) l rest h

-- after the end no longer list ends otherwise
pub ending_past : (plan : Plan) (l rest : List (List ℕ)) → is_some (ending plan l) ≡ true
    → ending plan (l ++ rest) ≡ ending plan l
ending_past plan l rest h = same_after_end plan (ending plan) (ending_stays plan) l rest h

-- the same whole heaps are judged the same
pub heaps_same : (plan : Plan) (antenna : ℕ) (l k : List (List ℕ)) → whole_in plan k ≡ whole_in plan l
    → heaps plan antenna k ≡ heaps plan antenna l
heaps_same plan antenna l k same = ap (λ ws. in_turn (judge_next plan antenna) (through_first stops ws)) same

-- the strings that count end as the list does
pub ending_of_taken : (plan : Plan) (l : List (List ℕ)) → ending plan (taken plan l) ≡ ending plan l
ending_of_taken plan = same_of_taken plan (ending plan) (ending_stays plan)
