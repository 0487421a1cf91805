-- What was sent and counted, datagram by datagram.
use Rattle.std.proofs.Common.{◌≡◌, ℕ, zero, suc, ◌+◌, ◌-◌, ◌^◌, ◌<◌, ◌≤◌, Bool, true, Option, Some, None, Result, Ok, Err, List, [], ◌∷◌, ◌++◌, map, take, drop, length, get_or, add-one, refl, sym, ap, subst, ◌∙◌, arith, append_assoc, append-nil}
use Rattle.std.specs.Result.{IsErr}
use Rattle.corr_site.specs.Outside.{appended}
use Rattle.vis_send.specs.declared.tally.Sent.{Sent}
use Rattle.vis_send.specs.Marks.{one_more, more}
use Rattle.vis_send.specs.Sending.{SendsWhole, SendsFront, Tallies}

-- what was appended twice was appended at once
appended_twice : (before : Option (List (List ℕ))) (x y : List (List ℕ))
    → appended (appended before x) y ≡ appended before (x ++ y)
appended_twice None x y = refl
appended_twice (Some before) x y = ap Some (append_assoc before x y)

appended_more : (before middle now : Option (List (List ℕ))) (x y : List (List ℕ)) → middle ≡ appended before x
    → now ≡ appended middle y → now ≡ appended before (x ++ y)
appended_more before middle now x y e f = f ∙ ap (λ o. appended o y) e ∙ appended_twice before x y

-- what was counted twice was counted at once
pub counted_twice : (sent : Sent) (x y : List (List ℕ)) → more (more sent x) y ≡ more sent (x ++ y)
counted_twice sent [] y = refl
counted_twice sent (s ∷ x) y = counted_twice (one_more sent s) x y

counted_more : (first middle last : Sent) (x y : List (List ℕ)) → middle ≡ more first x → last ≡ more middle y
    → last ≡ more first (x ++ y)
counted_more first middle last x y e f = f ∙ ap (λ s. more s y) e ∙ counted_twice first x y

-- nothing was sent yet
pub none_sent : (before : Option (List (List ℕ))) (sent : Sent) → SendsWhole before before sent sent []
none_sent None sent = record { appended = refl; counted = refl }
none_sent (Some before) sent = record { appended = ap Some (sym (append-nil before)); counted = refl }

-- more was sent
pub whole_more : (before middle now : Option (List (List ℕ))) (first next last : Sent) (x y : List (List ℕ))
    → SendsWhole before middle first next x → SendsWhole middle now next last y
    → SendsWhole before now first last (x ++ y)
whole_more before middle now first next last x y h k = record {
  appended = appended_more before middle now x y h.appended k.appended;
  counted = counted_more first next last x y h.counted k.counted;
}

-- a front of more was sent
pub front_more : (before middle now : Option (List (List ℕ))) (first next last : Sent) (x y rest all : List (List ℕ))
    → SendsWhole before middle first next x → SendsFront middle now next last y
    → all ≡ x ++ (y ++ rest) → SendsFront before now first last all
front_more before middle now first next last x y rest all h k whole = record {
  front = x ++ k.front;
  rest = k.rest ++ rest;
  whole = whole ∙ ap (λ l. x ++ (l ++ rest)) k.whole ∙ ap (λ l. x ++ l) (append_assoc k.front k.rest rest) ∙ sym
      (append_assoc x k.front (k.rest ++ rest));
  appended = appended_more before middle now x k.front h.appended k.appended;
  counted = counted_more first next last x k.front h.counted k.counted;
}

-- a run of which nothing failed yet
pub record TalliedSo {P : Type 0} (before now : Option (List (List ℕ))) (first last : Sent) (at_before at : P)
    (faults_before faults : ℕ) (begun : Bool) (strings : List (List ℕ)) : Type 0 where
  pub sent : SendsWhole before now first last strings
  pub placed : at ≡ at_before
  pub calm : faults ≡ faults_before
  pub is_begun : begun ≡ true

-- an Err where a front was sent
pub err_tallies : {T E : Type 0} (r : Result T E) (before now : Option (List (List ℕ))) (first last : Sent)
    (strings : List (List ℕ)) → IsErr r → SendsFront before now first last strings
    → Tallies before now first last r strings
err_tallies (Ok x) before now first last strings is h = absurd (cc)
err_tallies (Err e) before now first last strings is h = h
