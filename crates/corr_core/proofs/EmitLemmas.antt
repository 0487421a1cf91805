-- Strings sent one list after another.
use Rattle.std.proofs.Common.{◌≡◌, ℕ, ℤ, ◌+◌, List, [], ◌++◌, Option, Some, None, Result, Ok, Err, sym, ap, ◌∙◌}
use Rattle.std.specs.Prelude.{if◌then◌else◌, ◌==◌}
use Rattle.std.specs.Result.{IsErr}
use Rattle.std.proofs.lemmas.List.{append_assoc}
use Rattle.std.proofs.lemmas.List.Sums.{fold-append}
use Rattle.corr_model.specs.declared.plan.Plan.{Plan}
use Rattle.corr_site.specs.Outside.{Appended, appended}
use Rattle.vis_send.specs.declared.tally.Sent.{Sent}
use Rattle.vis_send.specs.Marks.{one_more, more}
use Rattle.vis_send.specs.Emitters.{Strings}
use Rattle.vis_send.specs.Sending.{SendsWhole, SendsFront, Tallies}
use Rattle.corr_core.specs.Sends.{sent_together}

-- one list after another was appended
both : (before mid now : Option (List (List ℕ))) (xs ys : List (List ℕ)) → Appended before xs mid → Appended mid ys now
    → Appended before (xs ++ ys) now
both None mid now xs ys first second = second ∙ ap (λ m. appended m ys) first
both (Some k) mid now xs ys first second = second ∙ ap (λ m. appended m ys) first ∙ ap Some (append_assoc k xs ys)

-- and counted
counted_both : (a b c : Sent) (xs ys : List (List ℕ)) → b ≡ more a xs → c ≡ more b ys → c ≡ more a (xs ++ ys)
counted_both a b c xs ys first second = second ∙ ap (λ s. more s ys) first ∙ sym (fold-append one_more a xs ys)

whole_both : (before mid now : Option (List (List ℕ))) (a b c : Sent) (xs ys : List (List ℕ))
    → SendsWhole before mid a b xs → SendsWhole mid now b c ys → SendsWhole before now a c (xs ++ ys)
whole_both before mid now a b c xs ys first second = record {
  appended = both before mid now xs ys first.appended second.appended;
  counted = counted_both a b c xs ys first.counted second.counted;
}

-- a front of the first list is one of both
front_of_first : (before now : Option (List (List ℕ))) (a b : Sent) (xs ys : List (List ℕ))
    → SendsFront before now a b xs → SendsFront before now a b (xs ++ ys)
front_of_first before now a b xs ys h = record {
  front = h.front;
  rest = h.rest ++ ys;
  whole = ap (λ k. k ++ ys) h.whole ∙ append_assoc h.front h.rest ys;
  appended = h.appended;
  counted = h.counted;
}

-- a front of the second, after all of the first
front_of_second : (before mid now : Option (List (List ℕ))) (a b c : Sent) (xs ys : List (List ℕ))
    → SendsWhole before mid a b xs → SendsFront mid now b c ys → SendsFront before now a c (xs ++ ys)
front_of_second before mid now a b c xs ys first h = record {
  front = xs ++ h.front;
  rest = h.rest;
  whole = ap (λ k. xs ++ k) h.whole ∙ sym (append_assoc xs h.front h.rest);
  appended = both before mid now xs h.front first.appended h.appended;
  counted = counted_both a b c xs h.front first.counted h.counted;
}

-- an Err where a front was sent
err_tallies : {T E : Type 0} (r : Result T E) (before now : Option (List (List ℕ))) (a b : Sent)
    (strings : List (List ℕ)) → IsErr r → SendsFront before now a b strings → Tallies before now a b r strings
err_tallies (Ok x) before now a b strings is h = absurd cc
err_tallies (Err e) before now a b strings is h = h

-- the head, and the stop, that go with a number
abbrev head_part : Strings → ℕ → List (List ℕ)
head_part strings n = if n == 0 then strings.head else []

abbrev stop_part : Plan → Strings → ℕ → List (List ℕ)
stop_part plan strings n = if n + 1 == plan.accumulations then strings.stop else []

-- the head failed
pub first_failed : {T E : Type 0} (r : Result T E) (plan : Plan) (strings : Strings) (n : ℕ) (sums : List ℤ)
    (before now : Option (List (List ℕ))) (a b : Sent) → IsErr r
    → SendsFront before now a b (if n == 0 then strings.head else [])
    → Tallies before now a b r (sent_together plan strings n sums)
first_failed r plan strings n sums before now a b is h =
    err_tallies r before now a b (sent_together plan strings n sums) is
    (front_of_first before now a b (head_part strings n) (strings.heap n sums ++ stop_part plan strings n) h)

-- the heap failed
pub heap_failed : {T E : Type 0} (r : Result T E) (plan : Plan) (strings : Strings) (n : ℕ) (sums : List ℤ)
    (before mid now : Option (List (List ℕ))) (a b c : Sent) → IsErr r
    → SendsWhole before mid a b (if n == 0 then strings.head else []) → SendsFront mid now b c (strings.heap n sums)
    → Tallies before now a c r (sent_together plan strings n sums)
heap_failed r plan strings n sums before mid now a b c is first h =
    err_tallies r before now a c (sent_together plan strings n sums) is
    (front_of_second before mid now a b c (head_part strings n) (strings.heap n sums ++ stop_part plan strings n) first
    (front_of_first mid now b c (strings.heap n sums) (stop_part plan strings n) h))

-- the stop answers
pub last_answers : {T E : Type 0} (r : Result T E) (plan : Plan) (strings : Strings) (n : ℕ) (sums : List ℤ)
    (before first second now : Option (List (List ℕ))) (a b c d : Sent)
    → SendsWhole before first a b (if n == 0 then strings.head else [])
    → SendsWhole first second b c (strings.heap n sums)
    → Tallies second now c d r (if n + 1 == plan.accumulations then strings.stop else [])
    → Tallies before now a d r (sent_together plan strings n sums)
last_answers (Ok x) plan strings n sums before first second now a b c d head heap stop =
    whole_both before first now a b d (head_part strings n) (strings.heap n sums ++ stop_part plan strings n) head
    (whole_both first second now b c d (strings.heap n sums) (stop_part plan strings n) heap stop)
last_answers (Err e) plan strings n sums before first second now a b c d head heap stop =
    front_of_second before first now a b d (head_part strings n) (strings.heap n sums ++ stop_part plan strings n) head
    (front_of_second first second now b c d (strings.heap n sums) (stop_part plan strings n) heap stop)
