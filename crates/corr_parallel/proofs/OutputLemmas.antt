-- The output by the types of an observation, the plain back end and the sender is that of the definitions.
use Rattle.std.proofs.Common.{◌≡◌, ◌<◌, ◌≤◌, ◌+◌, ℕ, ℤ, suc, zero, Bool, true, List, [], ◌∷◌, ◌++◌, length, get_or}
use Rattle.std.proofs.Common.{Option, Some, refl, sym, ap, ◌∙◌, subst, arith}
use Rattle.std.specs.List.{flat_map}
use Rattle.std.proofs.lemmas.List.Concat.{flat_map-cons}
use Rattle.corr_model.specs.declared.plan.Plan.{Plan}
use Rattle.corr_model.specs.Lists.{numbers}
use Rattle.corr_model.specs.Outputs.{output}
use Rattle.corr_model.specs.Streams.{column}
use Rattle.corr_model.specs.Visibilities.{Lists}
use Rattle.slot_ring.specs.Means.{Means, meant}
use Rattle.vis_back.specs.Sets.{columns_of}
use Rattle.vis_send.specs.Emitters.{Strings, output_of, sender_strings}
use Rattle.vis_value.specs.Crosses.{cross_value}
use Rattle.corr_core.proofs.AgreeLemmas.{map_numbers}
use Rattle.vis_send.specs.declared.tally.Sent.{Sent}
use Rattle.vis_send.specs.Marks.{nothing}
use Rattle.vis_send.specs.Sending.{SendsWhole}
use Rattle.corr_serial.specs.declared.outcome.Ran.{Ran}
use Rattle.corr_serial.specs.declared.outcome.Ran.TheVariants as rans
use Rattle.corr_serial.specs.Runs.{AreGiven, IsWhole, SendsBy, SendsOutput, known, list_of}
use Rattle.corr_serial.proofs.CrossLemmas.{plain_output}
use Rattle.corr_parallel.specs.Runs.{AreObserved}
use Rattle.corr_parallel.proofs.ConcludeLemmas.{tells}

flat_map_numbers : {A : Type 0} (f g : ℕ → List A) (from n : ℕ) → ((i : ℕ) → f i ≡ g i)
    → flat_map f (numbers from n) ≡ flat_map g (numbers from n)
flat_map_numbers f g from zero same = refl
flat_map_numbers f g from (suc n) same =
    flat_map-cons f from (numbers (from + 1) n) ∙ ap (λ x. x ++ flat_map f (numbers (from + 1) n)) (same from)
    ∙ ap (λ xs. g from ++ xs) (flat_map_numbers f g (from + 1) n same)
    ∙ sym (flat_map-cons g from (numbers (from + 1) n))

same_values : (s : Strings) (plan : Plan) (v w : ℕ → List ℤ) → ((n : ℕ) → v n ≡ w n)
    → output_of s plan v ≡ output_of s plan w
same_values s plan v w same =
    ap (λ m. s.head ++ (m ++ s.stop))
    (flat_map_numbers (λ n. s.heap n (v n)) (λ n. s.heap n (w n)) 0 plan.accumulations
    (λ n. ap (s.heap n) (same n)))

-- the output rests on the lists of the plan's antennas alone
pub same_output : (plan : Plan) (l k : Lists) → ((a : ℕ) → a < plan.antennas → l a ≡ k a)
    → output plan l ≡ output plan k
same_output plan l k same =
    let columns : (n : ℕ) → columns_of plan l n ≡ columns_of plan k n =
    λ n. map_numbers (λ a. column plan a (l a) n) (λ a. column plan a (k a) n) 0 plan.antennas
    (λ a low. ap (λ x. column plan a x n) (same a (omega (arith, low)))) in
    sym (plain_output plan l)
    ∙ same_values (sender_strings plan) plan (λ n. cross_value plan (columns_of plan l n) 0 plan.heaps)
    (λ n. cross_value plan (columns_of plan k n) 0 plan.heaps)
    (λ n. ap (λ cs. cross_value plan cs 0 plan.heaps) (columns n))
    ∙ plain_output plan k

-- what is meant, by the plain back end and the sender
pub meant_output : (names : Bool) (plan named : Plan) (list : Lists) → plan ≡ named
    → output_of (sender_strings plan) plan
    (meant (record { names = names; plan = named; list = list; shows = true; fixed = cross_value })) ≡ output named list
meant_output names plan named list same =
    ap
    (λ p. output_of (sender_strings p) p
    (meant (record { names = names; plan = named; list = list; shows = true; fixed = cross_value }))) same
    ∙ plain_output named list

whole_of : (ran : Ran) (before after : Option (List (List ℕ))) (sent : Sent) (strings : List (List ℕ)) → IsWhole ran
    → SendsBy ran before after sent strings → SendsWhole before after nothing sent strings
whole_of rans.Done before after sent strings whole h = h
whole_of (rans.SourceFault a) before after sent strings whole h = h
whole_of rans.SinkFault before after sent strings whole h = absurd whole

-- lists that the sources are known to tell are those of the observation
pub told_lists : {S : Type 0} (names : Bool) (list : Lists) (plan : Plan) (gives : S → Option (List (List ℕ)))
    (belongs : S → ℕ → Type 0) (given : S → ℕ) (old : List S) (lists : List (List (List ℕ)))
    → (names ≡ true → AreObserved plan belongs given old) → ((s : S) (a : ℕ) → belongs s a → gives s ≡ Some (list a))
    → AreGiven plan (known names gives) given old lists
    → S → (a : ℕ) → a < plan.antennas → (names ≡ true) × (list a ≡ list_of lists a)
told_lists names list plan gives belongs given old lists observed law h d a low =
    let k = tells names gives (get_or old a d) (get_or lists a []) (h.told a d low) in
    (k.0, let e = sym (law (get_or old a d) a ((observed k.0).belong a d low)) ∙ k.1 in cc)

-- what was sent of them
pub sends_told : (ran : Ran) (before after : Option (List (List ℕ))) (sent : Sent) (plan named : Plan) (list : Lists)
    (lists : List (List (List ℕ))) → plan ≡ named → ((a : ℕ) → a < plan.antennas → list a ≡ list_of lists a)
    → SendsBy ran before after sent (output named list) → SendsBy ran before after sent (output plan (list_of lists))
sends_told ran before after sent plan named list lists same agree h =
    subst (SendsBy ran before after sent)
    (ap (λ p. output p list) (sym same) ∙ same_output plan list (list_of lists) agree) h

-- all of it where the run went through
pub sends_counted : (ran : Ran) (before after : Option (List (List ℕ))) (sent : Sent) (plan named : Plan) (list : Lists)
    → plan ≡ named → IsWhole ran → SendsBy ran before after sent (output named list)
    → SendsOutput plan before after sent
sends_counted ran before after sent plan named list same whole h = record {
  lists = list;
  sends = subst (SendsWhole before after nothing sent) (ap (λ p. output p list) (sym same))
      (whole_of ran before after sent (output named list) whole h);
}
