-- The output rests on the byte strings of the plan's antennas alone.
use Rattle.std.proofs.Common.{◌≡◌, ◌<◌, ◌+◌, ℕ, zero, suc, List, [], ◌∷◌, ◌++◌, map, refl, sym, ap, ◌∙◌, arith}
use Rattle.std.specs.Prelude.{flat_map}
use Rattle.corr_model.specs.declared.plan.Plan.{Plan}
use Rattle.corr_model.specs.Lists.{numbers}
use Rattle.corr_model.specs.Outputs.{output}
use Rattle.corr_model.specs.Streams.{column}
use Rattle.corr_model.specs.Visibilities.{Lists}
use Rattle.vis_back.specs.Sets.{columns_of}
use Rattle.corr_serial.specs.Outputs.{heap_of}
use Rattle.corr_serial.proofs.CrossLemmas.{plain_meaning, plain_output}

same_map : {A : Type 0} (f g : ℕ → A) (from n : ℕ) → ((a : ℕ) → a < from + n → f a ≡ g a)
    → map f (numbers from n) ≡ map g (numbers from n)
same_map f g from zero h = refl
same_map f g from (suc n) h =
    ap (λ x. x ∷ map f (numbers (from + 1) n)) (h from (omega arith))
    ∙ ap (λ xs. g from ∷ xs) (same_map f g (from + 1) n (λ a less. h a (omega (arith, less))))

same_pieces : {X A : Type 0} (f g : X → List A) → ((x : X) → f x ≡ g x) → (xs : List X) → flat_map f xs ≡ flat_map g xs
same_pieces f g h [] = refl
same_pieces f g h (x ∷ xs) = ap (λ y. y ++ flat_map f xs) (h x) ∙ ap (λ ys. g x ++ ys) (same_pieces f g h xs)

-- two outputs of a plan are the same where the lists of its antennas are
pub same_output : (plan : Plan) (l m : Lists) → ((a : ℕ) → a < plan.antennas → l a ≡ m a)
    → output plan l ≡ output plan m
same_output plan l m h =
    let p = plain_meaning plan in
    let columns : (n : ℕ) → columns_of plan l n ≡ columns_of plan m n =
    λ n. same_map (λ a. column plan a (l a) n) (λ a. column plan a (m a) n) 0 plan.antennas
    (λ a less. ap (λ s. column plan a s n) (h a (omega (arith, less)))) in
    let heaps : (n : ℕ) → heap_of p plan l n ≡ heap_of p plan m n =
    λ n. ap (λ cs. p.strings.heap n (p.value cs 0 plan.heaps)) (columns n) in
    sym (plain_output plan l)
    ∙ ap (λ hs. p.strings.head ++ (hs ++ p.strings.stop))
    (same_pieces (heap_of p plan l) (heap_of p plan m) heaps (numbers 0 plan.accumulations))
    ∙ plain_output plan m
