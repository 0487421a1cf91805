-- What a sender sends of values whose heaps are those of lists.
use Rattle.std.proofs.Common.{◌≡◌, ℕ, ℤ, List, [], ◌∷◌, ◌++◌, flat_map, refl, ap, ap₂}
use Rattle.corr_model.specs.declared.plan.Plan.{Plan}
use Rattle.corr_model.specs.Lists.{numbers}
use Rattle.corr_model.specs.Visibilities.{Lists}
use Rattle.corr_model.specs.Outputs.{head_packets, heap_packets, stop_packets, output}
use Rattle.vis_shape.specs.Payloads.{sums_packets}
use Rattle.vis_send.specs.Emitters.{output_of, sender_strings}

-- two functions that agree everywhere give the same pieces
same_pieces : {A B : Type 0} (f g : A → List B) (xs : List A) → ((x : A) → f x ≡ g x) → flat_map f xs ≡ flat_map g xs
same_pieces f g [] h = refl
same_pieces f g (x ∷ xs) h = ap₂ (λ a b. a ++ b) (h x) (same_pieces f g xs h)

pub output_of_sender : (plan : Plan) (lists : Lists) (values : ℕ → List ℤ)
    → ((n : ℕ) → sums_packets plan n (values n) ≡ heap_packets plan lists n)
    → output_of (sender_strings plan) plan values ≡ output plan lists
output_of_sender plan lists values h =
    ap (λ heaps. head_packets plan ++ (heaps ++ stop_packets plan))
    (same_pieces (λ n. sums_packets plan n (values n)) (heap_packets plan lists) (numbers 0 plan.accumulations) h)
