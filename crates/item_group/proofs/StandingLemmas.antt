-- What a table stands for, with one content more.
use Rattle.std.proofs.Common.{◌≡◌, ℕ, List, [], ◌∷◌, ◌++◌, Ok, Err, sym, ap, subst, ◌∙◌}
use Rattle.std.specs.Result.{result_ok}
use Rattle.std.specs.List.{filter_map}
use Rattle.std.specs.Option.{option_to_list}
use Rattle.std.proofs.lemmas.List.{append-nil, append_assoc}
use Rattle.corr_model.specs.declared.plan.Plan.{Plan}
use Rattle.corr_model.specs.declared.item.DescRefusal.{DescRefusal}
use Rattle.corr_model.specs.Descriptors.{DescribedItem, described_in}
use Rattle.corr_model.specs.Tables.{TableStandsFor, preset, readable_descriptors}
use Rattle.corr_model.proofs.Turns.{filter_map_push}
use Rattle.item_group.specs.Holding.{HoldsDescriptors}

-- the descriptors that count, with a content more
readable_push : (plan : Plan) (before : List (List ℕ)) (c : List ℕ)
    → readable_descriptors plan (before ++ c ∷ [])
    ≡ readable_descriptors plan before ++ option_to_list (result_ok (described_in c))
readable_push plan before c =
    ap (λ ds. preset plan ++ ds) (filter_map_push (λ x. result_ok (described_in x)) before c)
    ∙ sym (append_assoc (preset plan) (filter_map (λ x. result_ok (described_in x)) before)
    (option_to_list (result_ok (described_in c))))

-- the table stands for these contents where it holds their descriptors
pub stands_from : (plan : Plan) (es : List DescribedItem) (contents : List (List ℕ))
    → HoldsDescriptors es (readable_descriptors plan contents) → TableStandsFor plan es contents
stands_from plan es contents h = record { ids = h.ids; each = h.each }

pub holds_from : (plan : Plan) (es : List DescribedItem) (contents : List (List ℕ)) → TableStandsFor plan es contents
    → HoldsDescriptors es (readable_descriptors plan contents)
holds_from plan es contents h = record { ids = h.ids; each = h.each }

-- a content that is a descriptor
pub stands_read : (plan : Plan) (old new : List DescribedItem) (before : List (List ℕ)) (c : List ℕ) (d : DescribedItem)
    → described_in c ≡ Ok d
    → ((ds : List DescribedItem) → HoldsDescriptors old ds → HoldsDescriptors new (ds ++ d ∷ []))
    → TableStandsFor plan old before → TableStandsFor plan new (before ++ c ∷ [])
stands_read plan old new before c d read put s =
    let more : readable_descriptors plan (before ++ c ∷ []) ≡ readable_descriptors plan before ++ d ∷ [] =
    readable_push plan before c ∙ ap (λ r. readable_descriptors plan before ++ option_to_list (result_ok r)) read in
    stands_from plan new (before ++ c ∷ [])
    (subst (HoldsDescriptors new) (sym more)
    (put (readable_descriptors plan before) (holds_from plan old before s)))

-- a content that is none
pub stands_refused : (plan : Plan) (es : List DescribedItem) (before : List (List ℕ)) (c : List ℕ) (e : DescRefusal)
    → described_in c ≡ Err e → TableStandsFor plan es before → TableStandsFor plan es (before ++ c ∷ [])
stands_refused plan es before c e read s =
    let same : readable_descriptors plan (before ++ c ∷ []) ≡ readable_descriptors plan before =
    readable_push plan before c ∙ ap (λ r. readable_descriptors plan before ++ option_to_list (result_ok r)) read ∙
    append-nil (readable_descriptors plan before) in
    stands_from plan es (before ++ c ∷ []) (subst (HoldsDescriptors es) (sym same) (holds_from plan es before s))
