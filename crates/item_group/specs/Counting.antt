-- How many descriptors change nothing in a table. This project's own.
use Rattle.std.specs.Prelude.{ℕ, ◌+◌, Bool, if◌then◌else◌, List, [], ◌∷◌, ◌++◌, is_none}
use Rattle.std.specs.Result.{result_ok}
use Rattle.corr_model.specs.declared.plan.Plan.{Plan}
use Rattle.corr_model.specs.Lists.{passes}
use Rattle.corr_model.specs.Descriptors.{described_in}
use Rattle.corr_model.specs.Tables.{is_full_for, table_ids, readable_descriptors}

-- the content is refused as a descriptor
abbrev pub is_refused : List ℕ → Bool
is_refused c = is_none (result_ok (described_in c))

-- the content is a descriptor whose id would be the 65th after these contents
abbrev pub is_full_after : Plan → List (List ℕ) → List ℕ → Bool
is_full_after plan before c =
    passes (λ d. is_full_for (table_ids (readable_descriptors plan before)) d.id) (result_ok (described_in c))

-- how many of these contents, each after those before it, are descriptors whose id would be the 65th
abbrev pub full_count : Plan → List (List ℕ) → List (List ℕ) → ℕ
full_count plan before [] = 0
full_count plan before (c ∷ cs) = (if is_full_after plan before c then 1 else 0) + full_count plan (before ++ c ∷ []) cs
