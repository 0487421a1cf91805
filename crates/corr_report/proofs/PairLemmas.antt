-- The antennas of a baseline.
use Rattle.std.proofs.Common.{◌≡◌, ℕ, ◌<◌, ◌≤◌, sym, ap, ◌∙◌}
use Rattle.std.specs.List.{slice_get}
use Rattle.std.proofs.lemmas.Option.{get_or_from_slice_get}
use Rattle.corr_model.specs.Baselines.{baseline_number}
use Rattle.corr_model.specs.Outputs.{pairs}
use Rattle.corr_model.proofs.OutputLaws.{pair_at_baseline}
use Rattle.corr_report.specs.Decoded.{pair_of}

-- those whose baseline has this number
pub pair_is : (i j baseline : ℕ) → i ≤ j → j < 64 → baseline_number i j ≡ baseline → (i, j) ≡ pair_of baseline
pair_is i j baseline order within number =
    sym (get_or_from_slice_get (pairs 64) baseline (i, j) (0, 0)
    (ap (slice_get (pairs 64)) (sym number) ∙ pair_at_baseline 64 i j order within))
