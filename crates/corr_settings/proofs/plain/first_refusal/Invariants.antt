use Rattle.std.proofs.Common.{◌≡◌, None, take}
use Rattle.corr_settings.specs.Plain.{number_refusal}
use Rattle.corr_settings.specs.Values.{first_of}
use Rattle.corr_settings.proofs.plain.first_refusal.Given as goal

abbrev pub invariant-loop-row : goal.invariant-loop-row
invariant-loop-row l = first_of (number_refusal l.numbers) (take l.row-index l.rows) ≡ None
