use Rattle.std.proofs.Common.{arith, refl, sym, ◌∙◌}
use Rattle.corr_settings.specs.Plain.{number_refusal}
use Rattle.corr_settings.proofs.RowLemmas.{first_of_more, first_of_found, first_of_all}
use Rattle.corr_settings.proofs.plain.first_refusal.Goals as goal

pub returns-in-Some-clause-value : goal.returns-in-Some-clause-value
returns-in-Some-clause-value c =
    first_of_found (number_refusal c.args.numbers.now) c.args.rows.now c.loop-row.row-index _ _ c.in-Some.refusal
    (omega arith) refl c.loop-row.invariant
    (sym c.number_refusal.ensures.value ∙ c.in-Some.is)

pub loop-row-preserved : goal.loop-row-preserved
loop-row-preserved c =
    first_of_more (number_refusal c.args.numbers.now) c.args.rows.now c.loop-row.row-index _ _ (omega arith) refl
    c.loop-row.invariant
    (sym c.number_refusal.ensures.value ∙ c.in_default.is)

pub returns-clause-value : goal.returns-clause-value
returns-clause-value c =
    first_of_all (number_refusal c.args.numbers.now) c.args.rows.now _ c.loop-row-test.false c.loop-row.invariant
