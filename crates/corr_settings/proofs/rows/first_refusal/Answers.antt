use Rattle.std.proofs.Common.{arith, refl, sym, ap, ◌∙◌}
use Rattle.toml.specs.View.{table_view}
use Rattle.corr_settings.specs.Values.{row_refusal, value_refusal}
use Rattle.corr_settings.proofs.RowLemmas.{first_of_more, first_of_found, first_of_all}
use Rattle.corr_settings.proofs.rows.first_refusal.Goals as goal

pub returns-in-Some-clause-value : goal.returns-in-Some-clause-value
returns-in-Some-clause-value c =
    first_of_found (row_refusal c.args.test (table_view c.args.table.now)) c.args.rows.now c.loop-row.row-index _ _
    c.in-Some.refusal (omega arith) refl c.loop-row.invariant
    (ap (value_refusal c.args.test _) (sym c.value_at.ensures) ∙ sym c.value_refusal.ensures.value ∙ c.in-Some.is)

pub loop-row-preserved : goal.loop-row-preserved
loop-row-preserved c =
    first_of_more (row_refusal c.args.test (table_view c.args.table.now)) c.args.rows.now c.loop-row.row-index _ _
    (omega arith) refl c.loop-row.invariant
    (ap (value_refusal c.args.test _) (sym c.value_at.ensures) ∙ sym c.value_refusal.ensures.value ∙ c.in_default.is)

pub returns-clause-value : goal.returns-clause-value
returns-clause-value c =
    first_of_all (row_refusal c.args.test (table_view c.args.table.now)) c.args.rows.now _ c.loop-row-test.false
    c.loop-row.invariant
