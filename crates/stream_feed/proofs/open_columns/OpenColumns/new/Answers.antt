use Rattle.std.proofs.Common.{◌≡◌, ◌∙◌, ap, map, arith, rules}
use Rattle.corr_model.specs.Lists.{numbers}
use Rattle.slot_column.specs.Columns.{empty_column}
use Rattle.stream_feed.proofs.OpenLemmas.{columns_more, new_open_with}
use Rattle.stream_feed.proofs.open_columns.OpenColumns.new.Goals as goal

pub loop-number-preserved : goal.loop-number-preserved
loop-number-preserved c =
    columns_more _ _ _ _ _ _ _ _ _ _ c.loop-number.invariant (search rules) c.push_reserved.ensures.items
    c.push_reserved.ensures.len c.push_reserved.ensures.capacity

pub invariant_of-result : goal.invariant_of-result
invariant_of-result c =
    let plan = c.args.plan.now in
    let last : c.loop-number.number ≡ plan.lag = omega arith in
    new_open_with plan c.args.antenna _ _ c.requires.fits c.requires.in_range
    (c.loop-number.invariant.is ∙ ap (λ k. map (empty_column plan c.args.antenna) (numbers 0 k)) last)
    c.in_ok-numbered-2.ensures
