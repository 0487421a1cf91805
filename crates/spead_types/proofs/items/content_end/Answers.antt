use Rattle.std.proofs.Common.{min, rules, tests}
use Rattle.std.proofs.lemmas.Iterator.{YieldsList-from_map}
use Rattle.std.proofs.lemmas.Iterator.Consumers.{YieldsList-from_first, YieldsList-from_filter, YieldsList-at, fold_from_yields_List}
use Rattle.spead_types.specs.AllItems.{all_group}
use Rattle.spead_types.proofs.ItemLemmas.{is_above, content_end-low, content_end-high}
use Rattle.spead_types.proofs.items.content_end.Goals as goal

pub returns-clause-value : goal.returns-clause-value
returns-clause-value c =
    rw (← c.payload.ensures.value) (fold_from_yields_List _ min _ c.fold.result c.fold.ensures.ran
    (YieldsList-from_map _ (λ p. p.value)
    (YieldsList-at c.map.ensures.source
    (YieldsList-from_filter _ (is_above c.args.offset)
    (YieldsList-at c.filter.ensures.source
    (YieldsList-from_first (λ x. x) (λ s. s) c.args.packet.now.pointers c.pointers.ensures.value))
    c.filter.ensures.closure (λ x r q k. search (rules, tests)))) c.map.ensures.closure
    (λ x r q k. search rules))
    (λ a x b q k. search (rules, tests)))

pub returns-clause-low : goal.returns-clause-low
returns-clause-low c =
    rw (returns-clause-value c) (content_end-low (all_group c.args.packet.now) c.args.offset c.requires)

pub returns-clause-high : goal.returns-clause-high
returns-clause-high c = rw (returns-clause-value c) (content_end-high (all_group c.args.packet.now) c.args.offset)
