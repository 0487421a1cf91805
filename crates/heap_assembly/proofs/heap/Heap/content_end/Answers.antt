use Rattle.std.proofs.Common.{min, rules, tests}
use Rattle.std.proofs.lemmas.Iterator.{YieldsList-from_slice, YieldsList-from_map}
use Rattle.std.proofs.lemmas.Iterator.Consumers.{YieldsList-from_filter, YieldsList-at, fold_from_yields_List}
use Rattle.corr_model.specs.Streams.{group_of}
use Rattle.heap_assembly.specs.Heaps.{whole_of}
use Rattle.heap_assembly.proofs.ItemLemmas.{is_above, content_end-low, content_end-high}
use Rattle.heap_assembly.proofs.heap.Heap.content_end.Goals as goal

pub returns-clause-value : goal.returns-clause-value
returns-clause-value c =
    rw (← c.size.ensures) (fold_from_yields_List _ min _ c.fold.result c.fold.ensures.ran
    (YieldsList-from_map _ (λ p. p.value)
    (YieldsList-at c.map.ensures.source
    (YieldsList-from_filter _ (is_above c.args.offset)
    (YieldsList-at c.filter.ensures.source (YieldsList-from_slice c.args.self.now.pointers.now (cc)))
    c.filter.ensures.closure (λ x r q k. search (rules, tests)))) c.map.ensures.closure
    (λ x r q k. search rules))
    (λ a x b q k. search (rules, tests)))

pub returns-clause-low : goal.returns-clause-low
returns-clause-low c =
    rw (returns-clause-value c) (content_end-low (group_of (whole_of c.args.self.now)) c.args.offset c.requires)

pub returns-clause-high : goal.returns-clause-high
returns-clause-high c =
    rw (returns-clause-value c) (content_end-high (group_of (whole_of c.args.self.now)) c.args.offset)
