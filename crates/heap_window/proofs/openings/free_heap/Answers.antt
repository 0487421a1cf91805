use Rattle.heap_window.proofs.StepLemmas.{from_spare}
use Rattle.heap_window.proofs.openings.free_heap.Goals as goal

pub returns-else-is_full-clause-from : goal.returns-else-is_full-clause-from
returns-else-is_full-clause-from c =
    from_spare c.args.live.now.items c.args.spare.now.items c.pop.new.self.items c.pop.result
    c.unwrap-else-is_full.result c.pop.ensures.items c.unwrap-else-is_full.ensures
