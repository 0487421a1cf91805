use Rattle.std.proofs.Common.{sym, ◌∙◌}
use Rattle.corr_model.specs.Streams.{group_of}
use Rattle.heap_assembly.specs.Heaps.{whole_of}
use Rattle.heap_assembly.proofs.ItemLemmas.{content_at-range}
use Rattle.heap_assembly.proofs.heap.Heap.content_at.Goals as goal

pub returns : goal.returns
returns c =
    content_at-range (group_of (whole_of c.args.self.now)) c.args.place c.args.offset c.content_end-end.result
    c.size.result c.size.ensures c.if-size-offset.false (sym c.if-is_shared.false ∙ c.is_shared.ensures)
    c.content_end-end.ensures.value
