use Rattle.std.proofs.Common.{◌≡◌, slice_get, option_map}
use Rattle.corr_model.specs.Items.{content}
use Rattle.corr_model.specs.Streams.{group_of}
use Rattle.heap_assembly.specs.Heaps.{whole_of}
use Rattle.heap_assembly.proofs.ItemLemmas.{IfSome-from, content-at}
use Rattle.heap_assembly.proofs.heap.Heap.content.Goals as goal

pub returns : goal.returns
returns c =
    let items = group_of (whole_of c.args.self.now) in
    let place = c.args.place in
    IfSome-from (slice_get items.pointers place)
    (λ p. option_map (λ x. x.now) c.content_at.result ≡ content items (place, p))
    (λ p e. content-at items place _ _ p c.content_at.ensures e)
