use Rattle.std.proofs.Common.{◌∙◌, ap, subst, length, arith}
use Rattle.vis_send.specs.Sending.{Tallies}
use Rattle.vis_send.proofs.CutLemmas.{head_sendable, head_of}
use Rattle.vis_send.proofs.sender.send_head.Goals as goal

pub send_heap-requires-clause-heap : goal.send_heap-requires-clause-heap
send_heap-requires-clause-heap g c =
    let same = ap length c.as_slice.ensures.value in
    let room = c.as_slice.ensures.fits in
    head_sendable _ _ _ _ c.addressed.ensures c.addressed-2.ensures c.addressed-3.ensures (omega arith)

pub returns-clause-sent : goal.returns-clause-sent
returns-clause-sent g c =
    let K = g.K.PacketSink in
    let head = head_of c.args.plan.now _ _ _ _ _ c.addressed.ensures c.addressed-2.ensures c.addressed-3.ensures
    c.new-descriptors.ensures (c.as_slice.ensures.value ∙ c.put_descriptors.ensures) in
    subst (λ packets. Tallies (K.sent c.args.sink.now) (K.sent c.send_heap.new.sink) c.args.sent.now
    c.send_heap.new.sent c.send_heap.result packets) head c.send_heap.ensures.sent

pub returns-clause-begun : goal.returns-clause-begun
returns-clause-begun g c = c.send_heap.ensures.begun

pub returns-clause-at : goal.returns-clause-at
returns-clause-at g c = c.send_heap.ensures.at

pub returns-clause-cause : goal.returns-clause-cause
returns-clause-cause g c = c.send_heap.ensures.cause
