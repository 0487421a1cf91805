use Rattle.vis_send.proofs.sender.send_stop.Goals as goal

pub returns-clause-begun : goal.returns-clause-begun
returns-clause-begun g c = c.send_heap.ensures.begun

pub returns-clause-at : goal.returns-clause-at
returns-clause-at g c = c.send_heap.ensures.at

pub returns-clause-cause : goal.returns-clause-cause
returns-clause-cause g c = c.send_heap.ensures.cause
