use Rattle.std.proofs.Common.{◌≡◌, ◌≤◌, ◌-◌, List, All, length, refl, sym, ap, ◌∙◌, subst, arith}
use Rattle.circular_buffer.specs.Buffer.{Buffer}
use Rattle.heap_assembly.specs.LiveStates.{LiveState}
use Rattle.heap_window.specs.Steps.{TakesIn}
use Rattle.heap_window.proofs.StepLemmas.{pushed, place_is_last, all_of_limit}
use Rattle.heap_window.proofs.openings.open.Goals as goal

pub returns-clause-opens : goal.returns-clause-opens
returns-clause-opens c =
    let window = c.args.live.now in
    let before = c.start.new.self in
    let after = c.take_in-answer.new.heap in
    let fits : length window.items ≤ window.capacity = omega arith in
    let is = pushed window c.free_heap-heap.new.live c.push_back.new.self after c.free_heap-heap.ensures.live
    c.push_back.ensures.items c.requires.some fits in
    let place =
    c.len.ensures.len
    ∙ ap (λ (b : Buffer LiveState). length b.items) c.free_heap-heap.ensures.live
    ∙ place_is_last window after c.requires.some fits
    ∙ sym (ap (λ (es : List LiveState). length es - 1) is) in
    record {
      before = before;
      after = after;
      empty = c.start.ensures.stands;
      counter = c.start.ensures.counter ∙ c.counter.ensures.value;
      is = is;
      takes = subst (λ n. TakesIn before n c.args.packet.now after c.take_in-answer.result) place
          c.take_in-answer.ensures;
      opened = refl;
      evicted = c.leaving-evicted.ensures;
    }

pub returns-clause-limits : goal.returns-clause-limits
returns-clause-limits c = λ limit kept spares.
    let window = c.args.live.now in
    let after = c.take_in-answer.new.heap in
    let fits : length window.items ≤ window.capacity = omega arith in
    let is = pushed window c.free_heap-heap.new.live c.push_back.new.self after c.free_heap-heap.ensures.live
    c.push_back.ensures.items c.requires.some fits in
    let same = c.take_in-answer.ensures.limit ∙ c.start.ensures.limit in
    subst (All (λ (e : LiveState). e.limit ≡ limit)) (sym is)
    (all_of_limit limit window.capacity window.items c.args.spare.now.items c.free_heap-heap.result after kept spares
    c.free_heap-heap.ensures.from same)
