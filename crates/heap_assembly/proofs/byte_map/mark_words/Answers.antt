use Rattle.std.proofs.Common.{◌≤◌, ◌-◌, length, take, drop, arith, length-take-le, length-drop}
use Rattle.heap_assembly.proofs.MarkLemmas.{marks_filled}
use Rattle.heap_assembly.proofs.byte_map.mark_words.Goals as goal

pub returns : goal.returns
returns c =
    let words = c.args.words.now in
    let count = c.args.last - c.args.first in
    let rest = drop c.args.first words in
    let room : count ≤ length rest = omega (arith, length-drop c.args.first words) in
    rw (c.fill.ensures.after (λ y same. same))
    (marks_filled words c.args.first c.args.last count (length (take count rest)) (omega arith) (omega arith)
    (omega arith) (length-take-le count rest room))
