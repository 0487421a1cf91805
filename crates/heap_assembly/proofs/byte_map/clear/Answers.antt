use Rattle.std.proofs.Common.{◌≤◌, length, take, length-take-le, arith}
use Rattle.heap_assembly.proofs.MarkLemmas.{none_after_zeros}
use Rattle.heap_assembly.proofs.byte_map.clear.Goals as goal

pub returns : goal.returns
returns c =
    let n = c.div_ceil.result in
    let words = c.args.words.now in
    let long : n ≤ length words = omega arith in
    rw (c.fill.ensures.after (λ y same. same))
    (none_after_zeros words n (length (take n words)) c.args.to long (length-take-le n words long) (omega arith)
    c.requires.ends)
