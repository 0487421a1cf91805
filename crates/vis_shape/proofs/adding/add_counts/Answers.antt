use Rattle.std.proofs.Common.{arith, refl}
use Rattle.vis_shape.proofs.VisLemmas.{count_there, counts_more, counts_all}
use Rattle.vis_shape.proofs.adding.add_counts.Goals as goal

pub overflow_add-to : goal.overflow_add-to
overflow_add-to c =
    let same = count_there c.loop-k.k c.args.to.now c.args.more.now c.loop-k.to c.loop-k.invariant in
    let a = c.requires.to c.loop-k.k 0 (omega arith) in
    let b = c.requires.more c.loop-k.k 0 (omega arith) in
    omega (arith, same, a, b)

pub loop-k-preserved : goal.loop-k-preserved
loop-k-preserved c =
    counts_more c.loop-k.k c.args.to.now c.args.more.now c.loop-k.to _ c.loop-k.invariant (omega arith)
    c.requires.same refl

pub returns : goal.returns
returns c = counts_all c.loop-k.k c.args.to.now c.args.more.now c.loop-k.to c.loop-k.invariant (omega arith)
    c.requires.same
