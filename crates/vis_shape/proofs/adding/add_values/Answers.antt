use Rattle.std.proofs.Common.{◌^◌, arith, pos, rules}
use Rattle.std.proofs.lemmas.Int.{ints}
use Rattle.vis_shape.proofs.VisLemmas.{values_more, value_there, values_all}
use Rattle.vis_shape.proofs.adding.add_values.Goals as goal

pub overflow_add-to : goal.overflow_add-to
overflow_add-to c =
    let a = value_there c.loop-k.k c.args.to.now c.args.more.now c.loop-k.to (2 ^ 55) c.loop-k.invariant c.requires.to
    (omega arith) in
    let b = c.requires.more c.loop-k.k (pos 0) (omega arith) in
    let la = a.low in let ha = a.high in let lb = b.low in let hb = b.high in
    search (rules, ints)

pub loop-k-preserved : goal.loop-k-preserved
loop-k-preserved c =
    let a = value_there c.loop-k.k c.args.to.now c.args.more.now c.loop-k.to (2 ^ 55) c.loop-k.invariant c.requires.to
    (omega arith) in
    let b = c.requires.more c.loop-k.k (pos 0) (omega arith) in
    let la = a.low in let ha = a.high in let lb = b.low in let hb = b.high in
    values_more c.loop-k.k c.args.to.now c.args.more.now c.loop-k.to _ c.loop-k.invariant (omega arith) c.requires.same
    (omega (arith, ints))

pub returns : goal.returns
returns c = values_all c.loop-k.k c.args.to.now c.args.more.now c.loop-k.to c.loop-k.invariant (omega arith)
    c.requires.same
