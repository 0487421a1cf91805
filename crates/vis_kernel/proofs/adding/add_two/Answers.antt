use Rattle.std.proofs.Common.{arith, pos}
use Rattle.std.proofs.lemmas.Int.{ints}
use Rattle.vis_kernel.proofs.KernelLemmas.{two_set}
use Rattle.vis_kernel.proofs.adding.add_two.Goals as goal

pub returns : goal.returns
returns c =
    let a = c.requires.sums 0 (pos 0) (omega arith) in
    let b = c.requires.sums 1 (pos 0) (omega arith) in
    let u = c.requires.value.real in
    let v = c.requires.value.imaginary in
    let la = a.low in let ha = a.high in let lb = b.low in let hb = b.high in
    let lu = u.low in let hu = u.high in let lv = v.low in let hv = v.high in
    two_set _ _ _ _ _ c.requires.room (omega (arith, ints)) (omega (arith, ints))
