use Rattle.std.proofs.Common.{◌≡◌, ◌+◌, ◌-◌, ◌^◌, ap, ap₂, sym, subst, ◌∙◌, take, drop, arith}
use borrow.Rule.Slice.PartMut.{put_mid}
use Rattle.vis_kernel.specs.Kernels.{add_sums}
use Rattle.vis_kernel.specs.Sizes.{AreUpTo, eight_parts}
use Rattle.vis_kernel.proofs.adding.add_products.Goals as goal

pub add_eight-requires-clause-sums : goal.add_eight-requires-clause-sums
add_eight-requires-clause-sums c =
    let n : c.args.at + 8 - c.args.at ≡ 8 = omega arith in
    subst (λ k. AreUpTo (take k (drop c.args.at c.args.out.now)) (2 ^ 56)) (sym n) c.requires.sums

pub returns : goal.returns
returns c =
    let n : c.args.at + 8 - c.args.at ≡ 8 = omega arith in
    ap₂ (λ k p. put_mid c.args.at k c.args.out.now p) n
    (c.add_eight.ensures ∙ ap (λ k. add_sums (take k (drop c.args.at c.args.out.now)) (eight_parts c.args.sum)) n)
