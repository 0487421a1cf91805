use Rattle.std.proofs.Common.{◌≡◌, ◌+◌, ◌-◌, ◌^◌, ap, ap₂, sym, subst, ◌∙◌, take, drop, arith}
use borrow.Rule.Slice.PartMut.{put_mid}
use Rattle.vis_kernel.specs.Kernels.{add_sums, two_parts}
use Rattle.vis_kernel.specs.Sizes.{AreUpTo, complex_of}
use Rattle.vis_kernel.proofs.adding.add_value.Goals as goal

pub add_two-requires-clause-sums : goal.add_two-requires-clause-sums
add_two-requires-clause-sums c =
    let n : c.args.at + 2 - c.args.at ≡ 2 = omega arith in
    subst (λ k. AreUpTo (take k (drop c.args.at c.args.out.now)) (2 ^ 56)) (sym n) c.requires.sums

pub returns : goal.returns
returns c =
    let n : c.args.at + 2 - c.args.at ≡ 2 = omega arith in
    ap₂ (λ k p. put_mid c.args.at k c.args.out.now p) n
    (c.add_two.ensures ∙ ap
    (λ k. add_sums (take k (drop c.args.at c.args.out.now)) (two_parts (complex_of c.args.value))) n)
