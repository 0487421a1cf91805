use Rattle.std.proofs.Common.{◌≤◌, ◌/◌, arith}
use Rattle.vis_kernel.proofs.PairLemmas.{four_again, even_again, odd_again, pairs_are}
use Rattle.vis_kernel.proofs.lanes.pair_products.Goals as goal

pub halves-xx_real-requires : goal.halves-xx_real-requires
halves-xx_real-requires c =
    let most = c.requires.fits.ranges.shape.spectra.most_met in four_again _ _ _ (c.args.plan.now.spectra / 2)
    c.sum_pairs-sums.ensures.same_real (omega arith)

pub halves-xx_imaginary-requires : goal.halves-xx_imaginary-requires
halves-xx_imaginary-requires c =
    let most = c.requires.fits.ranges.shape.spectra.most_met in four_again _ _ _ (c.args.plan.now.spectra / 2)
    c.sum_pairs-sums.ensures.same_imaginary (omega arith)

pub halves-xy_real-requires : goal.halves-xy_real-requires
halves-xy_real-requires c =
    let most = c.requires.fits.ranges.shape.spectra.most_met in four_again _ _ _ (c.args.plan.now.spectra / 2)
    c.sum_pairs-sums.ensures.cross_real (omega arith)

pub halves-xy_imaginary-requires : goal.halves-xy_imaginary-requires
halves-xy_imaginary-requires c =
    let most = c.requires.fits.ranges.shape.spectra.most_met in four_again _ _ _ (c.args.plan.now.spectra / 2)
    c.sum_pairs-sums.ensures.cross_imaginary (omega arith)

pub returns : goal.returns
returns c =
    let most = c.requires.fits.ranges.shape.spectra.most_met in
    let few : c.args.plan.now.spectra / 2 ≤ 2048 = omega arith in
    let h = c.sum_pairs-sums.ensures in
    pairs_are _ _ _ _ (c.args.plan.now.spectra / 2) c.sum_pairs-sums.result _ h
    (even_again _ _ _ _ _ h.same_real few c.halves-xx_real.ensures.even)
    (even_again _ _ _ _ _ h.same_imaginary few c.halves-xx_imaginary.ensures.even)
    (odd_again _ _ _ _ _ h.same_real few c.halves-xx_real.ensures.odd)
    (odd_again _ _ _ _ _ h.same_imaginary few c.halves-xx_imaginary.ensures.odd)
    (even_again _ _ _ _ _ h.cross_real few c.halves-xy_real.ensures.even)
    (even_again _ _ _ _ _ h.cross_imaginary few c.halves-xy_imaginary.ensures.even)
    (odd_again _ _ _ _ _ h.cross_real few c.halves-xy_real.ensures.odd)
    (odd_again _ _ _ _ _ h.cross_imaginary few c.halves-xy_imaginary.ensures.odd)
