use Rattle.std.proofs.Common.{arith, lit≤, ◌^◌}
use Rattle.vis_kernel.proofs.SumLemmas.{summed_more, wider}
use Rattle.vis_kernel.proofs.ProductLemmas.{first_pairs, within, all_spectra}
use Rattle.vis_kernel.proofs.products.channel_products.Goals as goal

pub loop-spectrum-init : goal.loop-spectrum-init
loop-spectrum-init c = first_pairs _ _ _ _ _ _ c.pair_products-sum.ensures

pub plus-requires-clause-first : goal.plus-requires-clause-first
plus-requires-clause-first c =
    let few = c.requires.fits.ranges.shape.spectra.most_met in within _ _ _ _ _ _ _ _
    c.loop-spectrum.invariant.xx (omega arith)

pub plus-requires-clause-second : goal.plus-requires-clause-second
plus-requires-clause-second c = wider c.product.result 32768 (2 ^ 29) (lit≤ tt) c.product.ensures.small

pub plus-requires-in-loop-spectrum-clause-first : goal.plus-requires-in-loop-spectrum-clause-first
plus-requires-in-loop-spectrum-clause-first c =
    let few = c.requires.fits.ranges.shape.spectra.most_met in within _ _ _ _ _ _ _ _
    c.loop-spectrum.invariant.xy (omega arith)

pub plus-requires-in-loop-spectrum-2-clause-first : goal.plus-requires-in-loop-spectrum-2-clause-first
plus-requires-in-loop-spectrum-2-clause-first c =
    let few = c.requires.fits.ranges.shape.spectra.most_met in within _ _ _ _ _ _ _ _
    c.loop-spectrum.invariant.yx (omega arith)

pub plus-requires-in-loop-spectrum-3-clause-first : goal.plus-requires-in-loop-spectrum-3-clause-first
plus-requires-in-loop-spectrum-3-clause-first c =
    let few = c.requires.fits.ranges.shape.spectra.most_met in within _ _ _ _ _ _ _ _
    c.loop-spectrum.invariant.yy (omega arith)

pub loop-spectrum-preserved : goal.loop-spectrum-preserved
loop-spectrum-preserved c =
    let i = c.loop-spectrum.invariant in
    let x0 = c.sample_at-x0.ensures.value in
    let x1 = c.sample_at-x1.ensures.value in
    let y0 = c.sample_at-y0.ensures.value in
    let y1 = c.sample_at-y1.ensures.value in
    record {
      xx = summed_more _ _ _ _ _ _ _ _ _ _ _ _ i.xx x0 y0 c.product.ensures.value c.product.ensures.small
          c.plus.ensures;
      xy = summed_more _ _ _ _ _ _ _ _ _ _ _ _ i.xy x0 y1 c.product-in-loop-spectrum.ensures.value
          c.product-in-loop-spectrum.ensures.small c.plus-in-loop-spectrum.ensures;
      yx = summed_more _ _ _ _ _ _ _ _ _ _ _ _ i.yx x1 y0 c.product-in-loop-spectrum-2.ensures.value
          c.product-in-loop-spectrum-2.ensures.small c.plus-in-loop-spectrum-2.ensures;
      yy = summed_more _ _ _ _ _ _ _ _ _ _ _ _ i.yy x1 y1 c.product-in-loop-spectrum-3.ensures.value
          c.product-in-loop-spectrum-3.ensures.small c.plus-in-loop-spectrum-3.ensures;
    }

pub returns : goal.returns
returns c = all_spectra _ _ _ _ _ _ c.loop-spectrum.invariant (omega arith)
