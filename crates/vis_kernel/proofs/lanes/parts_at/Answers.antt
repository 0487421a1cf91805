use Rattle.std.proofs.Common.{ℕ, ℤ, ap, sym, subst, ◌∙◌, refl, arith}
use Rattle.corr_model.specs.Visibilities.{signed}
use Rattle.std.specs.Prelude.{slice_index}
use Rattle.vis_kernel.specs.Lanes.{HoldsParts}
use Rattle.vis_kernel.proofs.LaneLemmas.{eight_same, widened}
use Rattle.vis_kernel.proofs.lanes.parts_at.Goals as goal

pub returns-clause-value : goal.returns-clause-value
returns-clause-value c =
    let at : ℕ → ℤ = λ k. signed (slice_index c.args.cell.now k) in
    let a = c.part_at.ensures in
    let b = c.part_at-2.ensures in
    let d = c.part_at-3.ensures in
    let e = c.part_at-4.ensures in
    let f = c.part_at-5.ensures in
    let g = c.part_at-6.ensures in
    let h = c.part_at-7.ensures in
    let i = c.part_at-8.ensures in
    eight_same (widened _ _ a.fits a.small (a.value ∙ ap at (omega arith)))
    (widened _ _ b.fits b.small (b.value ∙ ap at (omega arith)))
    (widened _ _ d.fits d.small (d.value ∙ ap at (omega arith)))
    (widened _ _ e.fits e.small (e.value ∙ ap at (omega arith)))
    (widened _ _ f.fits f.small (f.value ∙ ap at (omega arith)))
    (widened _ _ g.fits g.small (g.value ∙ ap at (omega arith)))
    (widened _ _ h.fits h.small (h.value ∙ ap at (omega arith)))
    (widened _ _ i.fits i.small (i.value ∙ ap at (omega arith)))

pub returns-clause-parts : goal.returns-clause-parts
returns-clause-parts c =
    let a = c.part_at.ensures in
    let b = c.part_at-2.ensures in
    let d = c.part_at-3.ensures in
    let e = c.part_at-4.ensures in
    let f = c.part_at-5.ensures in
    let g = c.part_at-6.ensures in
    let h = c.part_at-7.ensures in
    let i = c.part_at-8.ensures in
    subst HoldsParts
    (sym (eight_same (widened _ _ a.fits a.small refl) (widened _ _ b.fits b.small refl)
    (widened _ _ d.fits d.small refl) (widened _ _ e.fits e.small refl)
    (widened _ _ f.fits f.small refl) (widened _ _ g.fits g.small refl) (widened _ _ h.fits h.small refl)
    (widened _ _ i.fits i.small refl)))
    (record {
      eight = refl;
      first = a.small;
      second = b.small;
      third = d.small;
      fourth = e.small;
      fifth = f.small;
      sixth = g.small;
      seventh = h.small;
      eighth = i.small;
    })
