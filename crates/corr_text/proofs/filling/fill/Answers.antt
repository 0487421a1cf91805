use Rattle.std.proofs.Common.{◌≡◌, ◌-◌, length, drop, ◌∙◌, arith}
use Rattle.std.proofs.lemmas.List.{length-drop, length-take-le}
use Rattle.corr_text.proofs.FillLemmas.{filled_more, same_buffer}
use Rattle.corr_text.proofs.filling.fill.Goals as goal

pub loop-at-preserved : goal.loop-at-preserved
loop-at-preserved g c =
    let part : length c.read.new.buf ≡ length c.loop-at.buf - c.loop-at.at =
    c.read.auto.buf ∙ length-take-le (length c.loop-at.buf - c.loop-at.at) (drop c.loop-at.at c.loop-at.buf)
    (omega (arith, length-drop c.loop-at.at c.loop-at.buf)) in
    let same = same_buffer c.loop-at.buf c.read.new.buf c.loop-at.at (omega arith) part in
    record {
      same_room = same ∙ c.loop-at.invariant.same_room;
      within = omega (arith, same, c.in-Bytes.ensures.fits.within);
      filled = filled_more _ _ _ c.loop-at.buf c.read.new.buf c.loop-at.at c.in-Bytes.n
          (omega (arith, c.in-Bytes.ensures.fits.within)) part c.loop-at.invariant.filled c.in-Bytes.ensures.left;
      placed = c.in-Bytes.ensures.at ∙ c.loop-at.invariant.placed;
      calm = c.in-Bytes.ensures.cause ∙ c.loop-at.invariant.calm;
      is_begun = c.in-Bytes.ensures.begun;
    }
