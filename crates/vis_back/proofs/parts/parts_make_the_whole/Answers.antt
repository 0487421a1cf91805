use Rattle.vis_back.proofs.PartLemmas.{made_whole}
use Rattle.vis_back.proofs.parts.parts_make_the_whole.Goals as goal

pub returns : goal.returns
returns g c = λ back plan cells making total up.
    made_whole plan (g.B.Backend.size plan) (g.B.Backend.value back plan cells) total making
    (record {
      sized = g.met.B.Backend.sized back plan cells;
      splits = g.met.B.Backend.splits back plan cells;
      starts = g.met.B.Backend.starts back plan cells;
    })
    up
