use Rattle.std.proofs.Common.{refl, sym, ◌∙◌}
use Rattle.spead_types.proofs.OwnLemmas.{addressed_same}
use Rattle.spead_types.proofs.ItemLemmas.{or_nothing}
use Rattle.spead_types.proofs.reading.content.Goals as goal

pub returns : goal.returns
returns c =
    or_nothing c.addressed.result _ _ c.unwrap_or.result
    (c.addressed.ensures ∙ sym (addressed_same c.args.packet.now c.args.id)) c.unwrap_or.ensures refl
