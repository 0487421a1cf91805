use Rattle.std.proofs.Common.{◌==◌, rules, tests}
use Rattle.std.proofs.lemmas.Iterator.Consumers.{YieldsList-from_first}
use Rattle.std.proofs.lemmas.Iterator.Search.{position_from_yields_List}
use Rattle.spead_wire.proofs.tests.place_of.Goals as goal

pub returns : goal.returns
returns c =
    position_from_yields_List (λ p. p.id == c.args.id) _ _ c.position.result c.position.ensures.ran
    (YieldsList-from_first (λ x. x) (λ s. s) c.args.packet.now.pointers c.pointers.ensures.value)
    (λ x b q k. search (rules, tests))
