use Rattle.std.proofs.Common.{◌+◌, rules, tests}
use Rattle.std.proofs.lemmas.Iterator.{YieldsList-from_take}
use Rattle.std.proofs.lemmas.Iterator.Consumers.{YieldsList-from_first, YieldsList-at}
use Rattle.std.proofs.lemmas.Iterator.Search.{any_from_yields_List}
use Rattle.corr_model.specs.Assembly.{are_same}
use Rattle.spead_types.proofs.items.stands_by.Goals as goal

pub returns : goal.returns
returns c =
    any_from_yields_List (are_same c.args.pointer.now) _ _ c.any.result c.any.ensures.ran
    (YieldsList-from_take (c.args.place + 1)
    (YieldsList-at c.take.ensures.source
    (YieldsList-from_first (λ x. x) (λ s. s) c.args.packet.now.pointers c.pointers.ensures.value))
    c.take.ensures.count)
    (λ x b q k. search (rules, tests))
