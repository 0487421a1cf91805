use Rattle.std.proofs.Common.{◌+◌, rules, tests}
use Rattle.std.proofs.lemmas.Iterator.Adapters.{YieldsList-from_skip}
use Rattle.std.proofs.lemmas.Iterator.Consumers.{YieldsList-from_first, YieldsList-at}
use Rattle.std.proofs.lemmas.Iterator.Search.{any_from_yields_List}
use Rattle.spead_types.specs.AllItems.{is_new_at}
use Rattle.spead_types.proofs.items.is_shared.Goals as goal

pub returns : goal.returns
returns c =
    any_from_yields_List (is_new_at c.args.packet.now.pointers c.args.place c.args.offset) _ _ c.any.result
    c.any.ensures.ran
    (YieldsList-from_skip (c.args.place + 1)
    (YieldsList-at c.skip.ensures.source
    (YieldsList-from_first (λ x. x) (λ s. s) c.args.packet.now.pointers c.pointers.ensures.value))
    c.skip.ensures.count)
    (λ x b q k. search (rules, tests))
