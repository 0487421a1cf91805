use Rattle.std.proofs.Common.{◌==◌, ◌∙◌, sym, rules, tests}
use Rattle.std.proofs.lemmas.Iterator.Consumers.{YieldsList-from_first, YieldsList-at, YieldsList-from_enumerate}
use Rattle.std.proofs.lemmas.Iterator.Adapters.{option_map_id}
use Rattle.std.proofs.lemmas.Iterator.Search.{find_from_yields_List}
use Rattle.spead_types.proofs.items.find.Goals as goal

pub returns-clause-value : goal.returns-clause-value
returns-clause-value c =
    sym (option_map_id c.find.result) ∙ find_from_yields_List (λ placed. placed.1.id == c.args.id) _ _ c.find.result
    c.find.ensures.ran
    (YieldsList-from_enumerate
    (YieldsList-at c.enumerate.ensures.source
    (YieldsList-from_first (λ x. x) (λ s. s) c.args.packet.now.pointers c.pointers.ensures.value))
    c.enumerate.ensures.count)
    (λ x b q k. search (rules, tests))
