use Rattle.std.proofs.Common.{take, ap, ◌∙◌, rules, tests}
use Rattle.std.specs.List.{find}
use Rattle.std.proofs.lemmas.Iterator.{YieldsList-from_slice}
use Rattle.std.proofs.lemmas.Iterator.Search.{find_from_yields_List}
use Rattle.item_group.proofs.TableLemmas.{has_id}
use Rattle.item_group.proofs.table.Table.get.Goals as goal

pub returns-clause-found : goal.returns-clause-found
returns-clause-found c =
    let entries = take c.self.inside.len c.self.inside.entries in
    find_from_yields_List (has_id c.args.id) _ _ c.find.result c.find.ensures.ran (YieldsList-from_slice entries cc)
    (λ x b q k. search (rules, tests)) ∙ ap (find (has_id c.args.id)) c.self.view_is

pub returns-clause-entry : goal.returns-clause-entry
returns-clause-entry c = λ plan contents stands. returns-clause-found c ∙ stands.each c.args.id
