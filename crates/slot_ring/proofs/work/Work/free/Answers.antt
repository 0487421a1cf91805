use Rattle.std.proofs.Common.{◌∙◌}
use Rattle.std.proofs.lemmas.List.{with_items_is}
use Rattle.slot_ring.proofs.ChangeLemmas.{freed, freed_work}
use Rattle.slot_ring.proofs.work.Work.free.Goals as goal

pub invariant_of-self : goal.invariant_of-self
invariant_of-self g c =
    let all = with_items_is c.self.inside.columns _ (c.free_all.ensures.as_many ∙ c.deref_mut.ensures.len) in
    freed_work _ _ _ _ _ _ c.self.invariant c.deref_mut.ensures.value c.free_all.ensures all

pub returns : goal.returns
returns g c =
    let all = with_items_is c.self.inside.columns _ (c.free_all.ensures.as_many ∙ c.deref_mut.ensures.len) in
    freed _ _ _ _ _ c.self.view_is c.deref_mut.ensures.value c.free_all.ensures all
