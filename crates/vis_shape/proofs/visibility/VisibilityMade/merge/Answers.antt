use Rattle.std.proofs.Common.{◌^◌, map, pos, arith, ap, ap₂, sym, subst, ◌∙◌}
use Rattle.std.proofs.lemmas.List.{with_items_is}
use Rattle.vis_shape.specs.Sums.{AreUpTo, add_sums, with_sums}
use Rattle.vis_shape.specs.Shapes.{shown_of}
use Rattle.vis_shape.proofs.VisLemmas.{small_enough, merged_of, merged_is_vis, merged_shows}
use Rattle.vis_shape.proofs.visibility.VisibilityMade.merge.Goals as goal

pub add_values-requires-clause-to : goal.add_values-requires-clause-to
add_values-requires-clause-to c =
    subst (λ zs. AreUpTo zs (2 ^ 55)) (sym c.deref_mut.ensures.value) (small_enough _ c.self.invariant)

pub add_values-requires-clause-more : goal.add_values-requires-clause-more
add_values-requires-clause-more c =
    subst (λ zs. AreUpTo zs (2 ^ 55)) (sym c.deref.ensures.value) (small_enough _ c.part.invariant)

pub invariant_of-self : goal.invariant_of-self
invariant_of-self c =
    merged_is_vis _ _ _ _ (
    merged_of _ _ _ _ _ _ c.self.view_is c.part.view_is c.self.invariant c.part.invariant c.requires.plan
    c.requires.room
    (with_items_is c.self.inside.values c.add_values.new.to (omega arith) ∙ c.add_values.ensures ∙ ap₂ add_sums
    c.deref_mut.ensures.value c.deref.ensures.value)
    (ap (map pos) (with_items_is c.self.inside.missing c.add_counts.new.to (omega arith)) ∙ c.add_counts.ensures ∙ ap₂
    (λ x y. add_sums (map pos x) (map pos y)) c.deref_mut-2.ensures.value c.deref-2.ensures.value))

pub returns : goal.returns
returns c =
    merged_shows _ _ _ _ (
    merged_of _ _ _ _ _ _ c.self.view_is c.part.view_is c.self.invariant c.part.invariant c.requires.plan
    c.requires.room
    (with_items_is c.self.inside.values c.add_values.new.to (omega arith) ∙ c.add_values.ensures ∙ ap₂ add_sums
    c.deref_mut.ensures.value c.deref.ensures.value)
    (ap (map pos) (with_items_is c.self.inside.missing c.add_counts.new.to (omega arith)) ∙ c.add_counts.ensures ∙ ap₂
    (λ x y. add_sums (map pos x) (map pos y)) c.deref_mut-2.ensures.value c.deref-2.ensures.value))
    ∙ ap₂ (λ a b. with_sums (shown_of a) (shown_of b).sums (shown_of b).added) c.self.view_is c.part.view_is
