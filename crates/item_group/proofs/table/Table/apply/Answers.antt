use Rattle.std.proofs.Common.{◌+◌, ◌<◌, ◌≤◌, ◌++◌, length, option_map, sym, ap, subst, ◌∙◌, arith}
use Rattle.std.specs.Option.{option_to_list}
use Rattle.corr_model.specs.Streams.{group_of, contents_of}
use Rattle.heap_assembly.specs.Heaps.{whole_of}
use Rattle.item_group.proofs.ApplyLemmas.{HasApplied, contents_to, contents_after, IsAppliedTo, applied_one, applied_same, applied_all, bad_after}
use Rattle.item_group.proofs.table.Table.apply.Goals as goal
use Rattle.item_group.proofs.table.Table.apply.Goals.{in-Some, in_default}

pub loop-place-preserved : goal.loop-place-preserved
loop-place-preserved c =
    let g = group_of (whole_of c.args.heap.now) in
    let n = c.loop-place.place in
    let old = c.args.self.now in
    let before = c.loop-place.applied in
    let within : n < length g.pointers = omega (arith, ap length c.pointers-place-end.ensures.value) in
    let next = contents_after g n _ within c.descriptor_at.ensures in
    elim c.match-descriptor_at.branch [
      | in-Some w ↦
          let more = next ∙ ap (λ found. contents_to g n ++ option_to_list (option_map (λ x. x.now) found))
          w.in-Some.is in
          let done = applied_one g n old _ _ w.in-Some.content.now before w.take-taken.result c.loop-place.invariant
          more w.take-taken.ensures.stands w.take-taken.ensures.taken in
          let counted = subst (IsAppliedTo g (n + 1) old w.take-taken.new.self)
          (sym (w.applied-is ∙ w.with-applied.ensures)) done in
          subst (λ es. IsAppliedTo g (n + 1) old es c.match-descriptor_at.applied) (sym w.self-is) counted
      | in_default w ↦
          let more = next ∙ ap (λ found. contents_to g n ++ option_to_list (option_map (λ x. x.now) found))
          w.in_default.is in
          let done = applied_same g n old _ before c.loop-place.invariant more in
          let counted = subst (IsAppliedTo g (n + 1) old c.loop-place.self) (sym w.applied-is) done in
          subst (λ es. IsAppliedTo g (n + 1) old es c.match-descriptor_at.applied) (sym w.self-is) counted
    ]

all_applied : (c : goal.After-loop-place)
    → HasApplied c.args.self.now c.loop-place.self (contents_of (whole_of c.args.heap.now)) c.loop-place.applied
all_applied c =
    let g = group_of (whole_of c.args.heap.now) in
    let all : length g.pointers ≤ c.loop-place.place = omega (arith, ap length c.pointers-place-end.ensures.value) in
    applied_all g c.loop-place.place c.args.self.now c.loop-place.self c.loop-place.applied c.loop-place.invariant all

pub returns-clause-stands : goal.returns-clause-stands
returns-clause-stands c = (all_applied c).stands

pub returns-clause-all : goal.returns-clause-all
returns-clause-all c = (all_applied c).all

pub returns-clause-refused : goal.returns-clause-refused
returns-clause-refused c = (all_applied c).refused

pub returns-clause-full : goal.returns-clause-full
returns-clause-full c = (all_applied c).full

pub returns-clause-bad : goal.returns-clause-bad
returns-clause-bad c =
    λ plan before stands.
    bad_after c.args.self.now c.loop-place.self (contents_of (whole_of c.args.heap.now)) c.loop-place.applied plan
    before (all_applied c) stands
