use Rattle.std.proofs.Common.{◌≤◌, length, take, ap, sym, ◌∙◌, subst}
use Rattle.heap_assembly.specs.Steps.{with_pointers}
use Rattle.heap_assembly.proofs.PointerLemmas.{next_pointer, many_pointers, take-with_pointer, le-with_pointer}
use Rattle.heap_assembly.proofs.pointer_set.PointerSet.add.Goals as goal

pub returns-then-not-insert-clause-cases : goal.returns-then-not-insert-clause-cases
returns-then-not-insert-clause-cases c =
    many_pointers c.args.self.now c.args.packet.now.pointers c.loop-pointer.self c.loop-pointer.pointer-iterator
    c.next.new.self c.in-Some.pointer c.loop-pointer.invariant.0 c.in-Some.ensures.steps
    c.if-not-insert.ensures.cases.1

pub loop-pointer-preserved : goal.loop-pointer-preserved
loop-pointer-preserved c =
    let items = c.loop-pointer.self in
    let p = c.in-Some.pointer in
    let is = c.if-not-insert.ensures.cases in
    let inv = c.loop-pointer.invariant in (
      ap (λ ps. with_pointers ps c.next.new.self) is ∙ next_pointer c.args.self.now c.args.packet.now.pointers items
          c.loop-pointer.pointer-iterator c.next.new.self p inv.0 c.in-Some.ensures.steps,
      ap (take c.len-before.result) is ∙ take-with_pointer c.len-before.result items p inv.2 ∙ inv.1,
      subst (λ ps. c.len-before.result ≤ length ps) (sym is) (le-with_pointer c.len-before.result items p inv.2),
      c.insert.ensures.few,
    )
