use Rattle.std.proofs.Common.{◌≡◌, ◌≤◌, ◌-◌, ℕ, subst, sym, arith}
use Rattle.heap_assembly.specs.Marks.{mark_at}
use Rattle.heap_assembly.proofs.MarkLemmas.{any_from_none}
use Rattle.heap_assembly.proofs.live.Live.overlaps.Goals as goal

pub returns-then-self-from : goal.returns-then-self-from
returns-then-self-from c =
    let above = subst (λ e. (i : ℕ) → c.self.inside.ending ≤ i → mark_at e.words i ≡ 0) c.self.view_is
    c.self.invariant.above in
    sym (any_from_none (mark_at c.args.self.now.words) c.args.from (c.args.to - c.args.from)
    (λ i low high. above i (omega arith)))
