use Rattle.corr_core.proofs.EmitLemmas.{first_failed, heap_failed, last_answers}
use Rattle.corr_core.proofs.emitting.emit_with.Goals as goal

pub returns-in_err-emit_first-clause-sent : goal.returns-in_err-emit_first-clause-sent
returns-in_err-emit_first-clause-sent g c =
    let strings = g.E.Emit.strings c.args.plan.now in
    first_failed c.from_residual.result c.args.plan.now strings c.args.number (g.M.Made.shown c.args.out.now).sums _ _ _
    _ c.from_residual.ensures.0 c.in_err-emit_first.ensures.sent

pub returns-in_err-emit_heap-clause-sent : goal.returns-in_err-emit_heap-clause-sent
returns-in_err-emit_heap-clause-sent g c =
    let strings = g.E.Emit.strings c.args.plan.now in
    heap_failed c.from_residual-in_err-emit_heap.result c.args.plan.now strings c.args.number
    (g.M.Made.shown c.args.out.now).sums _ _ _ _ _ _ c.from_residual-in_err-emit_heap.ensures.0
    c.in_ok-emit_first.ensures.sent c.in_err-emit_heap.ensures.sent

pub returns-clause-sent : goal.returns-clause-sent
returns-clause-sent g c =
    let strings = g.E.Emit.strings c.args.plan.now in
    last_answers c.emit_last.result c.args.plan.now strings c.args.number (g.M.Made.shown c.args.out.now).sums _ _ _ _ _
    _ _ _ c.in_ok-emit_first.ensures.sent c.in_ok-emit_heap.ensures.sent c.emit_last.ensures.sent
