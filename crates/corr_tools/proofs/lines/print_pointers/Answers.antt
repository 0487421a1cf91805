use Rattle.corr_tools.proofs.PacketLemmas.{none_printed, printed_all, printed_front, printed_next}
use Rattle.corr_tools.proofs.lines.print_pointers.Goals as goal

pub loop-pointer-init : goal.loop-pointer-init
loop-pointer-init g c =
    none_printed _ _ _ _ _ c.into_iter-pointer-iterator.ensures.into_iter_gives c.pointers-pointer-items.ensures.value
    c.pointers-pointer-items.ensures.own

pub loop-pointer-preserved : goal.loop-pointer-preserved
loop-pointer-preserved g c =
    printed_next _ _ _ c.in-Some.pointer _ _ _ _ _ _ c.loop-pointer.invariant c.in-Some.ensures.steps
    c.in_default.ensures.written c.in_default.ensures.cause.kept

pub returns-in-Err-clause-written : goal.returns-in-Err-clause-written
returns-in-Err-clause-written g c =
    printed_front _ _ _ c.in-Some.pointer _ _ _ _ _ c.loop-pointer.invariant c.in-Some.ensures.steps
    c.in-Err.ensures.written

pub returns-clause-written : goal.returns-clause-written
returns-clause-written g c = printed_all _ _ _ _ _ _ c.loop-pointer.invariant c.in-None.ensures.steps.0
