use Rattle.std.proofs.Common.{sym, ◌∙◌}
use Rattle.heap_window.proofs.StepLemmas.{stale_takes}
use Rattle.heap_window.proofs.steps.take_in.Goals as goal

pub returns-then-is_whole : goal.returns-then-is_whole
returns-then-is_whole c =
    stale_takes c.args.heap.now c.args.place c.args.packet.now (sym c.is_whole.ensures ∙ c.if-is_whole.true)
