use Rattle.std.proofs.Common.{◌≡◌, refl}
use Rattle.heap_window.specs.declared.take.Taken.TheVariants as taken
use Rattle.heap_window.proofs.TakeLemmas.{takes, matches_at, whole_at}
use Rattle.heap_window.proofs.window.Window.take.Goals.{in-Part, in-Whole, in-Stale, in-Dropped}
use Rattle.heap_window.proofs.window.Window.take.Goals as goal

pub heap-requires : goal.heap-requires
heap-requires c = whole_at _ _ _ _ _ _ _ c.step-step.ensures c.in-Whole.is

pub returns : goal.returns
returns c =
    let self = c.match-step.self in
    let steps = c.step-step.ensures in (
      (
        refl,
        λ _. tt,
        elim c.match-step.branch [
          | in-Part w ↦ takes _ _ _ _ _ self _ w.self-is steps (matches_at _ _ _ _ w.in-Part.is w.what-is)
          | in-Whole w ↦ takes _ _ _ _ _ self _ w.self-is steps
              (matches_at _ _ _ _ w.in-Whole.is (w.heap.result, w.what-is, w.heap.ensures))
          | in-Stale w ↦ takes _ _ _ _ _ self _ w.self-is steps (matches_at _ _ _ _ w.in-Stale.is w.what-is)
          | in-Dropped w ↦
              let what_is : c.match-step.what ≡ taken.Dropped w.in-Dropped.cause = cc in
              takes _ _ _ _ _ self _ w.self-is steps (matches_at _ _ _ _ w.in-Dropped.is what_is)
        ],
      ),
      tt,
    )
