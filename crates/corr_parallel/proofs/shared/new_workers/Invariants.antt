use Rattle.std.proofs.Common.{◌≡◌}
use Rattle.std.specs.Vec.Iter.{into_iter_items, into_iter_len}
use Rattle.std.specs.Vec.{vec_len, vec_capacity}
use Rattle.corr_machine.specs.Machines.{work_count}
use Rattle.corr_core.proofs.NewLemmas.{BuiltTo}
use Rattle.corr_threads.specs.Workers.{WorkerView}
use Rattle.corr_parallel.specs.NewWorkers.{new_worker}
use Rattle.corr_parallel.proofs.SharedLemmas.{Left}
use Rattle.corr_parallel.proofs.shared.new_workers.Given as goal

abbrev pub invariant-loop-number : goal.invariant-loop-number
invariant-loop-number g l =
    BuiltTo (λ w (x : WorkerView). x ≡ new_worker l.plan w) (work_count l.plan) l.workers.items (vec_len l.workers)
    (vec_capacity l.workers) l.number
    × Left l.fn.works.items (into_iter_items l.works_left) (into_iter_len l.works_left) l.number
