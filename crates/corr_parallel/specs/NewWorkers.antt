-- The workers of a run before their first turn. This project's own.
use Rattle.std.specs.Prelude.{ℕ, None, replicate}
use Rattle.corr_model.specs.declared.plan.Plan.{Plan}
use Rattle.corr_threads.specs.Workers.{WorkerView}

-- the worker of this number to which no slot has shown anything, and that computed nothing yet
abbrev pub new_worker : Plan → ℕ → WorkerView
new_worker plan number =
    record { plan = plan; number = number; first = 0; held = replicate plan.slots None; computed = 0 }
