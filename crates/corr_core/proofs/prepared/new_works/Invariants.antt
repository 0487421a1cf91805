use Rattle.std.proofs.Common.{◌≡◌}
use Rattle.std.specs.Vec.{vec_len, vec_capacity}
use Rattle.slot_ring.specs.Slots.{free_work}
use Rattle.corr_machine.specs.Machines.{work_count}
use Rattle.corr_core.proofs.NewLemmas.{BuiltTo}
use Rattle.corr_core.proofs.prepared.new_works.Given as goal

abbrev pub invariant-loop : goal.invariant-loop
invariant-loop g l =
    BuiltTo (λ w k. k ≡ free_work l.plan (g.B.Backend.size l.plan)) (work_count l.plan) l.works.items (vec_len l.works)
    (vec_capacity l.works) l.counter
