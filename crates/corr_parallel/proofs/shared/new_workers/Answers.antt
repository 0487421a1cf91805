use Rattle.std.proofs.Common.{◌≡◌, ◌<◌, ap, arith}
use Rattle.corr_machine.specs.Machines.{work_count}
use Rattle.slot_ring.specs.Slots.{WorkView, free_work}
use Rattle.corr_core.proofs.NewLemmas.{built_more}
use Rattle.corr_parallel.proofs.SharedLemmas.{taken_new}
use Rattle.corr_parallel.proofs.shared.new_workers.Goals as goal

pub new-requires-clause-free : goal.new-requires-clause-free
new-requires-clause-free g c =
    let low : c.loop-number.number < work_count c.args.plan.now =
    omega (arith, c.loop-number-test.true, c.max-count.ensures) in
    let k = taken_new (λ w (x : WorkView). x ≡ free_work c.args.plan.now (g.B.Backend.size c.args.plan.now)) _ _ _ _ _ _
    _ _ c.requires.works c.loop-number.invariant.1 c.next_of-work.ensures.items c.next_of-work.ensures.len low in
    (ap (λ (w : WorkView). w.stage) k.0, ap (λ (w : WorkView). w.plan) k.0)

pub loop-number-preserved : goal.loop-number-preserved
loop-number-preserved g c =
    let low : c.loop-number.number < work_count c.args.plan.now =
    omega (arith, c.loop-number-test.true, c.max-count.ensures) in
    let k = taken_new (λ w (x : WorkView). x ≡ free_work c.args.plan.now (g.B.Backend.size c.args.plan.now)) _ _ _ _ _ _
    _ _ c.requires.works c.loop-number.invariant.1 c.next_of-work.ensures.items c.next_of-work.ensures.len low in (
      built_more _ _ _ _ _ _ _ _ _ _ c.loop-number.invariant.0 c.in_ok-worker.ensures c.push_reserved.ensures.items
          c.push_reserved.ensures.len c.push_reserved.ensures.capacity,
      k.1,
    )
