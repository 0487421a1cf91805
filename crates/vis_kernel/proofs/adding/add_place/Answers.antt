use Rattle.std.proofs.Common.{ap}
use Rattle.std.specs.Prelude.{option_map}
use Rattle.vis_kernel.proofs.KernelLemmas.{nothing_added, nothing_small, each_first, each_second}
use Rattle.vis_kernel.proofs.adding.add_place.Goals as goal
use Rattle.vis_kernel.proofs.adding.add_place.Goals.{in_default-via-in-Some+in_default, in_default-via-in_default}

pub returns-in_default-clause-value : goal.returns-in_default-clause-value
returns-in_default-clause-value c =
    let x = option_map (λ s. s.now) c.args.x in
    let y = option_map (λ s. s.now) c.args.y in
    elim c.in_default.branch [
      | in_default-via-in-Some+in_default w ↦ nothing_added c.args.plan.now _ _ c.args.out.now
          (each_second c.args.plan.now x y (ap (option_map (λ s. s.now)) w.in_default.is-1)) c.requires.room
      | in_default-via-in_default w ↦ nothing_added c.args.plan.now _ _ c.args.out.now
          (each_first c.args.plan.now x y (ap (option_map (λ s. s.now)) w.in_default.is-0)) c.requires.room
    ]

pub returns-in_default-clause-small : goal.returns-in_default-clause-small
returns-in_default-clause-small c =
    let x = option_map (λ s. s.now) c.args.x in
    let y = option_map (λ s. s.now) c.args.y in
    elim c.in_default.branch [
      | in_default-via-in-Some+in_default w ↦ nothing_small c.args.plan.now _ _ _
          (each_second c.args.plan.now x y (ap (option_map (λ s. s.now)) w.in_default.is-1))
      | in_default-via-in_default w ↦ nothing_small c.args.plan.now _ _ _
          (each_first c.args.plan.now x y (ap (option_map (λ s. s.now)) w.in_default.is-0))
    ]
