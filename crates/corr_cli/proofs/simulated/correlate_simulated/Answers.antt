use Rattle.std.proofs.Common.{None, length, refl, sym, ap, arith}
use Rattle.ant_sim.specs.declared.source.SimSource.{SimSource}
use Rattle.corr_threads.specs.declared.seat.Seat.{Seat}
use Rattle.corr_cli.proofs.SimulatedLemmas.{are_same, seats_many, some_spot, trial_runs}
use Rattle.corr_cli.proofs.simulated.correlate_simulated.Goals as goal

pub run_begun-requires-clause-enough : goal.run_begun-requires-clause-enough
run_begun-requires-clause-enough g c =
    let some : Seat g.row.O.Denot (SimSource g.row.O.Denot) =
    record { source = some_spot c.args.settings.now.plan; receiver = None } in
    let many = seats_many c.args.settings.now.plan c.args.seed (λ s. s.source) some c.in-Ok-simulated_seats.seats.items
    c.in-Ok-simulated_seats.ensures in
    let plan = ap (λ p. p.antennas) c.in-Ok.ensures.plan in
    let items = ap length c.deref_mut.ensures.value in
    omega (arith, many, plan, items)

pub run_begun-requires-clause-begun : goal.run_begun-requires-clause-begun
run_begun-requires-clause-begun g c = record { each = λ a d within. refl }

pub returns-in-Ok-simulated_seats-clause-runs : goal.returns-in-Ok-simulated_seats-clause-runs
returns-in-Ok-simulated_seats-clause-runs g c =
    λ config serial.
    let some : Seat g.row.O.Denot (SimSource g.row.O.Denot) =
    record { source = some_spot c.args.settings.now.plan; receiver = None } in
    let are = are_same c.in-Ok.prepared.plan c.args.settings.now.plan c.args.seed (λ s. s.source) c.deref_mut.result.now
    c.in-Ok-simulated_seats.seats.items c.in-Ok.ensures.plan c.deref_mut.ensures.value
    c.in-Ok-simulated_seats.ensures in
    trial_runs c.in-Ok.prepared.plan c.args.seed (λ s. s.source) some c.deref_mut.result.now are c.run_begun.new.sources
    _ _ c.args.settings.now config serial
    (sym c.in-Ok.ensures.plan) c.run_begun.ensures.at_sink c.run_begun.result c.run_begun.ensures.over
    c.run_begun.ensures.runs
