use Rattle.std.proofs.Common.{refl, sym}
use Rattle.corr_cli.proofs.SimulatedLemmas.{has_antenna, refused_runs, simulate_runs}
use Rattle.corr_cli.proofs.simulated.send_antenna.Goals as goal

pub send_input-requires-clause-antenna : goal.send_input-requires-clause-antenna
send_input-requires-clause-antenna g c = has_antenna c.args.plan.now c.args.antenna (sym c.in-None.ensures.value)

pub returns-in-Some-clause-runs : goal.returns-in-Some-clause-runs
returns-in-Some-clause-runs g c =
    λ config run same. refused_runs config c.args.seed c.args.antenna c.args.out.now run c.args.plan.now _
    c.in-Some.refusal same (sym c.in-Some.ensures.value)
    (record { unused = record { unbegun = c.requires.sink; quiet = refl }; calm = refl })

pub returns-in-None-clause-runs : goal.returns-in-None-clause-runs
returns-in-None-clause-runs g c =
    λ config run same. simulate_runs config c.args.seed c.args.antenna c.args.out.now run c.args.plan.now _
    c.send_input.result same (sym c.in-None.ensures.value) c.send_input.ensures.at c.send_input.ensures.sends
