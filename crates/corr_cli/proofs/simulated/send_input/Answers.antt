use Rattle.std.proofs.Common.{◌∙◌, ◌<◌, ◌^◌, length, sym, subst}
use Rattle.ant_sim.proofs.LengthLemmas.{list_few}
use Rattle.corr_cli.proofs.SimulatedLemmas.{sends_same}
use Rattle.corr_cli.proofs.simulated.send_input.Goals as goal

pub send_all-requires-clause-whole : goal.send_all-requires-clause-whole
send_all-requires-clause-whole g c = c.in-Ok.ensures.rest ∙ sym c.in-Ok.ensures.gives

pub send_all-requires-clause-few : goal.send_all-requires-clause-few
send_all-requires-clause-few g c =
    subst (λ l. length l < 2 ^ 64) (sym c.in-Ok.ensures.gives)
    (list_few c.args.plan.now c.args.seed c.args.antenna c.requires.fits)

pub returns-in-Ok-clause-sends : goal.returns-in-Ok-clause-sends
returns-in-Ok-clause-sends g c = sends_same _ _ _ c.send_all.result c.in-Ok.ensures.gives c.send_all.ensures.sends
