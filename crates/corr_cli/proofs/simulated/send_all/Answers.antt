use Rattle.std.proofs.Common.{◌≡◌, ◌-◌, length, ap, arith}
use Rattle.ant_sim.specs.Blocks.{rest_of}
use Rattle.corr_cli.proofs.SimulatedLemmas.{answers_same, list_at, never_fails, relay_sends, unsent}
use Rattle.corr_cli.proofs.simulated.send_all.Goals as goal

pub answer_to-requires : goal.answer_to-requires
answer_to-requires g c = never_fails _ _ c.relay.result c.relay.ensures.cause

pub returns-in-Ok-clause-sends : goal.returns-in-Ok-clause-sends
returns-in-Ok-clause-sends g c =
    let s = c.args.source.now in
    let whole = ap length c.requires.whole in
    let none : length (list_at s) - length (rest_of s) ≡ 0 = omega (arith, whole) in
    answers_same _ _ _ _ c.answer_to.ensures
    (relay_sends (list_at s) _ (length (list_at s) - length (rest_of s)) _ _ none c.requires.few
    c.relay.ensures.sink_begun c.in-Ok.ensures.cause.kept _ c.in-Ok.ensures.sent c.relay.result
    c.relay.ensures.relays c.relay.ensures.cause)

pub returns-in-Err-clause-sends : goal.returns-in-Err-clause-sends
returns-in-Err-clause-sends g c =
    unsent (list_at c.args.source.now) _ c.in-Err.ensures.sent
    (record { later = c.in-Err.ensures.cause.later; rose = c.in-Err.ensures.cause.failed })
