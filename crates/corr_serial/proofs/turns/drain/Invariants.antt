use Rattle.std.proofs.Common.{◌≡◌, ◌<◌, ℕ, [], true, length}
use Rattle.corr_model.specs.declared.plan.Plan.{Plan}
use Rattle.corr_machine.specs.Machines.{State}
use Rattle.corr_core.specs.Parts.{feed_in}
use Rattle.corr_serial.specs.Sources.{KeepsSources}
use Rattle.corr_serial.specs.Hearing.{left}
use Rattle.corr_serial.specs.Going.{IsAt, Goes}
use Rattle.corr_serial.proofs.turns.drain.Given as goal

abbrev pub invariant-strings : goal.invariant-strings
invariant-strings g l =
    let S = g.S.PacketSource in
    let K = g.K.PacketSink in
    let E = g.E.Emit in
    let value = g.B.Backend.value in
    record {
      goes : (plan : Plan) (backend : _) (state : State) → IsAt value plan backend l.fn.core plan.accumulations 0 state
          → Goes value S.gives S.given S.faults plan backend l.fn.sources l.sources l.fn.core l.core plan.accumulations
          0 state (K.sent l.fn.sink) (K.sent l.sink) (E.tally l.fn.core.emit) (E.tally l.core.emit) (λ all. []);
      sources : KeepsSources S.begun S.at S.gives S.belongs l.fn.core.parts.plan.antennas l.fn.sources l.sources;
      same_length : length l.sources ≡ length l.fn.sources;
      same_plan : l.core.parts.plan ≡ l.fn.core.parts.plan;
      same_backend : l.core.backend ≡ l.fn.core.backend;
      is_begun : K.begun l.sink ≡ true;
      placed : K.at l.sink ≡ K.at l.fn.sink;
      calm : K.faults l.sink ≡ K.faults l.fn.sink;
    }

abbrev pub decreases-strings : goal.decreases-strings
decreases-strings g l = left (feed_in l.core.parts l.antenna)
