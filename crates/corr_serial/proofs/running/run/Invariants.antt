use Rattle.std.proofs.Common.{◌≡◌, true, length}
use Rattle.corr_machine.specs.Machines.{opening}
use Rattle.corr_serial.specs.Sources.{KeepsSources}
use Rattle.corr_serial.specs.Going.{Goes}
use Rattle.corr_serial.proofs.RunLemmas.{sent_to}
use Rattle.corr_serial.proofs.running.run.Given as goal

abbrev pub invariant-loop-number : goal.invariant-loop-number
invariant-loop-number g l =
    let S = g.S.PacketSource in
    let K = g.K.PacketSink in
    let E = g.E.Emit in
    let value = g.B.Backend.value in
    let plan = l.fn.core.parts.plan in
    record {
      goes : Goes value S.gives S.given S.faults plan l.fn.core.backend l.fn.sources l.sources l.fn.core l.core l.number
          0 (opening plan) (K.sent l.fn.sink) (K.sent l.sink) (E.tally l.fn.core.emit) (E.tally l.core.emit)
          (sent_to value l.fn.core.backend (E.strings plan) plan l.number);
      sources : KeepsSources S.begun S.at S.gives S.belongs plan.antennas l.fn.sources l.sources;
      same_length : length l.sources ≡ length l.fn.sources;
      same_plan : l.core.parts.plan ≡ plan;
      same_backend : l.core.backend ≡ l.fn.core.backend;
      is_begun : K.begun l.sink ≡ true;
      placed : K.at l.sink ≡ K.at l.fn.sink;
      calm : K.faults l.sink ≡ K.faults l.fn.sink;
    }
