use Rattle.std.proofs.Common.{refl, subst}
use Rattle.corr_serial.specs.Runs.{known}
use Rattle.corr_cli.specs.Runs.{RunsPlan}
use Rattle.corr_cli.proofs.PlacedLemmas.{none_placed}
use Rattle.corr_cli.proofs.in_threads.run_asked.Goals as goal

pub returns-in-Ok-clause-runs : goal.returns-in-Ok-clause-runs
returns-in-Ok-clause-runs g c =
    let S = g.S.PacketSource in
    let K = g.K.PacketSink in
    subst (λ plan. RunsPlan c.args.asked.telling plan
    (record {
      knows = g.O.Observation.names;
      gives = known g.O.Observation.names (λ s. S.gives s.source);
      given = λ s. S.given s.source;
      begun = λ s. S.begun s.source;
      faults = λ s. S.faults s.source;
      old = c.args.sources.now;
      now = c.run_prepared.new.sources;
      sent_before = K.sent c.args.sink.now;
      sent = K.sent c.run_prepared.new.sink;
      sink_faults_before = K.faults c.args.sink.now;
      sink_faults = K.faults c.run_prepared.new.sink;
      sink_begun = K.begun c.run_prepared.new.sink;
    }) c.run_prepared.result)
    c.in-Ok.ensures c.run_prepared.ensures.runs

pub returns-clause-at_sources : goal.returns-clause-at_sources
returns-clause-at_sources g c =
    let S = g.S.PacketSource in
    none_placed (λ s. S.begun s.source) (λ s. S.at s.source) c.args.asked.settings.inputs c.args.sources.now
    c.args.sources.now c.requires.none_begun refl (record { each = λ a d past. refl })
