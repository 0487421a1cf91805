use Rattle.std.proofs.Common.{◌≡◌, length, refl, sym, ◌∙◌, ap, subst}
use Rattle.corr_serial.specs.Sources.{AreSameFrom}
use Rattle.corr_cli.specs.Placing.{AreAtOwn}
use Rattle.corr_serial.specs.Runs.{known}
use Rattle.corr_cli.proofs.ThreadLemmas.{known_same, still_observed}
use Rattle.corr_cli.proofs.BegunLemmas.{runs_before}
use Rattle.corr_cli.proofs.PlacedLemmas.{some_placed, all_placed, placed_later, same_later}
use Rattle.corr_cli.proofs.in_threads.run_prepared.Goals as goal

pub returns-clause-runs : goal.returns-clause-runs
returns-clause-runs g c =
    runs_before c.args.ready.plan
    (record {
      knows = g.O.Observation.names;
      gives = known g.O.Observation.names (λ s. g.S.PacketSource.gives s.source);
      given = λ s. g.S.PacketSource.given s.source;
      begun = λ s. g.S.PacketSource.begun s.source;
      faults = λ s. g.S.PacketSource.faults s.source;
      old = c.begin_all.new.sources;
      now = c.run_begun.new.sources;
      sent_before = g.K.PacketSink.sent c.args.sink.now;
      sent = g.K.PacketSink.sent c.run_begun.new.sink;
      sink_faults_before = g.K.PacketSink.faults c.args.sink.now;
      sink_faults = g.K.PacketSink.faults c.run_begun.new.sink;
      sink_begun = g.K.PacketSink.begun c.run_begun.new.sink;
    })
    c.args.sources.now (g.K.PacketSink.sent c.args.sink.now) (g.K.PacketSink.faults c.args.sink.now)
    (record {
      gives = known_same g.O.Observation.names c.in_default.ensures.gives;
      given = c.in_default.ensures.given;
      faults = c.in_default.ensures.cause;
      sent = refl;
      sink = refl;
    })
    c.args.asked.now.telling c.run_begun.result c.run_begun.ensures.over c.run_begun.ensures.runs

pub returns-in-Err-clause-at_sources : goal.returns-in-Err-clause-at_sources
returns-in-Err-clause-at_sources g c =
    let S = g.S.PacketSource in
    subst (λ places. AreAtOwn (λ s. S.begun s.source) (λ s. S.at s.source) places c.begin_all.new.sources)
    c.as_slice.ensures.value
    (some_placed (λ s. S.begun s.source) (λ s. S.at s.source) c.as_slice.result.now c.args.sources.now
    c.begin_all.new.sources c.requires.none_begun c.in-Err.ensures.length
    c.in-Err.antenna c.in-Err.ensures.cause.within c.in-Err.ensures.at c.in-Err.ensures.begun c.in-Err.ensures.later)

pub returns-clause-at_sources : goal.returns-clause-at_sources
returns-clause-at_sources g c =
    let S = g.S.PacketSource in
    let places = c.as_slice.result.now in
    let old = c.args.sources.now in
    let mid = c.begin_all.new.sources in
    let new = c.run_begun.new.sources in
    let count : c.args.ready.plan.antennas ≡ length places =
    sym (ap length c.as_slice.ensures.value ∙ c.requires.inputs) in
    subst (λ ps. AreAtOwn (λ s. S.begun s.source) (λ s. S.at s.source) ps new) c.as_slice.ensures.value
    (all_placed (λ s. S.begun s.source) (λ s. S.at s.source) places old new c.requires.none_begun
    (c.run_begun.ensures.length ∙ c.in_default.ensures.length)
    (placed_later (λ s. S.at s.source) places (length places) old mid new c.in_default.ensures.at
    c.run_begun.ensures.at)
    (same_later (length places) old mid new c.in_default.ensures.later
    (subst (λ n. AreSameFrom n mid new) count c.run_begun.ensures.later)))
