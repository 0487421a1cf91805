use Rattle.std.proofs.Common.{◌≡◌, length, refl, sym, ◌∙◌, ap, subst, true}
use Rattle.corr_serial.specs.Sources.{AreSameFrom}
use Rattle.corr_cli.specs.Placing.{AreAtOwn}
use Rattle.corr_cli.proofs.BegunLemmas.{runs_before}
use Rattle.corr_cli.proofs.PlacedLemmas.{some_placed, all_placed, placed_later, same_later}
use Rattle.corr_cli.proofs.returning.run_prepared.Goals as goal

pub returns-clause-runs : goal.returns-clause-runs
returns-clause-runs g c =
    runs_before c.args.prepared.plan
    (record {
      knows = true;
      gives = g.S.PacketSource.gives;
      given = g.S.PacketSource.given;
      begun = g.S.PacketSource.begun;
      faults = g.S.PacketSource.faults;
      old = c.begin_all.new.sources;
      now = c.run_begun.new.sources;
      sent_before = g.K.PacketSink.sent c.args.sink.now;
      sent = g.K.PacketSink.sent c.run_begun.new.sink;
      sink_faults_before = g.K.PacketSink.faults c.args.sink.now;
      sink_faults = g.K.PacketSink.faults c.run_begun.new.sink;
      sink_begun = g.K.PacketSink.begun c.run_begun.new.sink;
    })
    c.args.sources.now (g.K.PacketSink.sent c.args.sink.now) (g.K.PacketSink.faults c.args.sink.now)
    (record {
      gives = c.in_default.ensures.gives;
      given = c.in_default.ensures.given;
      faults = c.in_default.ensures.cause;
      sent = refl;
      sink = refl;
    })
    c.args.asked.now.telling c.run_begun.result c.run_begun.ensures.over c.run_begun.ensures.runs

pub returns-in-Err-clause-at_sources : goal.returns-in-Err-clause-at_sources
returns-in-Err-clause-at_sources g c =
    let S = g.S.PacketSource in
    subst (λ places. AreAtOwn S.begun S.at places c.begin_all.new.sources) c.as_slice.ensures.value
    (some_placed S.begun S.at c.as_slice.result.now c.args.sources.now c.begin_all.new.sources c.requires.none_begun
    c.in-Err.ensures.length
    c.in-Err.antenna c.in-Err.ensures.cause.within c.in-Err.ensures.at c.in-Err.ensures.begun c.in-Err.ensures.later)

pub returns-clause-at_sources : goal.returns-clause-at_sources
returns-clause-at_sources g c =
    let S = g.S.PacketSource in
    let places = c.as_slice.result.now in
    let old = c.args.sources.now in
    let mid = c.begin_all.new.sources in
    let new = c.run_begun.new.sources in
    let count : c.args.prepared.plan.antennas ≡ length places =
    sym (ap length c.as_slice.ensures.value ∙ c.requires.inputs) in
    subst (λ ps. AreAtOwn S.begun S.at ps new) c.as_slice.ensures.value
    (all_placed S.begun S.at places old new c.requires.none_begun
    (c.run_begun.ensures.length ∙ c.in_default.ensures.length)
    (placed_later S.at places (length places) old mid new c.in_default.ensures.at c.run_begun.ensures.at)
    (same_later (length places) old mid new c.in_default.ensures.later
    (subst (λ n. AreSameFrom n mid new) count c.run_begun.ensures.later)))
