use Rattle.std.proofs.Common.{refl, true}
use Rattle.corr_cli.proofs.BegunLemmas.{runs_before, sink_not_begun}
use Rattle.corr_cli.proofs.returning.run_begun.Goals as goal

pub returns-in-Err-clause-runs : goal.returns-in-Err-clause-runs
returns-in-Err-clause-runs g c =
    sink_not_begun c.args.prepared.plan _ c.requires.begun c.in-Err.ensures.sent c.in-Err.ensures.begun
    (record { later = c.in-Err.ensures.cause.later; rose = c.in-Err.ensures.cause.failed })

pub returns-in-Ok-clause-runs : goal.returns-in-Ok-clause-runs
returns-in-Ok-clause-runs g c =
    runs_before c.args.prepared.plan
    (record {
      knows = true;
      gives = g.S.PacketSource.gives;
      given = g.S.PacketSource.given;
      begun = g.S.PacketSource.begun;
      faults = g.S.PacketSource.faults;
      old = c.args.sources.now;
      now = c.correlate.new.sources;
      sent_before = g.K.PacketSink.sent c.begin.new.self;
      sent = g.K.PacketSink.sent c.correlate.new.sink;
      sink_faults_before = g.K.PacketSink.faults c.begin.new.self;
      sink_faults = g.K.PacketSink.faults c.correlate.new.sink;
      sink_begun = g.K.PacketSink.begun c.correlate.new.sink;
    })
    c.args.sources.now (g.K.PacketSink.sent c.args.sink.now) (g.K.PacketSink.faults c.args.sink.now)
    (record {
      gives = record { each = λ a d. refl };
      given = record { each = λ a d. refl };
      faults = record { each = λ a d. refl };
      sent = c.in-Ok.ensures.sent;
      sink = c.in-Ok.ensures.cause.kept;
    })
    c.args.telling c.correlate.result c.correlate.ensures.over c.correlate.ensures.runs
