use Rattle.slot_ring.specs.Means.{Means}
use Rattle.corr_parallel.proofs.SentLemmas.{sent_all}
use Rattle.corr_parallel.proofs.jobs.ByTurnsSendingContext.send_all.Goals as goal

pub returns-clause-sent : goal.returns-clause-sent
returns-clause-sent g c =
    let O = g.O.Observation in
    let m : Means = record {
      names = O.names;
      plan = O.plan;
      list = O.list;
      shows = g.B.Backend.shows;
      fixed = g.B.Backend.fixed;
    } in
    sent_all m (g.E.Emit.strings c.args.self.now.dispatch.plan) c.args.self.now.dispatch c.send_by_turns.new.dispatch _
    _ c.requires.can.1.some c.send_by_turns.ensures.sent c.send_by_turns.ensures.all
