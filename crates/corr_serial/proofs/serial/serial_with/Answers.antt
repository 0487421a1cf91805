use Rattle.std.proofs.Common.{◌≡◌, ◌≤◌, ◌∙◌, sym, ap, subst, arith, length}
use Rattle.std.proofs.lemmas.List.{with_items_is}
use Rattle.corr_serial.specs.Sources.{KeepsSources}
use Rattle.corr_serial.specs.Preparing.{PreparedView}
use Rattle.corr_serial.specs.Runs.{Concludes}
use Rattle.corr_serial.proofs.RunLemmas.{meaning_of}
use Rattle.corr_serial.proofs.OutcomeLemmas.{conclude_of}
use Rattle.corr_serial.proofs.serial.serial_with.Goals as goal

pub returns : goal.returns
returns g c =
    let S = g.S.PacketSource in
    let K = g.K.PacketSink in
    let seen = c.args.prepared in
    let start = c.args.sources.now in
    let last = c.run_reported-ran.new.sources in
    let before = c.args.sink.now in
    let after = c.run_reported-ran.new.sink in
    let e = c.run_reported-ran.ensures in
    let sources = subst (λ (v : PreparedView g.row.B.Denot g.row.E.Denot). KeepsSources S.begun S.at S.gives S.belongs
    v.plan.antennas start last) c.prepared.view_is e.sources in
    let concludes = subst
    (λ (v : PreparedView g.row.B.Denot g.row.E.Denot). Concludes
    (meaning_of g.B.Backend.value v.backend (g.E.Emit.strings v.plan) v.plan) v.plan S.gives S.given S.faults
    start last c.run_reported-ran.new.reports (K.sent before) (K.sent after)
    (g.E.Emit.tally c.run_reported-ran.new.core.emit) (K.faults before) (K.faults after) c.run_reported-ran.result)
    c.prepared.view_is e.concludes in
    let same = c.of.ensures ∙ with_items_is c.prepared.inside.reports c.run_reported-ran.new.reports (omega arith) in
    let k = conclude_of (meaning_of g.B.Backend.value seen.backend (g.E.Emit.strings seen.plan) seen.plan) seen.plan
    S.gives S.given S.faults _ _ _ _ _ _ _ _ _ _ _ same c.sent.ensures concludes in
    record {
      length = c.run_reported-ran.auto.sources;
      later = sources.later;
      begun = sources.are_begun;
      at = sources.same_at;
      gives = sources.same_gives;
      belongs = sources.still_belong;
      sink_begun = e.begun;
      sink_at = e.at;
      sends = k.sends;
      front = k.front;
      counted = k.counted;
      taken = k.taken;
      reports = k.reported;
      whole_reports = k.whole_reports;
      cause = k.cause;
      done = k.done;
    }
