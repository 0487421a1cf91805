use Rattle.std.proofs.Common.{◌≡◌, ℕ, ◌<◌, ◌≤◌, Some, ◌++◌, length, get_or, take, drop, not, sym, ap, ◌∙◌, subst, arith}
use Rattle.std.proofs.lemmas.List.{length-take-le, with_items_is}
use Rattle.slot_ring.specs.Means.{Means}
use Rattle.corr_parallel.specs.Senders.{SinkView}
use Rattle.corr_threads.specs.declared.seat.Seat.{Seat}
use Rattle.corr_serial.specs.Runs.{RanHasCause, IsFirstFault, ran_as}
use Rattle.corr_serial.proofs.OutcomeLemmas.{some_of, ran_done}
use Rattle.corr_parallel.proofs.ConcludeLemmas.{are_begun, keep_at, keep_gives, keep_belonging, gave_taken, are_reports}
use Rattle.corr_parallel.proofs.ConcludeLemmas.{are_whole_reports, sink_cause}
use Rattle.corr_parallel.proofs.RunLemmas.{one_seated, reads_each, same_later, same_length, ran_sends, ran_counted}
use Rattle.corr_parallel.proofs.run.threads_with.Goals as goal

pub run_actors-dispatch-requires-clause-seats : goal.run_actors-dispatch-requires-clause-seats
run_actors-dispatch-requires-clause-seats g c κs within = λ a d low.
    let O = g.O.Observation in
    let S = g.S.PacketSource in
    let T : Type 0 = Seat g.row.O.Denot g.row.S.Denot in
    let x = c.args.shared in
    let old = c.args.seats.now in
    let least = x.fits.ranges.shape.antennas.least_met in
    let many_new = x.new_receivers.as_many in
    let many : length c.take_seats.new.seats ≡ x.plan.antennas = c.take_seats.auto.seats
    ∙ length-take-le x.plan.antennas old c.requires.enough in
    one_seated O.names O.plan x.plan (λ (s : T). s.source)
    (λ (s : T). s.receiver) S.begun S.belongs S.given x.receivers.items old c.take_seats.new.seats x.named
    c.requires.enough many x.new_receivers c.take_seats.ensures c.requires.begun c.requires.observed
    (some_of x.receivers.items (omega (arith, many_new, least))) a d low

pub returns : goal.returns
returns g c =
    let O = g.O.Observation in
    let B = g.B.Backend in
    let S = g.S.PacketSource in
    let T : Type 0 = Seat g.row.O.Denot g.row.S.Denot in
    let K = g.K.PacketSink in
    let x = c.args.shared in
    let plan = x.plan in
    let old = c.args.seats.now in
    let run = c.run_actors-dispatch in
    let own = run.new.seats in
    let now = own ++ drop plan.antennas old in
    let least = x.fits.ranges.shape.antennas.least_met in
    let enough = c.requires.enough in
    let many_seated : length c.take_seats.new.seats ≡ plan.antennas = c.take_seats.auto.seats
    ∙ length-take-le plan.antennas old enough in
    let many : length own ≡ plan.antennas = run.auto.seats ∙ many_seated in
    let many_new = x.new_receivers.as_many in
    let v = some_of x.receivers.items (omega (arith, many_new, least)) in
    let some : 0 < length old = omega (arith, enough, least) in
    let same = c.of.ensures ∙ with_items_is x.reports c.take_reports.new.reports (omega arith) in
    let taken = c.take_reports.auto.reports in
    let lent = c.deref_mut.ensures.len in
    let room = x.one_each in
    let all_taken : length c.take_reports.new.reports ≡ plan.antennas = omega (arith, taken, lent, room) in
    let many_reports : length c.of.result ≡ plan.antennas = ap length same ∙ all_taken in
    let r = some_of c.of.result (omega (arith, many_reports, least)) in
    let m : Means = record { names = O.names; plan = O.plan; list = O.list; shows = B.shows; fixed = B.fixed } in
    let before : SinkView = record { sent = K.sent c.args.sink.now; faults = K.faults c.args.sink.now } in
    let after : SinkView = record { sent = K.sent run.new.sink; faults = K.faults run.new.sink } in
    let later = same_later plan.antennas old own many in
    let each = reads_each O.names O.list plan (λ (s : T). s.source)
    (λ (s : T). s.receiver) S.begun S.at S.gives S.belongs S.given S.faults x.receivers.items old
    c.take_seats.new.seats own c.of.result c.take_reports.new.reports same x.new_receivers enough many_seated many
    c.take_seats.ensures run.ensures.seats c.take_reports.ensures v in
    let law : (s : T) (a : ℕ) → S.belongs s.source a → S.gives s.source ≡ Some (O.list a) =
    λ s a.
    (g.met.S.PacketSource g.world.𝓛 g.world.𝓜 g.world.𝓡 ((λ q k. k), (λ k. k), (λ k. k), λ k. k)).belongs_tells
    s.source a in
    let are = are_reports O.names O.list plan (λ (s : T). S.begun s.source) (λ (s : T). S.at s.source)
    (λ (s : T). S.gives s.source) (λ (s : T). S.belongs s.source) (λ (s : T). S.given s.source)
    (λ (s : T). S.faults s.source) old now c.of.result each later r many_reports c.requires.observed law in
    let first = subst (λ l. IsFirstFault l c.first_fault.result)
    (c.deref.ensures.value ∙ sym c.of.ensures) c.first_fault.ensures in
    let is = c.ran_as-ran.ensures ∙ ap (λ b. ran_as (not b) c.first_fault.result) c.is_broken.ensures in
    let why : RanHasCause (λ (s : T). S.faults s.source) plan.antennas old now (K.faults c.args.sink.now)
    (K.faults run.new.sink) c.ran_as-ran.result
    =
    subst
    (RanHasCause (λ (s : T). S.faults s.source) plan.antennas old now (K.faults c.args.sink.now)
    (K.faults run.new.sink)) (sym is)
    (sink_cause plan _ (λ (s : T). S.given s.source)
    (λ (s : T). S.faults s.source) old now c.of.result r later are run.result.broken c.first_fault.result
    (K.faults c.args.sink.now) (K.faults run.new.sink) first run.ensures.sent.kept run.ensures.sent.rises) in
    record {
      length = same_length plan.antennas old own enough many;
      later = later;
      begun = are_begun O.names O.list plan (λ (s : T). S.begun s.source) (λ (s : T). S.at s.source)
          (λ (s : T). S.gives s.source) (λ (s : T). S.belongs s.source) (λ (s : T). S.given s.source)
          (λ (s : T). S.faults s.source) old now c.of.result each later r;
      at = keep_at O.names O.list plan (λ (s : T). S.begun s.source) (λ (s : T). S.at s.source)
          (λ (s : T). S.gives s.source) (λ (s : T). S.belongs s.source) (λ (s : T). S.given s.source)
          (λ (s : T). S.faults s.source) old now c.of.result each later r;
      gives = keep_gives O.names O.list plan (λ (s : T). S.begun s.source) (λ (s : T). S.at s.source)
          (λ (s : T). S.gives s.source) (λ (s : T). S.belongs s.source) (λ (s : T). S.given s.source)
          (λ (s : T). S.faults s.source) old now c.of.result each later r;
      belongs = keep_belonging O.names O.list plan (λ (s : T). S.begun s.source) (λ (s : T). S.at s.source)
          (λ (s : T). S.gives s.source) (λ (s : T). S.belongs s.source) (λ (s : T). S.given s.source)
          (λ (s : T). S.faults s.source) old now c.of.result each later r;
      sink_begun = run.ensures.begun;
      sink_at = run.ensures.at;
      observed = ran_sends m g.E.Emit.strings plan x.dispatch run.result before after c.first_fault.result
          c.ran_as-ran.result c.sent.result x.new_dispatch run.ensures.sent is c.sent.ensures;
      counted = ran_counted m (g.E.Emit.strings x.dispatch.plan) plan x.dispatch run.result before after c.sent.result
          x.new_dispatch run.ensures.sent c.sent.ensures;
      taken = gave_taken O.names O.list plan (λ (s : T). S.begun s.source) (λ (s : T). S.at s.source)
          (λ (s : T). S.gives s.source) (λ (s : T). S.belongs s.source) (λ (s : T). S.given s.source)
          (λ (s : T). S.faults s.source) old now c.of.result each later r c.requires.observed law;
      reports = are;
      whole_reports = are_whole_reports O.names O.list plan (λ (s : T). S.begun s.source) (λ (s : T). S.at s.source)
          (λ (s : T). S.gives s.source) (λ (s : T). S.belongs s.source) (λ (s : T). S.given s.source)
          (λ (s : T). S.faults s.source) old now c.of.result each later r (some_of old some) c.requires.observed law;
      cause = why;
      done = ran_done plan (λ (s : T). S.faults s.source) old now (K.faults c.args.sink.now)
          (K.faults run.new.sink) c.ran_as-ran.result some why;
    }
