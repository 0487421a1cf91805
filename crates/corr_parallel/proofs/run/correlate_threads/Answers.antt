use Rattle.std.proofs.Common.{◌≡◌, ◌<◌, ◌≤◌, length, refl, subst, arith}
use Rattle.corr_model.specs.Outputs.{output}
use Rattle.corr_threads.specs.declared.seat.Seat.{Seat}
use Rattle.corr_serial.specs.Runs.{SendsBy}
use Rattle.corr_serial.proofs.OutcomeLemmas.{some_of}
use Rattle.corr_parallel.proofs.OutputLemmas.{meant_output, told_lists, sends_told, sends_counted}
use Rattle.corr_parallel.proofs.run.correlate_threads.Goals as goal

pub returns-clause-sends : goal.returns-clause-sends
returns-clause-sends g c = λ lists given.
    let O = g.O.Observation in
    let S = g.S.PacketSource in
    let T : Type 0 = Seat g.row.O.Denot g.row.S.Denot in
    let x = c.args.shared in
    let run = c.threads_with in
    let least = x.fits.ranges.shape.antennas.least_met in
    let enough = c.requires.enough in
    let d = some_of c.args.seats.now (omega (arith, least, enough)) in
    let told = told_lists O.names O.list x.plan (λ (s : T). S.gives s.source) (λ (s : T). S.belongs s.source)
    (λ (s : T). S.given s.source) c.args.seats.now lists c.requires.observed
    (λ (s : T) a.
    (g.met.S.PacketSource g.world.𝓛 g.world.𝓜 g.world.𝓡 ((λ q k. k), (λ k. k), (λ k. k), λ k. k)).belongs_tells
    s.source a) given d in
    let named = (told 0 (omega (arith, least))).0 in
    sends_told run.result.ran _ _ run.result.sent x.plan O.plan O.list lists (x.named named) (λ a low. (told a low).1)
    (subst (SendsBy run.result.ran _ _ run.result.sent) (meant_output O.names x.plan O.plan O.list (x.named named))
    (run.ensures.observed named refl))

pub returns-clause-observed : goal.returns-clause-observed
returns-clause-observed g c = λ named.
    let O = g.O.Observation in
    let x = c.args.shared in
    let run = c.threads_with in
    subst (SendsBy run.result.ran _ _ run.result.sent) (meant_output O.names x.plan O.plan O.list (x.named named))
    (run.ensures.observed named refl)

pub returns-clause-counted : goal.returns-clause-counted
returns-clause-counted g c = λ named whole.
    let O = g.O.Observation in
    let x = c.args.shared in
    let run = c.threads_with in
    sends_counted run.result.ran _ _ run.result.sent x.plan O.plan O.list (x.named named) whole
    (subst (SendsBy run.result.ran _ _ run.result.sent) (meant_output O.names x.plan O.plan O.list (x.named named))
    (run.ensures.observed named refl))
