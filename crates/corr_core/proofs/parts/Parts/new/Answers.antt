use Rattle.std.proofs.Common.{refl}
use Rattle.corr_core.proofs.NewLemmas.{new_sound, new_stands}
use Rattle.corr_core.proofs.parts.Parts.new.Goals as goal

pub invariant_of-result : goal.invariant_of-result
invariant_of-result g c =
    let r = c.requires in
    new_sound g.O.Observation.names g.O.Observation.plan (g.B.Backend.size c.args.plan) _
    (record {
      fits = r.fits;
      named_plan = r.named;
      feeds = r.feeds;
      hands = r.hands;
      ring = r.ring;
      works = r.works;
      outgoing = r.outgoing;
      none_sent = refl;
    })

pub returns-clause-stands : goal.returns-clause-stands
returns-clause-stands g c = λ value.
    let r = c.requires in
    new_stands value g.O.Observation.names g.O.Observation.plan (g.B.Backend.size c.args.plan) _
    (record {
      fits = r.fits;
      named_plan = r.named;
      feeds = r.feeds;
      hands = r.hands;
      ring = r.ring;
      works = r.works;
      outgoing = r.outgoing;
      none_sent = refl;
    })
