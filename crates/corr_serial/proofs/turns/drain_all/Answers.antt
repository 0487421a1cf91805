use Rattle.std.proofs.Common.{◌≡◌, ◌<◌, [], true, refl, sym, ap, ◌∙◌, subst, inl, inr, arith}
use Rattle.std.specs.Option.{is_some}
use Rattle.std.proofs.lemmas.Bool.{cases_lt}
use Rattle.corr_model.specs.declared.plan.Plan.{Plan}
use Rattle.corr_core.specs.Cores.{end_of}
use Rattle.corr_serial.proofs.SourceLemmas.{sources_as_they_were, sources_then}
use Rattle.corr_serial.proofs.StepLemmas.{goes_none, goes_then}
use Rattle.corr_serial.proofs.GatherLemmas.{few_as, enough_as, sources_on_plan, begun_as, has_sent_all, ended_still, over_next}
use Rattle.corr_serial.proofs.turns.drain_all.Goals as goal

pub loop-antenna-init : goal.loop-antenna-init
loop-antenna-init g c =
    let S = g.S.PacketSource in
    record {
      goes = λ plan backend state at.
          goes_none g.B.Backend.value S.gives S.given S.faults plan backend c.args.sources.now c.args.core.now
          plan.accumulations 0 state _ _ at;
      over = λ a low few. absurd (omega arith);
      sources = sources_as_they_were S.begun S.at S.gives S.belongs c.args.core.now.parts.plan.antennas _
          c.requires.begun;
      same_length = refl;
      same_plan = refl;
      same_backend = refl;
      is_begun = c.requires.sink;
      placed = refl;
      calm = refl;
    }

pub drain-requires-clause-in_range : goal.drain-requires-clause-in_range
drain-requires-clause-in_range g c =
    few_as c.args.core.now.parts.plan _ c.loop-antenna.antenna
    (let told = ap (λ (p : Plan). p.antennas) c.plan.ensures in let low =
    c.loop-antenna-test.true in omega (arith, told, low)) c.loop-antenna.invariant.same_plan

pub drain-requires-clause-sent : goal.drain-requires-clause-sent
drain-requires-clause-sent g c =
    let sent = c.requires.sent in
    let core = c.args.core.now in
    let h = c.loop-antenna.invariant.goes core.parts.plan core.backend sent.state sent.at in
    has_sent_all g.B.Backend.value core.parts.plan core.backend c.loop-antenna.core core.parts.plan.accumulations
    h.next h.at refl

pub drain-requires-clause-enough : goal.drain-requires-clause-enough
drain-requires-clause-enough g c =
    enough_as _ _ _ _ c.requires.enough c.loop-antenna.invariant.same_plan c.loop-antenna.invariant.same_length

pub drain-requires-clause-begun : goal.drain-requires-clause-begun
drain-requires-clause-begun g c =
    begun_as g.S.PacketSource.begun _ _ _ c.loop-antenna.invariant.sources.are_begun c.loop-antenna.invariant.same_plan

pub loop-antenna-preserved : goal.loop-antenna-preserved
loop-antenna-preserved g c =
    let S = g.S.PacketSource in
    let value = g.B.Backend.value in
    let i = c.loop-antenna.invariant in
    let e = c.drain.ensures in
    let core = c.args.core.now in
    let plan = core.parts.plan in
    let sent = c.requires.sent in
    let was = i.goes plan core.backend sent.state sent.at in
    let now = e.goes plan core.backend was.next was.at in
    record {
      goes = λ plan backend state at.
          let h = i.goes plan backend state at in
          goes_then value S.gives S.given S.faults plan backend _ _ _ _ _ _ _ _ _ _ state _ _ _ _ _ _ (λ all. [])
          (λ all. []) h (e.goes plan backend h.next h.at);
      over = over_next (λ a. a < plan.antennas → is_some (end_of c.drain.new.core.parts a) ≡ true)
          c.loop-antenna.antenna
          (λ a low few. ended_still value plan core.backend c.loop-antenna.core c.drain.new.core plan.accumulations 0
          was.next now.next a was.at now.at few (now.over a few) (i.over a low few)) (λ few. e.over);
      sources = sources_then S.begun S.at S.gives S.belongs plan.antennas _ _ _ i.sources
          (sources_on_plan S.begun S.at S.gives S.belongs _ _ _ _ i.same_plan e.sources);
      same_length = c.drain.auto.sources ∙ i.same_length;
      same_plan = e.plan ∙ i.same_plan;
      same_backend = e.backend ∙ i.same_backend;
      is_begun = e.sink_begun;
      placed = e.sink_at ∙ i.placed;
      calm = e.calm ∙ i.calm;
    }

pub returns : goal.returns
returns g c =
    let i = c.loop-antenna.invariant in
    record {
      over = λ a few.
          let told = ap (λ (p : Plan). p.antennas) c.plan.ensures in
          let all = c.loop-antenna-test.false in
          i.over a (omega (arith, told, all, few)) few;
      goes = i.goes;
      sources = i.sources;
      plan = i.same_plan;
      backend = i.same_backend;
      sink_begun = i.is_begun;
      sink_at = i.placed;
      calm = i.calm;
    }
