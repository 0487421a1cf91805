use Rattle.std.proofs.Common.{◌≡◌, [], refl, sym, ap, ◌∙◌, subst, arith}
use Rattle.corr_model.specs.declared.plan.Plan.{Plan}
use Rattle.corr_serial.proofs.SourceLemmas.{sources_as_they_were, sources_then}
use Rattle.corr_serial.proofs.StepLemmas.{goes_none, goes_then}
use Rattle.corr_serial.proofs.GatherLemmas.{few_as, enough_as, sources_on_plan, begun_as, can_turn, goes_to}
use Rattle.corr_serial.proofs.turns.gather_all.Goals as goal

pub loop-antenna-init : goal.loop-antenna-init
loop-antenna-init g c =
    let S = g.S.PacketSource in
    record {
      goes = λ plan backend number state at more.
          goes_none g.B.Backend.value S.gives S.given S.faults plan backend c.args.sources.now c.args.core.now number
          0 state _ _ at;
      sources = sources_as_they_were S.begun S.at S.gives S.belongs c.args.core.now.parts.plan.antennas _
          c.requires.begun;
      same_length = refl;
      same_plan = refl;
      same_backend = refl;
      is_begun = c.requires.sink;
      placed = refl;
      calm = refl;
    }

pub gather-requires-clause-in_range : goal.gather-requires-clause-in_range
gather-requires-clause-in_range g c =
    few_as c.args.core.now.parts.plan _ c.loop-antenna.antenna
    (let told = ap (λ (p : Plan). p.antennas) c.plan.ensures in let low =
    c.loop-antenna-test.true in omega (arith, told, low)) c.loop-antenna.invariant.same_plan

pub gather-requires-clause-turn : goal.gather-requires-clause-turn
gather-requires-clause-turn g c =
    let turn = c.requires.turn in
    let core = c.args.core.now in
    let h = c.loop-antenna.invariant.goes core.parts.plan core.backend turn.number turn.state turn.at turn.more in
    can_turn g.B.Backend.value core.parts.plan core.backend c.loop-antenna.core turn.number c.loop-antenna.antenna
    h.next h.at turn.more

pub gather-requires-clause-enough : goal.gather-requires-clause-enough
gather-requires-clause-enough g c =
    enough_as _ _ _ _ c.requires.enough c.loop-antenna.invariant.same_plan c.loop-antenna.invariant.same_length

pub gather-requires-clause-begun : goal.gather-requires-clause-begun
gather-requires-clause-begun g c =
    begun_as g.S.PacketSource.begun _ _ _ c.loop-antenna.invariant.sources.are_begun c.loop-antenna.invariant.same_plan

pub loop-antenna-preserved : goal.loop-antenna-preserved
loop-antenna-preserved g c =
    let S = g.S.PacketSource in
    let value = g.B.Backend.value in
    let i = c.loop-antenna.invariant in
    let e = c.gather.ensures in
    record {
      goes = λ plan backend number state at more.
          let h = i.goes plan backend number state at more in
          goes_then value S.gives S.given S.faults plan backend _ _ _ _ _ _ _ _ _ _ state _ _ _ _ _ _ (λ all. [])
          (λ all. []) h (e.goes plan backend number h.next h.at more);
      sources = sources_then S.begun S.at S.gives S.belongs c.args.core.now.parts.plan.antennas _ _ _ i.sources
          (sources_on_plan S.begun S.at S.gives S.belongs _ _ _ _ i.same_plan e.sources);
      same_length = c.gather.auto.sources ∙ i.same_length;
      same_plan = e.plan ∙ i.same_plan;
      same_backend = e.backend ∙ i.same_backend;
      is_begun = e.sink_begun;
      placed = e.sink_at ∙ i.placed;
      calm = e.calm ∙ i.calm;
    }

pub returns : goal.returns
returns g c =
    let S = g.S.PacketSource in
    let i = c.loop-antenna.invariant in
    record {
      goes = λ plan backend number state at more.
          let told = ap (λ (p : Plan). p.antennas) (c.plan.ensures ∙ at.own.same_plan) in
          let all : c.loop-antenna.antenna ≡ plan.antennas = omega (arith, told) in
          goes_to g.B.Backend.value S.gives S.given S.faults plan backend _ _ _ _ number c.loop-antenna.antenna
          plan.antennas state _ _ _ _ (λ all. []) all (i.goes plan backend number state at more);
      sources = i.sources;
      plan = i.same_plan;
      backend = i.same_backend;
      sink_begun = i.is_begun;
      sink_at = i.placed;
      calm = i.calm;
    }
