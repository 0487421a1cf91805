use Rattle.std.proofs.Common.{◌≡◌, [], not, refl, sym, ap, ◌∙◌, subst}
use Rattle.std.specs.Option.{is_some}
use Rattle.corr_serial.proofs.SourceLemmas.{sources_as_they_were, sources_then}
use Rattle.corr_serial.proofs.StepLemmas.{goes_none, goes_then}
use Rattle.corr_serial.proofs.ListenLemmas.{few_in}
use Rattle.corr_serial.proofs.GatherLemmas.{few_as, enough_as, less_left, sources_on_plan, begun_as, drain_ready}
use Rattle.corr_serial.proofs.turns.drain.Goals as goal

pub strings-init : goal.strings-init
strings-init g c =
    let S = g.S.PacketSource in
    record {
      goes = λ plan backend state at.
          goes_none g.B.Backend.value S.gives S.given S.faults plan backend c.args.sources.now c.args.core.now
          plan.accumulations 0 state _ _ at;
      sources = sources_as_they_were S.begun S.at S.gives S.belongs c.args.core.now.parts.plan.antennas _
          c.requires.begun;
      same_length = refl;
      same_plan = refl;
      same_backend = refl;
      is_begun = c.requires.sink;
      placed = refl;
      calm = refl;
    }

pub ended-requires : goal.ended-requires
ended-requires g c = few_as _ _ c.args.antenna c.requires.in_range c.strings.invariant.same_plan

pub hear-requires-clause-in_range : goal.hear-requires-clause-in_range
hear-requires-clause-in_range g c = few_as _ _ c.args.antenna c.requires.in_range c.strings.invariant.same_plan

pub hear-requires-clause-enough : goal.hear-requires-clause-enough
hear-requires-clause-enough g c =
    enough_as _ _ _ _ c.requires.enough c.strings.invariant.same_plan c.strings.invariant.same_length

pub hear-requires-clause-begun : goal.hear-requires-clause-begun
hear-requires-clause-begun g c =
    begun_as g.S.PacketSource.begun _ _ _ c.strings.invariant.sources.are_begun c.strings.invariant.same_plan

pub strings-preserved : goal.strings-preserved
strings-preserved g c =
    let S = g.S.PacketSource in
    let value = g.B.Backend.value in
    let i = c.strings.invariant in
    let e = c.hear.ensures in
    let a = c.args.antenna in
    record {
      goes = λ plan backend state at.
          let h = i.goes plan backend state at in
          let few = few_in value plan backend c.args.core.now plan.accumulations 0 state a at c.requires.in_range in
          let ready = drain_ready value plan backend c.strings.core h.next a _ _ h.at few c.ended.ensures
          c.is_none.ensures c.strings-test.true in
          let n = e.hears plan backend plan.accumulations 0 h.next h.at ready in
          goes_then value S.gives S.given S.faults plan backend _ _ _ _ _ _ _ _ _ _ state _ _ _ _ _ _ (λ all. [])
          (λ all. []) h n.goes;
      sources = sources_then S.begun S.at S.gives S.belongs c.args.core.now.parts.plan.antennas _ _ _ i.sources
          (sources_on_plan S.begun S.at S.gives S.belongs _ _ _ _ i.same_plan e.sources);
      same_length = c.hear.auto.sources ∙ i.same_length;
      same_plan = e.plan ∙ i.same_plan;
      same_backend = e.backend ∙ i.same_backend;
      is_begun = e.sink_begun;
      placed = e.sink_at ∙ i.placed;
      calm = e.calm ∙ i.calm;
    }

pub strings-smaller : goal.strings-smaller
strings-smaller g c =
    let value = g.B.Backend.value in
    let i = c.strings.invariant in
    let a = c.args.antenna in
    let core = c.args.core.now in
    let sent = c.requires.sent in
    let plan = core.parts.plan in
    let h = i.goes plan core.backend sent.state sent.at in
    let ready = drain_ready value plan core.backend c.strings.core h.next a _ _ h.at c.requires.in_range c.ended.ensures
    c.is_none.ensures c.strings-test.true in
    let n = c.hear.ensures.hears plan core.backend plan.accumulations 0 h.next h.at ready in
    less_left value plan core.backend c.strings.core c.hear.new.core plan.accumulations 0 a h.next h.next n.goes.next
    h.at n.goes.at c.requires.in_range (record { strings = refl; ended = refl }) n.less

pub returns : goal.returns
returns g c =
    let i = c.strings.invariant in
    record {
      over = ap is_some (sym c.ended.ensures) ∙ c.is_none.ensures ∙ ap not c.strings-test.false;
      goes = i.goes;
      sources = i.sources;
      plan = i.same_plan;
      backend = i.same_backend;
      sink_begun = i.is_begun;
      sink_at = i.placed;
      calm = i.calm;
    }
