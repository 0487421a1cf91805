use Rattle.std.proofs.Common.{◌≡◌, [], refl, true, false, sym, ap, ◌∙◌, subst}
use Rattle.corr_serial.specs.Going.{Puts}
use Rattle.corr_serial.proofs.SourceLemmas.{sources_as_they_were, sources_then}
use Rattle.corr_serial.proofs.StepLemmas.{goes_none, goes_then, goes_still}
use Rattle.corr_serial.proofs.ListenLemmas.{few_in}
use Rattle.corr_serial.proofs.GatherLemmas.{few_as, enough_as, less_left, sources_on_plan, begun_as}
use Rattle.corr_serial.proofs.turns.gather.Goals as goal

pub strings-init : goal.strings-init
strings-init g c =
    let S = g.S.PacketSource in
    record {
      goes = λ plan backend number state at more.
          goes_none g.B.Backend.value S.gives S.given S.faults plan backend c.args.sources.now c.args.core.now number
          c.args.antenna state _ _ at;
      sources = sources_as_they_were S.begun S.at S.gives S.belongs c.args.core.now.parts.plan.antennas _
          c.requires.begun;
      same_length = refl;
      same_plan = refl;
      same_backend = refl;
      is_begun = c.requires.sink;
      placed = refl;
      calm = refl;
    }

pub put-requires-clause-in_range : goal.put-requires-clause-in_range
put-requires-clause-in_range g c = few_as _ _ c.args.antenna c.requires.in_range c.strings.invariant.same_plan

pub hear-requires-clause-in_range : goal.hear-requires-clause-in_range
hear-requires-clause-in_range g c =
    few_as _ _ c.args.antenna c.requires.in_range (c.put.ensures.plan ∙ c.strings.invariant.same_plan)

pub hear-requires-clause-enough : goal.hear-requires-clause-enough
hear-requires-clause-enough g c =
    enough_as _ _ _ _ c.requires.enough (c.put.ensures.plan ∙ c.strings.invariant.same_plan)
    c.strings.invariant.same_length

pub hear-requires-clause-begun : goal.hear-requires-clause-begun
hear-requires-clause-begun g c =
    begun_as g.S.PacketSource.begun _ _ _ c.strings.invariant.sources.are_begun
    (c.put.ensures.plan ∙ c.strings.invariant.same_plan)

pub strings-preserved : goal.strings-preserved
strings-preserved g c =
    let S = g.S.PacketSource in
    let K = g.K.PacketSink in
    let E = g.E.Emit in
    let value = g.B.Backend.value in
    let i = c.strings.invariant in
    let p = c.put.ensures in
    let e = c.hear.ensures in
    let a = c.args.antenna in
    let same = p.plan ∙ i.same_plan in
    record {
      goes = λ plan backend number state at more.
          let h = i.goes plan backend number state at more in
          let few = few_in value plan backend c.args.core.now number a state a at c.requires.in_range in
          let w = subst (λ b. Puts value plan backend c.strings.core c.put.new.core number a h.next
          (K.sent c.strings.sink) (K.sent c.put.new.sink) (E.tally c.strings.core.emit)
          (E.tally c.put.new.core.emit) b) c.strings-test.true
          (p.puts plan backend number h.next h.at few more) in
          let n = e.hears plan backend number a w.stays.next w.stays.at w.ready in
          goes_then value S.gives S.given S.faults plan backend _ _ _ _ _ _ _ _ _ _ state _ _ _ _ _ _
          (λ all. []) (λ all. []) h
          (goes_then value S.gives S.given S.faults plan backend _ _ _ _ _ _ _ _ _ _ h.next _ _ _ _ _ _ (λ all. [])
          (λ all. []) (goes_still value S.gives S.given S.faults plan backend c.strings.sources _ _ _ _ h.next _ _ _
          _ (λ all. []) w.stays) n.goes);
      sources = sources_then S.begun S.at S.gives S.belongs c.args.core.now.parts.plan.antennas _ _ _ i.sources
          (sources_on_plan S.begun S.at S.gives S.belongs _ _ _ _ same e.sources);
      same_length = c.hear.auto.sources ∙ i.same_length;
      same_plan = e.plan ∙ same;
      same_backend = e.backend ∙ p.backend ∙ i.same_backend;
      is_begun = e.sink_begun;
      placed = e.sink_at ∙ p.sink_at ∙ i.placed;
      calm = e.calm ∙ p.calm ∙ i.calm;
    }

pub strings-smaller : goal.strings-smaller
strings-smaller g c =
    let K = g.K.PacketSink in
    let E = g.E.Emit in
    let value = g.B.Backend.value in
    let i = c.strings.invariant in
    let a = c.args.antenna in
    let core = c.args.core.now in
    let turn = c.requires.turn in
    let plan = core.parts.plan in
    let h = i.goes plan core.backend turn.number turn.state turn.at turn.more in
    let w = subst (λ b. Puts value plan core.backend c.strings.core c.put.new.core turn.number a h.next
    (K.sent c.strings.sink) (K.sent c.put.new.sink) (E.tally c.strings.core.emit) (E.tally c.put.new.core.emit) b)
    c.strings-test.true
    (c.put.ensures.puts plan core.backend turn.number h.next h.at c.requires.in_range turn.more) in
    let n = c.hear.ensures.hears plan core.backend turn.number a w.stays.next w.stays.at w.ready in
    less_left value plan core.backend c.strings.core c.hear.new.core turn.number a a h.next w.stays.next n.goes.next
    h.at n.goes.at c.requires.in_range (w.stays.keeps.same a c.requires.in_range) n.less

pub returns : goal.returns
returns g c =
    let S = g.S.PacketSource in
    let K = g.K.PacketSink in
    let E = g.E.Emit in
    let value = g.B.Backend.value in
    let i = c.strings.invariant in
    let p = c.put.ensures in
    let a = c.args.antenna in
    record {
      goes = λ plan backend number state at more.
          let h = i.goes plan backend number state at more in
          let few = few_in value plan backend c.args.core.now number a state a at c.requires.in_range in
          let s = subst (λ b. Puts value plan backend c.strings.core c.put.new.core number a h.next
          (K.sent c.strings.sink) (K.sent c.put.new.sink) (E.tally c.strings.core.emit)
          (E.tally c.put.new.core.emit) b) c.strings-test.false
          (p.puts plan backend number h.next h.at few more) in
          goes_then value S.gives S.given S.faults plan backend _ _ _ _ _ _ _ _ _ _ state _ _ _ _ _ _ (λ all. [])
          (λ all. []) h (goes_still value S.gives S.given S.faults plan backend c.strings.sources _ _ _ _ h.next _ _
          _ _ (λ all. []) s);
      sources = i.sources;
      plan = p.plan ∙ i.same_plan;
      backend = p.backend ∙ i.same_backend;
      sink_begun = p.sink_begun;
      sink_at = p.sink_at ∙ i.placed;
      calm = p.calm ∙ i.calm;
    }
