use Rattle.std.proofs.Common.{◌≡◌, ◌<◌, ◌%◌, ℕ, refl, sym, ap, ap₂, ◌∙◌, subst, arith}
use Rattle.corr_model.specs.declared.plan.Plan.{Plan}
use Rattle.corr_machine.specs.Machines.{opening}
use Rattle.corr_serial.proofs.SourceLemmas.{sources_as_they_were, sources_then}
use Rattle.corr_serial.proofs.StepLemmas.{goes_none, feed_there}
use Rattle.corr_serial.proofs.GatherLemmas.{enough_as, sources_on_plan, begun_as, can_turn, has_sent_all}
use Rattle.corr_serial.proofs.RunLemmas.{sent_to, opening_at, goes_next, runs_whole, runs_front, err_runs, feeds_counted, slot_within, slot_is, at_last, some_accumulations}
use Rattle.corr_serial.proofs.running.run.Goals as goal

pub loop-number-init : goal.loop-number-init
loop-number-init g c =
    let S = g.S.PacketSource in
    let core = c.args.core.now in
    record {
      goes = goes_none g.B.Backend.value S.gives S.given S.faults core.parts.plan core.backend c.args.sources.now core 0
          0 (opening core.parts.plan) _ _ (opening_at g.B.Backend.value core c.requires.stands c.requires.calm);
      sources = sources_as_they_were S.begun S.at S.gives S.belongs core.parts.plan.antennas _ c.requires.begun;
      same_length = refl;
      same_plan = refl;
      same_backend = refl;
      is_begun = c.requires.sink;
      placed = refl;
      calm = refl;
    }

pub gather_all-requires-clause-turn : goal.gather_all-requires-clause-turn
gather_all-requires-clause-turn g c =
    let core = c.args.core.now in
    let i = c.loop-number.invariant in
    let more : c.loop-number.number < core.parts.plan.accumulations = let told =
    ap (λ (p : Plan). p.accumulations) c.plan.ensures in let low =
    c.loop-number-test.true in omega (arith, told, low) in
    can_turn g.B.Backend.value core.parts.plan core.backend c.loop-number.core c.loop-number.number 0 i.goes.next
    i.goes.at more

pub gather_all-requires-clause-enough : goal.gather_all-requires-clause-enough
gather_all-requires-clause-enough g c =
    enough_as _ _ _ _ c.requires.enough c.loop-number.invariant.same_plan c.loop-number.invariant.same_length

pub gather_all-requires-clause-begun : goal.gather_all-requires-clause-begun
gather_all-requires-clause-begun g c =
    begun_as g.S.PacketSource.begun _ _ _ c.loop-number.invariant.sources.are_begun c.loop-number.invariant.same_plan

pub pass-requires-clause-in_range : goal.pass-requires-clause-in_range
pass-requires-clause-in_range g c =
    slot_within c.args.core.now.parts.plan c.gather_all.new.core.parts.plan c.plan-2.result.now c.loop-number.number
    c.requires.fits (c.gather_all.ensures.plan ∙ c.loop-number.invariant.same_plan) c.plan-2.ensures

pub loop-number-preserved : goal.loop-number-preserved
loop-number-preserved g c =
    let S = g.S.PacketSource in
    let value = g.B.Backend.value in
    let core = c.args.core.now in
    let plan = core.parts.plan in
    let n = c.loop-number.number in
    let i = c.loop-number.invariant in
    let e = c.gather_all.ensures in
    let p = c.in_ok-pass.ensures in
    let more : n < plan.accumulations = let told = ap (λ (p : Plan). p.accumulations) c.plan.ensures in let low =
    c.loop-number-test.true in omega (arith, told, low) in
    let k = e.goes plan core.backend n i.goes.next i.goes.at more in
    let s = p.passes plan core.backend n k.next k.at (slot_is plan c.plan-2.result.now n c.plan-2.ensures) in
    record {
      goes = goes_next value S.gives S.given S.faults plan core.backend (g.E.Emit.strings plan) _ _ _ core _ _ _ n
          (opening plan) _ _ _ _ _ _ _ _ i.goes k s;
      sources = sources_then S.begun S.at S.gives S.belongs plan.antennas _ _ _ i.sources
          (sources_on_plan S.begun S.at S.gives S.belongs _ _ _ _ i.same_plan e.sources);
      same_length = c.gather_all.auto.sources ∙ i.same_length;
      same_plan = p.plan ∙ e.plan ∙ i.same_plan;
      same_backend = p.backend ∙ e.backend ∙ i.same_backend;
      is_begun = p.sink_begun;
      placed = p.sink_at ∙ e.sink_at ∙ i.placed;
      calm = p.cause.kept ∙ e.calm ∙ i.calm;
    }

pub returns-in_err-pass-clause-sources : goal.returns-in_err-pass-clause-sources
returns-in_err-pass-clause-sources g c =
    let S = g.S.PacketSource in
    let i = c.loop-number.invariant in
    sources_then S.begun S.at S.gives S.belongs c.args.core.now.parts.plan.antennas _ _ _ i.sources
    (sources_on_plan S.begun S.at S.gives S.belongs _ _ _ _ i.same_plan c.gather_all.ensures.sources)

pub returns-in_err-pass-clause-feeds : goal.returns-in_err-pass-clause-feeds
returns-in_err-pass-clause-feeds g c =
    let core = c.args.core.now in
    let plan = core.parts.plan in
    let n = c.loop-number.number in
    let i = c.loop-number.invariant in
    let more : n < plan.accumulations = let told = ap (λ (p : Plan). p.accumulations) c.plan.ensures in let low =
    c.loop-number-test.true in omega (arith, told, low) in
    let k = c.gather_all.ensures.goes plan core.backend n i.goes.next i.goes.at more in
    let b = c.in_err-pass.ensures.passes plan core.backend n k.next k.at
    (slot_is plan c.plan-2.result.now n c.plan-2.ensures) in
    feeds_counted _ plan _ b.next b.same_plan b.stands_for

pub returns-in_err-pass-clause-runs : goal.returns-in_err-pass-clause-runs
returns-in_err-pass-clause-runs g c =
    let S = g.S.PacketSource in
    let value = g.B.Backend.value in
    let strings = g.E.Emit.strings c.args.core.now.parts.plan in
    let core = c.args.core.now in
    let plan = core.parts.plan in
    let n = c.loop-number.number in
    let i = c.loop-number.invariant in
    let more : n < plan.accumulations = let told = ap (λ (p : Plan). p.accumulations) c.plan.ensures in let low =
    c.loop-number-test.true in omega (arith, told, low) in
    let some : 0 < plan.accumulations = omega (arith, more) in
    let k = c.gather_all.ensures.goes plan core.backend n i.goes.next i.goes.at more in
    let b = c.in_err-pass.ensures.passes plan core.backend n k.next k.at
    (slot_is plan c.plan-2.result.now n c.plan-2.ensures) in
    err_runs (record { strings = strings; value = value core.backend plan }) plan S.gives S.given S.faults _ _ _ _ _ _ _
    c.from_residual.result c.from_residual.ensures.0
    (runs_front value S.gives S.given S.faults strings core c.args.sources.now _ _
    (opening_at value core c.requires.stands c.requires.calm) some _ _ _ _ _ n _ _ _ _ more _ _ i.goes k b)

pub drain_all-requires-clause-sent : goal.drain_all-requires-clause-sent
drain_all-requires-clause-sent g c =
    let core = c.args.core.now in
    let i = c.loop-number.invariant in
    let all : c.loop-number.number ≡ core.parts.plan.accumulations = let told =
    ap (λ (p : Plan). p.accumulations) c.plan.ensures in omega (arith, told) in
    has_sent_all g.B.Backend.value core.parts.plan core.backend c.loop-number.core c.loop-number.number
    i.goes.next i.goes.at all

pub drain_all-requires-clause-enough : goal.drain_all-requires-clause-enough
drain_all-requires-clause-enough g c =
    enough_as _ _ _ _ c.requires.enough c.loop-number.invariant.same_plan c.loop-number.invariant.same_length

pub drain_all-requires-clause-begun : goal.drain_all-requires-clause-begun
drain_all-requires-clause-begun g c =
    begun_as g.S.PacketSource.begun _ _ _ c.loop-number.invariant.sources.are_begun c.loop-number.invariant.same_plan

pub returns-clause-sources : goal.returns-clause-sources
returns-clause-sources g c =
    let S = g.S.PacketSource in
    let i = c.loop-number.invariant in
    sources_then S.begun S.at S.gives S.belongs c.args.core.now.parts.plan.antennas _ _ _ i.sources
    (sources_on_plan S.begun S.at S.gives S.belongs _ _ _ _ i.same_plan c.drain_all.ensures.sources)

pub returns-clause-feeds : goal.returns-clause-feeds
returns-clause-feeds g c =
    let value = g.B.Backend.value in
    let core = c.args.core.now in
    let plan = core.parts.plan in
    let n = c.loop-number.number in
    let i = c.loop-number.invariant in
    let all : n ≡ plan.accumulations = let told =
    ap (λ (p : Plan). p.accumulations) c.plan.ensures in omega (arith, told) in
    let k = c.drain_all.ensures.goes plan core.backend i.goes.next
    (at_last value plan core.backend c.loop-number.core n i.goes.next all i.goes.at) in
    feeds_counted _ plan _ k.next k.at.own.same_plan k.at.stands_for

pub returns-clause-runs : goal.returns-clause-runs
returns-clause-runs g c =
    let S = g.S.PacketSource in
    let value = g.B.Backend.value in
    let core = c.args.core.now in
    let plan = core.parts.plan in
    let n = c.loop-number.number in
    let i = c.loop-number.invariant in
    let e = c.drain_all.ensures in
    let all : n ≡ plan.accumulations = let told =
    ap (λ (p : Plan). p.accumulations) c.plan.ensures in omega (arith, told) in
    let k = e.goes plan core.backend i.goes.next
    (at_last value plan core.backend c.loop-number.core n i.goes.next all i.goes.at) in
    runs_whole value S.gives S.given S.faults (g.E.Emit.strings plan) core c.args.sources.now _ _
    (opening_at value core c.requires.stands c.requires.calm) (some_accumulations plan c.requires.fits)
    c.drain_all.new.core c.loop-number.core _ _ n _ _ _ _ all i.goes k
    (λ a few. e.over a (subst (λ (p : Plan). a < p.antennas) (sym i.same_plan) few))
