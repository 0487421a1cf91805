use Rattle.std.proofs.Common.{◌≡◌, ◌<◌, length, ap, ◌∙◌, arith}
use Rattle.std.proofs.lemmas.List.{get_or_default}
use Rattle.slot_ring.specs.Slots.{WorkView, free_work}
use Rattle.corr_machine.specs.Machines.{work_count}
use Rattle.corr_core.specs.Parts.{PartsView, work_in}
use Rattle.corr_core.proofs.WorkLemmas.{result_stored_in}
use Rattle.corr_core.proofs.SoundLemmas.{sound_work, free_is_not_taken}
use Rattle.corr_core.proofs.parts.Parts.store_result.Goals as goal

pub invariant_of-self : goal.invariant_of-self
invariant_of-self g c =
    let seen : PartsView =
    record {
      plan = c.self.inside.plan;
      feeds = c.self.inside.feeds.items;
      hands = c.self.inside.hands.items;
      ring = c.self.inside.ring;
      works = c.self.inside.works.items;
      outgoing = c.self.inside.outgoing;
      sent =
          c.self.inside.sent;
    } in
    let w = c.args.work in
    let same = ap (λ (k : PartsView). work_count k.plan) c.self.view_is in
    let few : w < work_count seen.plan = omega (arith, c.requires.in_range, same) in
    let low : w < length seen.works = omega (arith, few, c.self.invariant.work_count_is) in
    let read : c.index_mut.result.now ≡ work_in seen w =
    c.index_mut.ensures.value ∙ get_or_default seen.works w _ (free_work seen.plan 0) low in
    let e = c.store_value.ensures in
    sound_work g.O.Observation.names g.O.Observation.plan seen w c.store_value.new.work c.store_value.new.ring
    c.self.invariant few
    (e.plan ∙ ap (λ (v : WorkView). v.plan) read ∙ c.self.invariant.work_plans w few) (free_is_not_taken _ e.free)
    (e.ring_plan ∙ c.self.invariant.ring_plan)

pub returns : goal.returns
returns g c =
    let seen : PartsView =
    record {
      plan = c.self.inside.plan;
      feeds = c.self.inside.feeds.items;
      hands = c.self.inside.hands.items;
      ring = c.self.inside.ring;
      works = c.self.inside.works.items;
      outgoing = c.self.inside.outgoing;
      sent =
          c.self.inside.sent;
    } in
    let w = c.args.work in
    let same = ap (λ (k : PartsView). work_count k.plan) c.self.view_is in
    let few : w < work_count seen.plan = omega (arith, c.requires.in_range, same) in
    let low : w < length seen.works = omega (arith, few, c.self.invariant.work_count_is) in
    let read : c.index_mut.result.now ≡ work_in seen w =
    c.index_mut.ensures.value ∙ get_or_default seen.works w _ (free_work seen.plan 0) low in
    result_stored_in seen c.args.self.now w c.index_mut.result.now c.store_value.new.work c.store_value.new.ring
    c.self.view_is read c.store_value.ensures
