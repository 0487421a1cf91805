use Rattle.std.proofs.Common.{◌≡◌, ◌<◌, length, ap, ◌∙◌, subst, arith}
use Rattle.std.proofs.lemmas.List.{get_or_default}
use Rattle.slot_ring.specs.Slots.{WorkView, free_work}
use Rattle.corr_machine.specs.Machines.{work_count}
use Rattle.corr_core.specs.Parts.{PartsView, work_in}
use Rattle.corr_core.specs.Changes.{Computes}
use Rattle.corr_core.specs.Sends.{value_with}
use Rattle.corr_core.proofs.WorkLemmas.{slot_taken}
use Rattle.corr_core.proofs.parts.Parts.take_slot.Goals as goal

pub returns : goal.returns
returns g c =
    let seen : PartsView =
    record {
      plan = c.self.inside.plan;
      feeds = c.self.inside.feeds.items;
      hands = c.self.inside.hands.items;
      ring = c.self.inside.ring;
      works = c.self.inside.works.items;
      outgoing = c.self.inside.outgoing;
      sent =
          c.self.inside.sent;
    } in
    let w = c.args.work in
    let value = g.B.Backend.value c.args.backend.now in
    let same = ap (λ (k : PartsView). work_count k.plan) c.self.view_is in
    let few : w < work_count seen.plan = omega (arith, c.requires.in_range, same) in
    let low : w < length seen.works = omega (arith, few, c.self.invariant.work_count_is) in
    let read : c.index_mut.result.now ≡ work_in seen w =
    c.index_mut.ensures.value ∙ get_or_default seen.works w _ (free_work seen.plan 0) low in
    let plan = ap (λ (v : WorkView). v.plan) read ∙ c.self.invariant.work_plans w few in
    slot_taken (λ p. value_with value p.plan) seen c.args.self.now w c.args.slot c.index_mut.result.now
    c.take_and_compute.new.work c.take_and_compute.new.ring c.take_and_compute.result c.self.view_is read
    (subst (λ p. Computes (value_with value p) seen.ring c.args.slot c.index_mut.result.now c.take_and_compute.new.ring
    c.take_and_compute.new.work c.take_and_compute.result) plan c.take_and_compute.ensures)
