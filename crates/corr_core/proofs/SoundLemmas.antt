-- The parts keep what their type keeps where one of them changed.
use Rattle.std.proofs.Common.{◌≡◌, ◌≢◌, ℕ, ◌<◌, Bool, set, ◌∙◌, arith}
use Rattle.std.proofs.lemmas.List.{length-set}
use Rattle.corr_model.specs.declared.plan.Plan.{Plan}
use Rattle.slot_column.specs.Columns.{Hand}
use Rattle.slot_ring.specs.declared.work.Stage.{Stage}
use Rattle.slot_ring.specs.declared.work.Stage.TheVariants.{Free, Taken, Computed}
use Rattle.slot_ring.specs.Means.{spare_hand}
use Rattle.slot_ring.specs.Slots.{WorkView, free_work}
use Rattle.slot_ring.specs.Rings.{RingView}
use Rattle.stream_feed.specs.Feeding.{FeedState}
use Rattle.corr_machine.specs.Machines.{work_count}
use Rattle.corr_machine.proofs.Places.{set_each}
use Rattle.corr_core.specs.Parts.{PartsView, no_feed, IsSoundParts}

-- a feed
pub sound_feed : (names : Bool) (named : Plan) (p : PartsView) (a : ℕ) (g : FeedState) → IsSoundParts names named p
    → a < p.plan.antennas → g.columns.plan ≡ p.plan → IsSoundParts names named (record p { feeds = set p.feeds a g })
sound_feed names named p a g h few same = record {
  fits = h.fits;
  named_plan = h.named_plan;
  feed_count = length-set p.feeds a g ∙ h.feed_count;
  hand_count = h.hand_count;
  work_count_is = h.work_count_is;
  ring_plan = h.ring_plan;
  feed_plans = set_each (λ c f. c < p.plan.antennas → f.columns.plan ≡ p.plan) p.feeds a g (no_feed p.plan)
      (omega (arith, few, h.feed_count)) (λ low. same) (λ c ne low. h.feed_plans c low);
  hand_plans = h.hand_plans;
  work_plans = h.work_plans;
  computed = h.computed;
  outgoing_plan = h.outgoing_plan;
}

-- a hand, and the ring
pub sound_hand : (names : Bool) (named : Plan) (p : PartsView) (a : ℕ) (hand : Hand) (ring : RingView)
    → IsSoundParts names named p → a < p.plan.antennas → hand.column.plan ≡ p.plan → ring.plan ≡ p.plan
    → IsSoundParts names named (record p { hands = set p.hands a hand; ring = ring })
sound_hand names named p a hand ring h few same same_ring = record {
  fits = h.fits;
  named_plan = h.named_plan;
  feed_count = h.feed_count;
  hand_count = length-set p.hands a hand ∙ h.hand_count;
  work_count_is = h.work_count_is;
  ring_plan = same_ring;
  feed_plans = h.feed_plans;
  hand_plans = set_each (λ c k. c < p.plan.antennas → k.column.plan ≡ p.plan) p.hands a hand (spare_hand p.plan)
      (omega (arith, few, h.hand_count)) (λ low. same) (λ c ne low. h.hand_plans c low);
  work_plans = h.work_plans;
  computed = h.computed;
  outgoing_plan = h.outgoing_plan;
}

-- a work, and the ring
pub sound_work : (names : Bool) (named : Plan) (p : PartsView) (w : ℕ) (work : WorkView) (ring : RingView)
    → IsSoundParts names named p → w < work_count p.plan → work.plan ≡ p.plan → work.stage ≢ Taken → ring.plan ≡ p.plan
    → IsSoundParts names named (record p { ring = ring; works = set p.works w work })
sound_work names named p w work ring h few same stage same_ring = record {
  fits = h.fits;
  named_plan = h.named_plan;
  feed_count = h.feed_count;
  hand_count = h.hand_count;
  work_count_is = length-set p.works w work ∙ h.work_count_is;
  ring_plan = same_ring;
  feed_plans = h.feed_plans;
  hand_plans = h.hand_plans;
  work_plans = set_each (λ c k. c < work_count p.plan → k.plan ≡ p.plan) p.works w work (free_work p.plan 0)
      (omega (arith, few, h.work_count_is)) (λ low. same) (λ c ne low. h.work_plans c low);
  computed = set_each (λ c k. c < work_count p.plan → k.stage ≢ Taken) p.works w work (free_work p.plan 0)
      (omega (arith, few, h.work_count_is)) (λ low. stage) (λ c ne low. h.computed c low);
  outgoing_plan = h.outgoing_plan;
}

pub free_is_not_taken : (stage : Stage) → stage ≡ Free → stage ≢ Taken
free_is_not_taken Free h = λ e. absurd cc
free_is_not_taken Taken h = absurd cc
free_is_not_taken Computed h = λ e. absurd cc
