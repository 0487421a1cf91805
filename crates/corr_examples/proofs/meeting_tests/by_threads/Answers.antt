use Rattle.std.proofs.Common.{◌≡◌, true, is_some, ap, ◌∙◌}
use Rattle.corr_model.specs.declared.plan.Plan.{Plan}
use Rattle.corr_examples.proofs.MeetingLemmas.{two_begun}
use Rattle.corr_examples.proofs.meeting_tests.by_threads.Goals as goal

pub threads_with-outcome-requires-clause-begun : goal.threads_with-outcome-requires-clause-begun
threads_with-outcome-requires-clause-begun g c =
    let two : c.in_ok-shared.shared.plan.antennas ≡ 2 =
    ap (λ (p : Plan). p.antennas) (c.in_ok-shared.ensures ∙ c.in_ok-prepared.ensures.plan) ∙ c.requires.two in
    let first : is_some c.new-2.result.source.at ≡ true =
    ap (λ s. is_some s.at) c.new-2.ensures.source ∙ c.in_ok-first_source.ensures in
    let other : is_some c.new-3.result.source.at ≡ true =
    ap (λ s. is_some s.at) c.new-3.ensures.source ∙ c.in_ok-other_source.ensures in
    λ κs lives. two_begun (λ s. is_some s.source.at) c.in_ok-shared.shared.plan.antennas c.new-2.result c.new-3.result
    two first other
