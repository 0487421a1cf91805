-- How the streams have ended after a call.
use Rattle.std.proofs.Common.{◌≡◌, ◌≢◌, ℕ, ◌<◌, Bool, true, false, List, length, get_or, set, Option, Some, refl, sym, ap, ◌∙◌, subst, inl, inr}
use Rattle.std.proofs.lemmas.List.{get_or-set_same, get_or-set_other}
use Rattle.std.proofs.lemmas.Bool.{cases_eq}
use Rattle.corr_model.specs.declared.plan.Plan.{Plan}
use Rattle.corr_model.specs.declared.verdict.Ending.{Ending}
use Rattle.stream_feed.specs.declared.report.StreamReport.{StreamReport}
use Rattle.stream_feed.specs.Feeding.{FeedState, is_said}
use Rattle.corr_core.specs.Parts.{PartsView, no_feed, feed_in}
use Rattle.corr_core.specs.Changes.{TookString, TookEnd, FeedChanged, HandGot, HandPut, SlotTaken, ResultStored, Releases}
use Rattle.corr_core.specs.Cores.{KeepsEnds, KeepsOtherEnds, EndsByString, EndsAsSaid, EndsAfter, end_of, has_moved, stepped_of}
use Rattle.corr_core.specs.declared.event.Event.{Event}
use Rattle.corr_core.specs.declared.event.Event.TheVariants.{Packet, End, Put, Take, Store, Send}
use Rattle.corr_core.specs.declared.event.Stepped.TheVariants.{Idle, Failed}

-- the feed that changed has ended as said of it, and the others as they had
end_here : (old now : PartsView) (a : ℕ) (f : FeedState) → now.feeds ≡ set old.feeds a f → now.plan ≡ old.plan
    → a < length old.feeds → end_of now a ≡ f.report.ended
end_here old now a f feeds plan low =
    ap (λ fs. (get_or fs a (no_feed now.plan)).report.ended) feeds ∙ ap (λ (k : FeedState). k.report.ended)
    (get_or-set_same old.feeds a f (no_feed now.plan) low)

end_there : (old now : PartsView) (a : ℕ) (f : FeedState) → now.feeds ≡ set old.feeds a f → now.plan ≡ old.plan
    → KeepsOtherEnds old now a
end_there old now a f feeds plan b low apart =
    ap (λ fs. (get_or fs b (no_feed now.plan)).report.ended) feeds
    ∙ ap (λ (k : FeedState). k.report.ended) (get_or-set_other old.feeds a b f (no_feed now.plan) apart)
    ∙ ap (λ p. (get_or old.feeds b (no_feed p)).report.ended) plan

pub took_ends : (old now : PartsView) (a : ℕ) (b : List ℕ) → FeedChanged old now a (λ f g. TookString f g b)
    → EndsByString old now a true
took_ends old now a b h =
    let feeds = ap (λ (k : PartsView). k.feeds) h.parts in
    let plan = ap (λ (k : PartsView). k.plan) h.parts in
    (λ low. ap is_said (end_here old now a h.feed feeds plan low) ∙ h.does.own, end_there old now a h.feed feeds plan)

pub ended_ends : (old now : PartsView) (a : ℕ) (how : Ending) → FeedChanged old now a (λ f g. TookEnd f g how)
    → EndsAsSaid old now a how true
ended_ends old now a how h =
    let feeds = ap (λ (k : PartsView). k.feeds) h.parts in
    let plan = ap (λ (k : PartsView). k.plan) h.parts in
    (λ low. end_here old now a h.feed feeds plan low ∙ h.does.said, end_there old now a h.feed feeds plan)

-- a column that was given changes none of it
pub got_ends : (old now : PartsView) (a : ℕ) → HandGot old now a → KeepsEnds old now
got_ends old now a h b low =
    let feeds = ap (λ (k : PartsView). k.feeds) h.parts in
    let plan = ap (λ (k : PartsView). k.plan) h.parts in
    elim (cases_eq b a) [
      | inl same ↦
          subst (λ c. end_of now c ≡ end_of old c) (sym same)
          (end_here old now a h.feed feeds plan (subst (λ c. c < length old.feeds) same low) ∙ ap
          (λ (r : StreamReport). r.ended) h.gave.ended)
      | inr apart ↦ end_there old now a h.feed feeds plan b low apart
    ]

-- where the feeds are as they were, so are their ends
pub same_ends : (old now : PartsView) → now.feeds ≡ old.feeds → now.plan ≡ old.plan → KeepsEnds old now
same_ends old now feeds plan b low =
    ap (λ fs. (get_or fs b (no_feed now.plan)).report.ended) feeds ∙ ap
    (λ p. (get_or old.feeds b (no_feed p)).report.ended) plan

pub none_ends : (p : PartsView) → KeepsEnds p p
none_ends p b low = refl

pub put_ends : (old mid now : PartsView) (a : ℕ) (answer : Bool) → KeepsEnds old mid → HandPut mid now a answer
    → KeepsEnds old now
put_ends old mid now a answer first h b low =
    let feeds = ap (λ (k : PartsView). k.feeds) h.parts in
    let plan = ap (λ (k : PartsView). k.plan) h.parts in
    ap (λ fs. (get_or fs b (no_feed now.plan)).report.ended) feeds ∙ ap
    (λ p. (get_or mid.feeds b (no_feed p)).report.ended) plan ∙ first b low

pub released_ends : (old now : PartsView) (answer : Bool) → Releases old now answer → KeepsEnds old now
released_ends old now true h =
    same_ends old now (ap (λ (k : PartsView). k.feeds) h.parts) (ap (λ (k : PartsView). k.plan) h.parts)
released_ends old now false h =
    same_ends old now (ap (λ (k : PartsView). k.feeds) h.1) (ap (λ (k : PartsView). k.plan) h.1)

-- the answer of a step by what happened
pub string_after : (old now : PartsView) (a : ℕ) (b : Bool) → EndsByString old now a b
    → (stepped_of b ≢ Failed) × EndsByString old now a (has_moved (stepped_of b))
string_after old now a true h = (λ e. absurd cc, h)
string_after old now a false h = (λ e. absurd cc, h)

pub said_after : (old now : PartsView) (a : ℕ) (how : Ending) (b : Bool) → EndsAsSaid old now a how b
    → (stepped_of b ≢ Failed) × EndsAsSaid old now a how (has_moved (stepped_of b))
said_after old now a how true h = (λ e. absurd cc, h)
said_after old now a how false h = (λ e. absurd cc, h)

pub kept_after : (old now : PartsView) (b : Bool) → KeepsEnds old now → (stepped_of b ≢ Failed) × KeepsEnds old now
kept_after old now true h = (λ e. absurd cc, h)
kept_after old now false h = (λ e. absurd cc, h)

-- an idle step changes none of it
pub idle_after : (p : PartsView) (e : Event) → EndsAfter p p e Idle
idle_after p (Packet a b) = (λ e. absurd cc, λ c low. refl)
idle_after p (End a how) = (λ e. absurd cc, λ c low. refl)
idle_after p (Put a) = (λ e. absurd cc, λ c low. refl)
idle_after p (Take w s) = (λ e. absurd cc, λ c low. refl)
idle_after p (Store w) = (λ e. absurd cc, λ c low. refl)
idle_after p Send = λ c low. refl
