-- What calls of the parts changed, as the contracts say it.
use Rattle.std.proofs.Common.{◌≡◌, ℕ, false, get_or, set, sym, ap, ◌∙◌, subst}
use Rattle.std.proofs.lemmas.List.{set-get_or}
use Rattle.slot_column.specs.Columns.{Hand}
use Rattle.stream_feed.specs.Feeding.{FeedState}
use Rattle.slot_ring.specs.declared.held.Held.{Held}
use Rattle.slot_ring.specs.declared.held.Put.TheVariants.{Waits}
use Rattle.slot_ring.specs.declared.held.Took.TheVariants as took
use Rattle.slot_ring.specs.declared.held.Gave.TheVariants as gave
use Rattle.slot_ring.specs.Slots.{View, WorkView, OutgoingView, held_of}
use Rattle.slot_ring.specs.Rings.{RingView, RingPuts, RingTakes, RingSends}
use Rattle.slot_ring.specs.Answers.{AcceptsPut, AcceptsTake, AcceptsSend}
use Rattle.corr_core.specs.Parts.{PartsView, no_slot_of, feed_in}
use Rattle.corr_core.specs.Standing.{Value}
use Rattle.corr_core.specs.Changes.{place_for, PutsHand, Computes, Releases, FeedChanged, HandGot, GaveColumn}
use Rattle.corr_core.proofs.StandingLemmas.{refuses_put, refuses_take, refuses_send}

-- a ring whose slot was left is as it was
same_slot : (old now : RingView) (place : ℕ) (before after : View)
    → get_or old.slots place (no_slot_of old.plan) ≡ before → after ≡ before
    → now ≡ record old { slots = set old.slots place after } → now ≡ old
same_slot old now place before after read left rest =
    rest ∙ ap (λ v. record old { slots = set old.slots place v }) (left ∙ sym read) ∙ ap (λ s. record old { slots = s })
    (set-get_or old.slots place (no_slot_of old.plan))

-- a column that waits
pub put_refused : (old now : RingView) (hand left : Hand) (held : Held) → RingPuts old hand (Waits held) now left
    → PutsHand old hand now left false
put_refused old now hand left held h =
    let read = h.is_before (no_slot_of old.plan) in
    let place = place_for old hand.column.number in (
      (λ to. refuses_put held hand.column h.changed.1
          (subst (λ k. AcceptsPut k hand.column) (ap held_of read ∙ sym h.changed.0) to)),
      same_slot old now place h.before h.after read h.changed.2 h.rest,
      h.changed.3,
    )

-- a slot that is not to be taken
pub take_refused : (value : Value) (old now : RingView) (slot : ℕ) (work left : WorkView) (held : Held)
    → RingTakes old slot work (took.Not held) now left → Computes value old slot work now left false
take_refused value old now slot work left held h =
    let read = h.is_before (no_slot_of old.plan) in
    let place = place_for old slot in (
      (λ to. refuses_take held work.plan h.changed.1
          (subst (λ k. AcceptsTake k work.plan) (ap held_of read ∙ sym h.changed.0) to)),
      same_slot old now place h.before h.after read h.changed.2 h.rest,
      h.changed.3,
    )

-- a value that is not there
pub release_refused : (seen old : PartsView) (ring : RingView) (outgoing : OutgoingView) (held : Held) → seen ≡ old
    → RingSends seen.ring seen.sent seen.outgoing (gave.Not held) ring outgoing
    → Releases old (record seen { ring = ring; outgoing = outgoing }) false
release_refused seen old ring outgoing held view h =
    let read = h.is_before (no_slot_of seen.ring.plan) in
    let place = place_for seen.ring seen.sent in
    let ring_is = same_slot seen.ring ring place h.before h.after read h.changed.2 h.rest in
    subst (λ (k : PartsView). Releases k (record seen { ring = ring; outgoing = outgoing }) false) view (
      (λ to. refuses_send held seen.outgoing.plan seen.sent h.changed.1
          (subst (λ k. AcceptsSend k seen.outgoing.plan seen.sent) (ap held_of read ∙ sym h.changed.0) to)),
      ap (λ r. record seen { ring = r; outgoing = outgoing }) ring_is ∙ ap
          (λ o. record seen { outgoing = o }) h.changed.3,
    )

-- the feed that was read and changed, as the parts' own
pub feed_changed : (seen old : PartsView) (a : ℕ) (f g : FeedState) (Does : FeedState → FeedState → Type 0) → seen ≡ old
    → f ≡ feed_in seen a → Does f g → FeedChanged old (record seen { feeds = set seen.feeds a g }) a Does
feed_changed seen old a f g Does view read does = record {
  feed = g;
  does = subst (λ (k : PartsView). Does (feed_in k a) g) view (subst (λ k. Does k g) read does);
  parts = ap (λ (k : PartsView). record k { feeds = set k.feeds a g }) view;
}

-- the feed and the hand that were read and changed
pub hand_got : (seen old : PartsView) (a : ℕ) (f g : FeedState) (hand : Hand) → seen ≡ old → f ≡ feed_in seen a
    → GaveColumn f g hand
    → HandGot old (record seen { feeds = set seen.feeds a g; hands = set seen.hands a hand }) a
hand_got seen old a f g hand view read gave' = record {
  feed = g;
  hand = hand;
  gave = subst (λ (k : PartsView). GaveColumn (feed_in k a) g hand) view (subst (λ k. GaveColumn k g hand) read gave');
  parts = ap (λ (k : PartsView). record k { feeds = set k.feeds a g; hands = set k.hands a hand }) view;
}
