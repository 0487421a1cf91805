-- What a packet more makes whole: the heap that it makes by what it is to its heap.
use Rattle.std.proofs.Common.{◌≡◌, ℕ, ◌<◌, Bool, true, false, cond, List, [], ◌∷◌, ◌++◌, length, Option, Some, None, refl, sym, ap, ◌∙◌, inl, inr}
use Rattle.std.specs.Option.{option_to_list, option_and_then}
use Rattle.std.proofs.lemmas.List.{append-nil}
use Rattle.std.proofs.lemmas.Bool.{cases_Bool, cond-true, cond-false}
use Rattle.corr_model.specs.declared.plan.Plan.{Plan}
use Rattle.corr_model.specs.declared.heap.DropCause.{DropCause}
use Rattle.corr_model.specs.declared.heap.DropCause.TheVariants.{PastLimit}
use Rattle.corr_model.specs.Lists.{last_one}
use Rattle.corr_model.specs.Packets.{Parts, packet_in}
use Rattle.corr_model.specs.Windows.{PlacedPacket, is_within, heard_in, heard, placed, place_next, placed_in}
use Rattle.corr_model.specs.Assembly.{Fate, Standing, Before, Whole, After, standing, members_with, heap_at, whole_with, whole_now}
use Rattle.corr_model.specs.PacketVerdicts.{Dropped, by_fate, kept_or_dropped, by_standing, outcome_with, next_outcome, heap_made}
use Rattle.corr_model.specs.Streams.{whole_in}
use Rattle.corr_model.proofs.Turns.{last_one_push}
use Rattle.corr_model.proofs.Pushes.{placed_push}
use Rattle.corr_model.proofs.StreamPushes.{heard_push, whole_in_push, whole_in_stays}

-- a member of a heap that is not whole makes none
made_by_cause : (o : Option DropCause) → heap_made (kept_or_dropped o) ≡ None
made_by_cause None = refl
made_by_cause (Some cause) = refl

made_by_fate : (o : Option Fate) → heap_made (by_fate o) ≡ None
made_by_fate None = refl
made_by_fate (Some f) = made_by_cause f.cause

-- the heap at a member is the one that the member makes
made_at : (counter : ℕ) (ms : List PlacedPacket) (s : Standing)
    → heap_made (by_standing counter ms s) ≡ heap_at counter s
made_at counter ms Before = made_by_fate _
made_at counter ms (Whole front) = refl
made_at counter ms After = refl

-- the heap that is whole at the last packet is the one that it makes
pub made_with : (window : ℕ) (ps : List PlacedPacket) (q : PlacedPacket)
    → heap_made (outcome_with window ps q) ≡ whole_with window ps q
made_with window ps q = made_at q.packet.counter (members_with window ps q) (standing (members_with window ps q))

-- a packet within the limit makes the heap that is whole after it
made_next : (limit window : ℕ) (h : List Parts) (p : Parts) → is_within limit p ≡ true
    → whole_now window (placed window (h ++ p ∷ [])) ≡ heap_made (next_outcome limit window h p)
made_next limit window h p within =
    let ps = placed window (h ++ p ∷ []) in
    let q = place_next window (placed window h) p in
    ap (option_and_then (whole_with window ps))
    (ap last_one (placed_push window h p) ∙ last_one_push (placed window h) q)
    ∙ sym (made_with window ps q)
    ∙ ap heap_made (sym (cond-true (is_within limit p) (outcome_with window ps q) (Dropped PastLimit) within))

-- a packet within the limit is heard, and another is not
pub heard_within : (limit : ℕ) (b : List ℕ) (p : Parts) → packet_in b ≡ Some p → is_within limit p ≡ true
    → heard_in limit b ≡ Some p
heard_within limit b p spelled within =
    ap (option_and_then (λ q. cond (is_within limit q) (Some q) None)) spelled ∙ cond-true (is_within limit p)
    (Some p) None within

pub unheard_past : (limit : ℕ) (b : List ℕ) (p : Parts) → packet_in b ≡ Some p → is_within limit p ≡ false
    → heard_in limit b ≡ None
unheard_past limit b p spelled past =
    ap (option_and_then (λ q. cond (is_within limit q) (Some q) None)) spelled ∙ cond-false (is_within limit p)
    (Some p) None past

pub unheard_refused : (limit : ℕ) (b : List ℕ) → packet_in b ≡ None → heard_in limit b ≡ None
unheard_refused limit b none = ap (option_and_then (λ q. cond (is_within limit q) (Some q) None)) none

within_one : (limit : ℕ) (q p : Parts) (b : Bool) → is_within limit q ≡ b → cond b (Some q) None ≡ Some p
    → is_within limit p ≡ true
within_one limit q p true is h = let same : q ≡ p = cc in ap (is_within limit) (sym same) ∙ is
within_one limit q p false is h = absurd cc

within_of : (limit : ℕ) (o : Option Parts) (p : Parts)
    → option_and_then (λ q. cond (is_within limit q) (Some q) None) o ≡ Some p → is_within limit p ≡ true
within_of limit None p h = absurd cc
within_of limit (Some q) p h = within_one limit q p (is_within limit q) refl h

-- below the limit of strings, a string that is heard makes the heap whole that its packet makes, or none
pub whole_now_made : (plan : Plan) (l : List (List ℕ)) (b : List ℕ) (p : Parts) → length l < plan.packet_limit
    → heard_in plan.heap_limit b ≡ Some p
    → whole_now plan.window (placed_in plan (l ++ b ∷ []))
    ≡ heap_made (next_outcome plan.heap_limit plan.window (heard plan l) p)
whole_now_made plan l b p room is =
    ap (whole_now plan.window)
    (ap (placed plan.window) (heard_push plan l b room ∙ ap (λ o. heard plan l ++ option_to_list o) is))
    ∙ made_next plan.heap_limit plan.window (heard plan l) p (within_of plan.heap_limit (packet_in b) p is)

-- a packet more adds the heap that it makes to the whole ones, if it makes one
pub whole_in_made : (plan : Plan) (l : List (List ℕ)) (b : List ℕ) (p : Parts) → length l < plan.packet_limit
    → packet_in b ≡ Some p
    → whole_in plan (l ++ b ∷ [])
    ≡ whole_in plan l ++ option_to_list (heap_made (next_outcome plan.heap_limit plan.window (heard plan l) p))
whole_in_made plan l b p room spelled =
    elim (cases_Bool (is_within plan.heap_limit p)) [
      | inl within ↦ let heard_is = heard_within plan.heap_limit b p spelled within in
          whole_in_push plan l b p room heard_is ∙ ap (λ o. whole_in plan l ++ option_to_list o)
          (whole_now_made plan l b p room heard_is)
      | inr past ↦ whole_in_stays plan l b room (unheard_past plan.heap_limit b p spelled past)
          ∙ sym (append-nil (whole_in plan l))
          ∙ ap (λ o. whole_in plan l ++ option_to_list (heap_made o))
          (sym (cond-false (is_within plan.heap_limit p)
          (outcome_with plan.window (placed plan.window (heard plan l ++ p ∷ []))
          (place_next plan.window (placed plan.window (heard plan l)) p)) (Dropped PastLimit) past))
    ]

-- a packet more is heard where it is within the limit
pub heard_made : (plan : Plan) (l : List (List ℕ)) (b : List ℕ) (p : Parts) → length l < plan.packet_limit
    → packet_in b ≡ Some p
    → heard plan (l ++ b ∷ []) ≡ cond (is_within plan.heap_limit p) (heard plan l ++ p ∷ []) (heard plan l)
heard_made plan l b p room spelled =
    elim (cases_Bool (is_within plan.heap_limit p)) [
      | inl within ↦ heard_push plan l b room ∙ ap (λ o. heard plan l ++ option_to_list o)
          (heard_within plan.heap_limit b p spelled within)
          ∙ sym (cond-true (is_within plan.heap_limit p) (heard plan l ++ p ∷ []) (heard plan l) within)
      | inr past ↦ heard_push plan l b room ∙ ap (λ o. heard plan l ++ option_to_list o)
          (unheard_past plan.heap_limit b p spelled past)
          ∙ append-nil (heard plan l)
          ∙ sym (cond-false (is_within plan.heap_limit p) (heard plan l ++ p ∷ []) (heard plan l) past)
    ]

-- a string that spells no packet is not heard, and makes none whole
pub heard_refused : (plan : Plan) (l : List (List ℕ)) (b : List ℕ) → length l < plan.packet_limit → packet_in b ≡ None
    → heard plan (l ++ b ∷ []) ≡ heard plan l
heard_refused plan l b room none =
    heard_push plan l b room ∙ ap (λ o. heard plan l ++ option_to_list o) (unheard_refused plan.heap_limit b none) ∙
    append-nil (heard plan l)

pub whole_in_refused : (plan : Plan) (l : List (List ℕ)) (b : List ℕ) → length l < plan.packet_limit
    → packet_in b ≡ None → whole_in plan (l ++ b ∷ []) ≡ whole_in plan l
whole_in_refused plan l b room none = whole_in_stays plan l b room (unheard_refused plan.heap_limit b none)
