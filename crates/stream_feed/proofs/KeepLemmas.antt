-- What a verdict keeps of the window.
use Rattle.std.proofs.Common.{◌≡◌, ℕ, ◌≤◌, Bool, true, false, cond, ltb, ◌&&◌, List, [], ◌∷◌, length, Option, Some, None, refl, sym, ap, ◌∙◌, subst, inl, inr}
use Rattle.std.specs.Option.{is_none}
use Rattle.std.proofs.lemmas.Bool.{cases_Bool, false≢true, and_parts, cond-true}
use Rattle.corr_model.specs.declared.plan.Plan.{Plan}
use Rattle.corr_model.specs.declared.heap.DropCause.{DropCause}
use Rattle.corr_model.specs.declared.heap.DropCause.TheVariants.{PastLimit, TooManyPointers}
use Rattle.corr_model.specs.declared.verdict.Verdict.{Verdict}
use Rattle.corr_model.specs.declared.verdict.Verdict.TheVariants as verdicts
use Rattle.corr_model.specs.Lists.{passes}
use Rattle.corr_model.specs.Packets.{Parts, packet_in}
use Rattle.corr_model.specs.Windows.{PlacedPacket, heard, is_opening, is_within, placed}
use Rattle.corr_model.specs.Assembly.{fate_next, is_complete, pointers_of, standing_by}
use Rattle.corr_model.specs.LiveHeaps.{LiveHeap, WindowStandsFor}
use Rattle.corr_model.specs.WindowSteps.{place_of, placed_next, members_now}
use Rattle.corr_model.specs.PacketVerdicts.{Outcome, Part, Makes, Stale, Dropped, by_standing, is_of_heap, kept_or_dropped, member_outcome, next_outcome}
use Rattle.corr_model.proofs.WindowLawsHeaps.{opens_where_none, opens}
use Rattle.heap_window.specs.WindowStates.{WindowState, lives}
use Rattle.heap_window.specs.Takes.{Takes, opens_next, outcome_of, is_left}
use Rattle.heap_window.specs.declared.take.Take.{Take}
use Rattle.heap_window.specs.declared.take.Taken.TheVariants as taken
use Rattle.stream_feed.specs.Feeding.{IsWindowOf}
use Rattle.stream_feed.specs.Keeping.{KeepsWindow, opens_after}

-- what the first member of a heap can be to it: it is not stale, and dropped for its pointers alone
abbrev IsFirst : Outcome → Type 0
IsFirst Part = Unit {0}
IsFirst (Makes heap) = Unit {0}
IsFirst Stale = ⊥
IsFirst (Dropped cause) = cause ≡ TooManyPointers

first_fate : (many : Bool) → IsFirst (kept_or_dropped (cond many (Some TooManyPointers) None))
first_fate true = refl
first_fate false = tt

first_by : (counter : ℕ) (q : PlacedPacket) (complete : Bool)
    → IsFirst (by_standing counter (q ∷ []) (standing_by 1 (cond complete (Some (fate_next [] q ∷ [])) None)))
first_by counter q true = tt
first_by counter q false = first_fate (ltb 64 (length (pointers_of (q.packet ∷ []))))

first_member : (counter : ℕ) (q : PlacedPacket) → IsFirst (member_outcome counter (q ∷ []))
first_member counter q = first_by counter q (is_complete (fate_next [] q ∷ []))

none_there : {X : Type 0} (o : Option X) → is_none o ≡ true → o ≡ None
none_there None h = refl
none_there (Some x) h = absurd (false≢true h)

-- a packet that opens a heap is its first member
opens_first : (limit window : ℕ) (hs : List LiveHeap) (h : List Parts) (p : Parts) → 1 ≤ window
    → WindowStandsFor window hs h → opens_next limit window h p ≡ true → IsFirst (next_outcome limit window h p)
opens_first limit window hs h p low stands opening =
    let parts = and_parts (is_within limit p) (is_opening window (placed window h) p) opening in
    let unknown : place_of p.counter hs ≡ None =
    none_there (place_of p.counter hs) (sym (opens_where_none window (placed window h) p hs stands) ∙ parts.1) in
    subst IsFirst (sym (cond-true (is_within limit p) (member_outcome p.counter (members_now window h p))
    (Dropped PastLimit) parts.0))
    (subst (λ ms. IsFirst (member_outcome p.counter ms)) (sym (opens window hs h p low stands unknown).members)
    (first_member p.counter (placed_next window h p)))

-- a window of the plan that takes the packet of the string
module _ (plan : Plan) (old now : WindowState) (take : Take) (l : List (List ℕ)) (b : List ℕ) (p : Parts)
    (spelled : packet_in b ≡ Some p) (low : 1 ≤ plan.window) (is : IsWindowOf plan old (heard plan l))
    (takes : Takes old p now take) where
  opened_is : take.opened ≡ opens_after plan l b
  opened_is =
      takes.opened (heard plan l) is.stands
      ∙ ap (λ n. opens_next n old.window (heard plan l) p) is.limit
      ∙ ap (λ n. opens_next plan.heap_limit n (heard plan l) p) is.width
      ∙ ap (passes (λ k. is_within plan.heap_limit k && is_opening plan.window (placed plan.window (heard plan l)) k))
      (sym spelled)

  first_is : opens_after plan l b ≡ true → IsFirst (outcome_of take.what)
  first_is opening =
      subst IsFirst (sym (takes.what (heard plan l) is.stands))
      (opens_first old.limit old.window (lives old) (heard plan l) p (subst (λ n. 1 ≤ n) (sym is.width) low) is.stands
      (sym (takes.opened (heard plan l) is.stands) ∙ opened_is ∙ opening))

  pub keeps_stale : take.what ≡ taken.Stale → KeepsWindow verdicts.Stale (opens_after plan l b) old now
  keeps_stale stale = elim (cases_Bool (opens_after plan l b)) [
    | inl opening ↦ absurd (subst (λ w. IsFirst (outcome_of w)) stale (first_is opening))
    | inr joining ↦ takes.same (opened_is ∙ joining) (ap is_left stale)
  ]

  dropped_by : (cause : DropCause) (opening : Bool) → opens_after plan l b ≡ opening → take.what ≡ taken.Dropped cause
      → KeepsWindow (verdicts.Dropped cause) opening old now
  dropped_by cause true e dropped = subst (λ w. IsFirst (outcome_of w)) dropped (first_is e)
  dropped_by cause false e dropped = takes.same (opened_is ∙ e) (ap is_left dropped)

  pub keeps_dropped : (cause : DropCause) → take.what ≡ taken.Dropped cause
      → KeepsWindow (verdicts.Dropped cause) (opens_after plan l b) old now
  keeps_dropped cause dropped = dropped_by cause (opens_after plan l b) refl dropped

-- nothing is said of the window where a heap is whole
pub keeps_of_heap : (v : Verdict) (opens : Bool) (old new : WindowState) → is_of_heap v ≡ true
    → KeepsWindow v opens old new
keeps_of_heap (verdicts.Refused refusal) opens old new of = absurd (false≢true of)
keeps_of_heap (verdicts.Dropped cause) opens old new of = absurd (false≢true of)
keeps_of_heap verdicts.Stale opens old new of = absurd (false≢true of)
keeps_of_heap other opens old new of = tt
