-- One packet more, from the state to the definitions.
use Rattle.std.proofs.Common.{◌≡◌, ℕ, ◌-◌, ◌<◌, ◌≤◌, true, eqb, List, [], ◌∷◌, ◌++◌, length, drop, Option, Some, All, Contains, inl, inr, refl, sym, ap, ◌∙◌, subst, arith}
use Rattle.std.specs.Option.{option_to_list}
use Rattle.std.proofs.lemmas.List.{length-append, length-drop, drop-append-le}
use Rattle.std.proofs.lemmas.List.Elements.{All-append, All-contains, All-drop, All-push, Contains-append_right, Contains-push}
use Rattle.std.proofs.lemmas.Bool.{cases_eq, cond-true, cond-false, eq-eqb, ne_eqb}
use Rattle.circular_buffer.specs.Buffer.{Buffer, buffer, keep_last}
use Rattle.corr_model.specs.Packets.{Parts}
use Rattle.heap_assembly.specs.LiveStates.{LiveState, live_of}
use Rattle.heap_window.specs.declared.steps.Answer.TheVariants as answers
use Rattle.heap_window.specs.Steps.{TakesIn, with_a_place}
use Rattle.heap_assembly.proofs.FrontLemmas.{stale_stands, stale_outcome}

-- a packet of a heap that is whole is stale
pub stale_takes : (e : LiveState) (place : ℕ) (p : Parts) → e.whole ≡ true → TakesIn e place p e answers.Stale
stale_takes e place p whole = record {
  stands = λ ms q is h. stale_stands (live_of e) ms q whole h;
  outcome = λ ms q is h. stale_outcome (live_of e) ms q q.packet.counter whole h;
  same = λ left. refl;
  whole = tt;
  counter = refl;
  limit = refl;
}

-- a heap that was spare
pub from_spare : (heaps before after : List LiveState) (r : Option LiveState) (e : LiveState)
    → before ≡ after ++ option_to_list r → r ≡ Some e → Contains (heaps ++ before) e
from_spare heaps before after r e is some =
    Contains-append_right heaps before e
    (subst (λ es. Contains es e) (sym (is ∙ ap (λ o. after ++ option_to_list o) some)) (Contains-push after e))

-- with one heap more, the last of a window with a place for it are those of the window
pub last_of_place : (b : Buffer LiveState) (e : LiveState) → 0 < b.capacity → length b.items ≤ b.capacity
    → keep_last b.capacity (with_a_place b ++ e ∷ []) ≡ keep_last b.capacity (b.items ++ e ∷ [])
last_of_place b e some fits =
    elim (cases_eq (length b.items) b.capacity) [
      | inl full ↦
          let less : 1 ≤ length b.items = omega arith in
          let kept : length (drop 1 b.items ++ e ∷ []) - b.capacity ≡ 0 =
          omega (arith, length-append (drop 1 b.items) (e ∷ []), length-drop 1 b.items) in
          let left : length (b.items ++ e ∷ []) - b.capacity ≡ 1 = omega (arith, length-append b.items (e ∷ [])) in
          ap (λ es. keep_last b.capacity (es ++ e ∷ []))
          (cond-true (eqb (length b.items) b.capacity) (drop 1 b.items) b.items
          (eq-eqb (length b.items) b.capacity full))
          ∙ ap (λ n. drop n (drop 1 b.items ++ e ∷ [])) kept
          ∙ sym (drop-append-le 1 b.items (e ∷ []) less)
          ∙ ap (λ n. drop n (b.items ++ e ∷ [])) (sym left)
      | inr free ↦
          ap (λ es. keep_last b.capacity (es ++ e ∷ []))
          (cond-false (eqb (length b.items) b.capacity) (drop 1 b.items) b.items
          (ne_eqb (length b.items) b.capacity free))
    ]

-- what a window shows to which one heap more was pushed
pub pushed : (old between new : Buffer LiveState) (e : LiveState) → between ≡ buffer (with_a_place old) old.capacity
    → new ≡ buffer (keep_last between.capacity (between.items ++ e ∷ [])) between.capacity
    → 0 < old.capacity → length old.items ≤ old.capacity → new.items ≡ keep_last old.capacity (old.items ++ e ∷ [])
pushed old between new e first second some fits =
    ap (λ (b : Buffer LiveState). b.items) second
    ∙ ap (λ (b : Buffer LiveState). keep_last b.capacity (b.items ++ e ∷ [])) first
    ∙ last_of_place old e some fits

-- it stands behind those that were kept
pub place_is_last : (b : Buffer LiveState) (e : LiveState) → 0 < b.capacity → length b.items ≤ b.capacity
    → length (with_a_place b) ≡ length (keep_last b.capacity (b.items ++ e ∷ [])) - 1
place_is_last b e some fits =
    elim (cases_eq (length b.items) b.capacity) [
      | inl full ↦
          ap length (cond-true (eqb (length b.items) b.capacity) (drop 1 b.items) b.items
          (eq-eqb (length b.items) b.capacity full))
          ∙ omega (
            arith,
            length-drop 1 b.items,
            length-append b.items (e ∷ []),
            length-drop
                (length (b.items ++ e ∷ []) - b.capacity) (b.items ++ e ∷ []),
          )
      | inr free ↦
          ap length (cond-false (eqb (length b.items) b.capacity) (drop 1 b.items) b.items
          (ne_eqb (length b.items) b.capacity free))
          ∙ omega (
            arith,
            length-append b.items (e ∷ []),
            length-drop (length (b.items ++ e ∷ []) - b.capacity)
                (b.items ++ e ∷ []),
          )
    ]

-- all heaps have the limit, and so have the last of them with one more of them
pub all_of_limit : (limit window : ℕ) (heaps spare : List LiveState) (free e : LiveState)
    → All (λ f. f.limit ≡ limit) heaps → All (λ f. f.limit ≡ limit) spare → Contains (heaps ++ spare) free
    → e.limit ≡ free.limit
    → All (λ f. f.limit ≡ limit) (keep_last window (heaps ++ e ∷ []))
all_of_limit limit window heaps spare free e kept spares from same =
    let P = λ (f : LiveState). f.limit ≡ limit in
    let mine = All-contains P (heaps ++ spare) free (All-append P heaps spare kept spares) from in
    All-drop P (length (heaps ++ e ∷ []) - window) (heaps ++ e ∷ []) (All-push P heaps e kept (same ∙ mine))
