-- A packet added to the heap that is put together, against the packets that are kept.
use Rattle.std.proofs.Common.{◌≡◌, ℕ, Bool, true, false, cond, List, [], ◌∷◌, ◌++◌, Option, Some, None, is_some, is_none, option_map, Result, Ok, Err, refl, sym, ap, ◌∙◌, append-nil}
use Rattle.std.proofs.lemmas.Bool.{cond-true, cond-false, false≢true}
use Rattle.corr_model.specs.declared.heap.DropCause.{DropCause}
use Rattle.corr_model.specs.declared.heap.DropCause.TheVariants.{PastLimit}
use Rattle.corr_model.specs.Packets.{Parts}
use Rattle.corr_model.specs.Windows.{PlacedPacket, is_within}
use Rattle.corr_model.specs.Assembly.{drop_cause, whole_front, adds_up, said_size, payload_bytes}
use Rattle.corr_model.specs.LiveHeaps.{HeapStandsFor, kept_shown}
use Rattle.corr_model.specs.PacketVerdicts.{Part, Dropped, kept_or_dropped, member_outcome}
use Rattle.heap_assembly.specs.declared.added.Added.{Added}
use Rattle.heap_assembly.specs.declared.added.Added.TheVariants as added
use Rattle.heap_assembly.specs.LiveStates.{LiveState, live_of, outcome_by, is_whole_answer}
use Rattle.heap_assembly.proofs.FrontLemmas.{shown_push, whole_push, other_outcome}
use Rattle.vis_read.specs.declared.cause.ReadCause.{ReadCause}
use Rattle.vis_read.specs.declared.cause.ReadCause.TheVariants as causes
use Rattle.vis_read.specs.Readings.{drop_row}
use Rattle.vis_read.specs.Standing.{Shows, IsPart, Adds}

-- what is answered, as the reader answers it
abbrev pub result_of : Added → Result Bool ReadCause
result_of added.Kept = Ok false
result_of added.Whole = Ok true
result_of (added.Dropped cause) = Err (causes.Dropped cause)

-- the clauses of an added packet
pub record HasAdded (old : LiveState) (p : Parts) (new : LiveState) (answer : Added) : Type 0 where
  pub stands : (ms : List PlacedPacket) (q : PlacedPacket) → q.packet ≡ p → HeapStandsFor (live_of old) ms
      → HeapStandsFor (live_of new) (ms ++ q ∷ [])
  pub outcome : (ms : List PlacedPacket) (q : PlacedPacket) → q.packet ≡ p → HeapStandsFor (live_of old) ms
      → member_outcome q.packet.counter (ms ++ q ∷ []) ≡ outcome_by q.packet.counter (ms ++ q ∷ []) answer
  pub whole : new.whole ≡ is_whole_answer answer

abbrev member : Parts → PlacedPacket
member p = record { place = 0; packet = p; opens = false; openings = 0 }

kept_of_part : (o : Option DropCause) → kept_or_dropped o ≡ Part → o ≡ None
kept_of_part None is = refl
kept_of_part (Some cause) is = absurd cc

cause_of_drop : (o : Option DropCause) (cause : DropCause) → kept_or_dropped o ≡ Dropped cause → o ≡ Some cause
cause_of_drop None cause is = absurd cc
cause_of_drop (Some other) cause is = cc

row_within : (limit : ℕ) (ps : List Parts) (p : Parts) (cause : Option DropCause) → is_within limit p ≡ true
    → drop_cause ps p ≡ cause → drop_row limit ps p ≡ option_map (λ c. causes.Dropped c) cause
row_within limit ps p cause within is =
    ap (option_map (λ c. causes.Dropped c))
    (cond-true (is_within limit p) (drop_cause ps p) (Some PastLimit) within ∙ is)

-- a heap that is whole by a packet keeps it
none_if_whole : (ps ks : List Parts) (p : Parts) (cause : Option DropCause) → IsPart ps
    → ks ≡ ps ++ cond (is_none cause) (p ∷ []) [] → adds_up (said_size ks) (payload_bytes ks) ≡ true → cause ≡ None
none_if_whole ps ks p None part is whole = refl
none_if_whole ps ks p (Some cause) part is whole =
    absurd (false≢true (sym part ∙ ap (λ xs. adds_up (said_size xs) (payload_bytes xs)) (sym (append-nil ps)) ∙ ap
    (λ xs. adds_up (said_size xs) (payload_bytes xs)) (sym is) ∙ whole))

pub adds : (limit : ℕ) (old : LiveState) (p : Parts) (new : LiveState) (answer : Added) (ps : List Parts)
    → old.whole ≡ false → is_within limit p ≡ true → HasAdded old p new answer → Shows old ps → IsPart ps
    → Adds limit ps p new (result_of answer)
adds limit old p new added.Kept ps ready within has shows part =
    let ms = shows.members in
    let q = member p in
    let unfinished : is_some (whole_front ms) ≡ false = sym shows.stands.whole ∙ ready in
    let stands = has.stands ms q refl shows.stands in
    let still : is_some (whole_front (ms ++ q ∷ [])) ≡ false = sym stands.whole ∙ has.whole in
    let none : drop_cause ps p ≡ None =
    ap (λ ks. drop_cause ks p) (sym shows.kept) ∙ kept_of_part (drop_cause (kept_shown ms) p)
    (sym (other_outcome ms q p.counter unfinished still) ∙ has.outcome ms q refl shows.stands) in
    let kept : kept_shown (ms ++ q ∷ []) ≡ ps ++ p ∷ [] =
    shown_push ms q unfinished ∙ ap (λ ks. ks ++ cond (is_none (drop_cause ks p)) (p ∷ []) []) shows.kept ∙ ap
    (λ o. ps ++ cond (is_none o) (p ∷ []) []) none in (
      row_within limit ps p None within none,
      record { members = ms ++ q ∷ []; stands = stands; kept = kept },
      ap (λ xs. adds_up (said_size xs) (payload_bytes xs)) (sym kept) ∙ sym (whole_push ms q unfinished) ∙ still,
    )
adds limit old p new added.Whole ps ready within has shows part =
    let ms = shows.members in
    let q = member p in
    let unfinished : is_some (whole_front ms) ≡ false = sym shows.stands.whole ∙ ready in
    let stands = has.stands ms q refl shows.stands in
    let done : is_some (whole_front (ms ++ q ∷ [])) ≡ true = sym stands.whole ∙ has.whole in
    let pushed : kept_shown (ms ++ q ∷ []) ≡ ps ++ cond (is_none (drop_cause ps p)) (p ∷ []) [] =
    shown_push ms q unfinished ∙ ap (λ ks. ks ++ cond (is_none (drop_cause ks p)) (p ∷ []) []) shows.kept in
    let complete = sym (whole_push ms q unfinished) ∙ done in
    let none : drop_cause ps p ≡ None =
    none_if_whole ps (kept_shown (ms ++ q ∷ [])) p (drop_cause ps p) part pushed complete in
    let kept : kept_shown (ms ++ q ∷ []) ≡ ps ++ p ∷ [] =
    pushed ∙ ap (λ o. ps ++ cond (is_none o) (p ∷ []) []) none in (
      row_within limit ps p None within none,
      record { members = ms ++ q ∷ []; stands = stands; kept = kept },
      ap (λ xs. adds_up (said_size xs) (payload_bytes xs)) (sym kept) ∙ complete,
    )
adds limit old p new (added.Dropped cause) ps ready within has shows part =
    let ms = shows.members in
    let q = member p in
    let unfinished : is_some (whole_front ms) ≡ false = sym shows.stands.whole ∙ ready in
    let stands = has.stands ms q refl shows.stands in
    let still : is_some (whole_front (ms ++ q ∷ [])) ≡ false = sym stands.whole ∙ has.whole in
    let some : drop_cause ps p ≡ Some cause =
    ap (λ ks. drop_cause ks p) (sym shows.kept) ∙ cause_of_drop (drop_cause (kept_shown ms) p) cause
    (sym (other_outcome ms q p.counter unfinished still) ∙ has.outcome ms q refl shows.stands) in
    row_within limit ps p (Some cause) within some

-- past the limit
pub adds_past : (limit : ℕ) (ps : List Parts) (p : Parts) → is_within limit p ≡ false
    → drop_row limit ps p ≡ Some (causes.Dropped PastLimit)
adds_past limit ps p past =
    ap (option_map (λ c. causes.Dropped c)) (cond-false (is_within limit p) (drop_cause ps p) (Some PastLimit) past)

-- the test on the limit
pub within_from : (l limit : ℕ) (p : Parts) (b : Bool) → l ≡ limit → b ≡ is_within l p → b ≡ true
    → is_within limit p ≡ true
within_from l limit p b same is passed = ap (λ k. is_within k p) (sym same) ∙ sym is ∙ passed
