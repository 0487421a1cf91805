-- One more byte string of a stream: what becomes of what is heard, whole and judged, and of the strings that count.
use Rattle.std.proofs.Common.{◌≡◌, ℕ, ◌<◌, ◌≤◌, true, false, List, [], ◌∷◌, ◌++◌, length, Option, Some, None, refl, sym, ap, ◌∙◌, subst, arith, inl, inr}
use Rattle.std.specs.List.{filter_map, list_any}
use Rattle.std.specs.Option.{option_to_list}
use Rattle.std.proofs.lemmas.List.{append-nil, append_assoc, take_all, take-append-le, length_push}
use Rattle.std.proofs.lemmas.List.Folds.{list_any-append}
use Rattle.std.proofs.lemmas.Bool.{cases_lt, cases_Bool, or_left, cond-false, cond-true}
use Rattle.corr_model.specs.declared.plan.Plan.{Plan}
use Rattle.corr_model.specs.Lists.{through_first, in_turn}
use Rattle.corr_model.specs.Packets.{Parts}
use Rattle.corr_model.specs.Windows.{heard_in, heard, placed, place_next, placed_in}
use Rattle.corr_model.specs.Assembly.{WholeHeap, whole_now, whole_heaps}
use Rattle.corr_model.specs.Streams.{whole_in, stops, judge_next, heaps, has_stopped}
use Rattle.corr_model.proofs.Turns.{in_turn_push, filter_map_push, by_pushes_from, through_first_open, through_first_done}
use Rattle.corr_model.proofs.Pushes.{placed_push, whole_heaps_push}

-- below the limit, a string more is a heard packet more, where it is heard
pub heard_push : (plan : Plan) (l : List (List ℕ)) (b : List ℕ) → length l < plan.packet_limit
    → heard plan (l ++ b ∷ []) ≡ heard plan l ++ option_to_list (heard_in plan.heap_limit b)
heard_push plan l b room =
    let longer : length (l ++ b ∷ []) ≤ plan.packet_limit = omega (arith, length_push l b) in
    let shorter : length l ≤ plan.packet_limit = omega arith in
    ap (filter_map (heard_in plan.heap_limit)) (take_all plan.packet_limit (l ++ b ∷ []) longer)
    ∙ filter_map_push (heard_in plan.heap_limit) l b
    ∙ ap (λ k. filter_map (heard_in plan.heap_limit) k ++ option_to_list (heard_in plan.heap_limit b))
    (sym (take_all plan.packet_limit l shorter))

-- from the limit on, nothing is heard
pub heard_past : (plan : Plan) (l rest : List (List ℕ)) → plan.packet_limit ≤ length l
    → heard plan (l ++ rest) ≡ heard plan l
heard_past plan l rest full = ap (filter_map (heard_in plan.heap_limit)) (take-append-le plan.packet_limit l rest full)

-- a string more with this heard packet, if any
placed_with : (plan : Plan) (l : List (List ℕ)) (b : List ℕ) → length l < plan.packet_limit → (o : Option Parts)
    → heard_in plan.heap_limit b ≡ o
    → placed_in plan (l ++ b ∷ []) ≡ placed plan.window (heard plan l ++ option_to_list o)
placed_with plan l b room o is =
    ap (placed plan.window) (heard_push plan l b room ∙ ap (λ k. heard plan l ++ option_to_list k) is)

-- a string that is heard has the next place
pub placed_in_push : (plan : Plan) (l : List (List ℕ)) (b : List ℕ) (p : Parts) → length l < plan.packet_limit
    → heard_in plan.heap_limit b ≡ Some p
    → placed_in plan (l ++ b ∷ []) ≡ placed_in plan l ++ place_next plan.window (placed_in plan l) p ∷ []
placed_in_push plan l b p room is = placed_with plan l b room (Some p) is ∙ placed_push plan.window (heard plan l) p

-- a string that is not heard has none
pub placed_in_stays : (plan : Plan) (l : List (List ℕ)) (b : List ℕ) → length l < plan.packet_limit
    → heard_in plan.heap_limit b ≡ None
    → placed_in plan (l ++ b ∷ []) ≡ placed_in plan l
placed_in_stays plan l b room is =
    placed_with plan l b room None is ∙ ap (placed plan.window) (append-nil (heard plan l))

-- a string that is heard makes at most one heap whole
pub whole_in_push : (plan : Plan) (l : List (List ℕ)) (b : List ℕ) (p : Parts) → length l < plan.packet_limit
    → heard_in plan.heap_limit b ≡ Some p
    → whole_in plan (l ++ b ∷ [])
    ≡ whole_in plan l ++ option_to_list (whole_now plan.window (placed_in plan (l ++ b ∷ [])))
whole_in_push plan l b p room is =
    let next = place_next plan.window (placed_in plan l) p in
    let more = placed_in_push plan l b p room is in
    ap (whole_heaps plan.window) more ∙ whole_heaps_push plan.window (placed_in plan l) next
    ∙ ap (λ ps. whole_in plan l ++ option_to_list (whole_now plan.window ps)) (sym more)

-- a string that is not heard makes none
pub whole_in_stays : (plan : Plan) (l : List (List ℕ)) (b : List ℕ) → length l < plan.packet_limit
    → heard_in plan.heap_limit b ≡ None
    → whole_in plan (l ++ b ∷ []) ≡ whole_in plan l
whole_in_stays plan l b room is = ap (whole_heaps plan.window) (placed_in_stays plan l b room is)

-- from the limit on, none is whole
pub whole_in_past : (plan : Plan) (l rest : List (List ℕ)) → plan.packet_limit ≤ length l
    → whole_in plan (l ++ rest) ≡ whole_in plan l
whole_in_past plan l rest full = ap (λ h. whole_heaps plan.window (placed plan.window h)) (heard_past plan l rest full)

-- the whole heaps of a list begin those of a longer one
pub record Begins (front all : List WholeHeap) : Type 0 where
  pub rest : List WholeHeap
  pub is : all ≡ front ++ rest

begins_on : (front all more : List WholeHeap) (o : Option WholeHeap) → Begins front all → more ≡ all ++ option_to_list o
    → Begins front more
begins_on front all more o h e =
    record {
      rest = h.rest ++ option_to_list o;
      is = e ∙ ap (λ k. k ++ option_to_list o) h.is ∙ append_assoc front h.rest (option_to_list o);
    }

whole_one : (plan : Plan) (front : List WholeHeap) (l : List (List ℕ)) (b : List ℕ) → Begins front (whole_in plan l)
    → (o : Option Parts) → length l < plan.packet_limit
    → heard_in plan.heap_limit b ≡ o → Begins front (whole_in plan (l ++ b ∷ []))
whole_one plan front l b h (Some p) room is = begins_on front _ _ _ h (whole_in_push plan l b p room is)
whole_one plan front l b h None room is = subst (Begins front) (sym (whole_in_stays plan l b room is)) h

whole_step : (plan : Plan) (front : List WholeHeap) (l : List (List ℕ)) (b : List ℕ) → Begins front (whole_in plan l)
    → Begins front (whole_in plan (l ++ b ∷ []))
whole_step plan front l b h =
    elim (cases_lt (length l) plan.packet_limit) [
      | inl room ↦ whole_one plan front l b h (heard_in plan.heap_limit b) room refl
      | inr full ↦ subst (Begins front) (sym (whole_in_past plan l (b ∷ []) full)) h
    ]

pub whole_in_begins : (plan : Plan) (l rest : List (List ℕ)) → Begins (whole_in plan l) (whole_in plan (l ++ rest))
whole_in_begins plan l rest =
    by_pushes_from (λ k. Begins (whole_in plan l) (whole_in plan k)) (whole_step plan (whole_in plan l)) l rest
    (record { rest = []; is = sym (append-nil (whole_in plan l)) })

-- a list that has stopped stays so
pub stopped_stays : (plan : Plan) (l rest : List (List ℕ)) → has_stopped plan l ≡ true
    → has_stopped plan (l ++ rest) ≡ true
stopped_stays plan l rest h =
    let more = whole_in_begins plan l rest in
    ap (list_any stops) more.is ∙ list_any-append stops (whole_in plan l) more.rest ∙ or_left
    (list_any stops (whole_in plan l)) (list_any stops more.rest) h

-- after a stop heap nothing is judged
pub heaps_stopped : (plan : Plan) (antenna : ℕ) (l rest : List (List ℕ)) → has_stopped plan l ≡ true
    → heaps plan antenna (l ++ rest) ≡ heaps plan antenna l
heaps_stopped plan antenna l rest h =
    let more = whole_in_begins plan l rest in
    ap (in_turn (judge_next plan antenna))
    (ap (through_first stops) more.is ∙ through_first_done stops (whole_in plan l) more.rest h)

-- from the limit on nothing is judged
pub heaps_past : (plan : Plan) (antenna : ℕ) (l rest : List (List ℕ)) → plan.packet_limit ≤ length l
    → heaps plan antenna (l ++ rest) ≡ heaps plan antenna l
heaps_past plan antenna l rest full =
    ap (λ ws. in_turn (judge_next plan antenna) (through_first stops ws)) (whole_in_past plan l rest full)

-- a string that is not heard leaves the heaps as they are
pub heaps_stay : (plan : Plan) (antenna : ℕ) (l : List (List ℕ)) (b : List ℕ) → length l < plan.packet_limit
    → heard_in plan.heap_limit b ≡ None
    → heaps plan antenna (l ++ b ∷ []) ≡ heaps plan antenna l
heaps_stay plan antenna l b room is =
    ap (λ ws. in_turn (judge_next plan antenna) (through_first stops ws)) (whole_in_stays plan l b room is)

one_through : (x : WholeHeap) → through_first stops (x ∷ []) ≡ x ∷ []
one_through x = ap (λ xs. x ∷ xs)
    (elim (cases_Bool (stops x))
    [ inl does ↦ cond-true (stops x) [] [] does | inr doesnt ↦ cond-false (stops x) [] [] doesnt ])

-- before a stop heap, a whole heap more is judged by those before it
pub judged_push : (plan : Plan) (antenna : ℕ) (ws : List WholeHeap) (heap : WholeHeap) → list_any stops ws ≡ false
    → in_turn (judge_next plan antenna) (through_first stops (ws ++ heap ∷ []))
    ≡ in_turn (judge_next plan antenna) (through_first stops ws)
    ++ judge_next plan antenna (in_turn (judge_next plan antenna) (through_first stops ws)) heap ∷ []
judged_push plan antenna ws heap open_yet =
    let judge = judge_next plan antenna in
    let before : through_first stops ws ≡ ws =
    ap (through_first stops) (sym (append-nil ws)) ∙ through_first_open stops ws [] open_yet ∙ append-nil ws in
    ap (in_turn judge) (through_first_open stops ws (heap ∷ []) open_yet ∙ ap (λ k. ws ++ k) (one_through heap))
    ∙ in_turn_push judge ws heap
    ∙ ap (λ k. in_turn judge k ++ judge (in_turn judge k) heap ∷ []) (sym before)

-- on an open list, the heap that a string makes whole is judged by those before it
pub heaps_push : (plan : Plan) (antenna : ℕ) (l : List (List ℕ)) (b : List ℕ) (heap : WholeHeap)
    → has_stopped plan l ≡ false
    → whole_in plan (l ++ b ∷ []) ≡ whole_in plan l ++ heap ∷ []
    → heaps plan antenna (l ++ b ∷ [])
    ≡ heaps plan antenna l ++ judge_next plan antenna (heaps plan antenna l) heap ∷ []
heaps_push plan antenna l b heap open_yet is =
    ap (λ ws. in_turn (judge_next plan antenna) (through_first stops ws)) is ∙ judged_push plan antenna
    (whole_in plan l) heap open_yet
