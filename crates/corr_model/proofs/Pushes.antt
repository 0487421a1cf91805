-- One more heard packet: what becomes of the places, the members, their fates and the whole heaps. One more judged
-- heap: what becomes of the top and the cells.
use Rattle.std.proofs.Common.{◌≡◌, ℕ, Bool, true, false, cond, max, List, [], ◌∷◌, ◌++◌, map, Option, Some, None, refl, sym, ap, ◌∙◌}
use Rattle.std.specs.List.{filter_map, find, fold, filter}
use Rattle.std.specs.Option.{option_or, option_map, option_to_list, is_none}
use Rattle.std.proofs.lemmas.List.{map-append}
use Rattle.std.proofs.lemmas.List.Elements.{filter-append}
use Rattle.std.proofs.lemmas.List.Folds.{find-append}
use Rattle.corr_model.specs.declared.plan.Plan.{Plan}
use Rattle.corr_model.specs.Lists.{fronts}
use Rattle.corr_model.specs.Packets.{Parts}
use Rattle.corr_model.specs.Windows.{PlacedPacket, openings, placed, place_next, members, is_member}
use Rattle.corr_model.specs.Assembly.{Fate, fates, fate_next, kept, is_complete, whole_front, whole_now, whole_heaps}
use Rattle.corr_model.specs.Streams.{JudgedHeap, reach, raises, above_top, is_used_at, samples_of, cell_in}
use Rattle.corr_model.proofs.Turns.{in_turn_push, fronts_push, filter_map_push}

-- a packet more has the place after those before it
pub placed_push : (w : ℕ) (h : List Parts) (p : Parts)
    → placed w (h ++ p ∷ []) ≡ placed w h ++ place_next w (placed w h) p ∷ []
placed_push w h p = in_turn_push (place_next w) h p

-- a packet more is an opening more, where it opens
pub openings_push : (ps : List PlacedPacket) (q : PlacedPacket)
    → openings (ps ++ q ∷ []) ≡ openings ps ++ cond q.opens (q ∷ []) []
openings_push ps q = filter-append (λ o. o.opens) ps (q ∷ [])

-- a packet more is a member more, where it is one
pub members_push : (w : ℕ) (ps : List PlacedPacket) (q o : PlacedPacket)
    → members w (ps ++ q ∷ []) o ≡ members w ps o ++ cond (is_member w o q) (q ∷ []) []
members_push w ps q o = filter-append (is_member w o) ps (q ∷ [])

-- a member more is judged against those before it
pub fates_push : (ms : List PlacedPacket) (q : PlacedPacket)
    → fates (ms ++ q ∷ []) ≡ fates ms ++ fate_next (fates ms) q ∷ []
fates_push ms q = in_turn_push fate_next ms q

kept_one : (b : Bool) (f : Fate)
    → map (λ (g : Fate). g.member.packet) (cond b (f ∷ []) []) ≡ cond b (f.member.packet ∷ []) []
kept_one true f = refl
kept_one false f = refl

-- a fate more is a kept packet more, where it has no cause
pub kept_push : (fs : List Fate) (f : Fate)
    → kept (fs ++ f ∷ []) ≡ kept fs ++ cond (is_none f.cause) (f.member.packet ∷ []) []
kept_push fs f =
    ap (map (λ g. g.member.packet)) (filter-append (λ g. is_none g.cause) fs (f ∷ []))
    ∙ map-append (λ g. g.member.packet) (filter (λ g. is_none g.cause) fs) (cond (is_none f.cause) (f ∷ []) [])
    ∙ ap (λ ps. kept fs ++ ps) (kept_one (is_none f.cause) f)

-- a heap that was whole stays so by the same members, and else is whole with the member more, where it is complete
pub whole_front_push : (ms : List PlacedPacket) (q : PlacedPacket)
    → whole_front (ms ++ q ∷ [])
    ≡ option_or (whole_front ms) (cond (is_complete (fates (ms ++ q ∷ []))) (Some (fates (ms ++ q ∷ []))) None)
whole_front_push ms q =
    let all = fates (ms ++ q ∷ []) in
    ap (λ fs. find is_complete (fronts fs)) (fates_push ms q)
    ∙ ap (find is_complete) (fronts_push (fates ms) (fate_next (fates ms) q))
    ∙ find-append is_complete (fronts (fates ms)) ((fates ms ++ fate_next (fates ms) q ∷ []) ∷ [])
    ∙ ap (λ fs. option_or (whole_front ms) (cond (is_complete fs) (Some fs) None)) (sym (fates_push ms q))

-- a packet more makes at most one heap whole
pub whole_heaps_push : (w : ℕ) (ps : List PlacedPacket) (q : PlacedPacket)
    → whole_heaps w (ps ++ q ∷ []) ≡ whole_heaps w ps ++ option_to_list (whole_now w (ps ++ q ∷ []))
whole_heaps_push w ps q =
    ap (filter_map (whole_now w)) (fronts_push ps q) ∙ filter_map_push (whole_now w) (fronts ps) (ps ++ q ∷ [])

top_one : (b : Bool) (f : JudgedHeap → ℕ) (n : ℕ) (j : JudgedHeap)
    → fold max n (map f (cond b (j ∷ []) [])) ≡ cond b (max n (f j)) n
top_one true f n j = refl
top_one false f n j = refl

fold_append : (n : ℕ) (xs ys : List ℕ) → fold max n (xs ++ ys) ≡ fold max (fold max n xs) ys
fold_append n [] ys = refl
fold_append n (x ∷ xs) ys = fold_append (max n x) xs ys

-- a heap more raises the top, where it is on the grid and not past the guard
pub above_top_push : (plan : Plan) (js : List JudgedHeap) (j : JudgedHeap)
    → above_top plan (js ++ j ∷ [])
    ≡ cond (raises j.verdict) (max (above_top plan js) (reach plan j)) (above_top plan js)
above_top_push plan js j =
    let raised = filter (λ (i : JudgedHeap). raises i.verdict) js in
    let last = cond (raises j.verdict) (j ∷ []) [] in
    ap (λ is. fold max 0 (map (reach plan) is)) (filter-append (λ i. raises i.verdict) js (j ∷ []))
    ∙ ap (fold max 0) (map-append (reach plan) raised last)
    ∙ fold_append 0 (map (reach plan) raised) (map (reach plan) last)
    ∙ top_one (raises j.verdict) (reach plan) (above_top plan js) j

cell_of : (b : Bool) (o : Option JudgedHeap) (j : JudgedHeap)
    → option_map samples_of (option_or o (cond b (Some j) None))
    ≡ option_or (option_map samples_of o) (cond b (Some (samples_of j)) None)
cell_of b (Some i) j = refl
cell_of true None j = refl
cell_of false None j = refl

-- a cell that was there stays, and else is the heap more's, where that was used there
pub cell_in_push : (js : List JudgedHeap) (j : JudgedHeap) (n t : ℕ)
    → cell_in (js ++ j ∷ []) n t
    ≡ option_or (cell_in js n t) (cond (is_used_at n t j.verdict) (Some (samples_of j)) None)
cell_in_push js j n t =
    ap (option_map samples_of) (find-append (λ i. is_used_at n t i.verdict) js (j ∷ []))
    ∙ cell_of (is_used_at n t j.verdict) (find (λ i. is_used_at n t i.verdict) js) j

same_cell : (o : Option (List ℕ)) (b : Bool) (x : List ℕ) → b ≡ false → option_or o (cond b (Some x) None) ≡ o
same_cell (Some y) b x h = refl
same_cell None true x h = absurd cc
same_cell None false x h = refl

-- a cell stays where the heap more was not used there
pub cell_in_stays : (js : List JudgedHeap) (j : JudgedHeap) (n t : ℕ) → is_used_at n t j.verdict ≡ false
    → cell_in (js ++ j ∷ []) n t ≡ cell_in js n t
cell_in_stays js j n t h =
    cell_in_push js j n t ∙ same_cell (cell_in js n t) (is_used_at n t j.verdict) (samples_of j) h
