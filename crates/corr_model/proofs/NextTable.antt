-- What one more string does to the judged heaps and the table.
use Rattle.std.proofs.Common.{◌≡◌, ℕ, Bool, true, false, List, [], ◌∷◌, ◌++◌, Option, Some, None, refl, sym, ◌∙◌, ap, subst, append-nil}
use Rattle.std.specs.Prelude.{◌||◌}
use Rattle.std.specs.Option.{option_to_list}
use Rattle.std.specs.List.{list_any}
use Rattle.std.proofs.lemmas.List.Folds.{list_any-append}
use Rattle.std.proofs.lemmas.Grind.{flat_map-append}
use Rattle.corr_model.specs.declared.plan.Plan.{Plan}
use Rattle.corr_model.specs.Packets.{Parts, packet_in}
use Rattle.corr_model.specs.Windows.{heard}
use Rattle.corr_model.specs.Assembly.{WholeHeap}
use Rattle.corr_model.specs.Descriptors.{DescribedItem}
use Rattle.corr_model.specs.Tables.{TableStandsFor}
use Rattle.corr_model.specs.PacketVerdicts.{next_outcome, heap_made}
use Rattle.corr_model.specs.Streams.{JudgedHeap, described_by, contents_of, judge_next, whole_in, heaps, ending, has_stopped, stops, IsTableOf}
use Rattle.corr_model.proofs.StreamPushes.{heaps_push}
use Rattle.corr_model.proofs.StreamMakes.{whole_in_made, whole_in_refused}
use Rattle.corr_model.proofs.StreamLawsTaken.{open_from_ending, heaps_same}

or_false : (a : Bool) → (a || false) ≡ a
or_false true = refl
or_false false = refl

-- one more heap describes what its descriptors say
described_push : (js : List JudgedHeap) (j : JudgedHeap)
    → described_by (js ++ j ∷ []) ≡ described_by js ++ contents_of j.heap
described_push js j =
    flat_map-append (λ k. contents_of k.heap) js (j ∷ []) ∙ ap (λ cs. described_by js ++ cs)
    (append-nil (contents_of j.heap))

module _ (plan : Plan) (l : List (List ℕ)) (b : List ℕ) (goes_on : ending plan l ≡ None) where
  -- no heap more is whole: nothing more is judged, and the stream has not stopped
  module _ (none : whole_in plan (l ++ b ∷ []) ≡ whole_in plan l) where
    pub still_open : has_stopped plan (l ++ b ∷ []) ≡ false
    still_open = ap (list_any stops) none ∙ (open_from_ending plan l goes_on).0

    pub same_heaps : (antenna : ℕ) → heaps plan antenna (l ++ b ∷ []) ≡ heaps plan antenna l
    same_heaps antenna = heaps_same plan antenna l (l ++ b ∷ []) none

  -- a heap more is whole: it is judged by those before it, and the stream has stopped where it is a stop heap
  module _ (h : WholeHeap) (one : whole_in plan (l ++ b ∷ []) ≡ whole_in plan l ++ h ∷ []) where
    pub stopped_by : has_stopped plan (l ++ b ∷ []) ≡ stops h
    stopped_by =
        ap (list_any stops) one
        ∙ list_any-append stops (whole_in plan l) (h ∷ [])
        ∙ ap (λ a. a || (stops h || false)) (open_from_ending plan l goes_on).0
        ∙ or_false (stops h)

    pub one_more : (antenna : ℕ)
        → heaps plan antenna (l ++ b ∷ [])
        ≡ heaps plan antenna l ++ judge_next plan antenna (heaps plan antenna l) h ∷ []
    one_more antenna = heaps_push plan antenna l b h (open_from_ending plan l goes_on).0 one

    pub described_more : (antenna : ℕ)
        → described_by (heaps plan antenna (l ++ b ∷ [])) ≡ described_by (heaps plan antenna l) ++ contents_of h
    described_more antenna =
        ap described_by (one_more antenna) ∙ described_push (heaps plan antenna l)
        (judge_next plan antenna (heaps plan antenna l) h)

  module _ (p : Parts) (spelled : packet_in b ≡ Some p) where
    pub whole_by : (o : Option WholeHeap) → heap_made (next_outcome plan.heap_limit plan.window (heard plan l) p) ≡ o
        → whole_in plan (l ++ b ∷ []) ≡ whole_in plan l ++ option_to_list o
    whole_by o is = whole_in_made plan l b p (open_from_ending plan l goes_on).1 spelled ∙ ap
        (λ k. whole_in plan l ++ option_to_list k) is

    pub whole_kept : heap_made (next_outcome plan.heap_limit plan.window (heard plan l) p) ≡ None
        → whole_in plan (l ++ b ∷ []) ≡ whole_in plan l
    whole_kept none = whole_by None none ∙ append-nil (whole_in plan l)

  pub whole_refused : packet_in b ≡ None → whole_in plan (l ++ b ∷ []) ≡ whole_in plan l
  whole_refused none = whole_in_refused plan l b (open_from_ending plan l goes_on).1 none

pub table_made : (plan : Plan) (antenna : ℕ) (l : List (List ℕ)) (b : List ℕ) (p : Parts) (h : WholeHeap)
    (entries : List DescribedItem)
    → ending plan l ≡ None → packet_in b ≡ Some p
    → heap_made (next_outcome plan.heap_limit plan.window (heard plan l) p) ≡ Some h
    → TableStandsFor plan entries (described_by (heaps plan antenna l) ++ contents_of h)
    → IsTableOf plan antenna entries (l ++ b ∷ [])
table_made plan antenna l b p h entries goes_on spelled made stands =
    subst (TableStandsFor plan entries)
    (sym (described_more plan l b goes_on h (whole_by plan l b goes_on p spelled (Some h) made) antenna)) stands

table_same : (plan : Plan) (antenna : ℕ) (l : List (List ℕ)) (b : List ℕ) (entries : List DescribedItem)
    → whole_in plan (l ++ b ∷ []) ≡ whole_in plan l
    → IsTableOf plan antenna entries l → IsTableOf plan antenna entries (l ++ b ∷ [])
table_same plan antenna l b entries none stands =
    subst (λ js. TableStandsFor plan entries (described_by js))
    (sym (heaps_same plan antenna l (l ++ b ∷ []) none)) stands

pub table_kept : (plan : Plan) (antenna : ℕ) (l : List (List ℕ)) (b : List ℕ) (p : Parts) (entries : List DescribedItem)
    → ending plan l ≡ None → packet_in b ≡ Some p
    → heap_made (next_outcome plan.heap_limit plan.window (heard plan l) p) ≡ None
    → IsTableOf plan antenna entries l → IsTableOf plan antenna entries (l ++ b ∷ [])
table_kept plan antenna l b p entries goes_on spelled none stands =
    table_same plan antenna l b entries (whole_kept plan l b goes_on p spelled none) stands

pub table_refused : (plan : Plan) (antenna : ℕ) (l : List (List ℕ)) (b : List ℕ) (entries : List DescribedItem)
    → ending plan l ≡ None → packet_in b ≡ None → IsTableOf plan antenna entries l
    → IsTableOf plan antenna entries (l ++ b ∷ [])
table_refused plan antenna l b entries goes_on none stands =
    table_same plan antenna l b entries (whole_refused plan l b goes_on none) stands
