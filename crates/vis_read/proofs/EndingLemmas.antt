-- How a list of datagrams ends, by the answers to them.
use Rattle.std.proofs.Common.{◌≡◌, ℕ, Bool, true, false, ◌==◌, not, if◌then◌else◌, List, [], ◌∷◌, ◌++◌, length, map, fold, replicate, Option, Some, None, option_map, refl, sym, ap, ◌∙◌}
use Rattle.std.specs.Option.{option_or}
use Rattle.std.specs.List.{list_any}
use Rattle.corr_model.specs.declared.item.DescRefusal.{DescRefusal}
use Rattle.corr_model.specs.Packets.{Parts, parts_in, refusal_of}
use Rattle.corr_model.specs.Assembly.{WholeHeap, heap_of, adds_up, said_size, payload_bytes}
use Rattle.corr_model.specs.Items.{number_item, addressed_content}
use Rattle.corr_model.specs.Streams.{group_of, contents_of, stops}
use Rattle.vis_read.specs.declared.cause.ReadCause.{ReadCause}
use Rattle.vis_read.specs.declared.cause.ReadCause.TheVariants as causes
use Rattle.vis_read.specs.declared.turn.Sizes.{Sizes}
use Rattle.vis_read.specs.declared.turn.Turn.{Turn}
use Rattle.vis_read.specs.declared.turn.Turn.TheVariants.{First, Later, Over, Broken}
use Rattle.vis_read.specs.Readings.{Answer, Nothing, Head, Heap, Stop, Refused, Reading, Read, between, broken, stop_row, unfinished_row, drop_row, first_some, first_by, are_long, view_by, later_read, whole_read, kept_read, read_unless, early_cause, next_read, reading_from, reading, unread, seen_from, seen, end_cause}
use Rattle.vis_read.specs.Endings.{cause_in, is_stop, first_cause, end_by}

-- ---- the first that is there

some_stays : {A : Type 0} (x : A) (xs : List (Option A)) → fold option_or (Some x) xs ≡ Some x
some_stays x [] = refl
some_stays x (o ∷ xs) = some_stays x xs

or_none : {A : Type 0} (o : Option A) → option_or o None ≡ o
or_none None = refl
or_none (Some x) = refl

-- ---- one datagram

-- how these answers end a reading of this turn
abbrev end_from : Turn → List Answer → Option ReadCause
end_from First answers = end_by answers
end_from (Later s counter) answers = end_by answers
end_from Over answers = first_cause answers
end_from (Broken cause) answers = Some cause

-- the answers after it end the reading as all of them do
abbrev Ends : Turn → Read → Type 0
Ends t read = (answers : List Answer) → end_from read.after.turn answers ≡ end_from t (read.answer ∷ answers)

ends_broken : (t : Turn) (cause : ReadCause) → (end_from t (Refused cause ∷ []) ≡ Some cause) → Ends t (broken cause)
ends_broken First cause is answers =
    ap (λ o. option_or o (if list_any is_stop answers then None else Some causes.NoStop))
    (sym (some_stays cause (map cause_in answers)))
ends_broken (Later s counter) cause is answers =
    ap (λ o. option_or o (if list_any is_stop answers then None else Some causes.NoStop))
    (sym (some_stays cause (map cause_in answers)))
ends_broken Over cause is answers = sym (some_stays cause (map cause_in answers))
ends_broken (Broken other) cause is answers = sym is

ends_nothing : (t : Turn) (ps : List Parts)
    → Ends t (record { answer = Nothing; after = record { turn = t; begun = ps } })
ends_nothing First ps answers = refl
ends_nothing (Later s counter) ps answers = refl
ends_nothing Over ps answers = refl
ends_nothing (Broken cause) ps answers = refl

ends_if : (t : Turn) (test : Bool) (x y : Read) → Ends t x → Ends t y → Ends t (if test then x else y)
ends_if t true x y h k = h
ends_if t false x y h k = k

ends_first : (counter : ℕ) (refusal : Option DescRefusal) (sizes : Option Sizes)
    → Ends First (first_by counter refusal sizes)
ends_first counter (Some e) sizes = ends_broken First (causes.Descriptor e) refl
ends_first counter None None = ends_broken First (causes.Form counter) refl
ends_first counter None (Some s) =
    ends_if First (counter == 1) (between (Head s) (Later s 2)) (broken (causes.Form counter)) (λ answers. refl)
    (ends_broken First (causes.Form counter) refl)

ends_view : (s : Sizes) (k counter : ℕ) (timestamp : Option ℕ) (values missing : Option (List ℕ))
    → Ends (Later s k) (view_by s counter timestamp values missing)
ends_view s k counter (Some timestamp) (Some values) (Some missing) =
    ends_if (Later s k) (are_long s values missing) _ (broken (causes.Form counter)) (λ answers. refl)
    (ends_broken (Later s k) (causes.Form counter) refl)
ends_view s k counter (Some timestamp) (Some values) None = ends_broken (Later s k) (causes.Form counter) refl
ends_view s k counter (Some timestamp) None missing = ends_broken (Later s k) (causes.Form counter) refl
ends_view s k counter None values missing = ends_broken (Later s k) (causes.Form counter) refl

ends_later : (s : Sizes) (k : ℕ) (heap : WholeHeap) → Ends (Later s k) (later_read s k heap)
ends_later s k heap =
    let view = view_by s heap.counter (number_item (group_of heap) 0x1600) (addressed_content (group_of heap) 0x1800)
    (addressed_content (group_of heap) 0x1801) in
    ends_if (Later s k) (not (heap.counter == k)) (broken (causes.Form heap.counter))
    (if stops heap then between Stop Over else view)
    (ends_broken (Later s k) (causes.Form heap.counter) refl)
    (ends_if (Later s k) (stops heap) (between Stop Over) view (λ answers. sym (or_none (first_cause answers)))
    (ends_view s k heap.counter _ _ _))

ends_whole : (t : Turn) (heap : WholeHeap) → Ends t (whole_read t heap)
ends_whole First heap = ends_first heap.counter _ _
ends_whole (Later s counter) heap = ends_later s counter heap
ends_whole Over heap = ends_broken Over causes.AfterStop refl
ends_whole (Broken cause) heap = ends_broken (Broken cause) cause refl

ends_kept : (t : Turn) (counter : ℕ) (ps : List Parts) → Ends t (kept_read t counter ps)
ends_kept t counter ps =
    ends_if t (adds_up (said_size ps) (payload_bytes ps)) (whole_read t (heap_of counter ps))
    (record { answer = Nothing; after = record { turn = t; begun = ps } }) (ends_whole t (heap_of counter ps))
    (ends_nothing t ps)

-- in a turn in which nothing was refused before
ends_open : (t : Turn) (cause : Option ReadCause) (begun : List Parts) (p : Parts)
    → ((e : ReadCause) → end_from t (Refused e ∷ []) ≡ Some e)
    → Ends t (read_unless cause (record { turn = t; begun = begun }) p)
ends_open t (Some cause) begun p fresh = ends_broken t cause (fresh cause)
ends_open t None begun p fresh = ends_kept t p.counter (begun ++ p ∷ [])

-- after a refusal every datagram is refused for its cause
pub again : (limit : ℕ) (cause : ReadCause) (begun : List Parts) (bytes : List ℕ)
    → next_read limit (record { turn = Broken cause; begun = begun }) bytes ≡ broken cause
again limit cause begun bytes =
    ap (λ o. read_unless o (record { turn = Broken cause; begun = begun }) (parts_in bytes))
    (some_stays cause (option_map (λ e. causes.Packet e) (refusal_of bytes) ∷ stop_row (Broken cause)
    ∷ unfinished_row begun (parts_in bytes).counter ∷ drop_row limit begun (parts_in bytes) ∷ []))

ends_next : (limit : ℕ) (t : Turn) (begun : List Parts) (bytes : List ℕ)
    → Ends t (next_read limit (record { turn = t; begun = begun }) bytes)
ends_next limit First begun bytes =
    ends_open First (early_cause limit (record { turn = First; begun = begun }) bytes) begun
    (parts_in bytes) (λ e. refl)
ends_next limit (Later s counter) begun bytes =
    ends_open (Later s counter) (early_cause limit (record { turn = Later s counter; begun = begun }) bytes) begun
    (parts_in bytes) (λ e. refl)
ends_next limit Over begun bytes =
    ends_open Over (early_cause limit (record { turn = Over; begun = begun }) bytes) begun (parts_in bytes) (λ e. refl)
ends_next limit (Broken cause) begun bytes =
    λ answers. ap (λ (r : Read). end_from r.after.turn answers) (again limit cause begun bytes)

-- ---- lists

at_end : (t : Turn) → end_cause t ≡ end_from t []
at_end First = refl
at_end (Later s counter) = refl
at_end Over = refl
at_end (Broken cause) = refl

ends_all : (limit : ℕ) (r : Reading) (l : List (List ℕ))
    → end_cause (reading_from limit r l).turn ≡ end_from r.turn (seen_from limit r l)
ends_all limit r [] = at_end r.turn
ends_all limit r (bytes ∷ l) =
    let read = next_read limit r bytes in
    ends_all limit read.after l ∙ ends_next limit r.turn r.begun bytes (seen_from limit read.after l)

-- how a list ends is seen from the answers alone
pub end_is_seen : (limit : ℕ) (l : List (List ℕ)) → end_cause (reading limit l).turn ≡ end_by (seen limit l)
end_is_seen limit l = ends_all limit unread l

pub refused_again : (limit : ℕ) (cause : ReadCause) (begun : List Parts) (l : List (List ℕ))
    → seen_from limit (record { turn = Broken cause; begun = begun }) l ≡ replicate (length l) (Refused cause)
refused_again limit cause begun [] = refl
refused_again limit cause begun (bytes ∷ l) =
    ap (λ (read : Read). read.answer ∷ seen_from limit read.after l) (again limit cause begun bytes)
    ∙ ap (λ rest. Refused cause ∷ rest) (refused_again limit cause [] l)
